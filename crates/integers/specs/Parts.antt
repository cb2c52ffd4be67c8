-- Linear facts of ℤ, proved as simply as those of ℕ.
-- Key idea: an integer z is `up z` less `dn z`, its positive and its negative part, two natural numbers that omega takes as unknowns. Each order,
-- equation or test of ℤ has a law that turns it into a fact of the parts, and one that turns it back; the ruleset `ints` holds them all.
-- `omega (ints, sum a b, neg c)` reads the hypotheses and proves an order, an equation or a test's flag; sums and negations go in by their laws.
use Rattle.std.specs.Prelude.{◌≡◌, refl, ◌⊎◌, Bool, true, false, not, cond, ℕ, zero, suc, ◌+◌, ◌-◌, ◌≤◌, ◌<◌, ◌^◌, T, ltb, ℤ, pos, negsuc, neg_ℤ, ◌+ℤ◌, ◌-ℤ◌, ◌≤ℤ◌, ◌<ℤ◌}
use Rattle.std.proofs.Common.{sym, ap, subst, inl, inr, ⊎_elim, arith, leb→le, le→leb, ltb→lt, lt→ltb, nltb→le}
use Rattle.std.proofs.Math.Decide.{dec_le}
use Rattle.std.proofs.Math.IntN.{sub_ℕ}
use Rattle.std.specs.Int.Signed.{le_z, lt_z, mag}
use Rattle.std.specs.Int.{Width}
use mir.Val.{SFits, hbits}

-- the positive part
abbrev pub up : ℤ → ℕ
up (pos n) = n
up (negsuc n) = 0

-- the negative part
abbrev pub dn : ℤ → ℕ
dn (pos n) = 0
dn (negsuc n) = suc n

-- z is at most k away from 0
abbrev pub Within : ℕ → ℤ → Type 0
Within k z = (up z ≤ k) × (dn z ≤ k)

-- ---- orders
le_to : (a b : ℤ) → T (le_z a b) → up a + dn b ≤ up b + dn a
le_to (pos a) (pos b) h = omega (arith, leb→le a b h)
le_to (pos a) (negsuc b) h = absurd h
le_to (negsuc a) (pos b) h = omega arith
le_to (negsuc a) (negsuc b) h = omega (arith, leb→le b a h)

to_le : (a b : ℤ) → up a + dn b ≤ up b + dn a → T (le_z a b)
to_le (pos a) (pos b) h = le→leb a b (omega arith)
to_le (pos a) (negsuc b) h = absurd (omega arith)
to_le (negsuc a) (pos b) h = tt
to_le (negsuc a) (negsuc b) h = le→leb b a (omega arith)

lt_to : (a b : ℤ) → T (lt_z a b) → up a + dn b < up b + dn a
lt_to (pos a) (pos b) h = omega (arith, ltb→lt a b h)
lt_to (pos a) (negsuc b) h = absurd h
lt_to (negsuc a) (pos b) h = omega arith
lt_to (negsuc a) (negsuc b) h = omega (arith, ltb→lt b a h)

to_lt : (a b : ℤ) → up a + dn b < up b + dn a → T (lt_z a b)
to_lt (pos a) (pos b) h = lt→ltb a b (omega arith)
to_lt (pos a) (negsuc b) h = absurd (omega arith)
to_lt (negsuc a) (pos b) h = tt
to_lt (negsuc a) (negsuc b) h = lt→ltb b a (omega arith)

pub ≤_read : {a b : ℤ} → a ≤ℤ b → up a + dn b ≤ up b + dn a
≤_read {a} {b} h = le_to a b h.le

pub ≤_make : {a b : ℤ} → up a + dn b ≤ up b + dn a → a ≤ℤ b
≤_make {a} {b} h = record { le = to_le a b h }

pub <_read : {a b : ℤ} → a <ℤ b → up a + dn b < up b + dn a
<_read {a} {b} h = lt_to a b h.lt

pub <_make : {a b : ℤ} → up a + dn b < up b + dn a → a <ℤ b
<_make {a} {b} h = record { lt = to_lt a b h }

-- ---- equality
pub ≡_read : {a b : ℤ} → a ≡ b → up a + dn b ≡ up b + dn a
≡_read {a} {b} e = rw e

pub ≡_make : (a b : ℤ) → up a + dn b ≡ up b + dn a → a ≡ b
≡_make (pos a) (pos b) h = ap pos (omega arith)
≡_make (pos a) (negsuc b) h = absurd (omega arith)
≡_make (negsuc a) (pos b) h = absurd (omega arith)
≡_make (negsuc a) (negsuc b) h = ap negsuc (omega arith)

-- ---- the flags of tests, as a branch hands them over and as a definition by tests asks them
holds : (t : Bool) → t ≡ true → T t
holds t e = subst T (sym e) tt

raised : (t : Bool) → T t → t ≡ true
raised true h = refl
raised false h = absurd h

unraised : (t : Bool) → (T t → ⊥) → t ≡ false
unraised true h = absurd (h tt)
unraised false h = refl

pub lt_z_true : (a b : ℤ) → lt_z a b ≡ true → up a + dn b < up b + dn a
lt_z_true a b e = lt_to a b (holds (lt_z a b) e)

pub le_z_true : (a b : ℤ) → le_z a b ≡ true → up a + dn b ≤ up b + dn a
le_z_true a b e = le_to a b (holds (le_z a b) e)

pub true_lt_z : (a b : ℤ) → up a + dn b < up b + dn a → lt_z a b ≡ true
true_lt_z a b h = raised (lt_z a b) (to_lt a b h)

pub false_lt_z : (a b : ℤ) → up b + dn a ≤ up a + dn b → lt_z a b ≡ false
false_lt_z a b h = unraised (lt_z a b) (λ t. omega (arith, lt_to a b t))

pub lt_z_false : (a b : ℤ) → lt_z a b ≡ false → up b + dn a ≤ up a + dn b
lt_z_false a b e = elim (dec_le (up b + dn a) (up a + dn b)) [ yes h ↦ h | no h ↦ absurd (subst T e (to_lt a b (omega arith))) ]

pub le_z_false : (a b : ℤ) → le_z a b ≡ false → up b + dn a < up a + dn b
le_z_false a b e = elim (dec_le (up a + dn b) (up b + dn a)) [ yes h ↦ absurd (subst T e (to_le a b h)) | no h ↦ omega arith ]

-- ---- the set
pub ruleset ints = (arith, ≤_read, ≤_make, <_read, <_make, ≡_read, ≡_make, lt_z_true, lt_z_false, le_z_true, le_z_false, true_lt_z, false_lt_z)

-- ---- sums and negations
pub sub : (a b : ℕ) → up (sub_ℕ a b) + b ≡ a + dn (sub_ℕ a b)
sub a b = go (ltb a b) (ltb→lt a b) (nltb→le a b)
  where
    go : (c : Bool) → (T c → a < b) → (T (not c) → b ≤ a)
        → up (cond c (negsuc (b - suc a)) (pos (a - b))) + b ≡ a + dn (cond c (negsuc (b - suc a)) (pos (a - b)))
    go true f g = omega (arith, f tt)
    go false f g = omega (arith, g tt)

pub sum : (a b : ℤ) → up (a +ℤ b) + dn a + dn b ≡ up a + up b + dn (a +ℤ b)
sum (pos a) (pos b) = omega arith
sum (pos a) (negsuc b) = omega (arith, sub a (suc b))
sum (negsuc a) (pos b) = omega (arith, sub b (suc a))
sum (negsuc a) (negsuc b) = omega arith

pub neg : (a : ℤ) → (up (neg_ℤ a) ≡ dn a) × (dn (neg_ℤ a) ≡ up a)
neg (pos zero) = (refl, refl)
neg (pos (suc n)) = (refl, refl)
neg (negsuc n) = (refl, refl)

pub difference : (a b : ℤ) → up (a -ℤ b) + dn a + up b ≡ up a + dn b + dn (a -ℤ b)
difference a b = omega (arith, sum a (neg_ℤ b), neg b)

-- one of the parts is 0
pub apart : (a : ℤ) → (up a ≡ 0) ⊎ (dn a ≡ 0)
apart (pos n) = inr refl
apart (negsuc n) = inl refl

pub nonneg : {a : ℤ} → pos 0 ≤ℤ a → dn a ≡ 0
nonneg {a} h = ⊎_elim (λ e. omega ints) (λ e. e) (apart a)

-- ---- the smaller of two
abbrev pub min_ℤ : ℤ → ℤ → ℤ
min_ℤ a b = cond (lt_z b a) b a

-- what holds of both, with what the test says, holds of the one that is chosen
chosen : (t : Bool) (a b : ℤ) (Q : ℤ → Type 0) → (t ≡ true → Q a) → (t ≡ false → Q b) → Q (cond t a b)
chosen true a b Q p q = p refl
chosen false a b Q p q = q refl

pub min_cases : (a b : ℤ) (Q : ℤ → Type 0) → (a ≤ℤ b → Q a) → (b <ℤ a → Q b) → Q (min_ℤ a b)
min_cases a b Q p q = chosen (lt_z b a) b a Q (λ e. q (omega ints)) (λ e. p (omega ints))

pub min_is : (a b : ℤ) → ((min_ℤ a b ≡ a) × (a ≤ℤ b)) ⊎ ((min_ℤ a b ≡ b) × (b <ℤ a))
min_is a b = min_cases a b (λ z. ((z ≡ a) × (a ≤ℤ b)) ⊎ ((z ≡ b) × (b <ℤ a))) (λ h. inl (refl, h)) (λ h. inr (refl, h))

pub min≤l : (a b : ℤ) → min_ℤ a b ≤ℤ a
min≤l a b = min_cases a b (λ z. z ≤ℤ a) (λ h. omega ints) (λ h. omega ints)

pub min≤r : (a b : ℤ) → min_ℤ a b ≤ℤ b
min≤r a b = min_cases a b (λ z. z ≤ℤ b) (λ h. omega ints) (λ h. omega ints)

-- ---- a width's range: z is within k of 0, so it fits
pub fits_within : (w : Width) (z : ℤ) (k : ℕ) → T (ltb k (2 ^ hbits w)) → up z ≤ k + dn z → dn z ≤ k + up z → SFits w z
fits_within w (pos n) k t p q = record { sfits = omega (arith, ltb→lt k (2 ^ hbits w) t) }
fits_within w (negsuc n) k t p q = record { sfits = omega (arith, ltb→lt k (2 ^ hbits w) t) }

pub fits_parts : {w : Width} {z : ℤ} → SFits w z → (up z < 2 ^ hbits w) × (dn z ≤ 2 ^ hbits w)
fits_parts {w} {z} f = go z f.sfits
  where
    go : (z : ℤ) → mag z < 2 ^ hbits w → (up z < 2 ^ hbits w) × (dn z ≤ 2 ^ hbits w)
    go (pos n) h = omega arith
    go (negsuc n) h = omega arith
