-- Membership in the lists that definitions are written with: keep, map, joined, fromTo; and a test of every entry, by place and by member.
use Rattle.std.specs.Prelude.{◌≡◌, refl, ◌⊎◌, ◌↔◌, Bool, true, false, ◌&&◌, cond, ℕ, zero, suc, ◌+◌, ◌-◌, ◌≤◌, ◌<◌, T, leb, eqb, length, get_or}
use Rattle.std.proofs.Common.{sym, ap, subst, ◌∙◌, inl, inr, ⊎_elim, arith, eq-or-lt_of_le, leb→le, le→leb, eqb→eq, eq-eqb, ne_eqb}
use Rattle.std.proofs.Math.Logic.{⊎_map}
use Rattle.std.proofs.Math.Bool.{and_assoc}
use mathlib.Core.List.Memᴰ
use mathlib.Core.List.{List, [], ◌∷◌, map, Memᴰ, ◌++◌}
use Rattle.std.proofs.Math.Dec.{eqb_refl}
use Rattle.lists.specs.Lists.{run, from_to, within, every, member, keep, cons_if, joined}

abbrev pub In {ℓ} : {A : Type ℓ} → A → List A → Type ℓ
In x xs = Memᴰ x xs

-- ---- tests
pub both : (a b : Bool) → T a → T b → T (a && b)
both true b p q = q
both false b p q = p

pub left : (a b : Bool) → T (a && b) → T a
left true b p = tt
left false b p = p

pub right : (a b : Bool) → T (a && b) → T b
right true b p = p
right false b p = absurd p

-- the same of tests that are known to be true
pub is_true : (b : Bool) → T b → b ≡ true
is_true true h = refl
is_true false h = absurd h

pub false_not_true : {A : Type 0} → false ≡ true → A
false_not_true h = absurd (subst T (sym h) tt)

pub and_left : (a b : Bool) → (a && b) ≡ true → a ≡ true
and_left true b h = refl
and_left false b h = h

pub and_right : (a b : Bool) → (a && b) ≡ true → b ≡ true
and_right true b h = h
and_right false b h = false_not_true h

pub within_iff : (a b x : ℕ) → T (within a b x) ↔ ((a ≤ x) × (x ≤ b))
within_iff a b x = (
  λ t. (leb→le a x (left (leb a x) (leb x b) t), leb→le x b (right (leb a x) (leb x b) t)),
  λ h. both (leb a x) (leb x b) (le→leb a x h.0) (le→leb x b h.1),
)

module _ {A : Type 0} where
  in_cons_if : (b : Bool) (x y : A) (ys : List A) → In x (cons_if b y ys) → (T b × (x ≡ y)) ⊎ In x ys
  in_cons_if true x y ys m = ⊎_map (λ e. (tt, e)) (λ n. n) (Memᴰ.cases_cons m)
  in_cons_if false x y ys m = inr m

  cons_if_in : (b : Bool) (x y : A) (ys : List A) → (T b × (x ≡ y)) ⊎ In x ys → In x (cons_if b y ys)
  cons_if_in true x y ys (inl p) = Memᴰ.head p.1
  cons_if_in true x y ys (inr m) = Memᴰ.tail m
  cons_if_in false x y ys (inl p) = absurd p.0
  cons_if_in false x y ys (inr m) = m

  -- an entry of the kept ones is an entry that passes
  pub in_keep : (t : A → Bool) (x : A) (xs : List A) → In x (keep t xs) → In x xs × T (t x)
  in_keep t x [] h = absurd (Memᴰ.not-nil h)
  in_keep t x (y ∷ ys) h =
      ⊎_elim (λ p. (Memᴰ.head p.1, subst (λ z. T (t z)) (sym p.1) p.0))
      (λ m. let r = in_keep t x ys m in (Memᴰ.tail r.0, r.1))
      (in_cons_if (t y) x y (keep t ys) h)

  pub keep_in : (t : A → Bool) (x : A) (xs : List A) → In x xs → T (t x) → In x (keep t xs)
  keep_in t x [] h p = absurd (Memᴰ.not-nil h)
  keep_in t x (y ∷ ys) h p =
      cons_if_in (t y) x y (keep t ys)
      (⊎_map (λ e. (subst (λ z. T (t z)) e p, e)) (λ m. keep_in t x ys m p) (Memᴰ.cases_cons h))

  pub in_joined : (x : A) (xss : List (List A)) → In x (joined xss) → (xs : List A) × In xs xss × In x xs
  in_joined x [] h = absurd (Memᴰ.not-nil h)
  in_joined x (ys ∷ yss) h =
      ⊎_elim (λ m. (ys, Memᴰ.head refl, m))
      (λ m. let r = in_joined x yss m in (r.0, Memᴰ.tail r.1, r.2))
      (Memᴰ.append_cases ys h)

  pub joined_in : (x : A) (xs : List A) (xss : List (List A)) → In xs xss → In x xs → In x (joined xss)
  joined_in x xs [] h m = absurd (Memᴰ.not-nil h)
  joined_in x xs (ys ∷ yss) h m =
      ⊎_elim (λ e. Memᴰ.append_left (joined yss) (subst (λ zs. In x zs) e m))
      (λ k. Memᴰ.append_right ys (joined_in x xs yss k m))
      (Memᴰ.cases_cons h)

module _ {A B : Type 0} (f : A → B) where
  pub in_map : (y : B) (xs : List A) → In y (map f xs) → (x : A) × In x xs × (y ≡ f x)
  in_map y [] h = absurd (Memᴰ.not-nil h)
  in_map y (x ∷ xs) h =
      ⊎_elim (λ e. (x, Memᴰ.head refl, e))
      (λ m. let r = in_map y xs m in (r.0, Memᴰ.tail r.1, r.2))
      (Memᴰ.cases_cons h)

  pub map_in : (x : A) (xs : List A) → In x xs → In (f x) (map f xs)
  map_in x [] h = absurd (Memᴰ.not-nil h)
  map_in x (y ∷ ys) h = ⊎_elim (λ e. Memᴰ.head (ap f e)) (λ m. Memᴰ.tail (map_in x ys m)) (Memᴰ.cases_cons h)

pub in_run : (x a k : ℕ) → In x (run a k) → (a ≤ x) × (x < a + k)
in_run x a zero h = absurd (Memᴰ.not-nil h)
in_run x a (suc k) h =
    ⊎_elim (λ e. omega arith) (λ m. let r = in_run x (suc a) k m in omega arith) (Memᴰ.cases_cons h)

pub run_in : (x a k : ℕ) → a ≤ x → x < a + k → In x (run a k)
run_in x a zero h l = absurd (omega arith)
run_in x a (suc k) h l =
    ⊎_elim (λ e. Memᴰ.head (sym e)) (λ g. Memᴰ.tail (run_in x (suc a) k g (omega arith))) (eq-or-lt_of_le h)

pub in_from_to : (a b x : ℕ) → In x (from_to a b) ↔ T (within a b x)
in_from_to a b x = (
  λ m. let r = in_run x a (suc b - a) m in (within_iff a b x).1 (omega arith),
  λ t. let r = (within_iff a b x).0 t in run_in x a (suc b - a) r.0 (omega arith),
)

-- what stands at a place of a list is in it
pub in_at : {A : Type 0} (d : A) (xs : List A) (i : ℕ) → i < length xs → In (get_or xs i d) xs
in_at d [] i h = absurd (omega arith)
in_at d (x ∷ xs) zero h = Memᴰ.head refl
in_at d (x ∷ xs) (suc i) h = Memᴰ.tail (in_at d xs i (omega arith))

-- and what is in it stands at a place
pub place_in : {A : Type 0} (d x : A) (xs : List A) → In x xs → (i : ℕ) × (i < length xs) × (get_or xs i d ≡ x)
place_in d x [] m = absurd (Memᴰ.not-nil m)
place_in d x (y ∷ ys) m =
    ⊎_elim (λ e. (0, omega arith, sym e)) (λ n. let r = place_in d x ys n in (suc r.0, omega (arith, r.1), r.2)) (Memᴰ.cases_cons m)

pub every_at : {A : Type 0} (t : A → Bool) (d : A) (xs : List A) → T (every t xs) → (i : ℕ) → i < length xs → T (t (get_or xs i d))
every_at t d [] h i l = absurd (omega arith)
every_at t d (x ∷ xs) h zero l = left (t x) (every t xs) h
every_at t d (x ∷ xs) h (suc i) l = every_at t d xs (right (t x) (every t xs) h) i (omega arith)

pub at_every : {A : Type 0} (t : A → Bool) (d : A) (xs : List A) → ((i : ℕ) → i < length xs → T (t (get_or xs i d))) → T (every t xs)
at_every t d [] h = tt
at_every t d (x ∷ xs) h = both (t x) (every t xs) (h 0 (omega arith)) (at_every t d xs (λ i l. h (suc i) (omega arith)))

pub every_in : {A : Type 0} (t : A → Bool) (x : A) (xs : List A) → In x xs → T (every t xs) → T (t x)
every_in t x [] m h = absurd (Memᴰ.not-nil m)
every_in t x (y ∷ ys) m h =
    ⊎_elim (λ e. subst (λ z. T (t z)) (sym e) (left (t y) (every t ys) h)) (λ n. every_in t x ys n (right (t y) (every t ys) h)) (Memᴰ.cases_cons m)

pub in_every : {A : Type 0} (t : A → Bool) (xs : List A) → ((x : A) → In x xs → T (t x)) → T (every t xs)
in_every t [] f = tt
in_every t (x ∷ xs) f = both (t x) (every t xs) (f x (Memᴰ.head refl)) (in_every t xs (λ y m. f y (Memᴰ.tail m)))

-- ---- the test for an entry
pub member_in : (x : ℕ) (xs : List ℕ) → T (member x xs) → In x xs
member_in x [] t = absurd t
member_in x (y ∷ ys) t = go (eqb y x) (eqb→eq y x) (member_in x ys) t
  where
    go : (c : Bool) → (T c → y ≡ x) → (T (member x ys) → In x ys) → T (cond c true (member x ys)) → In x (y ∷ ys)
    go true f g h = Memᴰ.head (sym (f tt))
    go false f g h = Memᴰ.tail (g h)

pub in_member : (x : ℕ) (xs : List ℕ) → In x xs → T (member x xs)
in_member x [] m = absurd (Memᴰ.not-nil m)
in_member x (y ∷ ys) m = go (eqb y x) (⊎_map (λ e. subst (λ z. T (eqb z x)) e (eqb_refl x)) (in_member x ys) (Memᴰ.cases_cons m))
  where
    go : (c : Bool) → T c ⊎ T (member x ys) → T (cond c true (member x ys))
    go true h = tt
    go false (inl h) = absurd h
    go false (inr h) = h

-- the same by the entry's place
pub member_at : (x : ℕ) (xs : List ℕ) (i : ℕ) → i < length xs → get_or xs i 0 ≡ x → member x xs ≡ true
member_at x [] i l e = absurd (omega arith)
member_at x (y ∷ ys) zero l e = ap (λ (b : Bool). cond b true (member x ys)) (eq-eqb y x e)
member_at x (y ∷ ys) (suc i) l e = go (eqb y x) (member_at x ys i (omega arith) e)
  where
    go : (b : Bool) → member x ys ≡ true → cond b true (member x ys) ≡ true
    go true h = refl
    go false h = h

pub member_nowhere : (x : ℕ) (xs : List ℕ) → ((i : ℕ) → i < length xs → get_or xs i 0 ≡ x → ⊥) → member x xs ≡ false
member_nowhere x [] f = refl
member_nowhere x (y ∷ ys) f =
    ap (λ (b : Bool). cond b true (member x ys)) (ne_eqb y x (f 0 (omega arith))) ∙ member_nowhere x ys (λ i l. f (suc i) (omega arith))

-- ---- a chain of tests, as code asks them: the first that fails decides
pub fails_here : (a b : Bool) → a ≡ false → false ≡ (a && b)
fails_here a b e = rw e

pub holds_here : (a b c : Bool) → a ≡ true → c ≡ b → c ≡ (a && b)
holds_here a b c e f = rw e f

-- ---- a test of every entry of one list and then of another
pub every_append : {A : Type 0} (t : A → Bool) (xs ys : List A) → every t (xs ++ ys) ≡ (every t xs && every t ys)
every_append t [] ys = refl
every_append t (x ∷ xs) ys = ap (λ (b : Bool). t x && b) (every_append t xs ys) ∙ sym (and_assoc (t x) (every t xs) (every t ys))

pub every_both : {A : Type 0} (t : A → Bool) (xs ys : List A) → T (every t xs) → T (every t ys) → T (every t (xs ++ ys))
every_both t xs ys h k = subst T (sym (every_append t xs ys)) (both (every t xs) (every t ys) h k)

-- ---- the entries of one list and then of another that pass
pub keep_append : {A : Type 0} (t : A → Bool) (xs ys : List A) → keep t (xs ++ ys) ≡ keep t xs ++ keep t ys
keep_append t [] ys = refl
keep_append t (x ∷ xs) ys = ap (cons_if (t x) x) (keep_append t xs ys) ∙ go (t x)
  where
    go : (b : Bool) → cons_if b x (keep t xs ++ keep t ys) ≡ cons_if b x (keep t xs) ++ keep t ys
    go true = refl
    go false = refl
