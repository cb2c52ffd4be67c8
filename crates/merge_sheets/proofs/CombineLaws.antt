-- What one rule more does to the merged rules: it tightens the rule on its stretch, or stands behind the others.
-- Key idea: the merged rules are the combined rule on the first stretch, and then the merged rules of the rest that are on other stretches. A rule put behind
-- all others goes into the combined rule of its own stretch alone.
use Rattle.std.specs.Prelude.{◌≡◌, refl, Bool, true, false, ◌&&◌, not, cond, List, [], ◌∷◌, ◌++◌, map, ℕ, zero, suc, ◌+◌, ◌≤◌, ◌<◌, min, max, T, eqb, length, get_or, set}
use Rattle.std.proofs.Common.{sym, ap, ap₂, subst, ◌∙◌, append-nil, append_assoc, arith, eq-eqb, ne_eqb}
use Rattle.std.proofs.lemmas.List.{map-append}
use Rattle.std.proofs.Math.Decide.{ℕ_discrete}
use Rattle.slots.specs.Slots.{Slot}
use Rattle.lists.specs.Lists.{keep, cons_if, smallest, largest, least, greatest}
use Rattle.lists.specs.Members.{keep_append}
use Rattle.sheet.specs.Sheet.{Rule, on_stretch, no_rule}
use Rattle.merge_sheets.specs.Merge.{firsts, combined_on, merged_rules, tightened, with_rule}
use Rattle.merge_sheets.proofs.MergeLaws.{same_stretch}

-- ---- lists

largest_last : (n x : ℕ) (xs : List ℕ) → largest n (xs ++ (x ∷ [])) ≡ max (largest n xs) x
largest_last n x [] = omega arith
largest_last n x (y ∷ ys) = omega (arith, largest_last n x ys)

smallest_last : (n x : ℕ) (xs : List ℕ) → smallest n (xs ++ (x ∷ [])) ≡ min (smallest n xs) x
smallest_last n x [] = omega arith
smallest_last n x (y ∷ ys) = omega (arith, smallest_last n x ys)

-- ---- stretches

-- a rule is on the stretch of another
abbrev on : Rule → Rule → Bool
on r q = on_stretch r.from r.to q

eqb_sym : (a b : ℕ) → eqb a b ≡ eqb b a
eqb_sym a b = elim (ℕ_discrete a b) [ yes e ↦ eq-eqb a b e ∙ sym (eq-eqb b a (sym e)) | no n ↦ ne_eqb a b n ∙ sym (ne_eqb b a (λ e. n (sym e))) ]

on_sym : (r q : Rule) → on r q ≡ on q r
on_sym r q = ap₂ ◌&&◌ (eqb_sym q.from r.from) (eqb_sym q.to r.to)

on_own : (r : Rule) → on r r ≡ true
on_own r = rw (eq-eqb r.from r.from refl, eq-eqb r.to r.to refl) refl

on_same : (h r q : Rule) → on r q ≡ true → on h q ≡ on h r
on_same h r q e =
    let s = same_stretch r.from r.to q (subst T (sym e) tt) in
    ap₂ (λ (f t : Slot). eqb f h.from && eqb t h.to) s.0 s.1

abbrev others : Rule → Rule → Bool
others h q = not (on h q)

-- ---- one rule more, away from a stretch

module _ (h r : Rule) where
  -- on the stretch, it changes nothing
  others_same : on h r ≡ true → (qs : List Rule) → keep (others h) (with_rule qs r) ≡ keep (others h) qs
  others_same e [] = ap (λ b. cons_if (not b) r []) e
  others_same e (q ∷ qs) = go (on r q) refl (others_same e qs)
    where
      go : (b : Bool) → on r q ≡ b → keep (others h) (with_rule qs r) ≡ keep (others h) qs
          → keep (others h) (cond b (tightened q r ∷ qs) (q ∷ with_rule qs r)) ≡ keep (others h) (q ∷ qs)
      go true w i =
          let g : on h q ≡ true = on_same h r q w ∙ e in
          ap (λ b. cons_if (not b) (tightened q r) (keep (others h) qs)) g ∙ sym (ap (λ b. cons_if (not b) q (keep (others h) qs)) g)
      go false w i = ap (cons_if (others h q) q) i

  -- on another, it is one more
  others_more : on h r ≡ false → (qs : List Rule) → keep (others h) (with_rule qs r) ≡ with_rule (keep (others h) qs) r
  others_more e [] = ap (λ b. cons_if (not b) r []) e
  others_more e (q ∷ qs) = go (on r q) refl (others_more e qs)
    where
      kept : List Rule
      kept = keep (others h) qs

      put : (b : Bool) → on r q ≡ false → cons_if b q (with_rule kept r) ≡ with_rule (cons_if b q kept) r
      put true w = sym (ap (λ (c : Bool). cond c (tightened q r ∷ kept) (q ∷ with_rule kept r)) w)
      put false w = refl

      go : (b : Bool) → on r q ≡ b → keep (others h) (with_rule qs r) ≡ with_rule kept r
          → keep (others h) (cond b (tightened q r ∷ qs) (q ∷ with_rule qs r)) ≡ with_rule (keep (others h) (q ∷ qs)) r
      go true w i =
          let g : on h q ≡ false = on_same h r q w ∙ e in
          ap (λ b. cons_if (not b) (tightened q r) kept) g
          ∙ sym (ap (λ b. with_rule (cons_if (not b) q kept) r) g ∙ ap (λ (c : Bool). cond c (tightened q r ∷ kept) (q ∷ with_rule kept r)) w)
      go false w i = ap (cons_if (others h q) q) i ∙ put (others h q) w

-- ---- the combined rule of a stretch

-- of the rules on it
abbrev combined : Slot → Slot → List Rule → Rule
combined f t here = record { from = f; to = t; low = greatest (map (λ r. r.low) here); high = least (map (λ r. r.high) here) }

abbrev at : List Rule → Rule → Rule
at rs q = combined_on rs q.from q.to

module _ (h r : Rule) (rs : List Rule) where
  with_last : at (h ∷ (rs ++ (r ∷ []))) h ≡ combined h.from h.to (h ∷ (keep (on h) rs ++ cons_if (on h r) r []))
  with_last =
      ap (λ b. combined h.from h.to (cons_if b h (keep (on h) (rs ++ (r ∷ []))))) (on_own h)
      ∙ ap (λ xs. combined h.from h.to (h ∷ xs)) (keep_append (on h) rs (r ∷ []))

  without_last : at (h ∷ rs) h ≡ combined h.from h.to (h ∷ keep (on h) rs)
  without_last = ap (λ b. combined h.from h.to (cons_if b h (keep (on h) rs))) (on_own h)

  combined_more : on h r ≡ true → at (h ∷ (rs ++ (r ∷ []))) h ≡ tightened (at (h ∷ rs) h) r
  combined_more e =
      let k = keep (on h) rs in
      with_last ∙ ap (λ b. combined h.from h.to (h ∷ (k ++ cons_if b r []))) e
      ∙ ap₂ (λ (l u : ℕ). record { from = h.from; to = h.to; low = l; high = u })
      (ap (largest h.low) (map-append (λ (x : Rule). x.low) k (r ∷ [])) ∙ largest_last h.low r.low (map (λ (x : Rule). x.low) k))
      (ap (smallest h.high) (map-append (λ (x : Rule). x.high) k (r ∷ [])) ∙ smallest_last h.high r.high (map (λ (x : Rule). x.high) k))
      ∙ ap (λ (c : Rule). tightened c r) (sym without_last)

  combined_same : on h r ≡ false → at (h ∷ (rs ++ (r ∷ []))) h ≡ at (h ∷ rs) h
  combined_same e =
      let k = keep (on h) rs in
      with_last ∙ ap (λ b. combined h.from h.to (h ∷ (k ++ cons_if b r []))) e ∙ ap (λ xs. combined h.from h.to (h ∷ xs)) (append-nil k)
      ∙ sym without_last

-- ---- the merged rules from the front

-- rules on other stretches do not see the first one
apart : (h : Rule) (rs qs : List Rule) → map (at (h ∷ rs)) (keep (others h) qs) ≡ keep (others h) (map (at rs) qs)
apart h rs [] = refl
apart h rs (q ∷ qs) = go (on h q) refl (apart h rs qs)
  where
    go : (b : Bool) → on h q ≡ b → map (at (h ∷ rs)) (keep (others h) qs) ≡ keep (others h) (map (at rs) qs)
        → map (at (h ∷ rs)) (cons_if (not b) q (keep (others h) qs)) ≡ cons_if (not b) (at rs q) (keep (others h) (map (at rs) qs))
    go true w i = i
    go false w i = ap₂ (λ (c : Rule) cs. c ∷ cs) (ap (λ b. combined q.from q.to (cons_if b h (keep (on q) rs))) (on_sym q h ∙ w)) i

merged_first : (h : Rule) (rs : List Rule) → merged_rules (h ∷ rs) ≡ at (h ∷ rs) h ∷ keep (others h) (merged_rules rs)
unfolding merged_rules firsts
merged_first h rs = ap (λ cs. at (h ∷ rs) h ∷ cs) (apart h rs (firsts rs))

-- ---- one rule more

pub merged_rules_more : (rs : List Rule) (r : Rule) → merged_rules (rs ++ (r ∷ [])) ≡ with_rule (merged_rules rs) r
unfolding merged_rules firsts
merged_rules_more [] r = ap (λ b. combined r.from r.to (cons_if b r []) ∷ []) (on_own r)
merged_rules_more (h ∷ rs) r = go (on h r) refl (merged_rules_more rs r)
  where
    rest : List Rule
    rest = keep (others h) (merged_rules rs)

    go : (b : Bool) → on h r ≡ b → merged_rules (rs ++ (r ∷ [])) ≡ with_rule (merged_rules rs) r
        → merged_rules (h ∷ (rs ++ (r ∷ []))) ≡ with_rule (merged_rules (h ∷ rs)) r
    go true w i =
        merged_first h (rs ++ (r ∷ []))
        ∙ ap₂ (λ (c : Rule) cs. c ∷ keep (others h) cs) (combined_more h r rs w) i
        ∙ ap (λ cs. tightened (at (h ∷ rs) h) r ∷ cs) (others_same h r w (merged_rules rs))
        ∙ sym (ap (λ cs. with_rule cs r) (merged_first h rs)
        ∙ ap (λ (b : Bool). cond b (tightened (at (h ∷ rs) h) r ∷ rest) (at (h ∷ rs) h ∷ with_rule rest r)) (on_sym r h ∙ w))
    go false w i =
        merged_first h (rs ++ (r ∷ []))
        ∙ ap₂ (λ (c : Rule) cs. c ∷ keep (others h) cs) (combined_same h r rs w) i
        ∙ ap (λ cs. at (h ∷ rs) h ∷ cs) (others_more h r w (merged_rules rs))
        ∙ sym (ap (λ cs. with_rule cs r) (merged_first h rs)
        ∙ ap (λ (b : Bool). cond b (tightened (at (h ∷ rs) h) r ∷ rest) (at (h ∷ rs) h ∷ with_rule rest r)) (on_sym r h ∙ w))

-- ---- how many there are

keep_few : {A : Type 0} (t : A → Bool) (xs : List A) → length (keep t xs) ≤ length xs
keep_few t [] = omega arith
keep_few t (x ∷ xs) = go (t x) (keep_few t xs)
  where
    go : (b : Bool) → length (keep t xs) ≤ length xs → length (cons_if b x (keep t xs)) ≤ suc (length xs)
    go true h = omega arith
    go false h = omega arith

-- no more than the rules
pub merged_rules_few : (rs : List Rule) → length (merged_rules rs) ≤ length rs
unfolding merged_rules firsts
merged_rules_few [] = omega arith
merged_rules_few (h ∷ rs) = omega (arith, ap length (merged_first h rs), keep_few (others h) (merged_rules rs), merged_rules_few rs)

with_rule_grows : (qs : List Rule) (r : Rule) → length qs ≤ length (with_rule qs r)
with_rule_grows [] r = omega arith
with_rule_grows (q ∷ qs) r = go (on r q) (with_rule_grows qs r)
  where
    go : (b : Bool) → length qs ≤ length (with_rule qs r) → suc (length qs) ≤ length (cond b (tightened q r ∷ qs) (q ∷ with_rule qs r))
    go true h = omega arith
    go false h = omega arith

-- never fewer with more rules
pub merged_rules_grows : (rs more : List Rule) → length (merged_rules rs) ≤ length (merged_rules (rs ++ more))
merged_rules_grows rs [] = omega (arith, ap (λ xs. length (merged_rules xs)) (append-nil rs))
merged_rules_grows rs (r ∷ more) =
    omega (
      arith,
      with_rule_grows (merged_rules rs) r,
      ap length (merged_rules_more rs r),
      merged_rules_grows (rs ++ (r ∷ [])) more,
      ap (λ xs. length (merged_rules xs)) (append_assoc rs (r ∷ []) more),
    )

-- ---- one rule more, by the place of its stretch

pub with_rule_there : (qs : List Rule) (r : Rule) (p : ℕ) → p < length qs → on_stretch r.from r.to (get_or qs p no_rule) ≡ true
    → ((j : ℕ) → j < p → on_stretch r.from r.to (get_or qs j no_rule) ≡ false) → with_rule qs r ≡ set qs p (tightened (get_or qs p no_rule) r)
with_rule_there [] r p h e f = absurd (omega arith)
with_rule_there (q ∷ qs) r zero h e f = ap (λ (b : Bool). cond b (tightened q r ∷ qs) (q ∷ with_rule qs r)) e
with_rule_there (q ∷ qs) r (suc p) h e f =
    ap (λ (b : Bool). cond b (tightened q r ∷ qs) (q ∷ with_rule qs r)) (f 0 (omega arith))
    ∙ ap (λ cs. q ∷ cs) (with_rule_there qs r p (omega arith) e (λ j l. f (suc j) (omega arith)))

pub with_rule_behind : (qs : List Rule) (r : Rule) → ((j : ℕ) → j < length qs → on_stretch r.from r.to (get_or qs j no_rule) ≡ false)
    → with_rule qs r ≡ qs ++ (r ∷ [])
with_rule_behind [] r f = refl
with_rule_behind (q ∷ qs) r f =
    ap (λ (b : Bool). cond b (tightened q r ∷ qs) (q ∷ with_rule qs r)) (f 0 (omega arith))
    ∙ ap (λ cs. q ∷ cs) (with_rule_behind qs r (λ j l. f (suc j) (omega arith)))
