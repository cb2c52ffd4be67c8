-- The rules of a sheet, from the last to the first.
-- Key idea: one rule more in front is one more number in the smallest of its stretch's forward step and in the largest of its step back; no other
-- stretch has it.
use mathlib.Core.Path.{◌≡◌, refl, sym, ap, ◌∙◌, subst}
use mathlib.Core.Logic.{⊎_elim}
use mathlib.Core.Bool.{true, false, cond}
use mathlib.Core.List.{List, [], ◌∷◌}
use Prim.Native.Nat.{ℕ, suc, ◌+◌, ◌-◌, ◌*◌, ◌≤◌, ◌<◌, min, max}
use native.Mathlib.Omega.{arith}
use native.Mathlib.Decide.{dec_le, ℕ_discrete}
use lib.Dec.{ltb}
use lib.ListN.{length, get_or, drop, set}
use lib.Seq.{drop-cons, drop-length}
use lib.IntN.{ℤ, pos, neg_ℤ}
use borrow.Author.Tests.{eq-eqb, ne_eqb, lt-ltb, le-ltb}
use Rattle.integers.specs.Parts.{min_ℤ, min_is, ints, neg}
use Rattle.network.specs.Table.{entry}
use Rattle.sheet.specs.Sizes.{boundaries_of}
use Rattle.sheet.specs.Sheet.{Window, Rule, Sheet, on_stretch, at_most, at_least, limit}
use Rattle.sheet.specs.Questions.{windows_of, rules_of, sheet_of}
use Rattle.sheet.proofs.LimitLaws.{limit_fwd, limit_back, limit_same}
use Rattle.limit_windows.specs.Inside.{inside_weights}
use Rattle.limits.specs.LimitTable.{with_forward, tightened_at, Fillable}
use Rattle.limit_windows.specs.InsideLaws.{WindowsOrdered, inside_none}
use Rattle.limit_places.specs.LentTableLaws.{TableFilled, filled_set, filled_same, filled_over}
use Rattle.limits.specs.LimitTableLaws.{fillable_lists, fillable_rule}
use Rattle.limits.proofs.Forward.{forward_yes, forward_no, forward_same}

min_high : (n h : ℕ) → min_ℤ (pos n) (pos h) ≡ pos (min h n)
min_high n h = ⊎_elim (λ p. omega (ints, p.0, p.1)) (λ p. omega (ints, p.0, p.1)) (min_is (pos n) (pos h))

max_low : (n l : ℕ) → min_ℤ (neg_ℤ (pos n)) (neg_ℤ (pos l)) ≡ neg_ℤ (pos (max l n))
max_low n l =
    let x = neg (pos n) in
    let y = neg (pos l) in
    let z = neg (pos (max l n)) in
    ⊎_elim (λ p. omega (ints, p.0, p.1)) (λ p. omega (ints, p.0, p.1)) (min_is (neg_ℤ (pos n)) (neg_ℤ (pos l)))

module _ (p : ℕ) (ws : List Window) where
  -- the sheet with these rules
  abbrev pub ruled : List Rule → Sheet
  ruled rs = record { span = p; units = ws; rules = rs }

  module _ (r : Rule) (rs : List Rule) where
    on_yes : (f t : ℕ) → r.from ≡ f → r.to ≡ t → on_stretch f t r ≡ true
    on_yes f t e g = rw (eq-eqb r.from f e, eq-eqb r.to t g) refl

    on_no : (f t : ℕ) → (r.from ≡ f → r.to ≡ t → ⊥) → on_stretch f t r ≡ false
    on_no f t ne = elim (ℕ_discrete r.from f) [
      | no n ↦ rw (ne_eqb r.from f n) refl
      | yes e ↦ rw (eq-eqb r.from f e, ne_eqb r.to t (ne e)) refl
    ]

    most_here : (f t : ℕ) → r.from ≡ f → r.to ≡ t → at_most (ruled (r ∷ rs)) f t ≡ min r.high (at_most (ruled rs) f t)
    unfolding at_most
    most_here f t e g = rw (on_yes f t e g) refl

    most_there : (f t : ℕ) → (r.from ≡ f → r.to ≡ t → ⊥) → at_most (ruled (r ∷ rs)) f t ≡ at_most (ruled rs) f t
    unfolding at_most
    most_there f t ne = rw (on_no f t ne) refl

    least_here : (f t : ℕ) → r.from ≡ f → r.to ≡ t → at_least (ruled (r ∷ rs)) f t ≡ max r.low (at_least (ruled rs) f t)
    unfolding at_least
    least_here f t e g = rw (on_yes f t e g) refl

    least_there : (f t : ℕ) → (r.from ≡ f → r.to ≡ t → ⊥) → at_least (ruled (r ∷ rs)) f t ≡ at_least (ruled rs) f t
    unfolding at_least
    least_there f t ne = rw (on_no f t ne) refl

    forward_here : (a b : ℕ) → a < b → r.from ≡ suc a → r.to ≡ b → limit (ruled (r ∷ rs)) a b ≡ min_ℤ (limit (ruled rs) a b) (pos r.high)
    forward_here a b h e g =
        limit_fwd (ruled (r ∷ rs)) a b h ∙ ap pos (most_here (suc a) b e g) ∙ sym (min_high (at_most (ruled rs) (suc a) b) r.high)
        ∙ ap (λ (z : ℤ). min_ℤ z (pos r.high)) (sym (limit_fwd (ruled rs) a b h))

    back_here : (a b : ℕ) → b < a → r.from ≡ suc b → r.to ≡ a → limit (ruled (r ∷ rs)) a b ≡ min_ℤ (limit (ruled rs) a b) (neg_ℤ (pos r.low))
    back_here a b h e g =
        limit_back (ruled (r ∷ rs)) a b h ∙ ap (λ (n : ℕ). neg_ℤ (pos n)) (least_here (suc b) a e g) ∙ sym (max_low (at_least (ruled rs) (suc b) a) r.low)
        ∙ ap (λ (z : ℤ). min_ℤ z (neg_ℤ (pos r.low))) (sym (limit_back (ruled rs) a b h))

    elsewhere : (a b : ℕ) → (r.from ≡ suc a → r.to ≡ b → ⊥) → (r.from ≡ suc b → r.to ≡ a → ⊥) → limit (ruled (r ∷ rs)) a b ≡ limit (ruled rs) a b
    elsewhere a b n m = elim (dec_le b a) [
      | no g ↦ let h : a < b = omega arith in
          limit_fwd (ruled (r ∷ rs)) a b h ∙ ap pos (most_there (suc a) b n) ∙ sym (limit_fwd (ruled rs) a b h)
      | yes l ↦ elim (dec_le a b) [
        | no g ↦ let h : b < a = omega arith in
            limit_back (ruled (r ∷ rs)) a b h ∙ ap (λ (k : ℕ). neg_ℤ (pos k)) (least_there (suc b) a m) ∙ sym (limit_back (ruled rs) a b h)
        | yes k ↦ let e : b ≡ a = omega arith in
            subst (λ (j : ℕ). limit (ruled (r ∷ rs)) a j ≡ limit (ruled rs) a j) (sym e) (limit_same (ruled (r ∷ rs)) a ∙ sym (limit_same (ruled rs) a))
      ]
    ]

  -- with no rule there is n forward and the windows inside back
  no_rules : WindowsOrdered ws → (a b : ℕ) → limit (ruled []) a b ≡ with_forward (length ws) (inside_weights ws) a b
  unfolding inside_weights at_most at_least
  no_rules ok a b = elim (dec_le b a) [
    | no g ↦ let h : a < b = omega arith in
        limit_fwd (ruled []) a b h ∙ sym (forward_yes (length ws) (inside_weights ws) a b h)
    | yes l ↦ elim (dec_le a b) [
      | no g ↦ let h : b < a = omega arith in
          limit_back (ruled []) a b h ∙ sym (forward_no (length ws) (inside_weights ws) a b l)
      | yes k ↦ let e : b ≡ a = omega arith in
          subst (λ (j : ℕ). limit (ruled []) a j ≡ inside_weights ws a j) (sym e)
          (limit_same (ruled []) a ∙ ap (λ (n : ℕ). neg_ℤ (pos n)) (sym (inside_none ws ok a a (omega arith))))
          ∙ sym (forward_no (length ws) (inside_weights ws) a b l)
    ]
  ]

  -- forward steps with the rule, the others without
  half : Rule → List Rule → ℕ → ℕ → ℤ
  half r rs a b = cond (ltb a b) (limit (ruled (r ∷ rs)) a b) (limit (ruled rs) a b)

  half_forward : (r : Rule) (rs : List Rule) (a b : ℕ) → a < b → half r rs a b ≡ limit (ruled (r ∷ rs)) a b
  unfolding half
  half_forward r rs a b h = rw (lt-ltb a b h) refl

  half_back : (r : Rule) (rs : List Rule) (a b : ℕ) → b ≤ a → half r rs a b ≡ limit (ruled rs) a b
  unfolding half
  half_back r rs a b h = rw (le-ltb a b h) refl

  -- a rule on exactly its stretch
  rule_applied : (w : ℕ) (r : Rule) (rs : List Rule) (t₀ t : List ℤ) → w * w ≤ length t₀ → 1 ≤ r.from → r.from ≤ r.to → r.to < w
      → TableFilled w (limit (ruled rs)) t₀ t
      → TableFilled w (limit (ruled (r ∷ rs))) t₀
      (tightened_at (r.to * w + (r.from - 1)) (neg_ℤ (pos r.low)) (tightened_at ((r.from - 1) * w + r.to) (pos r.high) t))
  rule_applied w r rs t₀ t room lo mid hi f =
      let a = r.from - 1 in
      let b = r.to in
      let e : r.from ≡ suc a = omega arith in
      let v = min_ℤ (entry w t a b) (pos r.high) in
      let u = set t (a * w + b) v in
      let h : TableFilled w (half r rs) t₀ u = filled_set w (limit (ruled rs)) (half r rs) t₀ t a b v room (omega arith) hi
      (half_forward r rs a b (omega arith) ∙ forward_here r rs a b (omega arith) e refl
      ∙ ap (λ (z : ℤ). min_ℤ z (pos r.high)) (sym (f.at a b (omega arith) hi)))
      (λ x y hx hy ne. elim (dec_le y x) [
        | yes l ↦ half_back r rs x y l
        | no g ↦ half_forward r rs x y (omega arith) ∙ elsewhere r rs x y (λ p q. ne (omega arith) (sym q)) (λ p q. omega arith)
      ]) f in
      let z = entry w u b a in
      filled_set w (half r rs) (limit (ruled (r ∷ rs))) t₀ u b a (min_ℤ z (neg_ℤ (pos r.low))) room hi (omega arith)
      (back_here r rs b a (omega arith) e refl
      ∙ ap (λ (y : ℤ). min_ℤ y (neg_ℤ (pos r.low))) (sym (h.at b a hi (omega arith) ∙ half_back r rs b a (omega arith))))
      (λ x y hx hy ne. elim (dec_le y x) [
        | yes l ↦ elsewhere r rs x y (λ p q. omega arith) (λ p q. ne (sym q) (omega arith)) ∙ sym (half_back r rs x y l)
        | no g ↦ sym (half_forward r rs x y (omega arith))
      ]) h

  -- the windows inside, and then n on every forward step
  pub unruled : (w : ℕ) (t₀ t u : List ℤ) → WindowsOrdered ws → TableFilled w (inside_weights ws) t₀ t → TableFilled w (with_forward (length ws) (entry w t)) t u
      → TableFilled w (limit (ruled [])) t₀ u
  unruled w t₀ t u ok f g =
      filled_same w (with_forward (length ws) (entry w t)) (limit (ruled [])) t₀ u
      (λ x y hx hy. no_rules ok x y ∙ forward_same (length ws) (inside_weights ws) (entry w t) x y (sym (f.at x y hx hy)))
      (filled_over w (inside_weights ws) (with_forward (length ws) (entry w t)) t₀ t u f g)

module _ (span : ℕ) (first last from to low high : List ℕ) where
  -- the sheet with its rules from line k on
  abbrev pub ruled_from : ℕ → Sheet
  ruled_from k = ruled span (windows_of first last) (rules_of (drop k from) (drop k to) (drop k low) (drop k high))

  pub ruled_none : ruled_from (length from) ≡ ruled span (windows_of first last) []
  ruled_none =
      let n = length from in
      ap (λ (l : List ℕ). ruled span (windows_of first last) (rules_of l (drop n to) (drop n low) (drop n high))) (drop-length from)

  pub ruled_all : ruled_from 0 ≡ sheet_of span first last from to low high
  unfolding sheet_of
  ruled_all = refl

module _ {span : ℕ} {first last from to low high : List ℕ} {room₀ : ℕ} (ok : Fillable span first last from to low high room₀) where
  lines_cons : (k : ℕ) → k < length from → rules_of (drop k from) (drop k to) (drop k low) (drop k high)
      ≡ record { from = get_or from k 0; to = get_or to k 0; low = get_or low k 0; high = get_or high k 0 }
      ∷ rules_of (drop (suc k) from) (drop (suc k) to) (drop (suc k) low) (drop (suc k) high)
  lines_cons k h =
      let e = fillable_lists ok in
      let ht : k < length to = omega (arith, e.stretches) in
      let hl : k < length low = omega (arith, e.lows) in
      let hh : k < length high = omega (arith, e.highs) in
      rw (drop-cons from k 0 h, drop-cons to k 0 ht, drop-cons low k 0 hl, drop-cons high k 0 hh) refl

  -- one turn of the loop over the rules
  pub rule_line_lem : (t₀ t u : List ℤ) (k : ℕ) → boundaries_of span * boundaries_of span ≤ length t₀ → 0 < k → k ≤ length from
      → TableFilled (boundaries_of span) (limit (ruled_from span first last from to low high k)) t₀ t
      → let j = k - 1 in
      u ≡ tightened_at (get_or to j 0 * boundaries_of span + (get_or from j 0 - 1)) (neg_ℤ (pos (get_or low j 0)))
      (tightened_at ((get_or from j 0 - 1) * boundaries_of span + get_or to j 0) (pos (get_or high j 0)) t)
      → TableFilled (boundaries_of span) (limit (ruled_from span first last from to low high j)) t₀ u
  rule_line_lem t₀ t u k room lo hi f q =
      let j = k - 1 in
      let r : Rule = record { from = get_or from j 0; to = get_or to j 0; low = get_or low j 0; high = get_or high j 0 } in
      let rs = rules_of (drop (suc j) from) (drop (suc j) to) (drop (suc j) low) (drop (suc j) high) in
      let ws = windows_of first last in
      let fit = fillable_rule ok j (omega arith) in
      let e : k ≡ suc j = omega arith in
      subst (λ (l : List Rule). TableFilled (boundaries_of span) (limit (ruled span ws l)) t₀ u) (sym (lines_cons j (omega arith)))
      (subst (TableFilled (boundaries_of span) (limit (ruled span ws (r ∷ rs))) t₀) (sym q)
      (rule_applied span ws (boundaries_of span) r rs t₀ t room fit.starts fit.ordered fit.ends
      (subst (λ (i : ℕ). TableFilled (boundaries_of span) (limit (ruled_from span first last from to low high i)) t₀ t) e f)))
