-- The exact windows, counted from the first unit to the last.
-- Key idea: one window more takes 1 from the entry of its own stretch and leaves the others; and a count is the same wherever in the list the window stands.
use mathlib.Core.Path.{◌≡◌, refl, sym, ap, ◌∙◌, subst}
use mathlib.Core.Bool.{Bool}
use mathlib.Core.List.{List, [], ◌∷◌, ◌++◌}
use Prim.Native.Nat.{ℕ, suc, ◌+◌, ◌-◌, ◌*◌, ◌≤◌, ◌<◌}
use native.Mathlib.Omega.{arith}
use native.Mathlib.Decide.{ℕ_discrete}
use lib.ListN.{length, get_or, take, set, length-take}
use lib.Seq.{take_all}
use Rattle.std.proofs.lemmas.List.{take_more}
use lib.IntN.{ℤ, pos, neg_ℤ, ◌-ℤ◌}
use mir.Syntax.{w16}
use mir.Val.{SFits}
use borrow.Author.Tests.{eq-eqb, ne_eqb}
use Rattle.integers.specs.Parts.{ints, neg, difference, fits_within}
use Rattle.lists.specs.Lists.{how_many}
use Rattle.network.specs.Table.{entry}
use Rattle.sheet.specs.Sizes.{max_units}
use Rattle.sheet.specs.Sheet.{Window, no_window}
use Rattle.sheet.specs.Questions.{windows_of}
use Rattle.sheet.proofs.QuestionLaws.{windows_of_length, windows_of_at}
use Rattle.limit_windows.specs.Inside.{WindowsFit, exactly, exact_weights}
use Rattle.lists.specs.Counts.{how_many_most}
use Rattle.limit_places.specs.LentTableLaws.{TableFilled, filled_set, filled_same, place_inside}

how_many_last : {A : Type 0} (t : A → Bool) (xs : List A) (x : A) → how_many t (xs ++ (x ∷ [])) ≡ how_many t (x ∷ xs)
how_many_last t [] x = refl
how_many_last t (y ∷ xs) x = omega (arith, how_many_last t xs x)

exact_here : (x : Window) (ws : List Window) (a b : ℕ) → x.last ≡ a → x.first ≡ suc b
    → exact_weights (x ∷ ws) a b ≡ exact_weights ws a b -ℤ pos 1
unfolding exact_weights
exact_here x ws a b p q =
    let n = how_many (exactly (suc b) a) ws in
    let m = how_many (exactly (suc b) a) (x ∷ ws) in
    let one : m ≡ suc n = rw (eq-eqb x.first (suc b) q, eq-eqb x.last a p) (omega arith) in
    omega (ints, neg (pos m), neg (pos n), difference (neg_ℤ (pos n)) (pos 1))

exact_there : (x : Window) (ws : List Window) (a b : ℕ) → (a ≡ x.last → suc b ≡ x.first → ⊥) → exact_weights (x ∷ ws) a b ≡ exact_weights ws a b
unfolding exact_weights
exact_there x ws a b ne = ap (λ (k : ℕ). neg_ℤ (pos k)) same
  where
    same : how_many (exactly (suc b) a) (x ∷ ws) ≡ how_many (exactly (suc b) a) ws
    same = elim (ℕ_discrete x.first (suc b)) [
      | no n ↦ rw (ne_eqb x.first (suc b) n) (omega arith)
      | yes p ↦ rw (eq-eqb x.first (suc b) p, ne_eqb x.last a (λ q. ne (sym q) (sym p))) (omega arith)
    ]

exact_last : (x : Window) (ws : List Window) (a b : ℕ) → exact_weights (ws ++ (x ∷ [])) a b ≡ exact_weights (x ∷ ws) a b
unfolding exact_weights
exact_last x ws a b = ap (λ (k : ℕ). neg_ℤ (pos k)) (how_many_last (exactly (suc b) a) ws x)

module _ (w : ℕ) (first last : List ℕ) (fit : WindowsFit w first last) (t₀ : List ℤ) where
  -- the first j units
  abbrev pub done : ℕ → List Window
  done j = take j (windows_of first last)

  abbrev window_at : ℕ → Window
  window_at j = record { first = get_or first j 0; last = get_or last j 0 }

  done_more : (j : ℕ) → j < length first → done (j + 1) ≡ done j ++ (window_at j ∷ [])
  done_more j h =
      take_more (windows_of first last) j no_window (omega (arith, windows_of_length first last fit.paired))
      ∙ ap (λ (x : Window). done j ++ (x ∷ [])) (windows_of_at first last fit.paired j h)

  done_few : (j : ℕ) → length (done j) ≤ max_units
  done_few j = omega (arith, length-take j (windows_of first last), windows_of_length first last fit.paired, fit.few)

  -- an entry that a window is taken from still fits
  exact_fits : (j : ℕ) (t : List ℤ) (a b : ℕ) → a < w → b < w → TableFilled w (exact_weights (done j)) t₀ t → SFits w16 (entry w t a b -ℤ pos 1)
  unfolding exact_weights
  exact_fits j t a b ha hb h =
      let n = how_many (exactly (suc b) a) (done j) in
      let e : entry w t a b ≡ neg_ℤ (pos n) = h.at a b ha hb in
      let few : n ≤ max_units = omega (arith, how_many_most (exactly (suc b) a) (done j), done_few j) in
      let d = difference (entry w t a b) (pos 1) in
      let m = neg (pos n) in
      fits_within w16 (entry w t a b -ℤ pos 1) (suc max_units) tt (omega ints) (omega ints)

  -- what one turn of the loop asks and leaves
  pub record Taken (j at : ℕ) (t : List ℤ) : Type 0 where
    pub inside : at < length t
    pub fits : SFits w16 (get_or t at (pos 0) -ℤ pos 1)
    pub next : TableFilled w (exact_weights (done (j + 1))) t₀ (set t at (get_or t at (pos 0) -ℤ pos 1))

  pub taken : (j at : ℕ) (t : List ℤ) → w * w ≤ length t₀ → j < length first → at ≡ get_or last j 0 * w + (get_or first j 0 - 1)
      → TableFilled w (exact_weights (done j)) t₀ t → Taken j at t
  taken j at t room h e f =
      let a = get_or last j 0 in
      let b = get_or first j 0 - 1 in
      let x = window_at j in
      let c = fit.each j h in
      let k : get_or first j 0 ≡ suc b = omega arith in
      let u = set t (a * w + b) (entry w t a b -ℤ pos 1) in
      subst (λ (i : ℕ). Taken j i t) (sym e)
      (record {
        inside = omega (arith, place_inside w a b (omega arith) (omega arith), f.long);
        fits = exact_fits j t a b (omega arith) (omega arith) f;
        next = filled_same w (exact_weights (x ∷ done j)) (exact_weights (done (j + 1))) t₀ u
            (λ y z hy hz. ap (λ (ws : List Window). exact_weights ws y z) (done_more j h) ∙ exact_last x (done j) y z)
            (filled_set w (exact_weights (done j)) (exact_weights (x ∷ done j)) t₀ t a b (entry w t a b -ℤ pos 1) room (omega arith) (omega arith)
            (exact_here x (done j) a b refl k ∙ ap (λ (z : ℤ). z -ℤ pos 1) (sym (f.at a b (omega arith) (omega arith))))
            (λ y z hy hz ne. exact_there x (done j) y z (λ p q. ne p (omega arith)))
            f);
      })

  -- all units
  pub done_all : done (length first) ≡ windows_of first last
  done_all = take_all (length first) (windows_of first last) (omega (arith, windows_of_length first last fit.paired))
