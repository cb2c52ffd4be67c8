-- The three loops of the pass, one turn at a time.
-- Key idea: while the rows are rewritten, the table is its new rows in front and its old ones behind; while a row's stretches are rewritten, the row is its
-- new values in front and its old ones behind. What the rows left will say gives the pass's whole answer, so a break keeps it at hand; and the table at
-- which a middle boundary begins is one that the pass reaches, so it is small and every sum of two of its numbers fits.
use mathlib.Core.Path.{◌≡◌, refl, sym, ap, ap₂, ◌∙◌, subst}
use mathlib.Core.Bool.{Bool, true, false, ◌&&◌, cond}
use mathlib.Core.List.{List, ◌++◌, map}
use Prim.Native.Nat.{ℕ, suc, ◌+◌, ◌-◌, ◌*◌, ◌≤◌, ◌<◌}
use native.Mathlib.Omega.{arith}
use native.Mathlib.Numerals.{add-one}
use native.Mathlib.Decide.{dec_le}
use lib.Dec.{T, leb, ltb, ltb→lt}
use lib.ListN.{length, get_or, take, drop, length-take, get_or-append}
use lib.IntN.{ℤ, pos, ◌+ℤ◌}
use lib.Signed.{lt_z}
use mir.Syntax.{w16}
use mir.Val.{SFits}
use borrow.Author.Tests.{lt-ltb, le-leb}
use Rattle.integers.specs.Parts.{min_ℤ}
use Rattle.std.specs.Prelude.{Err}
use Rattle.lists.specs.Lists.{run, joined}
use Rattle.lists.specs.Members.{and_left, and_right}
use Rattle.lists.specs.Slices.{part_at, part_length, back, back_length}
use Rattle.lists.specs.Values.{list_of, length_list_of, list_of_at, list_of_is, values_are}
use Rattle.lists.specs.Values.{Filled, filled_old, filled_new, filled_part, front_rest, front_past, front_part}
use Rattle.network.specs.Closure.{step}
use Rattle.network.specs.Table.{max_boundaries, entry, middle}
use Rattle.network.proofs.TableLaws.{length_rows, rows_snoc, drop_middle}
use Rattle.network.specs.RowStep.{relaxed_at, relaxed, falls_in, SumsFit}
use Rattle.network.specs.Bounds.{Small}
use Rattle.network.proofs.BoundLaws.{sum_fits}
use Rattle.network_pass.specs.Pass.{Passed, finished, stopped, after_rows, pass_from, outcome_of, Ran}
use Rattle.network_pass.proofs.PassLaws.{pass_more}
use Rattle.network_pass.specs.PassBounds.{StaysSmall}

-- ---- the middle row, copied
pub record MidIs (w m : ℕ) (t mid : List ℤ) : Type 0 where
  pub inside : m < w
  pub small : Small w t
  pub at : (j : ℕ) → j < w → get_or mid j (pos 0) ≡ entry w t m j

pub mid_is : {w m : ℕ} {t mid : List ℤ} (mid₀ : List ℤ) → m < w → Small w t → m * w + w ≤ length t
    → mid ≡ take w (drop (m * w) t) ++ drop w mid₀ → MidIs w m t mid
mid_is {w} {m} {t} mid₀ hm S h v =
    let xs = take w (drop (m * w) t) in
    let long : length xs ≡ w = part_length (m * w) w t h in
    record {
      inside = hm;
      small = S;
      at = λ j l. ap (λ (x : List ℤ). get_or x j (pos 0)) v ∙ get_or-append xs (drop w mid₀) (pos 0) j (omega arith) ∙ part_at (m * w) w t (pos 0) j l;
    }

-- ---- one row, before it is rewritten
pub record RowIs (w a : ℕ) (t row : List ℤ) : Type 0 where
  pub long : length row ≡ w
  pub at : (j : ℕ) → j < w → get_or row j (pos 0) ≡ entry w t a j

-- that row over the middle boundary m
pub record RowOver (w m a : ℕ) (t mid old : List ℤ) (am : ℤ) : Type 0 where
  pub inside : a < w
  pub middle : MidIs w m t mid
  pub row : RowIs w a t old
  pub over : am ≡ entry w t a m

-- ---- the stretches of one row
pub record ColsInv (am : ℤ) (mid old : List ℤ) (w a : ℕ) (row : List ℤ) (b : ℕ) : Type 0 where
  pub at_most : b ≤ w
  pub wide : length old ≡ w
  pub long : length row ≡ w
  pub form : Filled (relaxed_at am mid old) b old row
  pub fine : a < b → lt_z (relaxed_at am mid old a) (pos 0) ≡ false

module _ {am : ℤ} {mid old : List ℤ} {w a : ℕ} {row : List ℤ} {b : ℕ} (v : ColsInv am mid old w a row b)
    (e : ℕ) (hb : b < e) (he : e ≤ w) {ys : List ℤ} (ey : ys ≡ relaxed am (take (e - b) (drop b mid)) (take (e - b) (drop b row))) where
  fits : b + (e - b) ≤ length row
  fits = omega (arith, v.long)

  stretch_length : length ys ≡ e - b
  stretch_length = ap length ey ∙ length_list_of (relaxed_at am (take (e - b) (drop b mid)) (take (e - b) (drop b row))) (length (take (e - b) (drop b row)))
      ∙ part_length b (e - b) row fits

  stretch_form : Filled (relaxed_at am mid old) e old (back b (e - b) ys row)
  stretch_form =
      let part = take (e - b) (drop b row) in
      let values : ys ≡ map (relaxed_at am mid old) (run b (e - b)) = values_are (relaxed_at am mid old) (pos 0) b (e - b) ys stretch_length (λ j l.
      let y : get_or part j (pos 0) ≡ get_or old (b + j) (pos 0) =
      part_at b (e - b) row (pos 0) j l ∙ filled_old (relaxed_at am mid old) b old row v.form (b + j) (pos 0) (omega arith) in
      ap (λ (zs : List ℤ). get_or zs j (pos 0)) ey
      ∙ list_of_at (relaxed_at am (take (e - b) (drop b mid)) part) (length part) j (pos 0) (omega (arith, part_length b (e - b) row fits))
      ∙ ap₂ (λ (x y : ℤ). min_ℤ x (am +ℤ y)) y (part_at b (e - b) mid (pos 0) j l)) in
      let q : b + (e - b) ≡ e = omega arith in
      subst (λ (n : ℕ). Filled (relaxed_at am mid old) n old (back b (e - b) ys row)) q
      (filled_part (relaxed_at am mid old) b old row v.form (e - b) ys values)

  pub cols_long : length (back b (e - b) ys row) ≡ w
  cols_long = back_length b (e - b) ys row fits stretch_length ∙ v.long

  new_at : a < e → get_or (back b (e - b) ys row) a (pos 0) ≡ relaxed_at am mid old a
  new_at = filled_new (relaxed_at am mid old) e old (back b (e - b) ys row) stretch_form a (pos 0)

  -- what the look at the diagonal tells, in the stretch that holds it and in the others
  module _ {r : Bool} (look : r ≡ falls_in b e a (back b (e - b) ys row)) where
    pub cols_again : r ≡ false → ColsInv am mid old w a (back b (e - b) ys row) e
    cols_again f = record {
      at_most = he;
      wide = v.wide;
      long = cols_long;
      form = stretch_form;
      fine = λ h. elim (dec_le b a) [
        | no l ↦ v.fine (omega arith)
        | yes l ↦ ap (λ (x : ℤ). lt_z x (pos 0)) (sym (new_at h)) ∙ (rw (le-leb b a l, lt-ltb a e h) at (sym look ∙ f))
      ];
    }

    pub cols_low : r ≡ true → lt_z (relaxed_at am mid old a) (pos 0) ≡ true
    cols_low f =
        let low = lt_z (get_or (back b (e - b) ys row) a (pos 0)) (pos 0) in
        let t = and_right (leb b a) (ltb a e && low) (sym look ∙ f) in
        let h = ltb→lt a e (subst T (sym (and_left (ltb a e) low t)) tt) in
        ap (λ (x : ℤ). lt_z x (pos 0)) (sym (new_at h)) ∙ and_right (ltb a e) low t

-- ---- the new row
abbrev pub new_row : ℕ → ℕ → List ℤ → ℕ → List ℤ
new_row w m t a = list_of w (step m (entry w t) a)

module _ {w m a : ℕ} {t mid old : List ℤ} {am : ℤ} (s : RowOver w m a t mid old am) where
  -- the sums with a stretch of the middle row fit
  pub stretch_fits : (b k : ℕ) → b + k ≤ w → SumsFit am (take k (drop b mid))
  stretch_fits b k h j l =
      let hj : j < k = omega (arith, length-take k (drop b mid)) in
      let y : get_or (take k (drop b mid)) j (pos 0) ≡ entry w t m (b + j) = part_at b k mid (pos 0) j hj ∙ s.middle.at (b + j) (omega arith) in
      subst (SFits w16) (sym (ap₂ ◌+ℤ◌ s.over y)) (sum_fits w m s.middle.inside t s.middle.small a (b + j) s.inside (omega arith))

  relaxed_is : (j : ℕ) → j < w → relaxed_at am mid old j ≡ step m (entry w t) a j
  unfolding step
  relaxed_is j h = ap₂ (λ (x y : ℤ). min_ℤ x (am +ℤ y)) (s.row.at j h) (s.middle.at j h)
      ∙ ap (λ (x : ℤ). min_ℤ (entry w t a j) (x +ℤ entry w t m j)) s.over

  pub row_done : {row : List ℤ} {b : ℕ} → ColsInv am mid old w a row b → w ≤ b → row ≡ new_row w m t a
  row_done {row} {b} i h = list_of_is (step m (entry w t) a) (pos 0) w row i.long
      (λ j l. filled_new (relaxed_at am mid old) b old row i.form j (pos 0) (omega arith) ∙ relaxed_is j l)

  pub row_low : (f : Bool) → lt_z (relaxed_at am mid old a) (pos 0) ≡ f → lt_z (step m (entry w t) a a) (pos 0) ≡ f
  row_low f q = ap (λ (x : ℤ). lt_z x (pos 0)) (sym (relaxed_is a s.inside)) ∙ q

-- ---- the rows of one middle boundary
pub record RowsInv (w m : ℕ) (t₁ t : List ℤ) (a : ℕ) : Type 0 where
  pub at_most : a ≤ w
  pub long : length t ≡ length t₁
  pub form : t ≡ joined (map (new_row w m t₁) (run 0 a)) ++ drop (a * w) t₁
  pub rest : (next : Passed) → after_rows w 0 w m t₁ next ≡ after_rows (w - a) a w m t₁ next

wide : (w m : ℕ) (t : List ℤ) (a : ℕ) → length (new_row w m t a) ≡ w
wide w m t a = length_list_of (step m (entry w t) a) w

pub rows_start : {w m : ℕ} {t : List ℤ} → RowsInv w m t t 0
rows_start {w} {m} {t} =
    let z : 0 * w ≡ 0 = omega arith in
    let k : w ≡ w - 0 = omega arith in
    record { at_most = omega arith; long = refl; form = rw z refl; rest = λ next. ap (λ (i : ℕ). after_rows i 0 w m t next) k }

module _ {w m : ℕ} {t₁ t : List ℤ} {a : ℕ} (v : RowsInv w m t₁ t a) where
  done_long : length (joined (map (new_row w m t₁) (run 0 a))) ≡ a * w
  done_long = length_rows w (new_row w m t₁) (wide w m t₁) 0 a

  -- the next row is still the old one
  pub row_is : (k : ℕ) → k ≡ w → a * w + k ≤ length t → RowIs w a t₁ (take k (drop (a * w) t))
  row_is k e h = record {
    long = part_length (a * w) k t h ∙ e;
    at = λ j l. ap (λ (x : List ℤ). get_or (take k x) j (pos 0)) (front_rest (joined (map (new_row w m t₁) (run 0 a))) (a * w) done_long t₁ t v.form)
        ∙ part_at (a * w) k t₁ (pos 0) j (omega arith);
  }

  pub rows_past : a * w ≤ w * w → drop (w * w) t ≡ drop (w * w) t₁
  rows_past = front_past (joined (map (new_row w m t₁) (run 0 a))) (a * w) done_long t₁ t v.form (w * w)

  module _ (h : a < w) where
    left : w - a ≡ suc (w - (a + 1))
    left = omega arith

    next_row : (next : Passed) → after_rows w 0 w m t₁ next
        ≡ cond (lt_z (step m (entry w t₁) a a) (pos 0)) stopped (after_rows (w - (a + 1)) (suc a) w m t₁ next)
    unfolding after_rows
    next_row next = v.rest next ∙ ap (λ (i : ℕ). after_rows i a w m t₁ next) left

    pub rows_low : lt_z (step m (entry w t₁) a a) (pos 0) ≡ true → (next : Passed) → after_rows w 0 w m t₁ next ≡ stopped
    rows_low l next = next_row next ∙ (rw l refl)

    pub rows_again : (k : ℕ) {ys : List ℤ} → k ≡ w → a * w + k ≤ length t
        → ys ≡ new_row w m t₁ a → lt_z (step m (entry w t₁) a a) (pos 0) ≡ false → RowsInv w m t₁ (back (a * w) k ys t) (a + 1)
    rows_again k {ys} e fits y l =
        let long : length ys ≡ k = ap length y ∙ wide w m t₁ a ∙ sym e in
        let i : a * w + k ≡ (a + 1) * w = omega arith in
        let z : 0 + a ≡ a = omega arith in
        let xs = joined (map (new_row w m t₁) (run 0 a)) in
        record {
          at_most = omega arith;
          long = back_length (a * w) k ys t fits long ∙ v.long;
          form = front_part xs (a * w) done_long t₁ t v.form k ys
              ∙ ap (λ (n : ℕ). (xs ++ ys) ++ drop n t₁) i
              ∙ ap (λ (x : List ℤ). (xs ++ x) ++ drop ((a + 1) * w) t₁) (y ∙ ap (new_row w m t₁) (sym z))
              ∙ ap (λ (x : List ℤ). x ++ drop ((a + 1) * w) t₁)
              (sym (rows_snoc w (new_row w m t₁) (wide w m t₁) 0 a) ∙ ap (λ (n : ℕ). joined (map (new_row w m t₁) (run 0 n))) (sym (add-one a)));
          rest = λ next. next_row next ∙ (rw l (ap (λ (n : ℕ). after_rows (w - (a + 1)) n w m t₁ next) (sym (add-one a))));
        }

  module _ (h : w ≤ a) where
    all : a ≡ w
    all = omega arith

    rows_done : t ≡ middle w m t₁
    unfolding middle
    rows_done = v.form ∙ ap (λ (n : ℕ). joined (map (new_row w m t₁) (run 0 n)) ++ drop (n * w) t₁) all

    rows_on : (next : Passed) → after_rows w 0 w m t₁ next ≡ next
    unfolding after_rows
    rows_on next = let z : w - a ≡ 0 = omega arith in v.rest next ∙ ap (λ (i : ℕ). after_rows i a w m t₁ next) z

-- ---- the middle boundaries
pub record PassInv (t₀ : List ℤ) (w from to : ℕ) (t mid : List ℤ) (m : ℕ) : Type 0 where
  pub at_least : from ≤ m
  pub at_most : m ≤ to
  pub room : length mid ≡ max_boundaries
  pub long : length t ≡ length t₀
  pub past : drop (w * w) t ≡ drop (w * w) t₀
  pub reached : pass_from (m - from) from w t₀ ≡ finished t
  pub rest : pass_from (to - from) from w t₀ ≡ pass_from (to - m) m w t

pub pass_start : {t₀ : List ℤ} {w from to : ℕ} {mid : List ℤ} → from ≤ to → length mid ≡ max_boundaries
    → PassInv t₀ w from to t₀ mid from
unfolding pass_from
pass_start {t₀} {w} {from} h l =
    let z : from - from ≡ 0 = omega arith in
    record {
      at_least = omega arith;
      at_most = h;
      room = l;
      long = refl;
      past = refl;
      reached = ap (λ (i : ℕ). pass_from i from w t₀) z;
      rest = refl;
    }

module _ {t₀ t₁ : List ℤ} {w from to : ℕ} {mid₁ : List ℤ} {m : ℕ} (p : PassInv t₀ w from to t₁ mid₁ m) where
  next_middle : m < to → pass_from (to - from) from w t₀ ≡ after_rows w 0 w m t₁ (pass_from (to - (m + 1)) (suc m) w (middle w m t₁))
  unfolding pass_from
  next_middle h = let k : to - m ≡ suc (to - (m + 1)) = omega arith in p.rest ∙ ap (λ (i : ℕ). pass_from i m w t₁) k

  -- the table at which this middle boundary begins is one that the pass reaches
  pub begins_small : m < to → StaysSmall w from (to - from) t₀ → Small w t₁
  begins_small h S = S (m - from) t₁ (omega (arith, p.at_least)) p.reached

  pub middle_again : m < to → {t : List ℤ} {a : ℕ} → RowsInv w m t₁ t a → w ≤ a → {mid : List ℤ} → length mid ≡ max_boundaries
      → PassInv t₀ w from to t mid (m + 1)
  middle_again h {t} v ha l = record {
    at_least = omega (arith, p.at_least);
    at_most = omega arith;
    room = l;
    long = v.long ∙ p.long;
    past = ap (drop (w * w)) (rows_done v ha) ∙ drop_middle w m t₁ ∙ p.past;
    reached =
        let k : m + 1 - from ≡ suc (m - from) = omega (arith, p.at_least) in
        let i : from + (m - from) ≡ m = omega (arith, p.at_least) in
        ap (λ (n : ℕ). pass_from n from w t₀) k ∙ pass_more w (m - from) from t₀ t₁ p.reached
        ∙ ap (λ (n : ℕ). after_rows w 0 w n t₁ (finished (middle w n t₁))) i
        ∙ rows_on v ha (finished (middle w m t₁)) ∙ ap finished (sym (rows_done v ha));
    rest = next_middle h ∙ rows_on v ha (pass_from (to - (m + 1)) (suc m) w (middle w m t₁))
        ∙ ap (λ (x : List ℤ). pass_from (to - (m + 1)) (suc m) w x) (sym (rows_done v ha))
        ∙ ap (λ (n : ℕ). pass_from (to - (m + 1)) n w t) (sym (add-one m));
  }

  -- the pass stops at a row, with the table half done
  pub pass_left : m < to → (u : List ℤ) → ((next : Passed) → after_rows w 0 w m t₁ next ≡ stopped)
      → length u ≡ length t₁ → drop (w * w) u ≡ drop (w * w) t₁ → Ran w t₀ (pass_from (to - from) from w t₀) (Err (record {})) u
  pass_left h u e l q =
      let g = next_middle h ∙ e (pass_from (to - (m + 1)) (suc m) w (middle w m t₁)) in
      record {
        outcome = sym (ap outcome_of g);
        table = λ x y. let r : stopped ≡ finished x = sym g ∙ y in let z : ◌≡◌ {A = ℕ} 0 1 = cc in let f : ⊥ = omega arith in absurd f;
        long = l ∙ p.long;
        past = q ∙ p.past;
      }
