-- The search over a text, line by line.
-- Key idea: at a line's start the answer is found among the lines that are left (`Searching`). A line of another kind leaves its place among them; one of this
-- kind is the answer or lowers that place by one. Past the last line feed no line has its own, so none is looked for.
use Rattle.std.specs.Prelude.{Ok, Err}
use Prim.Native.Nat.{ℕ, suc, ◌+◌, ◌-◌, ◌≤◌, ◌<◌}
use mathlib.Core.Path.{◌≡◌, refl, sym, ap, ap₂, ◌∙◌}
use mathlib.Core.Logic.{⊎_elim}
use mathlib.Core.Bool.{Bool, true, false}
use mathlib.Core.List.{List, [], ◌∷◌, ◌++◌, map}
use native.Mathlib.Omega.{arith}
use native.Mathlib.Numerals.{add-one}
use native.Mathlib.Nat.{eq-or-lt_of_le}
use lib.ListN.{length, drop, length-append, length-drop}
use Rattle.lists.specs.Lists.{cons_if, keep}
use Rattle.forms.specs.Words.{line_feed}
use Rattle.forms.specs.Lines.{TextLine, text_line, lines, first_line, whole_lines}
use Rattle.forms.specs.LinesLaws.{line_end, lines_at, lines_none, whole_within, whole_ended, whole_next, rest_unended, rest_line}
use Rattle.forms.specs.declared.House.TheVariants.{Ours}
use Rattle.read_form.specs.Kinds.{kind_of}
use Rattle.read_form.specs.Grid.{same_kind}
use Rattle.read_form.specs.declared.Kind.{Kind}
use Rattle.read_places.specs.Places.{Placed, placed_at, placed_from, is_of, spots_in, spots, sought_in, sought}
use Rattle.read_places.specs.declared.Spot.{Spot}

-- at the place `at`, where line n begins: the answer is the one of this place among the lines of the kind that are left
pub record Searching (k : Kind) (t : List ℕ) (j at n left : ℕ) : Type 0 where
  pub place : at ≤ whole_lines t
  pub number : n ≤ at + 1
  pub among : sought k t j ≡ sought_in (spots_in k (placed_from n at (lines (drop at t)))) left

pub search_start : (k : Kind) (t : List ℕ) (j : ℕ) → Searching k t j 0 1 j
unfolding sought spots
search_start k t j = record { place = omega arith; number = omega arith; among = refl }

module _ (k : Kind) (t : List ℕ) (j at n left : ℕ) (i : Searching k t j at n left) where
  -- the line that starts here, before the last line feed, by its end and its kind
  module _ (place : ℕ) (some : at < whole_lines t) (e : place ≡ line_end t at) (of : Kind) (s : of ≡ kind_of Ours (first_line (drop at t))) where
    here : Placed
    here = placed_at n at (text_line (first_line (drop at t)) true)

    rest : List Placed
    rest = placed_from (n + 1) (place + 1) (lines (drop (place + 1) t))

    all_left : placed_from n at (lines (drop at t)) ≡ here ∷ rest
    unfolding here rest placed_from
    all_left =
        let l = first_line (drop at t) in
        let p : at + length (l ++ (line_feed ∷ [])) ≡ place + 1 = omega (arith, length-append l (line_feed ∷ [])) in
        ap (placed_from n at) (lines_at t at (place + 1) (omega (arith, whole_within t)) (ap (λ (m : ℕ). m + 1) e)
        ∙ ap (λ (b : Bool). text_line l b ∷ lines (drop (place + 1) t)) (whole_ended t at some))
        ∙ ap₂ (λ (m a : ℕ). here ∷ placed_from m a (lines (drop (place + 1) t))) (sym (add-one n)) p

    found_left : (b : Bool) → same_kind of k ≡ b
        → sought k t j ≡ sought_in (map (λ p. p.spot) (cons_if b here (keep (λ p. is_of k p.line) rest))) left
    unfolding here
    found_left b q =
        i.among ∙ ap (λ (ps : List Placed). sought_in (spots_in k ps) left) all_left
        ∙ ap (λ (c : Bool). sought_in (map (λ p. p.spot) (cons_if c here (keep (λ p. is_of k p.line) rest))) left)
        (ap (λ (c : Kind). same_kind c k) (sym s) ∙ q)

    next_from : (m : ℕ) → sought k t j ≡ sought_in (spots_in k rest) m → Searching k t j (place + 1) (n + 1) m
    unfolding rest
    next_from m q = record { place = omega (arith, e, whole_next t at some); number = omega (arith, i.number, e); among = q }

    pub search_found : same_kind of k ≡ true → left ≡ 0 → Ok (record { number = n; start = at; end = place }) ≡ sought k t j
    unfolding here
    search_found q z =
        ap (λ (m : ℕ). Ok (record { number = n; start = at; end = m })) e
        ∙ sym (found_left true q ∙ ap (sought_in (here.spot ∷ spots_in k rest)) z)

    pub search_counted : same_kind of k ≡ true → (left ≡ 0 → ⊥) → Searching k t j (place + 1) (n + 1) (left - 1)
    search_counted q z =
        let f : left ≡ suc (left - 1) = omega arith in
        next_from (left - 1) (found_left true q ∙ ap (sought_in (here.spot ∷ spots_in k rest)) f)

    pub search_passed : same_kind of k ≡ false → Searching k t j (place + 1) (n + 1) left
    search_passed q = next_from left (found_left false q)

  -- the bytes past the last line feed: one line at most, which has none
  pub search_none : whole_lines t ≤ at → Err left ≡ sought k t j
  unfolding placed_from
  search_none past = sym (i.among ∙ ap (λ (ss : List Spot). sought_in ss left) no_spots)
    where
      no_spots : spots_in k (placed_from n at (lines (drop at t))) ≡ []
      no_spots =
          ⊎_elim
          (λ (q : at ≡ length t). ap (λ (ls : List TextLine). spots_in k (placed_from n at ls)) (lines_none t at (omega arith)))
          (λ (some : at < length t).
          let end : length t ≤ line_end t at + 1 = omega (arith, ap length (rest_line t at past), length-drop at t) in
          ap (λ (ls : List TextLine). spots_in k (placed_from n at ls)) (lines_at t at (line_end t at + 1) some refl
          ∙ ap₂ (λ (b : Bool) (ls : List TextLine). text_line (first_line (drop at t)) b ∷ ls) (rest_unended t at past) (lines_none t (line_end t at + 1) end)))
          (eq-or-lt_of_le (omega (arith, i.place, whole_within t)))
