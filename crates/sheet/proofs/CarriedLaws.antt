-- The carried place: a unit that has it counts in no rule, and the step over all boundaries has the number of all units for its limit.
-- Key idea: a rule's stretch ends inside the span, so none reaches the end of the carried place; and there every window has ended.
use Rattle.std.specs.Prelude.{◌≡◌, ◌≤◌, T, leb, length, get_or, pos, neg_ℤ}
use Rattle.std.proofs.Common.{ap, ◌∙◌, arith, le_antisymm, le→leb}
use Rattle.lists.specs.Lists.{within, how_many}
use Rattle.lists.specs.Members.{In, both, within_iff}
use Rattle.lists.specs.Counts.{how_many_count, how_many_most, count_all}
use Rattle.sheet.specs.Sizes.{carried_place}
use Rattle.sheet.specs.Sheet.{Rule, Sheet, top, no_window, inside_of, at_most, at_least, limit}
use Rattle.sheet.proofs.LimitLaws.{limit_fwd, limit_back, at_most_n, at_most_ge, at_least_windows, at_least_le}
use Rattle.sheet.specs.Questions.{accepted}
use Rattle.sheet.proofs.QuestionLaws.{accepted_stretch, accepted_valid}

module _ (s : Sheet) (ok : T (accepted s)) where
  -- A carried unit counts in no rule.
  pub carried_in_no_rule : (r : Rule) → In r s.rules → T (within r.from r.to (carried_place s.span)) → ⊥
  carried_in_no_rule r m t = omega (arith, (within_iff r.from r.to (carried_place s.span)).0 t, accepted_stretch s ok r m)

  -- no rule is on a stretch that ends with the carried place
  no_rule_lem : {A : Type 0} (r : Rule) → In r s.rules → r.to ≡ top s → A
  unfolding top
  no_rule_lem r m e = absurd (omega (arith, accepted_stretch s ok r m))

  inside : length s.units ≤ how_many (inside_of 1 (top s)) s.units
  inside =
      omega (
        arith,
        how_many_count (inside_of 1 (top s)) no_window s.units,
        count_all (length s.units) (λ j. inside_of 1 (top s) (get_or s.units j no_window)) (λ j h.
            let w = get_or s.units j no_window in
            let v = (accepted_valid s ok).windows j h in
            both (leb 1 w.first) (leb w.last (top s)) (le→leb 1 w.first v.0) (le→leb w.last (top s) v.2)),
      )

  -- The step over all boundaries is n forward and minus n backward.
  pub limit_over_all : (limit s 0 (top s) ≡ pos (length s.units)) × (limit s (top s) 0 ≡ neg_ℤ (pos (length s.units)))
  limit_over_all =
      let n = length s.units in
      let some = (accepted_valid s ok).spans in
      let most : at_most s 1 (top s) ≡ n = le_antisymm (at_most_n s 1 (top s)) (at_most_ge s 1 (top s) n (omega arith) (λ r m e f. no_rule_lem r m f)) in
      let few = how_many_most (inside_of 1 (top s)) s.units in
      let fewest : at_least s 1 (top s) ≡ n =
      omega (arith, at_least_windows s 1 (top s), inside, at_least_le s 1 (top s) n few (λ r m e f. no_rule_lem r m f)) in
      (limit_fwd s 0 (top s) some ∙ ap pos most, limit_back s (top s) 0 some ∙ ap (λ k. neg_ℤ (pos k)) fewest)
