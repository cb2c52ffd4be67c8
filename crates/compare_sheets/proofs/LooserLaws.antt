-- A wave that is allowed more: wider windows and, on the same stretches, looser rules.
-- Key idea: each lawful plan stays lawful, place by place, so its numbers are still among those of lawful plans.
use Rattle.std.specs.Prelude.{◌≡◌, refl, List, [], ◌∷◌, map, ◌≤◌, T}
use Rattle.std.proofs.Common.{ap₂, arith}
use Rattle.lists.specs.Lists.{within, every}
use Rattle.lists.specs.Members.{In, both, left, right, within_iff, map_in}
use Rattle.lists.specs.Extremes.{least_more, greatest_more}
use Rattle.slots.specs.Slots.{Slot}
use Rattle.sheet.specs.Sheet.{Window, Rule, Sheet, count_in, in_windows, obeys, lawful, lawful_plans, least_in, greatest_in}
use Rattle.sheet.proofs.PlanLaws.{in_lawful_plans}
use Rattle.compare_sheets.specs.Comparing.{Each, Wider, LooserRule, Looser}
use Rattle.compare_sheets.proofs.ValuesLaws.{Reaches, values_reached}

windows_looser : (us vs : List Window) → Each Wider us vs → (x : List Slot) → T (in_windows us x) → T (in_windows vs x)
windows_looser [] [] e x h = h
windows_looser [] (v ∷ vs) e x h = absurd e
windows_looser (u ∷ us) [] e x h = absurd e
windows_looser (u ∷ us) (v ∷ vs) e [] h = h
windows_looser (u ∷ us) (v ∷ vs) e (x ∷ xs) h =
    let here = within u.first u.last x in
    let p = (within_iff u.first u.last x).0 (left here (in_windows us xs) h) in
    let wide = e.0 in
    both (within v.first v.last x) (in_windows vs xs) ((within_iff v.first v.last x).1 (omega (arith, wide.opens), omega (arith, wide.closes)))
    (windows_looser us vs e.1 xs (right here (in_windows us xs) h))

rule_looser : (r q : Rule) → LooserRule r q → (x : List Slot) → T (obeys x r) → T (obeys x q)
rule_looser r q e x h =
    let p = (within_iff r.low r.high (count_in r.from r.to x)).0 h in
    let same : count_in q.from q.to x ≡ count_in r.from r.to x = ap₂ (λ f t. count_in f t x) e.from e.to in
    (within_iff q.low q.high (count_in q.from q.to x)).1 (omega (arith, e.low), omega (arith, e.high))

rules_looser : (rs qs : List Rule) → Each LooserRule rs qs → (x : List Slot) → T (every (obeys x) rs) → T (every (obeys x) qs)
rules_looser [] [] e x h = h
rules_looser [] (q ∷ qs) e x h = absurd e
rules_looser (r ∷ rs) [] e x h = absurd e
rules_looser (r ∷ rs) (q ∷ qs) e x h =
    both (obeys x q) (every (obeys x) qs) (rule_looser r q e.0 x (left (obeys x r) (every (obeys x) rs) h))
    (rules_looser rs qs e.1 x (right (obeys x r) (every (obeys x) rs) h))

module _ (s t : Sheet) (looser : Looser s t) where
  -- A plan that was lawful is lawful.
  pub looser_lawful : (x : List Slot) → T (lawful s x) → T (lawful t x)
  unfolding lawful
  looser_lawful x h =
      let sits = in_windows s.units x in
      let rules = every (obeys x) s.rules in
      both (in_windows t.units x) (every (obeys x) t.rules) (windows_looser s.units t.units looser.units x (left sits rules h))
      (rules_looser s.rules t.rules looser.rules x (right sits rules h))

  module _ (x : List Slot) (l : T (lawful s x)) (f u : Slot) where
    reach : Reaches s t (count_in f u) (count_in f u)
    reach y k = (y, looser_lawful y k, refl)

    some : In (count_in f u x) (map (count_in f u) (lawful_plans s))
    some = map_in (count_in f u) x (lawful_plans s) ((in_lawful_plans s x).1 l)

    -- Where there was a lawful plan, the least count of a stretch does not rise,
    pub looser_least : least_in t f u ≤ least_in s f u
    unfolding least_in
    looser_least =
        least_more (count_in f u x) (map (count_in f u) (lawful_plans s)) (map (count_in f u) (lawful_plans t)) some
        (values_reached s t (count_in f u) (count_in f u) reach)

    -- and the greatest does not fall.
    pub looser_greatest : greatest_in s f u ≤ greatest_in t f u
    unfolding greatest_in
    looser_greatest =
        greatest_more (count_in f u x) (map (count_in f u) (lawful_plans s)) (map (count_in f u) (lawful_plans t)) some
        (values_reached s t (count_in f u) (count_in f u) reach)
