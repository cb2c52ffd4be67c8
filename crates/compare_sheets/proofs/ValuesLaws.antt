-- Numbers over the lawful plans of two sheets.
-- Key idea: where each lawful plan of the one sheet has one of the other with the same number, the one's numbers are among the other's.
use Rattle.std.specs.Prelude.{◌≡◌, List, map, ℕ, T}
use Rattle.std.proofs.Common.{sym, ◌∙◌, subst}
use Rattle.lists.specs.Members.{In, in_map, map_in}
use Rattle.slots.specs.Slots.{Slot}
use Rattle.sheet.specs.Sheet.{Sheet, lawful, lawful_plans}
use Rattle.sheet.proofs.PlanLaws.{in_lawful_plans}

-- each lawful plan of s has one of t with the same number
abbrev pub Reaches : Sheet → Sheet → (List Slot → ℕ) → (List Slot → ℕ) → Type 0
Reaches s t f g = (x : List Slot) → T (lawful s x) → (y : List Slot) × T (lawful t y) × (f x ≡ g y)

pub values_reached : (s t : Sheet) (f g : List Slot → ℕ) → Reaches s t f g → (k : ℕ) → In k (map f (lawful_plans s)) → In k (map g (lawful_plans t))
values_reached s t f g reach k m =
    let p = in_map f k (lawful_plans s) m in
    let q = reach p.0 ((in_lawful_plans s p.0).0 p.1) in
    subst (λ i. In i (map g (lawful_plans t))) (sym (p.2 ∙ q.2)) (map_in g q.0 (lawful_plans t) ((in_lawful_plans t q.0).1 q.1))
