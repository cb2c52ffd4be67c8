-- Two sheets made one, over sheets as they are written. Definitions only.
use Rattle.std.specs.Prelude.{Bool, not, cond, List, [], ◌∷◌, ◌++◌, map, min, max, ltb}
use Rattle.slots.specs.Slots.{Slot}
use Rattle.lists.specs.Lists.{keep, least, greatest}
use Rattle.sheet.specs.Sheet.{Rule, WrittenSheet, on_stretch}

-- the first rule on each stretch, in order
unfoldable pub firsts : List Rule → List Rule
firsts [] = []
firsts (r ∷ rs) = r ∷ keep (λ q. not (on_stretch r.from r.to q)) (firsts rs)

-- the largest low and the smallest high of the rules on a stretch
abbrev pub combined_on : List Rule → Slot → Slot → Rule
combined_on rs f t =
    let here = keep (on_stretch f t) rs in
    record { from = f; to = t; low = greatest (map (λ r. r.low) here); high = least (map (λ r. r.high) here) }

-- one rule for each stretch, in order of first appearance
unfoldable pub merged_rules : List Rule → List Rule
merged_rules rs = map (λ r. combined_on rs r.from r.to) (firsts rs)

-- units of the first, then of the second
unfoldable pub merged : WrittenSheet → WrittenSheet → WrittenSheet
merged a b = record { span = a.span; units = a.units ++ b.units; rules = merged_rules (a.rules ++ b.rules) }

-- a combined low above its high (question 21)
abbrev pub crossed : Rule → Bool
crossed r = ltb r.high r.low

-- ---- one rule more, as code combines them

-- the larger low and the smaller high of two rules on one stretch
abbrev pub tightened : Rule → Rule → Rule
tightened q r = record { from = q.from; to = q.to; low = max q.low r.low; high = min q.high r.high }

-- the first rule on the stretch tightened by it, or the rule behind all others
abbrev pub with_rule : List Rule → Rule → List Rule
with_rule [] r = r ∷ []
with_rule (q ∷ qs) r = cond (on_stretch r.from r.to q) (tightened q r ∷ qs) (q ∷ with_rule qs r)
