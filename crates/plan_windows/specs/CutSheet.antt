-- The arcs that cuts add to the network of a sheet, and the sheet with a window cut. Definitions only.
use Rattle.std.specs.Prelude.{ℕ, suc, set, pos, neg_ℤ}
use Rattle.lists.specs.Lists.{how_many}
use Rattle.network.specs.Network.{Weights}
use Rattle.slots.specs.Slots.{slot_after, slot_before}
use Rattle.sheet.specs.Sheet.{Window, Sheet, inside_of}

-- the weight of an added arc from a to b: minus the number of windows inside b+1 to a, the added one counted too
abbrev pub added_arc : Sheet → Weights
added_arc s a b = neg_ℤ (pos (suc (how_many (inside_of (slot_after b) (slot_before a)) s.units)))

-- the sheet with unit j's window cut to u
abbrev pub cut_to : Sheet → ℕ → Window → Sheet
cut_to s j u = record { span = s.span; units = set s.units j u; rules = s.rules }
