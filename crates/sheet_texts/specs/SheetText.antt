-- A sheet as a text of a house (docs/RULES.md, "Sheets and answers"): the lines of its span, its units and its rules, and no note. Definitions only.
use Rattle.std.specs.Prelude.{List, [], ◌∷◌, map, ℕ, suc, ◌+◌, ◌-◌, ◌*◌}
use Rattle.lists.specs.Lists.{joined}
use Rattle.slots.specs.Slots.{Slot}
use Rattle.forms.specs.Forms.{span_form_of, unit_form_of, rule_form_of}
use Rattle.forms.specs.Decimal.{form_line}
use Rattle.forms.specs.declared.House.{House}
use Rattle.forms.specs.declared.House.TheVariants.{Ours, Partner}
use Rattle.sheet.specs.Sizes.{max_units, max_rules}
use Rattle.sheet.specs.Sheet.{Rule, SheetUnit, WrittenSheet}

-- how many slots long a stretch is
abbrev pub hours_of : Slot → Slot → ℕ
hours_of first last = suc last - first

-- the numbers of a unit's line: loader, first and last slot, or loader, start and hours
abbrev pub unit_numbers : House → SheetUnit → List ℕ
unit_numbers Ours u = u.loader ∷ u.window.first ∷ u.window.last ∷ []
unit_numbers Partner u = u.loader ∷ u.window.first ∷ hours_of u.window.first u.window.last ∷ []

-- those of a rule's line: first and last slot, low and high, or start, hours and most
abbrev pub rule_numbers : House → Rule → List ℕ
rule_numbers Ours r = r.from ∷ r.to ∷ r.low ∷ r.high ∷ []
rule_numbers Partner r = r.from ∷ hours_of r.from r.to ∷ r.high ∷ []

unfoldable pub span_text : House → ℕ → List ℕ
span_text h span = form_line (span_form_of h) (span ∷ [])

unfoldable pub unit_text : House → SheetUnit → List ℕ
unit_text h u = form_line (unit_form_of h) (unit_numbers h u)

unfoldable pub rule_text : House → Rule → List ℕ
rule_text h r = form_line (rule_form_of h) (rule_numbers h r)

-- a line for each, in the order of the list
abbrev pub unit_texts : House → List SheetUnit → List ℕ
unit_texts h us = joined (map (unit_text h) us)

abbrev pub rule_texts : House → List Rule → List ℕ
rule_texts h rs = joined (map (rule_text h) rs)

-- the span, the units and the rules
unfoldable pub sheet_text : House → WrittenSheet → List ℕ
sheet_text h w = joined (span_text h w.span ∷ unit_texts h w.units ∷ rule_texts h w.rules ∷ [])

-- ---- how long a text can be

-- the longest lines: loader numbers have at most four digits, counts at most three, slots and hours at most two
abbrev pub longest_span : House → ℕ
longest_span Ours = 11
longest_span Partner = 9

abbrev pub longest_unit : House → ℕ
longest_unit Ours = 27
longest_unit Partner = 33

abbrev pub longest_rule : House → ℕ
longest_rule Ours = 37
longest_rule Partner = 40

abbrev pub longest_text : House → ℕ
longest_text h = longest_span h + (max_units * longest_unit h + max_rules * longest_rule h)

-- of either house
abbrev pub max_text : ℕ
max_text = longest_text Partner
