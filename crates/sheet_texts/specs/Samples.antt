-- Sheets as texts, by the definitions alone: P2 of docs/RULES.md, and a day of the partner house. Each claim is computed.
use Rattle.std.specs.Prelude.{◌≡◌, refl, List, [], ◌∷◌, ◌++◌, map, ℕ}
use Rattle.lists.specs.Lists.{joined}
use Rattle.slots.specs.Slots.{Slot}
use Rattle.sheet.specs.Sheet.{Rule, SheetUnit, WrittenSheet}
use Rattle.forms.specs.Words.{line_feed, text}
use Rattle.forms.specs.Form.{written}
use Rattle.forms.specs.Decimal.{digits_within, digits}
use Rattle.forms.specs.declared.House.TheVariants.{Ours, Partner}
use Rattle.sheet_texts.specs.SheetText.{span_text, unit_text, rule_text, sheet_text}

-- the lines of a text, each with its line feed
abbrev text_with : List (List ℕ) → List ℕ
text_with ls = joined (map (λ l. l ++ (line_feed ∷ [])) ls)

abbrev unit : ℕ → Slot → Slot → SheetUnit
unit k f l = record { loader = k; window = record { first = f; last = l } }

abbrev rule : Slot → Slot → ℕ → ℕ → Rule
rule f t l h = record { from = f; to = t; low = l; high = h }

abbrev shown_sheet : WrittenSheet
shown_sheet = record { span = 4; units = unit 1 1 2 ∷ unit 2 1 4 ∷ []; rules = rule 1 2 1 1 ∷ rule 2 3 1 1 ∷ rule 3 4 1 1 ∷ [] }

pub shown_text : sheet_text Ours shown_sheet ≡ text_with (text "(sheet 4)" ∷ text "(unit 1 (window 1 2))" ∷ text "(unit 2 (window 1 4))"
    ∷ text "(rule (slots 1 2) (count 1 1))" ∷ text "(rule (slots 2 3) (count 1 1))" ∷ text "(rule (slots 3 4) (count 1 1))" ∷ [])
unfolding sheet_text span_text unit_text rule_text digits digits_within written text
shown_text = refl

abbrev partner_day : WrittenSheet
partner_day = record { span = 7; units = unit 4017 3 4 ∷ []; rules = rule 1 3 0 2 ∷ [] }

pub partner_text : sheet_text Partner partner_day
    ≡ text_with (text "(day 7)" ∷ text "(job 4017 (start 3) (hours 2))" ∷ text "(limit (from 1) (hours 3) (most 2))" ∷ [])
unfolding sheet_text span_text unit_text rule_text digits digits_within written text
partner_text = refl
