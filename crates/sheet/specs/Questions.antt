-- A sheet in parallel lists, and the questions about a sheet, by number (docs/RULES.md, "Questions"). Definitions only.
use Rattle.std.specs.Prelude.{Bool, true, ◌&&◌, not, List, [], ◌∷◌, ◌++◌, ℕ, leb, eqb, length}
use Rattle.lists.specs.Lists.{within, every, member}
use Rattle.questions.specs.Questions.{Question, ask}
use Rattle.sheet.specs.Sizes.{max_slots, max_units, max_rules, max_count, max_loader, carried_place}
use Rattle.slots.specs.Slots.{Slot}
use Rattle.sheet.specs.Sheet.{Window, Rule, Sheet}

abbrev pub windows_of : List Slot → List Slot → List Window
windows_of [] ls = []
windows_of (f ∷ fs) [] = []
windows_of (f ∷ fs) (l ∷ ls) = record { first = f; last = l } ∷ windows_of fs ls

abbrev pub rules_of : List Slot → List Slot → List ℕ → List ℕ → List Rule
rules_of [] ts ls hs = []
rules_of (f ∷ fs) [] ls hs = []
rules_of (f ∷ fs) (t ∷ ts) [] hs = []
rules_of (f ∷ fs) (t ∷ ts) (l ∷ ls) [] = []
rules_of (f ∷ fs) (t ∷ ts) (l ∷ ls) (h ∷ hs) = record { from = f; to = t; low = l; high = h } ∷ rules_of fs ts ls hs

-- a span, the units' first and last slots, the rules' stretches, lows and highs
unfoldable pub sheet_of : ℕ → List Slot → List Slot → List Slot → List Slot → List ℕ → List ℕ → Sheet
sheet_of span first last from to low high =
    record { span = span; units = windows_of first last; rules = rules_of from to low high }

-- 13: have lists that belong together equal length?
unfoldable pub lists_agree : List Slot → List Slot → List Slot → List Slot → List ℕ → List ℕ → Bool
lists_agree first last from to low high =
    eqb (length last) (length first)
    && (eqb (length to) (length from) && (eqb (length low) (length from) && eqb (length high) (length from)))

-- 6: is the span 1 to 48?
abbrev pub is_span : ℕ → Bool
is_span span = within 1 max_slots span

unfoldable pub span_fits : Sheet → Bool
span_fits s = is_span s.span

-- the first is from least to start, and the last from the first to most: the one test of two ends
abbrev pub rising : ℕ → ℕ → ℕ → ℕ → ℕ → Bool
rising least start most first last = within least start first && within first most last

-- 7: is 1 ≤ first ≤ last ≤ span? A window's last slot, and no other, may be the carried place too.
abbrev pub is_stretch : ℕ → Slot → Slot → Bool
is_stretch span first last = rising 1 span span first last

abbrev pub is_window : ℕ → Slot → Slot → Bool
is_window span first last = rising 1 span (carried_place span) first last

unfoldable pub windows_fit : Sheet → Bool
windows_fit s = every (λ w. is_window s.span w.first w.last) s.units

unfoldable pub stretches_fit : Sheet → Bool
stretches_fit s = every (λ r. is_stretch s.span r.from r.to) s.rules

-- 8: is low ≤ high ≤ 300?
abbrev pub is_count : ℕ → ℕ → Bool
is_count low high = rising 0 max_count max_count low high

unfoldable pub counts_fit : Sheet → Bool
counts_fit s = every (λ r. is_count r.low r.high) s.rules

-- 9: are there at most 300 units?
unfoldable pub units_fit : Sheet → Bool
units_fit s = leb (length s.units) max_units

-- 10: at most 60 rules?
unfoldable pub rules_fit : Sheet → Bool
rules_fit s = leb (length s.rules) max_rules

-- 16: is the loader number 1 to 9999 and on no earlier unit?
unfoldable pub is_new : List ℕ → ℕ → Bool
is_new earlier k = within 1 max_loader k && not (member k earlier)

-- of each of these numbers, which stand after others
unfoldable pub all_new : List ℕ → List ℕ → Bool
all_new earlier [] = true
all_new earlier (k ∷ ks) = is_new earlier k && all_new (earlier ++ (k ∷ [])) ks

abbrev pub loaders_fit : List ℕ → Bool
loaders_fit ks = all_new [] ks

-- what is asked of the sheet itself, in planning's order, no line being to blame: of its sizes and its slots, and then of its rules' counts
abbrev pub slot_questions : Sheet → List Question
slot_questions s =
    ask 6 0 (span_fits s) ∷ ask 9 0 (units_fit s) ∷ ask 10 0 (rules_fit s) ∷ ask 7 0 (windows_fit s) ∷ ask 7 0 (stretches_fit s) ∷ []

abbrev pub count_questions : Sheet → List Question
count_questions s = ask 8 0 (counts_fit s) ∷ []

abbrev pub sheet_questions : Sheet → List Question
sheet_questions s = slot_questions s ++ count_questions s

-- every answer is yes
unfoldable pub accepted : Sheet → Bool
accepted s = every (λ q. q.yes) (sheet_questions s)
