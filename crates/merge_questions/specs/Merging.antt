-- What merging two texts of our own format asks and answers (docs/RULES.md, "Two sheets made one"). Definitions only.
use Rattle.std.specs.Prelude.{ℕ, suc, ◌-◌, Bool, ◌&&◌, not, cond, List, [], ◌∷◌, ◌++◌, eqb, leb, ltb, length, get_or, take, Result, Ok, Err}
use Rattle.lists.specs.Lists.{every, keep, member}
use Rattle.lists.specs.First.{first_place}
use Rattle.questions.specs.Questions.{Question, ask, Verdict, no, all_yes, first_no}
use Rattle.sheet.specs.Sizes.{max_units, max_rules}
use Rattle.sheet.specs.Sheet.{Rule, WrittenSheet, loaders, on_stretch, head_or, no_rule}
use Rattle.sheet.specs.declared.Sheet.{Sheet}
use Rattle.forms.specs.declared.House.TheVariants.{Ours}
use Rattle.read_questions.specs.Reading.{sheet_in, ListRooms, lists_fit, Reply, refused, read, concluded}
use Rattle.lists.specs.Last.{last_passing}
use Rattle.merge_sheets.specs.Merge.{merged_rules, merged, crossed}
use Rattle.merge_read.specs.Behind.{text_questions}
use Rattle.read_places.specs.Places.{spots, no_spot}
use Rattle.read_form.specs.declared.Kind.{Kind}
use Rattle.read_form.specs.declared.Kind.TheVariants as Kind
use Rattle.merge_questions.specs.declared.Blamed.{Blamed}

-- ---- the lines that refusals name, all of the second text

-- the number of the j-th line of a kind, from 0; 0 where there is none
abbrev pub line_number : List ℕ → Kind → ℕ → ℕ
line_number text k j = (get_or (spots k text) j no_spot).number

-- ---- 19, 20 and 9, of two spans and of the loader numbers of two sheets

-- does the number at this place of the second list stand in the first?
abbrev pub shared_at : List ℕ → List ℕ → ℕ → Bool
shared_at ones twos j = member (get_or twos j 0) ones

abbrev pub unit_questions : List ℕ → ℕ → ℕ → List ℕ → List ℕ → List Question
unit_questions two p q ones twos =
    ask 19 (line_number two Kind.Sheet 0) (eqb p q) ∷
    ask 20 (line_number two Kind.Unit (first_place (length twos) (shared_at ones twos))) (every (λ k. not (member k ones)) twos) ∷
    ask 9 (line_number two Kind.Unit (max_units - length ones)) (leb (length (ones ++ twos)) max_units) ∷
    []

-- ---- 21 and 10, of the rules of two sheets

-- the first rule whose low is above its high
abbrev pub first_crossed : List Rule → Rule
first_crossed rs = head_or no_rule (keep crossed rs)

-- have the rules up to this place more stretches than a sheet may have rules?
abbrev pub too_many_at : List Rule → ℕ → Bool
too_many_at rs j = ltb max_rules (length (merged_rules (take (suc j) rs)))

-- the place of the last of some rules that is on another's stretch; where none is, how many they are, and so the place of no rule
abbrev pub last_on : List Rule → Rule → ℕ
last_on rs q = last_passing (length rs) (λ j. on_stretch q.from q.to (get_or rs j no_rule))

-- of the combined rules, by the place among the second sheet's rules of the last on a stretch, and of the one that makes too many
abbrev pub stretch_questions : List ℕ → (Rule → ℕ) → List Rule → ℕ → List Question
stretch_questions two last combined past =
    ask 21 (line_number two Kind.Rule (last (first_crossed combined))) (every (λ r. not (crossed r)) combined) ∷
    ask 10 (line_number two Kind.Rule past) (leb (length combined) max_rules) ∷
    []

abbrev pub rule_questions : List ℕ → List Rule → List Rule → List Question
rule_questions two ones twos =
    let all = ones ++ twos in
    stretch_questions two (last_on twos) (merged_rules all) (first_place (length all) (too_many_at all) - length ones)

-- ---- all of them

abbrev pub join_questions : List ℕ → WrittenSheet → WrittenSheet → List Question
join_questions two a b = unit_questions two a.span b.span (loaders a) (loaders b) ++ rule_questions two a.rules b.rules

-- all questions but 12
unfoldable pub merge_questions : List ℕ → List ℕ → List Question
merge_questions one two = text_questions Ours one ++ (text_questions Ours two ++ join_questions two (sheet_in Ours one) (sheet_in Ours two))

-- the merged sheet
abbrev pub merged_in : List ℕ → List ℕ → WrittenSheet
merged_in one two = merged (sheet_in Ours one) (sheet_in Ours two)

-- with 12, for rooms of these sizes
unfoldable pub merging : List ℕ → List ℕ → ListRooms ℕ → Reply
merging one two sizes =
    let m = merged_in one two in
    concluded (first_no (merge_questions one two ++ (ask 12 0 (lists_fit (length m.units) (length m.rules) sizes) ∷ []))) m

-- ---- which sheet a refusal is of: the first, where its own questions have a no, or where rules cross that are all its own; else the second

abbrev pub blamed : Verdict → Verdict → ℕ
blamed (no q n) v = 1
blamed all_yes (no q n) = cond (eqb q 21 && eqb n 0) 1 2
blamed all_yes all_yes = 0

unfoldable pub blamed_sheet : List ℕ → List ℕ → ℕ
blamed_sheet one two = blamed (first_no (text_questions Ours one)) (first_no (merge_questions one two))

-- ---- the code's reply: all questions but 12

abbrev pub joined_reply : Result Sheet Blamed → Reply
joined_reply (Err b) = refused b.refusal.number b.refusal.line
joined_reply (Ok s) = read s.span s.units s.rules

abbrev pub joined_blame : Result Sheet Blamed → ℕ
joined_blame (Err b) = b.sheet
joined_blame (Ok s) = 0
