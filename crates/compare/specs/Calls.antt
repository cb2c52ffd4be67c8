-- Calls and answers that customers compare, none of them refused. Definitions only.
use Rattle.std.specs.Prelude.{◌≡◌, ◌⊎◌, Bool, true, false, not, List, ℕ, length, take}
use Rattle.lists.specs.Lists.{keep}
use Rattle.lists.specs.Members.{In}
use Rattle.slots.specs.Slots.{Slot, Boundary}
use Rattle.forms.specs.declared.House.{House}
use Rattle.questions.specs.Questions.{all_yes}
use Rattle.sheet.specs.Sheet.{WrittenSheet, constraints, loaders}
use Rattle.sheet.specs.Lists.{WrittenLists, given_by}
use Rattle.plan_rooms.specs.Rooms.{Rooms, DecideRooms, decide_lent}
use Rattle.plan_ask.specs.Questions.{refusal, refusal_in}
use Rattle.plan_answers.specs.Planning.{conclusion, conclusion_in, Settled, DecideSettled}
use Rattle.plan_answers.specs.Reply as says
use Rattle.read_questions.specs.Reading.{sheet_in}
use Rattle.pages.specs.Page.{max_page}
use Rattle.pages.specs.PageLines.{Said, plan, unit, carried, slot, fits, range, none, at_most, at_least, shortfall, refused, other, answer_on}
use Rattle.pages.specs.Pages.{PlanPage, FitsPage, NonePage}
use Rattle.wave_words.specs.declared.Query.{Query}
use Rattle.wave_words.specs.declared.Query.TheVariants.{Plan, Fits}
use Rattle.answer_conditions.specs.Answer.{AnswerTo, Answered, verdict}

-- a call of `plan`: its lists, the rooms before it, its reply and the rooms after it, which are as the entry ensures
pub record PlanCall : Type 0 where
  pub lists : WrittenLists
  pub before : Rooms
  pub reply : says.Reply
  pub after : Rooms
  pub settled : Settled (conclusion lists before) (given_by lists) before reply after
  pub asked : refusal lists before ≡ all_yes

-- the plan at the front of its room
abbrev pub plan_of : PlanCall → List Slot
plan_of p = take (length (given_by p.lists).units) p.after.plan

-- the same of `decide`
pub record DecideCall : Type 0 where
  pub lists : WrittenLists
  pub before : DecideRooms
  pub reply : says.Reply
  pub after : DecideRooms
  pub settled : DecideSettled (conclusion_in lists (decide_lent before)) (given_by lists) before reply after
  pub asked : refusal_in lists (decide_lent before) ≡ all_yes

-- an answer to what is asked of a text of a house: the page before and after, and the place just past the answer, as the entry `answer` ensures
pub record TextAnswer (query : Query) : Type 0 where
  pub house : House
  pub input : List ℕ
  pub page : List ℕ
  pub left : List ℕ
  pub next : ℕ
  pub answered : Answered (AnswerTo house query input) page left next
  pub size : length page ≡ max_page
  pub asked : verdict house input ≡ all_yes

-- its sheet, and its lines as they are read back from the page
abbrev pub text_sheet : {query : Query} → TextAnswer query → WrittenSheet
text_sheet p = sheet_in p.house p.input

abbrev pub lines_of : {query : Query} → TextAnswer query → List Said
lines_of p = answer_on p.left 0 p.next

-- it is the page of the plan x, that of a sheet that fits, or that of a ring
abbrev pub IsPlan : TextAnswer Plan → List Slot → Type 0
IsPlan p x = PlanPage (loaders (text_sheet p)) (constraints (text_sheet p)) x (lines_of p)

abbrev pub IsFit : TextAnswer Fits → Type 0
IsFit p = FitsPage (constraints (text_sheet p)) (lines_of p)

abbrev pub IsNone : {query : Query} → TextAnswer query → List Boundary → Type 0
IsNone p ring = NonePage (constraints (text_sheet p)) ring (lines_of p)

-- ---- the lines of a plan's page

-- a unit's line, carried or not
abbrev pub is_unit_line : Said → Bool
is_unit_line (plan n) = false
is_unit_line (unit k x e l) = true
is_unit_line (carried k e l) = true
is_unit_line (slot s c l g) = false
is_unit_line (fits n) = false
is_unit_line (range s l g) = false
is_unit_line none = false
is_unit_line (at_most v a b) = false
is_unit_line (at_least v a b) = false
is_unit_line (shortfall k) = false
is_unit_line (refused q n) = false
is_unit_line other = false

-- the page without the units' lines: the head, and the line of each slot with its count and range
abbrev pub other_lines : List Said → List Said
other_lines ls = keep (λ l. not (is_unit_line l)) ls

-- some line gives loader k the narrowed window e to f
abbrev pub SaysBetween : ℕ → Slot → Slot → List Said → Type 0
SaysBetween k e f ls = ((t : Slot) × In (unit k t e f) ls) ⊎ In (carried k e f) ls
