-- The questions of planning from lists, in their order: docs/RULES.md, "The order of the questions". Definitions only.
use Rattle.std.specs.Prelude.{Bool, List, [], ◌∷◌, ◌++◌}
use Rattle.questions.specs.Questions.{Question, ask, Verdict, first_no}
use Rattle.sheet.specs.Lists.{WrittenLists, given_by, all_agree}
use Rattle.sheet.specs.Questions.{loaders_fit, slot_questions, count_questions}
use Rattle.plan_rooms.specs.Rooms.{Rooms, plan_lent, rooms_fit}
use Rattle.plan_rooms.specs.declared.Lengths.{Lengths}

-- none is asked of a line

-- what is asked of the lists
abbrev pub list_questions : WrittenLists → List Question
list_questions l = ask 13 0 (all_agree l) ∷ (slot_questions (given_by l) ++ (ask 16 0 (loaders_fit l.loader) ∷ count_questions (given_by l)))

-- what a call asks: its lists, and then whether the rooms that it asks for are long enough (12)
abbrev pub questions : WrittenLists → Bool → List Question
questions l rooms = list_questions l ++ (ask 12 0 rooms ∷ [])

-- the refusal, by number and line, or none
unfoldable pub refusal_by : WrittenLists → Bool → Verdict
refusal_by l rooms = first_no (questions l rooms)

-- that of a call whose rooms have these lengths
abbrev pub refusal_in : WrittenLists → Lengths → Verdict
refusal_in l r = refusal_by l (rooms_fit (given_by l) r)

-- that of planning, whose rooms are these
abbrev pub refusal : WrittenLists → Rooms → Verdict
refusal l r = refusal_in l (plan_lent r)
