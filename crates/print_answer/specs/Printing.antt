-- What printing answers and leaves: what planning from the same lists and rooms does, and then question 15 (docs/RULES.md, "What a call leaves").
-- Definitions only. `Settled` of planning says what planning replies and leaves; the bytes are the page's.
use Rattle.std.specs.Prelude.{◌≡◌, Bool, true, false, List, ℕ, ◌+◌, leb, length, take}
use Rattle.sheet.specs.Sheet.{Sheet}
use Rattle.sheet.specs.Lists.{WrittenLists, given_by}
use Rattle.plan_rooms.specs.Rooms.{Rooms}
use Rattle.plan_answers.specs.Planning.{Conclusion, conclusion, Settled}
use Rattle.plan_answers.specs.Reply as planning
use Rattle.print_bytes.specs.Writing.{with_bytes}
use Rattle.pages.specs.SheetPages.{plan_bytes, ring_bytes}
use Rattle.print_answer.specs.Reply as says

-- 15: does the page, from its running place on, hold the whole answer?
abbrev pub holds : List ℕ → ℕ → List ℕ → Bool
holds page at bytes = leb (at + length bytes) (length page)

-- what a call leaves: its reply, the rooms and the page
pub record Outcome (reply : says.Reply) (after : Rooms) (left : List ℕ) (expected : says.Reply) (rooms : Rooms) (page : List ℕ) : Type 0 where
  pub replied : reply ≡ expected
  pub lent : after ≡ rooms
  pub shown : left ≡ page

-- an answer that the page holds stands there from the place on, and the rooms are as planning leaves them; by 15 nothing is changed
abbrev pub Asked : Bool → (ℕ → says.Reply) → List ℕ → Rooms → Rooms → List ℕ → ℕ → says.Reply → Rooms → List ℕ → Type 0
Asked true told bytes before planned page at reply after left = Outcome reply after left (told (at + length bytes)) planned (with_bytes page at bytes)
Asked false told bytes before planned page at reply after left = Outcome reply after left (says.refused 15 0) before page

-- printing, after planning has replied and left the rooms so
abbrev pub Shown : planning.Reply → List ℕ → Sheet → Rooms → Rooms → List ℕ → ℕ → says.Reply → Rooms → List ℕ → Type 0
Shown (planning.refused q n) ks s before planned page at reply after left = Outcome reply after left (says.refused q n) planned page
Shown planning.plan ks s before planned page at reply after left =
    Asked (holds page at (plan_bytes ks s)) says.plan (plan_bytes ks s) before planned page at reply after left
Shown (planning.none k) ks s before planned page at reply after left =
    let bytes = ring_bytes s (take k planned.ring) in
    Asked (holds page at bytes) (says.none k) bytes before planned page at reply after left

-- a call of print that comes to a conclusion: what planning replies and leaves, as `Settled` says, and what printing makes of it
pub record PrintingOf (v : Conclusion) (ks : List ℕ) (s : Sheet) (before : Rooms) (page : List ℕ) (at : ℕ)
    (reply : says.Reply) (after : Rooms) (left : List ℕ) : Type 0 where
  pub answer : planning.Reply
  pub planned : Rooms
  pub call : Settled v s before answer planned
  pub shown : Shown answer ks s before planned page at reply after left

-- a call of print, from its lists and rooms, its page and its place
abbrev pub Printing : WrittenLists → Rooms → List ℕ → ℕ → says.Reply → Rooms → List ℕ → Type 0
Printing l before page at reply after left = PrintingOf (conclusion l before) l.loader (given_by l) before page at reply after left
