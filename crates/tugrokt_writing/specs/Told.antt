-- What writing tells another language and leaves on the page. Definitions only.
use Rattle.std.specs.Prelude.{◌≡◌, List, ℕ, length}
use Rattle.forms.specs.declared.House.{House}
use Rattle.sheet.specs.Lists.{WrittenLists}
use Rattle.write.specs.Writing.{writing, page_after}
use Rattle.tugrokt_replies.specs.Numbers.{writing_of}
use Rattle.tugrokt_replies.specs.declared.writing.Writing.{Writing}

pub record WriteTold (h : House) (l : WrittenLists) (page : List ℕ) (at : ℕ) (numbers : Writing) (left : List ℕ) : Type 0 where
  pub told : numbers ≡ writing_of at (writing h l (length page) at)
  pub page_left : left ≡ page_after h l page at
