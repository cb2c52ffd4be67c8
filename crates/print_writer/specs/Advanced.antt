-- What a writer is once bytes are written. Definitions only.
use Rattle.std.specs.Prelude.{List, ℕ, ◌+◌, length}
use denote.Ref.{at_last}
use Rattle.print_bytes.specs.Writing.{with_bytes}
use Rattle.print_writer.specs.declared.Writer.{Writer}

-- the same borrow, with the bytes from the writer's place on, and the place just past them. `at_last x l` is the reference x, its pointer and
-- its ghost name with it, at the list l
abbrev pub advanced : Writer → List ℕ → Writer
advanced w bytes = record { page = at_last w.page (with_bytes w.page.now w.place bytes); place = w.place + length bytes }
