-- The next line is that of the unit at place j.
use Rattle.std.proofs.Common.{◌≡◌, sym, ◌∙◌, List, ◌∷◌, map, ℕ, ◌+◌, ◌<◌, ◌≤◌, length, get_or, drop, arith}
use Rattle.forms.specs.declared.House.{House}
use Rattle.sheet.specs.Sheet.{no_unit}
use Rattle.sheet.specs.Questions.{windows_of}
use Rattle.sheet.proofs.QuestionLaws.{windows_of_length}
use Rattle.sheet.specs.Lists.{units_of}
use Rattle.sheet.proofs.WrittenLaws.{units_of_length, units_of_at}
use Rattle.sheet_texts.specs.SheetText.{unit_text}
use Rattle.print_bytes.specs.Writing.{Written}
use Rattle.print_bytes.proofs.WritingLaws.{Pending, pending_room, pending_after}
use Rattle.write_entries.specs.Lines.{unit_with, Stretches}
use Rattle.write_lines.specs.LinesLaws.{texts_next, texts_end}
use Rattle.write_lines.proofs.put_units.Goals as goal

module _ (h : House) (loader first last : List ℕ) (fit : (length loader ≡ length first) × Stretches first last) where
  units_length : length (units_of loader (windows_of first last)) ≡ length first
  units_length =
      let n = windows_of_length first last fit.1.paired in
      units_of_length loader (windows_of first last) (fit.0 ∙ sym n) ∙ n

  module _ {page₀ : List ℕ} {at₀ : ℕ} {whole page : List ℕ} {at : ℕ} (j : ℕ)
      (l : Pending page₀ at₀ whole page at (map (unit_text h) (drop j (units_of loader (windows_of first last))))) where
    next : j < length first
        → Pending page₀ at₀ whole page at (unit_text h (unit_with (get_or loader j 0) (get_or first j 0) (get_or last j 0))
        ∷ map (unit_text h) (drop (j + 1) (units_of loader (windows_of first last))))
    next less =
        texts_next (unit_text h) no_unit (units_of loader (windows_of first last)) j _ (units_of_at loader first last fit.0 fit.1.paired j less)
        (omega (arith, units_length)) l

    none : length first ≤ j → Written page₀ at₀ whole page at
    none more = texts_end (unit_text h) no_unit (units_of loader (windows_of first last)) j (omega (arith, units_length)) l

pub put_unit-next-requires-clause-room : goal.put_unit-next-requires-clause-room
put_unit-next-requires-clause-room c = pending_room (next _ _ _ _ c.requires.loader_len _ c.loop-j.invariant c.loop-j-test.true)

pub loop-j-preserved : goal.loop-j-preserved
loop-j-preserved c = pending_after (next _ _ _ _ c.requires.loader_len _ c.loop-j.invariant c.loop-j-test.true) c.put_unit-next.ensures

pub returns : goal.returns
returns c = none _ _ _ _ c.requires.loader_len _ c.loop-j.invariant c.loop-j-test.false
