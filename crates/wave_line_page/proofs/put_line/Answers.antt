-- The line is a part of a text that is no longer than the page has places before the last one.
use Rattle.std.proofs.Common.{ℕ, ◌-◌, ◌+◌, ◌≡◌, List, [], ◌∷◌, ◌++◌, length, take, drop, subst, ap, arith}
use Rattle.sheet.specs.Sizes.{max_bytes}
use Rattle.forms.specs.Words.{line_feed}
use Rattle.forms.specs.Decimal.{form_line}
use Rattle.print_bytes.specs.Writing.{no_number, Written}
use Rattle.print_bytes.proofs.WritingLaws.{word_line}
use Rattle.wave_line_page.specs.LinePageLaws.{line_short}
use Rattle.wave_line_page.proofs.put_line.Goals as goal

-- a line of no number is its bytes and a line feed
as_is : (page line left : List ℕ) (next : ℕ) → Written page 0 (form_line (no_number line) []) left next
    → Written page 0 (line ++ (line_feed ∷ [])) left next
as_is page line left next w = subst (λ b. Written page 0 b left next) (word_line line).same w

pub put_no_number-requires : goal.put_no_number-requires
put_no_number-requires c =
    let a = c.args in
    let text = a.text.now in
    let is = ap length (word_line (take (a.end - a.start) (drop a.start text))).same in
    let size : length a.page.now ≡ max_bytes + 2 = omega arith in
    record { fits = omega (arith, is, line_short text a.start a.end c.requires.1 c.requires.2, size) }

pub returns : goal.returns
returns c = as_is _ _ _ _ c.put_no_number.ensures
