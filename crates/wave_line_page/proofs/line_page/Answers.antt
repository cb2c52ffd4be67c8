-- Each arm writes what was found, and what was found is what there is to find.
use Rattle.std.proofs.Common.{ℕ, ◌≡◌, ◌+◌, length, arith, Err}
use Rattle.sheet.specs.Sizes.{max_bytes}
use Rattle.print_bytes.proofs.WritingLaws.{refused_short}
use Rattle.wave_line_page.specs.LinePageLaws.{Known}
use Rattle.wave_line_page.proofs.ShownLaws.{known, inside, shows}
use Rattle.wave_line_page.proofs.line_page.Goals.{In-Err}
use Rattle.wave_line_page.proofs.line_page.Goals as goal

small : (c : In-Err) → Known (Err c.in-Err.blamed)
small c = known _ _ _ _ c.in-Err.ensures

pub overflow_cast-refusal : goal.overflow_cast-refusal
overflow_cast-refusal c = omega (arith, (small (goal.at.overflow_cast-refusal c).In-Err).1)

pub overflow_cast-refusal-in-Err : goal.overflow_cast-refusal-in-Err
overflow_cast-refusal-in-Err c = omega (arith, (small (goal.at.overflow_cast-refusal-in-Err c).In-Err).2)

pub put_refusal-place-requires : goal.put_refusal-place-requires
put_refusal-place-requires c =
    let f = c.in-Err.blamed.refusal in
    let s = small (goal.at.put_refusal-place-requires c).In-Err in
    let size : length c.args.page.now ≡ max_bytes + 2 = omega arith in
    record { fits = omega (arith, refused_short f.number f.line s.1 (omega (arith, s.2)), size) }

pub put_line-requires : goal.put_line-requires
put_line-requires c =
    let q = rw c.in-Ok-First.field-0-is at c.in-Ok-First.ensures in
    let i = inside _ _ _ _ q in
    (i.0, i.1, c.requires.0)

pub put_line-requires-in-Ok-Second : goal.put_line-requires-in-Ok-Second
put_line-requires-in-Ok-Second c =
    let q = rw c.in-Ok-Second.field-0-is at c.in-Ok-Second.ensures in
    let i = inside _ _ _ _ q in
    (i.0, i.1, c.requires.1)

pub returns-in-Err : goal.returns-in-Err
returns-in-Err c = let s = shows _ _ _ _ c.in-Err.ensures _ _ _ c.put_refusal-place.ensures in record { value = s.0; page_after = s.1 }

pub returns-in-Ok-First : goal.returns-in-Ok-First
returns-in-Ok-First c =
    let q = rw c.in-Ok-First.field-0-is at c.in-Ok-First.ensures in
    let s = shows _ _ _ _ q _ _ _ c.put_line.ensures in
    record { value = s.0; page_after = s.1 }

pub returns-in-Ok-Second : goal.returns-in-Ok-Second
returns-in-Ok-Second c =
    let q = rw c.in-Ok-Second.field-0-is at c.in-Ok-Second.ensures in
    let s = shows _ _ _ _ q _ _ _ c.put_line-in-Ok-Second.ensures in
    record { value = s.0; page_after = s.1 }
