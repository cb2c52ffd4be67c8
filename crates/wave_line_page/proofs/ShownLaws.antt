-- What was found is written, and the reply tells of it.
-- Key idea: one law over whatever was found, of which each arm of the code is a case.
use mathlib.Core.Path.{◌≡◌, sym, ap, ap₂, subst, ◌∙◌}
use mathlib.Core.List.{List}
use Prim.Native.Nat.{ℕ}
use native.Mathlib.Omega.{arith}
use lib.ListN.{length}
use Rattle.print_bytes.specs.Writing.{with_bytes, Written}
use Rattle.merge_lines.specs.Lines.{found_line}
use Rattle.merge_lines.specs.LinesLaws.{Inside, found_inside}
use Rattle.std.specs.Prelude.{Result}
use Rattle.merge_questions.specs.declared.Blamed.{Blamed}
use Rattle.merge_lines.specs.declared.LinePlace.{LinePlace}
use Rattle.wave_line_page.specs.LinePage.{bytes_of, line_page, shown_by, showing}
use Rattle.wave_line_page.specs.LinePageLaws.{Known, found_known}

module _ (one two : List ℕ) (k : ℕ) (r : Result LinePlace Blamed) (q : r ≡ found_line one two k) where
  pub known : Known r
  known = subst Known (sym q) (found_known one two k)

  pub inside : Inside one two k r
  inside = subst (Inside one two k) (sym q) (found_inside one two k)

  pub shows : (page left : List ℕ) (next : ℕ) → Written page 0 (bytes_of one two r) left next
      → (shown_by r next ≡ showing one two k) × (left ≡ with_bytes page 0 (line_page one two k))
  shows page left next w =
      let moved : next ≡ length (bytes_of one two r) = omega (arith, w.moved) in (
        ap₂ shown_by q (moved ∙ ap (λ f. length (bytes_of one two f)) q),
        w.filled ∙ ap (λ f. with_bytes page 0 (bytes_of one two f)) q,
      )
