-- The place that was found lies within its text, and the part of the text that it is.
-- Key idea: each is said of the definition's answer, and what was found is that answer.
use Prim.Native.Nat.{ℕ, ◌≤◌}
use mathlib.Core.Path.{◌≡◌, sym, subst, ◌∙◌}
use mathlib.Core.List.{List}
use lib.ListN.{length}
use denote.Ref.{Bor}
use Rattle.merge_lines.specs.Lines.{found_line, PartAsked}
use Rattle.merge_lines.specs.LinesLaws.{Inside, found_inside}
use Rattle.std.specs.Prelude.{Result, Ok}
use Rattle.merge_questions.specs.declared.Blamed.{Blamed}
use Rattle.merge_lines.specs.declared.LinePlace.{LinePlace}
use Rattle.merge_lines.specs.declared.LinePlace.TheVariants.{First, Second}

-- ---- what was found lies within its text
module _ (one two : List ℕ) (k : ℕ) (found : Result LinePlace Blamed) (e : found ≡ found_line one two k) where
  inside : (r : Result LinePlace Blamed) → found ≡ r → Inside one two k r
  inside r h = subst (Inside one two k) (sym e ∙ h) (found_inside one two k)

  pub in_first : (a b : ℕ) → found ≡ Ok (First a b) → (a ≤ b) × (b ≤ length one)
  in_first a b h = inside (Ok (First a b)) h

  pub in_second_lem : (a b : ℕ) → found ≡ Ok (Second a b) → (a ≤ b) × (b ≤ length two)
  in_second_lem a b h = inside (Ok (Second a b)) h

-- a part, for what was found
pub part_of : (one two r : Bor (List ℕ)) (found told asked : Result LinePlace Blamed) → found ≡ asked → found ≡ told → PartAsked one two r told → PartAsked one two r asked
part_of one two r found told asked e h p = subst (PartAsked one two r) (sym h ∙ e) p
