-- What a reply says of the verdict that it was concluded from.
-- Key idea: a refusal comes from a no and a sheet from none, so the reply gives back the verdict, and a sheet's numbers are the sheet's.
use Rattle.std.specs.Prelude.{ℕ, ◌≡◌, refl, length}
use Rattle.std.proofs.Common.{ap₂, arith}
use Rattle.questions.specs.Questions.{Verdict, no, all_yes}
use Rattle.sheet.specs.Sheet.{WrittenSheet}
use Rattle.read_questions.specs.Reading.{refused, read, concluded}

-- nothing was refused, and these are the sheet's numbers
pub record Accepted (v : Verdict) (w : WrittenSheet) (p u r : ℕ) : Type 0 where
  pub verdict : v ≡ all_yes
  pub span : p ≡ w.span
  pub units : u ≡ length w.units
  pub rules : r ≡ length w.rules

pub concluded_read : (v : Verdict) (w : WrittenSheet) (p u r : ℕ) → read p u r ≡ concluded v w → Accepted v w p u r
concluded_read (no q n) w p u r e = let z : ◌≡◌ {A = ℕ} 0 1 = cc in absurd (omega arith)
concluded_read all_yes w p u r e = record { verdict = refl; span = cc; units = cc; rules = cc }

pub concluded_no : (v : Verdict) (w : WrittenSheet) (q n : ℕ) → refused q n ≡ concluded v w → v ≡ no q n
concluded_no (no p k) w q n e = let a : p ≡ q = cc in let b : k ≡ n = cc in ap₂ no a b
concluded_no all_yes w q n e = let z : ◌≡◌ {A = ℕ} 0 1 = cc in absurd (omega arith)
