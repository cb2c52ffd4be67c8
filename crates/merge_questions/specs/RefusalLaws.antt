-- A refusal as a verdict, and what `map_err` made of it.
-- Key idea: a case for each variant of what was mapped.
use Rattle.std.specs.Prelude.{ℕ, ◌≡◌, Result, Ok, Err, MatchResult, IsErrAnd}
use Rattle.std.proofs.Common.{refl, sym, ap, ◌∙◌}
use Rattle.questions.specs.Questions.{no}
use Rattle.questions.specs.declared.Refusal.{Refusal}

-- the refusal of a question, at the line that was looked up
pub no_at : (f : Refusal) (q n m : ℕ) → f ≡ record { number = q; line = n } → n ≡ m → no f.number f.line ≡ no q m
no_at f q n m e h = ap (λ (g : Refusal). no g.number g.line) e ∙ ap (no q) h

-- the clause of `map_err`, of what was mapped and of what it became
module _ {A D E : Type 0} (P : D → E → Type 0) where
  abbrev pub Mapped : Result A D → Result A E → Type 0
  Mapped r s = MatchResult r (λ x. s ≡ Ok x) (λ d. IsErrAnd s (P d))

  pub mapped_err : (r : Result A D) (e : E) → Mapped r (Err e) → (d : D) × (r ≡ Err d) × P d e
  mapped_err (Ok x) e m = absurd cc
  mapped_err (Err d) e m = (d, refl, m)

  pub mapped_ok : (r : Result A D) (x : A) → Mapped r (Ok x) → r ≡ Ok x
  mapped_ok (Ok y) x m = let e : y ≡ x = cc in ap Ok e
  mapped_ok (Err d) x m = absurd m
