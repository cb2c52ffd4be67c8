-- When the brackets of a note match (question 11).
use Rattle.std.specs.Prelude.{ℕ, zero, suc, Bool, true, false, ◌&&◌, cond, List, [], ◌∷◌, eqb, leb}
use Rattle.forms.specs.Words.{opening, closing}

-- a note's own bracket is depth 1
abbrev pub max_depth : ℕ
max_depth = 16

-- whether the brackets of a text match, with d of them open before it: each is closed, the last one by the last byte, and never more than 16 are open
unfoldable pub matched : List ℕ → ℕ → Bool
matched [] zero = true
matched [] (suc d) = false
matched (b ∷ l) zero = false
matched (b ∷ l) (suc d) =
    cond (eqb b closing) (matched l d)
    (cond (eqb b opening) (leb (suc (suc d)) max_depth && matched l (suc (suc d))) (matched l (suc d)))
