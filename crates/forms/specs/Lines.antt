-- A text's lines: each is ended by a line feed; bytes after the last line feed are a line without one. Definitions only.
use Rattle.std.specs.Prelude.{ℕ, suc, Bool, true, false, cond, List, [], ◌∷◌, ◌++◌, eqb}
use Rattle.forms.specs.Words.{line_feed}

-- a line's bytes, and whether a line feed ends it
pub record TextLine : Type 0 where
  pub bytes : List ℕ
  pub ended : Bool

abbrev pub text_line : List ℕ → Bool → TextLine
text_line w e = record { bytes = w; ended = e }

-- a byte in front of the first line
abbrev pub in_front : ℕ → List TextLine → List TextLine
in_front b [] = text_line (b ∷ []) false ∷ []
in_front b (l ∷ ls) = text_line (b ∷ l.bytes) l.ended ∷ ls

unfoldable pub lines : List ℕ → List TextLine
lines [] = []
lines (b ∷ t) = cond (eqb b line_feed) (text_line [] true ∷ lines t) (in_front b (lines t))

-- a line as it stands in the text
abbrev pub spelt : TextLine → List ℕ
spelt l = l.bytes ++ cond l.ended (line_feed ∷ []) []

-- the first line's bytes, whether a line feed ends it, and the text past it
unfoldable pub first_line : List ℕ → List ℕ
first_line [] = []
first_line (b ∷ t) = cond (eqb b line_feed) [] (b ∷ first_line t)

unfoldable pub has_feed : List ℕ → Bool
has_feed [] = false
has_feed (b ∷ t) = cond (eqb b line_feed) true (has_feed t)

unfoldable pub past_line : List ℕ → List ℕ
past_line [] = []
past_line (b ∷ t) = cond (eqb b line_feed) t (past_line t)

-- how many bytes there are up to and with the last line feed
unfoldable pub whole_lines : List ℕ → ℕ
whole_lines [] = 0
whole_lines (b ∷ t) = cond (has_feed (b ∷ t)) (suc (whole_lines t)) 0
