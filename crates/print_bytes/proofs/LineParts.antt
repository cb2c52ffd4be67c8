-- A line by its parts: a pair and the rest, all its words and numbers, a number's front digits and its last; and a word byte by byte. The code writes a word
-- whole and a line pair by pair now (`WritingLaws.antt`); these laws stand.
use Rattle.std.specs.Prelude.{◌≡◌, List, [], ◌∷◌, ◌++◌, ℕ, suc, ◌/◌, ◌%◌, ◌≤◌, set}
use Rattle.std.proofs.Common.{sym, ap, ◌∙◌, append_assoc, append-nil, arith, length-set}
use Rattle.lists.specs.Lists.{joined}
use Rattle.forms.specs.Form.{Piece, word, number, written}
use Rattle.forms.specs.Decimal.{digits, form_line}
use Rattle.forms.specs.DecimalLaws.{digits_last}
use Rattle.print_bytes.proofs.WritingLaws.{Pending, Parts}

module _ {page₀ : List ℕ} {at₀ : ℕ} {whole page : List ℕ} {at : ℕ} where
  -- one byte is stored
  pub pending_byte : {b : ℕ} {bytes : List ℕ} {rest : List (List ℕ)} → Pending page₀ at₀ whole page at ((b ∷ bytes) ∷ rest)
      → Pending page₀ at₀ whole (set page at b) (suc at) (bytes ∷ rest)
  pending_byte {b} l = record { same = l.same; place = omega (arith, l.place); kept = length-set page at b ∙ l.kept; fits = l.fits }

  pub pending_empty : {rest : List (List ℕ)} → Pending page₀ at₀ whole page at ([] ∷ rest) → Pending page₀ at₀ whole page at rest
  pending_empty l = record { same = l.same; place = l.place; kept = l.kept; fits = l.fits }

-- a line is a word and a number, and then the line of the form's rest; or it is its last word and the line feed
pub pair_line : (w : List ℕ) (n : ℕ) (f : List Piece) (ns : List ℕ) → Parts (form_line (word w ∷ number ∷ f) (n ∷ ns)) (w ++ digits n) (form_line f ns)
unfolding written
pair_line w n f ns = record { same = simp append_assoc }

-- a line is its words and numbers, each by itself, and then its end
abbrev pub pairs_form : List (List ℕ × ℕ) → List ℕ → List Piece
pairs_form [] end = word end ∷ []
pairs_form (p ∷ ps) end = word p.0 ∷ number ∷ pairs_form ps end

abbrev pub pairs_numbers : List (List ℕ × ℕ) → List ℕ
pairs_numbers [] = []
pairs_numbers (p ∷ ps) = p.1 ∷ pairs_numbers ps

abbrev pub words : List (List ℕ × ℕ) → List ℕ → List (List ℕ)
words [] end = form_line (word end ∷ []) [] ∷ []
words (p ∷ ps) end = p.0 ∷ digits p.1 ∷ words ps end

pub line_words : (ps : List (List ℕ × ℕ)) (end : List ℕ) → form_line (pairs_form ps end) (pairs_numbers ps) ≡ joined (words ps end)
line_words [] end = sym (append-nil (form_line (word end ∷ []) []))
line_words (p ∷ ps) end =
    (pair_line p.0 p.1 (pairs_form ps end) (pairs_numbers ps)).same ∙ append_assoc p.0 (digits p.1) (form_line (pairs_form ps end) (pairs_numbers ps))
    ∙ ap (λ r. p.0 ++ (digits p.1 ++ r)) (line_words ps end)

-- a number is its front digits and its last one
pub number_parts : (n : ℕ) → 10 ≤ n → Parts (digits n) (digits (n / 10)) (digits (n % 10))
number_parts n h = record { same = digits_last n h }
