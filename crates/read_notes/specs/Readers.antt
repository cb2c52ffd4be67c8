-- What the list reader and the item reader answer. `list_matched` of ReaderLaws ties them to `matched`.
use Rattle.std.specs.Prelude.{ℕ, zero, suc, ◌+◌, ◌-◌, Bool, true, false, cond, List, [], ◌∷◌, length, eqb, ltb, Option, Some, None}
use Rattle.forms.specs.Words.{opening, closing}
use Rattle.read_notes.specs.Note.{max_depth}

-- what is left of a text past a list or an item, or that brackets do not match
pub data Rest : Type 0 where
  rest : List ℕ → Rest
  unmatched : Rest

-- a closing bracket leaves the innermost of k lists, or the outer list where there is none
abbrev pub leave : ℕ → Rest → (ℕ → Rest) → Rest
leave zero r f = r
leave (suc k) r f = f k

-- past a list of depth d, read from inside k lists within it
unfoldable pub after_list : List ℕ → ℕ → ℕ → Rest
after_list [] k d = unmatched
after_list (b ∷ l) k d =
    cond (eqb b closing) (leave k (rest l) (λ j. after_list l j d))
    (cond (eqb b opening) (cond (ltb (d + k) max_depth) (after_list l (suc k) d) unmatched) (after_list l k d))

-- past an item of a list of depth d: a list one deeper, or a byte that opens none
unfoldable pub after_item : List ℕ → ℕ → Rest
after_item [] d = unmatched
after_item (b ∷ l) d = cond (eqb b opening) (cond (ltb d max_depth) (after_list l zero (d + 1)) unmatched) (rest l)

-- the place where the rest of a text of n bytes starts, or none
unfoldable pub end_of : ℕ → Rest → Option ℕ
end_of n (rest l) = Some (n - length l)
end_of n unmatched = None

-- whether nothing is left
abbrev pub none : List ℕ → Bool
none [] = true
none (b ∷ l) = false

abbrev pub at_end : Rest → Bool
at_end (rest l) = none l
at_end unmatched = false
