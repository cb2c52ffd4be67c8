-- The words that the program takes, and what each asks for. Definitions only.
use Rattle.std.specs.Prelude.{◌≡◌, ◌⊎◌, List, [], ◌∷◌, ℕ, Option, Some, None}
use Rattle.forms.specs.Words.{text}
use Rattle.forms.specs.declared.House.TheVariants.{Ours, Partner}
use Rattle.wave_words.specs.declared.Query.TheVariants.{Plan, Fits}
use Rattle.wave_words.specs.declared.Asked.{Asked}
use Rattle.wave_words.specs.declared.Asked.TheVariants as asked

-- a word, how many further words it takes, and what it then asks for
pub record Word : Type 0 where
  pub bytes : List ℕ
  pub takes : ℕ
  pub asks : Asked

abbrev pub words : List Word
words =
    record { bytes = text "plan"; takes = 0; asks = asked.Answer Ours Plan } ∷
    record { bytes = text "fits"; takes = 0; asks = asked.Answer Ours Fits } ∷
    record { bytes = text "partner"; takes = 0; asks = asked.Answer Partner Plan } ∷
    record { bytes = text "from-partner"; takes = 0; asks = asked.Convert Partner Ours } ∷
    record { bytes = text "to-partner"; takes = 0; asks = asked.Convert Ours Partner } ∷
    record { bytes = text "merge"; takes = 2; asks = asked.Merge } ∷
    record { bytes = text "line"; takes = 3; asks = asked.Line } ∷
    []

-- that the word, with so many more, is this one
abbrev pub Calls : Word → List ℕ → ℕ → Type 0
Calls w word more = (word ≡ w.bytes) × (more ≡ w.takes)

-- what the first of these that is the word asks for, and where none is, nothing
abbrev pub FoundIn : List Word → Option Asked → List ℕ → ℕ → Type 0
FoundIn [] asks word more = asks ≡ None
FoundIn (w ∷ ws) asks word more = (Calls w word more × (asks ≡ Some w.asks)) ⊎ ((Calls w word more → ⊥) × FoundIn ws asks word more)

abbrev pub AsksFor : Option Asked → List ℕ → ℕ → Type 0
AsksFor asks word more = FoundIn words asks word more
