-- The bytes that texts are written with (ASCII), and the bytes of a word as it is shown.
use Rattle.std.specs.Prelude.{ℕ, ◌+◌, List, [], ◌∷◌}
use Prim.Native.Char.{code}
use Prim.Native.String.{String, [] as end-of-text, ◌∷◌ as ◌then◌}

abbrev pub line_feed : ℕ
line_feed = 10

abbrev pub space : ℕ
space = 32

-- the first and the last byte that may stand in a line
abbrev pub first_printable : ℕ
first_printable = space

abbrev pub last_printable : ℕ
last_printable = 126

abbrev pub zero_digit : ℕ
zero_digit = 48

abbrev pub nine_digit : ℕ
nine_digit = zero_digit + 9

-- the bytes of a word
unfoldable pub text : String → List ℕ
text end-of-text = []
text (c then s) = code c ∷ text s

abbrev pub opening : ℕ
opening = 40

abbrev pub closing : ℕ
closing = 41

-- how a note starts; a space or a closing bracket follows
abbrev pub open_note : List ℕ
open_note = text "(note"
