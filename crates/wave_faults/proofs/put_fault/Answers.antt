-- A place has at most five digits, so the words fit; which words they are, the number says.
use Rattle.std.proofs.Common.{◌≡◌, ◌≤◌, ℕ, List, [], ◌∷◌, ap, arith, length, ne_eqb, refl, subst, sym}
use Rattle.sheet.specs.Sizes.{max_bytes}
use Rattle.forms.specs.Words.{text}
use Rattle.forms.specs.DecimalLaws.{line_short}
use Rattle.print_bytes.specs.Writing.{one_number, with_bytes, Room, Written}
use Rattle.print_bytes.proofs.WritingLaws.{bytes_length}
use Rattle.wave_faults.specs.Fault.{place_line, fault_words}
use Rattle.wave_faults.proofs.put_fault.Goals as goal

short : (word : List ℕ) (line : ℕ) → length word ≡ 5 → line ≤ max_bytes → length (place_line word line) ≤ 11
short word line w h = omega (arith, w, line_short (one_number word []) (line ∷ []) (5 ∷ []) (omega arith, tt))

-- the place past the words lies within the array
inside : (words left bytes : List ℕ) (next : ℕ) → Room words 0 bytes → Written words 0 bytes left next → next ≤ length left
inside words left bytes next room w = omega (arith, w.moved, ap length w.filled, bytes_length words 0 bytes room, room.fits)

room : (word : List ℕ) (line : ℕ) (words : List ℕ) → length word ≡ 5 → line ≤ max_bytes → length words ≡ 11 → Room words 0 (place_line word line)
room word line words w h long = record { fits = omega (arith, short word line w h, long) }

-- by the number
as_unit : (q line : ℕ) (words left : List ℕ) (next : ℕ) → q ≡ 17 → Written words 0 (place_line (text "unit ") line) left next
    → Written words 0 (fault_words q line) left next
unfolding fault_words
as_unit q line words left next e w = subst (λ n. Written words 0 (fault_words n line) left next) (sym e) w

as_rule : (q line : ℕ) (words left : List ℕ) (next : ℕ) → q ≡ 18 → Written words 0 (place_line (text "rule ") line) left next
    → Written words 0 (fault_words q line) left next
unfolding fault_words
as_rule q line words left next e w = subst (λ n. Written words 0 (fault_words n line) left next) (sym e) w

as_none : (q line : ℕ) (words : List ℕ) → (q ≡ 17 → ⊥) → (q ≡ 18 → ⊥) → Written words 0 (fault_words q line) words 0
unfolding fault_words with_bytes
as_none q line words a b = simp (ne_eqb q 17 a, ne_eqb q 18 b) (record { filled = refl; moved = refl })

pub put_one_number-requires : goal.put_one_number-requires
unfolding text
put_one_number-requires c = room (text "unit ") _ _ refl c.requires c.told-words

pub put_one_number-requires-then-refusal-number-2 : goal.put_one_number-requires-then-refusal-number-2
unfolding text
put_one_number-requires-then-refusal-number-2 c = room (text "rule ") _ _ refl c.requires c.told-words

pub returns-then-refusal-number-clause-written : goal.returns-then-refusal-number-clause-written
unfolding text
returns-then-refusal-number-clause-written c = as_unit _ _ _ _ _ (omega arith) c.put_one_number.ensures

pub returns-then-refusal-number-clause-upper_bound : goal.returns-then-refusal-number-clause-upper_bound
unfolding text
returns-then-refusal-number-clause-upper_bound c =
    inside _ _ _ _ (room (text "unit ") c.args.refusal.line c.args.words.now refl c.requires c.told-words) c.put_one_number.ensures

pub returns-then-refusal-number-2-clause-written : goal.returns-then-refusal-number-2-clause-written
unfolding text
returns-then-refusal-number-2-clause-written c = as_rule _ _ _ _ _ (omega arith) c.put_one_number-then-refusal-number-2.ensures

pub returns-then-refusal-number-2-clause-upper_bound : goal.returns-then-refusal-number-2-clause-upper_bound
unfolding text
returns-then-refusal-number-2-clause-upper_bound c =
    inside _ _ _ _ (room (text "rule ") c.args.refusal.line c.args.words.now refl c.requires c.told-words) c.put_one_number-then-refusal-number-2.ensures

pub returns-else-refusal-number-2-clause-written : goal.returns-else-refusal-number-2-clause-written
returns-else-refusal-number-2-clause-written c = as_none _ _ _ (λ e. omega arith) (λ e. omega arith)
