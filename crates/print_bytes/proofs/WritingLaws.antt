-- Laws of writing in order.
-- Key idea: while something is written piece by piece, what is left to write, written from the present place on, gives the whole page. `Pending` says
-- so, and one law takes it over each piece: the same for a word, a number, a line and all lines of a page. What is written by two calls has the
-- laws `first_room`, `second_room` and `both_written`, and a line that is written pair by pair those of `LineLeft`.
use Rattle.std.specs.Prelude.{◌≡◌, refl, List, [], ◌∷◌, ◌++◌, map, ℕ, suc, ◌+◌, ◌-◌, ◌≤◌, ◌<◌, length, take, drop, replicate}
use Rattle.std.proofs.Common.{sym, ap, ap₂, ◌∙◌, subst, append_assoc, append-nil, arith, add-one, length-append, length-take-le, take_at, drop_at}
use Rattle.std.proofs.lemmas.List.{length-replicate}
use Rattle.std.proofs.lemmas.List.Edits.{sets, sets-eq}
use Rattle.std.proofs.Math.Seq.{length-sets}
use Rattle.lists.specs.Lists.{run, joined}
use Rattle.lists.specs.Slices.{sets_append}
use Rattle.forms.specs.Form.{Piece, word, number, written}
use Rattle.forms.specs.Decimal.{form_line}
use Rattle.forms.specs.DecimalLaws.{line_short}
use Rattle.forms.specs.Forms.{refused_form}
use Rattle.forms.specs.Words.{line_feed, text}
use Rattle.print_bytes.specs.Writing.{with_bytes, Room, Written, refused_line, max_refusal}

-- ---- writing one thing after another
pub bytes_set : (page : List ℕ) (at : ℕ) (bytes : List ℕ) → Room page at bytes → with_bytes page at bytes ≡ sets page at bytes
unfolding with_bytes
bytes_set page at bytes h = sym (sets-eq bytes page at h.fits)

pub bytes_length : (page : List ℕ) (at : ℕ) (bytes : List ℕ) → Room page at bytes → length (with_bytes page at bytes) ≡ length page
bytes_length page at bytes h = ap length (bytes_set page at bytes h) ∙ length-sets page at bytes

-- `whole` is to be written on `page₀` from `at₀` on; when `page` and `at` are reached, the pieces are left to write
pub record Pending (page₀ : List ℕ) (at₀ : ℕ) (whole page : List ℕ) (at : ℕ) (pieces : List (List ℕ)) : Type 0 where
  pub same : sets page at (joined pieces) ≡ sets page₀ at₀ whole
  pub place : at + length (joined pieces) ≡ at₀ + length whole
  pub kept : length page ≡ length page₀
  pub fits : Room page₀ at₀ whole

pub pending_whole : {page : List ℕ} {at : ℕ} {whole : List ℕ} (pieces : List (List ℕ)) → whole ≡ joined pieces → Room page at whole
    → Pending page at whole page at pieces
pending_whole {page} {at} {whole} pieces e h =
    record { same = ap (sets page at) (sym e); place = ap (λ r. at + length r) (sym e); kept = refl; fits = h }

module _ {page₀ : List ℕ} {at₀ : ℕ} {whole page : List ℕ} {at : ℕ} where
  -- there is room for the next piece
  pub pending_room : {piece : List ℕ} {rest : List (List ℕ)} → Pending page₀ at₀ whole page at (piece ∷ rest) → Room page at piece
  pending_room {piece} {rest} l = record { fits = omega (arith, length-append piece (joined rest)) }

  -- once it is written, the rest is left
  pub pending_after : {piece : List ℕ} {rest : List (List ℕ)} {page' : List ℕ} {at' : ℕ} → Pending page₀ at₀ whole page at (piece ∷ rest)
      → Written page at piece page' at' → Pending page₀ at₀ whole page' at' rest
  pending_after {piece} {rest} {page'} {at'} l w =
      let e : page' ≡ sets page at piece = w.filled ∙ bytes_set page at piece (pending_room l) in
      record {
        same = ap₂ (λ p k. sets p k (joined rest)) e w.moved ∙ sym (sets_append piece (joined rest) page at) ∙ l.same;
        place = omega (arith, l.place, w.moved, length-append piece (joined rest));
        kept = ap length e ∙ length-sets page at piece ∙ l.kept;
        fits = l.fits;
      }

  -- nothing is left
  pub pending_nothing : Pending page₀ at₀ whole page at [] → Written page₀ at₀ whole page at
  pending_nothing l = record { filled = l.same ∙ sym (bytes_set page₀ at₀ whole l.fits); moved = omega (arith, l.place) }

-- ---- two pieces
pub record Parts (whole first second : List ℕ) : Type 0 where
  pub same : whole ≡ first ++ second

module _ {page : List ℕ} {at : ℕ} {whole first second : List ℕ} (parts : Parts whole first second) (room : Room page at whole) where
  begun : Pending page at whole page at (first ∷ second ∷ [])
  begun = pending_whole (first ∷ second ∷ []) (parts.same ∙ ap (λ r. first ++ r) (sym (append-nil second))) room

  pub first_room : Room page at first
  first_room = pending_room begun

  module _ {page' : List ℕ} {at' : ℕ} (done : Written page at first page' at') where
    pub second_room : Room page' at' second
    second_room = pending_room (pending_after begun done)

    pub both_written : {page'' : List ℕ} {at'' : ℕ} → Written page' at' second page'' at'' → Written page at whole page'' at''
    both_written last = pending_nothing (pending_after (pending_after begun done) last)

-- a line is its last word and the line feed; or it is a word and a number, and then the line of the form's rest. `ds` are the numbers' digits
pub word_line : (w : List ℕ) → Parts (form_line (word w ∷ []) []) w (line_feed ∷ [])
unfolding written
word_line w = record { same = ap (λ r. r ++ (line_feed ∷ [])) (append-nil w) }

abbrev line : List Piece → List (List ℕ) → List ℕ
line f ds = written f ds ++ (line_feed ∷ [])

pair_line : (w d : List ℕ) (f : List Piece) (ds : List (List ℕ)) → line (word w ∷ number ∷ f) (d ∷ ds) ≡ (w ++ d) ++ line f ds
unfolding written
pair_line w d f ds = simp append_assoc

-- ---- a line, pair by pair: what is left of it is the line of the form's rest
pub record LineLeft (page₀ : List ℕ) (at₀ : ℕ) (whole page : List ℕ) (at : ℕ) (f : List Piece) (ds : List (List ℕ)) : Type 0 where
  left : Pending page₀ at₀ whole page at (line f ds ∷ [])

pub line_begun : {page : List ℕ} {at : ℕ} (f : List Piece) (ds : List (List ℕ)) → Room page at (line f ds) → LineLeft page at (line f ds) page at f ds
line_begun f ds room = record { left = pending_whole (line f ds ∷ []) (sym (append-nil (line f ds))) room }

module _ {page₀ : List ℕ} {at₀ : ℕ} {whole page : List ℕ} {at : ℕ} {w : List ℕ} where
  module _ {d : List ℕ} {f : List Piece} {ds : List (List ℕ)} (l : LineLeft page₀ at₀ whole page at (word w ∷ number ∷ f) (d ∷ ds)) where
    next_pair : Pending page₀ at₀ whole page at ((w ++ d) ∷ line f ds ∷ [])
    next_pair =
        let e : joined ((w ++ d) ∷ line f ds ∷ []) ≡ joined (line (word w ∷ number ∷ f) (d ∷ ds) ∷ []) =
        ap (λ r. (w ++ d) ++ r) (append-nil (line f ds)) ∙ sym (append-nil _ ∙ pair_line w d f ds) in
        record { same = ap (sets page at) e ∙ l.left.same; place = ap (λ r. at + length r) e ∙ l.left.place; kept = l.left.kept; fits = l.left.fits }

    pub pair_room : Room page at (w ++ d)
    pair_room = pending_room next_pair

    pub pair_done : {page' : List ℕ} {at' : ℕ} → Written page at (w ++ d) page' at' → LineLeft page₀ at₀ whole page' at' f ds
    pair_done done = record { left = pending_after next_pair done }

  module _ (l : LineLeft page₀ at₀ whole page at (word w ∷ []) []) where
    pub end_room : Room page at (line (word w ∷ []) [])
    end_room = pending_room l.left

    pub line_done : {page' : List ℕ} {at' : ℕ} → Written page at (line (word w ∷ []) []) page' at' → Written page₀ at₀ whole page' at'
    line_done done = pending_nothing (pending_after l.left done)

-- ---- lines one after another

-- the next line stands in front
pub lines_next : {page₀ : List ℕ} {at₀ : ℕ} {whole page : List ℕ} {at : ℕ} (f : ℕ → List ℕ) (i n : ℕ) → i < n
    → Pending page₀ at₀ whole page at (map f (run i (n - i))) → Pending page₀ at₀ whole page at (f i ∷ map f (run (i + 1) (n - (i + 1))))
lines_next {page₀} {at₀} {whole} {page} {at} f i n h l =
    let e : n - i ≡ suc (n - (i + 1)) = omega arith in
    rw (add-one i) (subst (λ k. Pending page₀ at₀ whole page at (map f (run i k))) (rw (add-one i) at e) l)

-- none is left
pub lines_end : {page₀ : List ℕ} {at₀ : ℕ} {whole page : List ℕ} {at : ℕ} (f : ℕ → List ℕ) (i n : ℕ) → n ≤ i
    → Pending page₀ at₀ whole page at (map f (run i (n - i))) → Written page₀ at₀ whole page at
lines_end {page₀} {at₀} {whole} {page} {at} f i n h l =
    let e : n - i ≡ 0 = omega arith in
    pending_nothing (subst (λ k. Pending page₀ at₀ whole page at (map f (run i k))) e l)

-- ---- what was written stands between the two places
pub written_part : {page : List ℕ} {at : ℕ} {bytes left : List ℕ} {next : ℕ} → Room page at bytes → Written page at bytes left next
    → take (next - at) (drop at left) ≡ bytes
unfolding with_bytes
written_part {page} {at} {bytes} {left} {next} room w =
    let n : next - at ≡ length bytes = omega (arith, w.moved) in
    let front : length (take at page) ≡ at = length-take-le at page (omega (arith, room.fits)) in
    let e : drop at left ≡ bytes ++ drop (at + length bytes) page =
    ap (drop at) (w.filled ∙ append_assoc (take at page) bytes (drop (at + length bytes) page))
    ∙ drop_at (take at page) (bytes ++ drop (at + length bytes) page) at front in
    ap₂ take n e ∙ take_at bytes (drop (at + length bytes) page) (length bytes) refl

-- ---- bytes in an array of a call's own, of which they are the front
module _ (most : ℕ) where
  abbrev blank : List ℕ
  blank = replicate most 0

  long : length blank ≡ most
  long = length-replicate {A = ℕ} most 0

  module _ {bytes : List ℕ} (short : length bytes ≤ most) where
    pub own_room : Room blank 0 bytes
    own_room = record { fits = omega (arith, long) }

    module _ {left : List ℕ} {size : ℕ} (w : Written blank 0 bytes left size) where
      pub own_part : take size left ≡ bytes
      own_part = let e : size ≡ size - 0 = omega arith in ap (λ n. take n left) e ∙ written_part own_room w

      pub own_size : size ≡ length bytes
      own_size = omega (arith, w.moved)

      pub own_long : size ≤ length left
      own_long = omega (arith, w.moved, ap length w.filled, bytes_length blank 0 bytes own_room, long)

-- ---- the line of a refusal is short
pub refused_short : (question line : ℕ) → question < 100 → line < 100000 → length (refused_line question line) ≤ max_refusal
unfolding refused_line text
refused_short question line hq hl = line_short refused_form (question ∷ line ∷ []) (2 ∷ 5 ∷ []) (hq, (hl, tt))
