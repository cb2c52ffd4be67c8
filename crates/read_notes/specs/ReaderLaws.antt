-- The laws of the two readers.
-- Key idea: to close j + 1 + k lists is to close j + 1 of them and then, from what is left, the other k (`in_turn_lem`). So the list reader may leave each
-- inner list to the item reader and go on from there, and depth alone, which `matched` counts, says the same (`list_matched`).
use Rattle.std.specs.Prelude.{ℕ, zero, suc, ◌+◌, ◌-◌, ◌≤◌, ◌<◌, ◌≡◌, Bool, true, false, ◌&&◌, cond, List, [], ◌∷◌, length, drop, get_or, eqb, ltb, Some, None}
use Rattle.std.proofs.Math.Path.{refl}
use Rattle.std.proofs.Common.{sym, ap, ◌∙◌, add-zero, arith, add-one, length-drop, drop_of_length-le, drop-drop, drop-cons, eq-eqb, ne_eqb, lt-ltb, le-ltb}
use Rattle.forms.specs.Words.{opening, closing}
use Rattle.read_notes.specs.Note.{max_depth, matched}
use Rattle.read_notes.specs.Readers.{Rest, rest, unmatched, leave, after_list, after_item, end_of, none, at_end}

-- ---- one list after the other

-- past a list of depth d, from inside k lists, read on from what is left
abbrev pub after : Rest → ℕ → ℕ → Rest
after (rest l) k d = after_list l k d
after unmatched k d = unmatched

abbrev InTurn : List ℕ → Type 0
InTurn l = (n j k d : ℕ) → n ≡ j + suc k → after_list l n d ≡ after (after_list l j (d + suc k)) k d

module _ (l : List ℕ) (tail : InTurn l) (k d : ℕ) where
  turn_closing : (n j : ℕ) → n ≡ j + suc k → leave n (rest l) (λ i. after_list l i d) ≡ after (leave j (rest l) (λ i. after_list l i (d + suc k))) k d
  turn_closing zero j e = absurd (omega arith)
  turn_closing (suc n) zero e = let m : n ≡ k = omega arith in ap (λ (i : ℕ). after_list l i d) m
  turn_closing (suc n) (suc j) e = tail n j k d (omega arith)

  turn : (n j : ℕ) → n ≡ j + suc k → (t u v : Bool)
      → cond t (leave n (rest l) (λ i. after_list l i d)) (cond u (cond v (after_list l (suc n) d) unmatched) (after_list l n d))
      ≡ after (cond t (leave j (rest l) (λ i. after_list l i (d + suc k)))
      (cond u (cond v (after_list l (suc j) (d + suc k)) unmatched) (after_list l j (d + suc k)))) k d
  turn n j e true u v = turn_closing n j e
  turn n j e false true true = tail (suc n) (suc j) k d (omega arith)
  turn n j e false true false = refl
  turn n j e false false v = tail n j k d e

in_turn_lem : (l : List ℕ) → InTurn l
unfolding after_list
in_turn_lem [] n j k d e = refl
in_turn_lem (b ∷ l) n j k d e =
    let same : d + suc k + j ≡ d + n = omega arith in
    rw same (turn l (in_turn_lem l) k d n j e (eqb b closing) (eqb b opening) (ltb (d + n) max_depth))

-- a list that does not end here has an item first
item_first : (b : ℕ) (l : List ℕ) (d : ℕ) → eqb b closing ≡ false → after_list (b ∷ l) zero d ≡ after (after_item (b ∷ l) d) zero d
unfolding after_list after_item
item_first b l d e = rw (e, add-zero d) (go (eqb b opening) (ltb d max_depth))
  where
    go : (u v : Bool) → cond u (cond v (after_list l (suc zero) d) unmatched) (after_list l zero d)
        ≡ after (cond u (cond v (after_list l zero (d + 1)) unmatched) (rest l)) zero d
    go true true = in_turn_lem l (suc zero) zero zero d (omega arith)
    go true false = refl
    go false v = refl

-- ---- depth alone says whether the outer list ends at the text's end

none_matched : (l : List ℕ) → none l ≡ matched l zero
unfolding matched
none_matched [] = refl
none_matched (b ∷ l) = refl

pub list_matched : (l : List ℕ) (k : ℕ) → at_end (after_list l k 1) ≡ matched l (suc k)
unfolding after_list matched
list_matched [] k = refl
list_matched (b ∷ l) k =
    let one : 1 + k ≡ suc k = omega arith in
    rw one (go k (eqb b closing) (eqb b opening) (ltb (suc k) max_depth) (λ j. list_matched l j))
  where
    go : (k : ℕ) (t u v : Bool) → ((j : ℕ) → at_end (after_list l j 1) ≡ matched l (suc j))
        → at_end (cond t (leave k (rest l) (λ j. after_list l j 1)) (cond u (cond v (after_list l (suc k) 1) unmatched) (after_list l k 1)))
        ≡ cond t (matched l k) (cond u (v && matched l (suc (suc k))) (matched l (suc k)))
    go zero true u v tail = none_matched l
    go (suc k) true u v tail = tail k
    go k false true true tail = tail (suc k)
    go k false true false tail = refl
    go k false false v tail = tail k

-- ---- what is left is the text's end, and shorter

pub record Tail (l r : List ℕ) : Type 0 where
  pub short : length r < length l
  pub tail : r ≡ drop (length l - length r) l

abbrev pub TailOf : List ℕ → Rest → Type 0
TailOf l (rest r) = Tail l r
TailOf l unmatched = Unit {0}

longer : (b : ℕ) (l : List ℕ) (o : Rest) → TailOf l o → TailOf (b ∷ l) o
longer b l unmatched t = tt
longer b l (rest r) t =
    let e : suc (length l) - length r ≡ suc (length l - length r) = omega arith in
    record { short = omega arith; tail = t.tail ∙ ap (λ (k : ℕ). drop k (b ∷ l)) (sym e) }

here : (b : ℕ) (l : List ℕ) → Tail (b ∷ l) l
here b l =
    let e : suc (length l) - length l ≡ 1 = omega arith in
    record { short = omega arith; tail = ap (λ (k : ℕ). drop k (b ∷ l)) (sym e) }

either : (l : List ℕ) (t : Bool) (x y : Rest) → TailOf l x → TailOf l y → TailOf l (cond t x y)
either l true x y p q = p
either l false x y p q = q

leaves : (b : ℕ) (l : List ℕ) (k d : ℕ) → ((j : ℕ) → TailOf l (after_list l j d)) → TailOf (b ∷ l) (leave k (rest l) (λ j. after_list l j d))
leaves b l zero d f = here b l
leaves b l (suc k) d f = longer b l (after_list l k d) (f k)

list_tail : (l : List ℕ) (k d : ℕ) → TailOf l (after_list l k d)
unfolding after_list
list_tail [] k d = tt
list_tail (b ∷ l) k d =
    let down = longer b l (after_list l (suc k) d) (list_tail l (suc k) d) in
    let on = longer b l (after_list l k d) (list_tail l k d) in
    either (b ∷ l) (eqb b closing) _ _ (leaves b l k d (λ j. list_tail l j d))
    (either (b ∷ l) (eqb b opening) _ _ (either (b ∷ l) (ltb (d + k) max_depth) (after_list l (suc k) d) unmatched down tt) on)

pub item_tail : (l : List ℕ) (d : ℕ) → TailOf l (after_item l d)
unfolding after_item
item_tail [] d = tt
item_tail (b ∷ l) d =
    either (b ∷ l) (eqb b opening) _ (rest l)
    (either (b ∷ l) (ltb d max_depth) (after_list l zero (d + 1)) unmatched (longer b l (after_list l zero (d + 1)) (list_tail l zero (d + 1))) tt) (here b l)

-- ---- what each way out of the two readers answers, at a place of a text

module _ (s : List ℕ) (at d : ℕ) where
  pub list_past : length s ≤ at → None ≡ end_of (length s) (after_list (drop at s) zero d)
  unfolding after_list end_of
  list_past h = rw (drop_of_length-le s h) refl

  one_byte : at < length s → length s - length (drop (suc at) s) ≡ at + 1
  one_byte h = omega (arith, length-drop (suc at) s)

  pub list_closed : at < length s → get_or s at 0 ≡ closing → Some (at + 1) ≡ end_of (length s) (after_list (drop at s) zero d)
  unfolding after_list end_of
  list_closed h e = rw (drop-cons s at 0 h) (rw (eq-eqb (get_or s at 0) closing e) (ap Some (sym (one_byte h))))

  pub list_item : at < length s → (get_or s at 0 ≡ closing → ⊥) → after_list (drop at s) zero d ≡ after (after_item (drop at s) d) zero d
  list_item h e = rw (drop-cons s at 0 h) (item_first (get_or s at 0) (drop (suc at) s) d (ne_eqb (get_or s at 0) closing e))

  pub item_deep : at < length s → get_or s at 0 ≡ opening → max_depth ≤ d → None ≡ end_of (length s) (after_item (drop at s) d)
  unfolding after_item end_of
  item_deep h e k = rw (drop-cons s at 0 h) (rw (eq-eqb (get_or s at 0) opening e) (rw (le-ltb d max_depth k) refl))

  pub item_list : at < length s → get_or s at 0 ≡ opening → d < max_depth → after_list (drop (at + 1) s) zero (d + 1) ≡ after_item (drop at s) d
  unfolding after_item
  item_list h e k = rw (add-one at) (rw (drop-cons s at 0 h) (rw (eq-eqb (get_or s at 0) opening e) (rw (lt-ltb d max_depth k) refl)))

  pub item_byte : at < length s → (get_or s at 0 ≡ opening → ⊥) → Some (at + 1) ≡ end_of (length s) (after_item (drop at s) d)
  unfolding after_item end_of
  item_byte h e = rw (drop-cons s at 0 h) (rw (ne_eqb (get_or s at 0) opening e) (ap Some (sym (one_byte h))))

-- an item that was read up to `next`: that is further on, within the text, and the list goes on from there
pub record Went (s : List ℕ) (at d next : ℕ) (o : Rest) : Type 0 where
  pub further : at < next
  pub within : next ≤ length s
  pub on : after o zero d ≡ after_list (drop next s) zero d

pub went : (s : List ℕ) (at d next : ℕ) (o : Rest) → TailOf (drop at s) o → at < length s → end_of (length s) o ≡ Some next → Went s at d next o
unfolding end_of
went s at d next (rest r) t h e =
    let n : length s - length r ≡ next = cc in
    let m : length (drop at s) ≡ length s - at = length-drop at s in
    let k : at + (length (drop at s) - length r) ≡ next = omega arith in
    record {
      further = omega arith;
      within = omega arith;
      on = ap (λ (l : List ℕ). after_list l zero d) (t.tail ∙ drop-drop (length (drop at s) - length r) at s ∙ ap (λ (j : ℕ). drop j s) k);
    }
went s at d next unmatched t h e = let z : ◌≡◌ {A = ℕ} 0 1 = cc in absurd (omega arith)

-- an item that could not be read: nor can the list
pub item_unmatched : (n : ℕ) (o : Rest) (d : ℕ) → end_of n o ≡ None → None ≡ end_of n (after o zero d)
unfolding end_of
item_unmatched n (rest r) d e = let z : ◌≡◌ {A = ℕ} 0 1 = cc in absurd (omega arith)
item_unmatched n unmatched d e = refl
