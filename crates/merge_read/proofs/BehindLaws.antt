-- The arrays after a text was read into their parts from a place on.
-- Key idea: what is set at the front of the part that starts at a place is set in the whole from that place on; what holds of one array holds of all seven.
use Prim.Native.Nat.{ℕ, ◌+◌, ◌-◌, ◌≤◌, ◌<◌}
use mathlib.Core.Path.{◌≡◌, sym, ap, ap₂, ◌∙◌}
use mathlib.Core.List.{List, [], ◌++◌, map, append-nil, append_assoc}
use native.Mathlib.Omega.{arith}
use native.Mathlib.Nat.{zero-add}
use lib.ListN.{length, take, drop, length-map, length-drop, drop_of_length-le}
use lib.Seq.{sets, sets-eq, take_all, drop-drop}
use borrow.Author.Tests.{le-leb, lt-leb}
use Rattle.questions.specs.Questions.{Verdict, first_no}
use Rattle.questions.specs.declared.Refusal.{Refusal}
use Rattle.questions.proofs.FirstNoLaws.{no_here, yes_here}
use Rattle.sheet.specs.Sizes.{max_units, max_rules, max_bytes}
use Rattle.forms.specs.declared.House.{House}
use Rattle.forms.specs.declared.House.TheVariants.{Ours}
use Rattle.read_questions.specs.Reading.{sheet_in, pass_questions, ListRooms, rooms, refused, reply_of, concluded}
use Rattle.read_questions.specs.Steps.{Holds, pass_reply, Kept}
use Rattle.read_questions.proofs.ArrayLaws.{rooms_same}
use Rattle.read_questions.proofs.ConcludedLaws.{concluded_read}
use Rattle.sheet.specs.declared.Sheet.{Sheet}
use Rattle.std.specs.Prelude.{Result, Ok, Err}
use Rattle.merge_read.specs.Behind.{text_reply, KeptBehind}

-- ---- question 1

pub answer_long : (h : House) (t : List ℕ) → max_bytes < length t → refused 1 0 ≡ text_reply h t
unfolding text_reply
answer_long h t long =
    ap (λ (v : Verdict). concluded v (sheet_in h t)) (sym (no_here _ 1 0 (pass_questions h t) (lt-leb (length t) max_bytes long)))

pub answer_short : (h : House) (t : List ℕ) → length t ≤ max_bytes → pass_reply h t ≡ text_reply h t
unfolding text_reply pass_reply
answer_short h t short =
    ap (λ (v : Verdict). concluded v (sheet_in h t)) (sym (yes_here _ 1 0 (pass_questions h t) (le-leb (length t) max_bytes short)))

-- ---- one array

-- the part of an array from a place on, and the array with that part replaced
abbrev pub part_from : ℕ → List ℕ → List ℕ
part_from i t = take (length t - i) (drop i t)

abbrev pub put_from : ℕ → List ℕ → List ℕ → List ℕ
put_from i t ys = take i t ++ (ys ++ drop (length t - i) (drop i t))

pub part_holds : (i n : ℕ) (t : List ℕ) → i + n ≤ length t → n ≤ length (part_from i t)
part_holds i n t h = let e = ap length (take_all (length t - i) (drop i t) (omega (arith, length-drop i t))) in omega (arith, e, length-drop i t)

set_from : (i : ℕ) (t xs : List ℕ) → i + length xs ≤ length t → put_from i t (sets (part_from i t) 0 xs) ≡ sets t i xs
set_from i t xs h =
    let d = length-drop i t in
    let k = length t - i in
    let all : take k (drop i t) ≡ drop i t = take_all k (drop i t) (omega (arith, d)) in
    let none : drop k (drop i t) ≡ [] = drop_of_length-le (drop i t) {i = k} (omega (arith, d)) in
    let past : drop (0 + length xs) (drop i t) ≡ drop (i + length xs) t = ap (λ (n : ℕ). drop n (drop i t)) (zero-add (length xs)) ∙ drop-drop (length xs) i t in
    let front : sets (part_from i t) 0 xs ≡ xs ++ drop (i + length xs) t = ap (λ (l : List ℕ). sets l 0 xs) all ∙ sets-eq xs (drop i t) 0 (omega (arith, d))
    ∙ ap (λ (l : List ℕ). xs ++ l) past in
    ap₂ (λ (ys rest : List ℕ). take i t ++ (ys ++ rest)) front none
    ∙ ap (λ (ys : List ℕ). take i t ++ ys) (append-nil (xs ++ drop (i + length xs) t))
    ∙ sym (sets-eq xs t i h ∙ append_assoc (take i t) xs (drop (i + length xs) t))

-- ---- all seven
abbrev pub parts_from : ℕ → ℕ → ListRooms (List ℕ) → ListRooms (List ℕ)
parts_from u r m =
    rooms (part_from u m.loader) (part_from u m.first) (part_from u m.last) (part_from r m.from) (part_from r m.to) (part_from r m.low)
    (part_from r m.high)

abbrev pub put_all_from : ℕ → ℕ → ListRooms (List ℕ) → ListRooms (List ℕ) → ListRooms (List ℕ)
put_all_from u r m p =
    rooms (put_from u m.loader p.loader) (put_from u m.first p.first) (put_from u m.last p.last) (put_from r m.from p.from)
    (put_from r m.to p.to) (put_from r m.low p.low) (put_from r m.high p.high)

pub parts_hold : (u r : ℕ) (m : ListRooms (List ℕ)) → Holds (u + max_units) (r + max_rules) m → Holds max_units max_rules (parts_from u r m)
parts_hold u r m h =
    record {
      in_loader = part_holds u max_units m.loader h.in_loader;
      in_first = part_holds u max_units m.first h.in_first;
      in_last = part_holds u max_units m.last h.in_last;
      in_from = part_holds r max_rules m.from h.in_from;
      in_to = part_holds r max_rules m.to h.in_to;
      in_low = part_holds r max_rules m.low h.in_low;
      in_high = part_holds r max_rules m.high h.in_high;
    }

module _ (u r : ℕ) (m : ListRooms (List ℕ)) (h : Holds (u + max_units) (r + max_rules) m) (text : List ℕ) where
  -- a number of each of so many as a sheet may have
  set_column : {A : Type 0} (f : A → ℕ) (xs : List A) (i most : ℕ) (array : List ℕ) → length xs ≤ most → i + most ≤ length array
      → put_from i array (sets (part_from i array) 0 (map f xs)) ≡ sets array i (map f xs)
  set_column f xs i most array few long = set_from i array (map f xs) (omega (arith, length-map xs f))

  pub kept_behind : (a : Result Sheet Refusal) (p : ListRooms (List ℕ)) → reply_of a ≡ pass_reply Ours text → Kept Ours a text (parts_from u r m) p
      → KeptBehind a text u r m (put_all_from u r m p)
  unfolding pass_reply
  kept_behind (Err f) p e k = tt
  kept_behind (Ok s) p e k =
      let w = sheet_in Ours text in
      let c = concluded_read (first_no (pass_questions Ours text)) w s.span s.units s.rules e in
      let us : length w.units ≤ max_units = omega (arith, c.units, k.few_units) in
      let rs : length w.rules ≤ max_rules = omega (arith, c.rules, k.few_rules) in
      record {
        few_units = k.few_units;
        few_rules = k.few_rules;
        in_arrays = ap (put_all_from u r m) k.in_arrays
            ∙ rooms_same (set_column (λ v. v.loader) w.units u max_units m.loader us h.in_loader)
            (set_column (λ v. v.window.first) w.units u max_units m.first us h.in_first)
            (set_column (λ v. v.window.last) w.units u max_units m.last us h.in_last)
            (set_column (λ v. v.from) w.rules r max_rules m.from rs h.in_from)
            (set_column (λ v. v.to) w.rules r max_rules m.to rs h.in_to)
            (set_column (λ v. v.low) w.rules r max_rules m.low rs h.in_low)
            (set_column (λ v. v.high) w.rules r max_rules m.high rs h.in_high);
      }
