-- From the answer of the pass to that of the call: questions 1 and 12 stand at the two ends, and what is left in the rooms.
-- Key idea: the first no of two lists of questions is that of the first, or else that of the second.
use Rattle.std.specs.Prelude.{ℕ, ◌≤◌, ◌<◌, ◌≡◌, Bool, true, false, ◌&&◌, cond, List, [], ◌∷◌, map, length, take, leb}
use Rattle.std.proofs.Math.Path.{sym, ap}
use Rattle.std.proofs.Common.{ap₂, subst, ◌∙◌, arith, le-leb, leb-true}
use Rattle.std.proofs.lemmas.Simd.{map-map}
use Rattle.std.proofs.lemmas.List.Edits.{sets}
use Rattle.std.proofs.lemmas.Bool.{lt-leb}
use Rattle.lists.specs.Lists.{on_front}
use Rattle.questions.specs.Questions.{ask, Verdict, no, all_yes, first_no, and_then}
use Rattle.questions.proofs.FirstNoLaws.{first_no_append}
use Rattle.forms.specs.declared.House.{House}
use Rattle.sheet.specs.Sizes.{max_units, max_rules, max_bytes}
use Rattle.sheet.specs.Sheet.{Window, Rule, SheetUnit, constraints}
use Rattle.sheet.specs.declared.Sheet.{Sheet}
use Rattle.lists.specs.Members.{and_left, and_right}
use Rattle.read_questions.specs.Reading.{sheet_in, ListRooms, lists_fit, pass_questions, questions, Reply, refused, read, concluded, reading}
use Rattle.read_questions.specs.Steps.{Holds, columns, pass_reply, KeptNumbers}
use Rattle.read_questions.proofs.ConcludedLaws.{Accepted, concluded_read, concluded_no}
use Rattle.read_questions.proofs.ArrayLaws.{rooms_same, column_front, SameSizes, set_sizes, still_holds}
use Rattle.read_rooms.specs.Rooms.{sizes_of, leaves, rooms_after, filled}

module _ (h : House) (t : List ℕ) (sizes : ListRooms ℕ) where
  abbrev fit : Bool
  fit = lists_fit (length (sheet_in h t).units) (length (sheet_in h t).rules) sizes

  pub answer_long : max_bytes < length t → refused 1 0 ≡ reading h t sizes
  unfolding reading questions first_no
  answer_long long = simp (lt-leb (length t) max_bytes long)

  module _ (short : length t ≤ max_bytes) where
    all_asked : first_no (questions h t sizes) ≡ and_then (first_no (pass_questions h t)) (cond fit all_yes (no 12 0))
    unfolding questions first_no
    all_asked = rw (le-leb (length t) max_bytes short) (first_no_append (pass_questions h t) (ask 12 0 fit ∷ []))

    call_answer : Verdict → Reply
    call_answer v = concluded (and_then v (cond fit all_yes (no 12 0))) (sheet_in h t)

    is_answer : reading h t sizes ≡ call_answer (first_no (pass_questions h t))
    unfolding reading call_answer
    is_answer = ap (λ (v : Verdict). concluded v (sheet_in h t)) all_asked

    pub answer_no : (q n : ℕ) → refused q n ≡ pass_reply h t → refused q n ≡ reading h t sizes
    unfolding pass_reply call_answer
    answer_no q n e = sym (is_answer ∙ ap call_answer (concluded_no (first_no (pass_questions h t)) (sheet_in h t) q n e))

    module _ (p u r : ℕ) (e : read p u r ≡ pass_reply h t) where
      passed : Accepted (first_no (pass_questions h t)) (sheet_in h t) p u r
      unfolding pass_reply
      passed = concluded_read (first_no (pass_questions h t)) (sheet_in h t) p u r e

      fit_is : fit ≡ lists_fit u r sizes
      fit_is = let g = passed in ap₂ (λ (a b : ℕ). lists_fit a b sizes) (sym g.units) (sym g.rules)

      pub answer_rooms : lists_fit u r sizes ≡ false → refused 12 0 ≡ reading h t sizes
      unfolding call_answer
      answer_rooms k = sym (is_answer ∙ ap call_answer passed.verdict ∙ ap (λ (b : Bool). concluded (cond b all_yes (no 12 0)) (sheet_in h t)) (fit_is ∙ k))

      pub answer_read : lists_fit u r sizes ≡ true → read p u r ≡ reading h t sizes
      unfolding call_answer pass_reply
      answer_read k =
          e ∙ ap (λ (v : Verdict). concluded v (sheet_in h t)) passed.verdict
          ∙ sym (is_answer ∙ ap call_answer passed.verdict ∙ ap (λ (b : Bool). concluded (cond b all_yes (no 12 0)) (sheet_in h t)) (fit_is ∙ k))

-- a refusal leaves the rooms
pub rooms_kept : (h : House) (t : List ℕ) (m : ListRooms (List ℕ)) (q n : ℕ) → refused q n ≡ reading h t (sizes_of m) → m ≡ rooms_after h t m
rooms_kept h t m q n e = ap (λ (a : Reply). leaves a (sheet_in h t) m) e

-- rooms that question 12 finds long enough
pub rooms_hold : (u r : ℕ) (m : ListRooms (List ℕ)) → lists_fit u r (sizes_of m) ≡ true → Holds u r m
rooms_hold u r m f =
    let k = sizes_of m in
    let c = leb u k.loader in
    let a = leb u k.first && leb u k.last in
    let b = leb r k.from && leb r k.to in
    let l = and_right c _ f in
    let g = and_left a _ l in
    let j = and_left b _ (and_right a _ l) in
    let i = and_right b _ (and_right a _ l) in
    record {
      in_loader = leb-true u k.loader (and_left c _ f);
      in_first = leb-true u k.first (and_left _ _ g);
      in_last = leb-true u k.last (and_right (leb u k.first) _ g);
      in_from = leb-true r k.from (and_left _ _ j);
      in_to = leb-true r k.to (and_right (leb r k.from) _ j);
      in_low = leb-true r k.low (and_left _ _ i);
      in_high = leb-true r k.high (and_right (leb r k.low) _ i);
    }

-- arrays with the numbers of a sheet that was read
module _ (h : House) (s : Sheet) (t : List ℕ) (arrays arrays' : ListRooms (List ℕ)) (all : Holds max_units max_rules arrays)
    (k : KeptNumbers h s t arrays arrays') where
  pub arrays_hold : Holds s.units s.rules arrays'
  arrays_hold =
      let xs = columns (sheet_in h t).units (sheet_in h t).rules in
      let e = subst (λ (x : ListRooms (List ℕ)). SameSizes x arrays) (sym k.in_arrays) (set_sizes arrays 0 0 xs) in
      still_holds s.units s.rules arrays' arrays e (record {
        in_loader = omega (arith, all.in_loader, k.few_units);
        in_first = omega (arith, all.in_first, k.few_units);
        in_last = omega (arith, all.in_last, k.few_units);
        in_from = omega (arith, all.in_from, k.few_rules);
        in_to = omega (arith, all.in_to, k.few_rules);
        in_low = omega (arith, all.in_low, k.few_rules);
        in_high = omega (arith, all.in_high, k.few_rules);
      })

  -- what was filled in is what the sheet's lists are
  pub rooms_filled : (m : ListRooms (List ℕ)) → length t ≤ max_bytes → read s.span s.units s.rules ≡ pass_reply h t
      → lists_fit s.units s.rules (sizes_of m) ≡ true → filled s arrays' m ≡ rooms_after h t m
  rooms_filled m short e f =
      ap (λ (x : ListRooms (List ℕ)). filled s x m) k.in_arrays
      ∙ rooms_same (unit_room (λ u. u.loader) arrays.loader m.loader all.in_loader)
      (unit_room (λ u. u.window.first) arrays.first m.first all.in_first ∙ window_room (λ w. w.first) m.first)
      (unit_room (λ u. u.window.last) arrays.last m.last all.in_last ∙ window_room (λ w. w.last) m.last)
      (rule_room (λ r. r.from) arrays.from m.from all.in_from) (rule_room (λ r. r.to) arrays.to m.to all.in_to)
      (rule_room (λ r. r.low) arrays.low m.low all.in_low) (rule_room (λ r. r.high) arrays.high m.high all.in_high)
      ∙ ap (λ (a : Reply). leaves a (sheet_in h t) m) (answer_read h t (sizes_of m) short s.span s.units s.rules e f)
    where
      g : Accepted (first_no (pass_questions h t)) (sheet_in h t) s.span s.units s.rules
      g = passed h t (sizes_of m) short s.span s.units s.rules e

      unit_room : (f : SheetUnit → ℕ) (array room : List ℕ) → max_units ≤ length array
          → on_front (take s.units (sets array 0 (map f (sheet_in h t).units))) room ≡ on_front (map f (sheet_in h t).units) room
      unit_room f array room l =
          ap (λ (xs : List ℕ). on_front xs room) (column_front f array (sheet_in h t).units s.units g.units (omega (arith, l, k.few_units)))

      window_room : (f : Window → ℕ) (room : List ℕ) → on_front (map (λ u. f u.window) (sheet_in h t).units) room
          ≡ on_front (map f (constraints (sheet_in h t)).units) room
      window_room f room = ap (λ (xs : List ℕ). on_front xs room) (sym (map-map f (λ u. u.window) (sheet_in h t).units))

      rule_room : (f : Rule → ℕ) (array room : List ℕ) → max_rules ≤ length array
          → on_front (take s.rules (sets array 0 (map f (sheet_in h t).rules))) room ≡ on_front (map f (sheet_in h t).rules) room
      rule_room f array room l =
          ap (λ (xs : List ℕ). on_front xs room) (column_front f array (sheet_in h t).rules s.rules g.rules (omega (arith, l, k.few_rules)))
