-- From the answer of all questions but 12 to that of the call, and what is left in the rooms.
-- Key idea: question 12 is the last; the rooms are filled with the fronts of the arrays, which are the merged sheet's lists.
use Prim.Native.Nat.{ℕ}
use mathlib.Core.Path.{◌≡◌, refl, sym, ap, ap₂, ◌∙◌}
use mathlib.Core.Bool.{Bool, true, false, cond}
use mathlib.Core.List.{List, [], ◌∷◌, map, map-map}
use lib.ListN.{length}
use Rattle.lists.specs.Lists.{on_front}
use Rattle.questions.specs.Questions.{ask, Verdict, no, all_yes, first_no}
use Rattle.questions.proofs.FirstNoLaws.{first_then}
use Rattle.sheet.specs.Sheet.{Window, WrittenSheet, constraints}
use Rattle.sheet.specs.declared.Sheet.{Sheet}
use Rattle.read_questions.specs.Reading.{ListRooms, rooms, lists_fit, Reply, refused, read, concluded}
use Rattle.read_questions.proofs.ArrayLaws.{rooms_same}
use Rattle.read_questions.proofs.ConcludedLaws.{concluded_read, concluded_no}
use Rattle.read_rooms.specs.Rooms.{sizes_of, leaves, filled}
use Rattle.merge_questions.specs.Merging.{merge_questions, merged_in, merging}
use Rattle.merge_join.specs.Join.{join_reply, MergedAtFront}

module _ (one two : List ℕ) where
  abbrev w : WrittenSheet
  w = merged_in one two

  module _ (sizes : ListRooms ℕ) where
    abbrev fit : Bool
    fit = lists_fit (length w.units) (length w.rules) sizes

    pub answer_no : (q n : ℕ) → refused q n ≡ join_reply one two → refused q n ≡ merging one two sizes
    unfolding join_reply merging
    answer_no q n e =
        let v = concluded_no (first_no (merge_questions one two)) w q n e in
        ap (λ (x : Verdict). concluded x w) (sym (first_then (merge_questions one two) (ask 12 0 fit ∷ []) (no q n) v))

    module _ (p u r : ℕ) (e : read p u r ≡ join_reply one two) where
      -- 12 decides
      last_asked : (b : Bool) → lists_fit u r sizes ≡ b → merging one two sizes ≡ concluded (cond b all_yes (no 12 0)) w
      unfolding join_reply merging first_no
      last_asked b f =
          let c = concluded_read (first_no (merge_questions one two)) w p u r e in
          ap (λ (x : Verdict). concluded x w) (first_then (merge_questions one two) (ask 12 0 fit ∷ []) all_yes c.verdict)
          ∙ ap (λ (x : Bool). concluded (cond x all_yes (no 12 0)) w) (ap₂ (λ (a b : ℕ). lists_fit a b sizes) (sym c.units) (sym c.rules) ∙ f)

      pub answer_rooms : lists_fit u r sizes ≡ false → refused 12 0 ≡ merging one two sizes
      answer_rooms f = sym (last_asked false f)

      pub answer_read : lists_fit u r sizes ≡ true → read p u r ≡ merging one two sizes
      unfolding join_reply
      answer_read f =
          let c = concluded_read (first_no (merge_questions one two)) w p u r e in
          e ∙ ap (λ (x : Verdict). concluded x w) c.verdict ∙ sym (last_asked true f)

  -- a refusal leaves the rooms
  pub rooms_kept : (m : ListRooms (List ℕ)) (q n : ℕ) → refused q n ≡ merging one two (sizes_of m) → m ≡ leaves (merging one two (sizes_of m)) w m
  rooms_kept m q n e = ap (λ (a : Reply). leaves a w m) e

  -- what was filled in is what the merged sheet's lists are
  put : ListRooms (List ℕ) → ListRooms (List ℕ) → ListRooms (List ℕ)
  put xs m =
      rooms (on_front xs.loader m.loader) (on_front xs.first m.first) (on_front xs.last m.last) (on_front xs.from m.from)
      (on_front xs.to m.to) (on_front xs.low m.low) (on_front xs.high m.high)

  pub rooms_filled : (s : Sheet) (arrays m : ListRooms (List ℕ)) → MergedAtFront s one two arrays → (p u r : ℕ) → read p u r ≡ merging one two (sizes_of m)
      → filled s arrays m ≡ leaves (merging one two (sizes_of m)) w m
  unfolding put
  rooms_filled s arrays m k p u r e =
      ap (λ (x : ListRooms (List ℕ)). put x m) k.fronts
      ∙ rooms_same refl (window_room (λ v. v.first) m.first) (window_room (λ v. v.last) m.last) refl refl refl refl
      ∙ ap (λ (a : Reply). leaves a w m) e
    where
      window_room : (f : Window → ℕ) (room : List ℕ) → on_front (map (λ u. f u.window) w.units) room ≡ on_front (map f (constraints w).units) room
      window_room f room = ap (λ (xs : List ℕ). on_front xs room) (sym (map-map f (λ u. u.window) w.units))
