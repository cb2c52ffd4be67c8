-- Reading a line from one stop to the next, and its numbers.
-- Key idea: from a place on, what is left of the line leads from the present state to the same end and meets the numbers that are left (`Scanning`). A byte
-- more keeps that, unless it is the line feed or the first digit of a number, and these are the stops.
use Rattle.std.specs.Prelude.{ℕ, zero, suc, ◌+◌, ◌-◌, ◌≤◌, ◌<◌, ◌≡◌, Bool, ◌&&◌, not, get_or, set, leb, ltb}
use Rattle.std.proofs.Math.Path.{refl, sym, ap, ap₂}
use Rattle.std.proofs.Common.{subst, ◌∙◌, add-one, add-zero, drop_of_length-le, drop-drop, get_or-drop}
use Rattle.std.proofs.Math.Bool.{true, false, cond, and-false}
use mathlib.Core.List.{List, [], ◌∷◌, ◌++◌}
use native.Mathlib.Omega.{arith}
use Rattle.std.proofs.Math.Decide.{dec_le}
use Rattle.std.proofs.Math.ListN.{length, drop, length-append}
use Rattle.std.proofs.Math.Seq.{drop-cons}
use Rattle.std.proofs.Math.Dec.{eqb}
use borrow.Author.Tests.{eq-eqb, ne_eqb, eqb-true, le-leb, leb-true, lt-ltb, ltb-true, le-ltb}
use Rattle.lists.specs.Members.{and_left, and_right, false_not_true}
use Rattle.forms.specs.Words.{line_feed}
use Rattle.forms.specs.Form.{is_digit, leading, past, plain}
use Rattle.forms.specs.FormLaws.{past_drop, leading_digits}
use Rattle.forms.specs.Lines.{first_line, has_feed}
use Rattle.forms.specs.LinesLaws.{line_end}
use Rattle.forms.specs.declared.House.{House}
use Rattle.read_form.specs.Kinds.{kind_of}
use Rattle.read_form.specs.Grid.{kind_of_code, ends, stops, state_count, start, class_of, next_of, run_of}
use Rattle.read_form.specs.GridLaws.{kind_back, next_inside, next_going, next_ended, start_inside, feedless, grid_reads}
use Rattle.read_form.specs.declared.Kind.{Kind}
use Rattle.read_form.specs.Met.{is_number, met}
use Rattle.read_form.specs.MetLaws.{met_on, met_new, number_begins, digits_run, digits_met}
use Rattle.read_number.specs.Number.{max_number, read_value}
use Rattle.read_scan.specs.Scan.{line_at, Resumes, AtFeed, AtNumber, StopsAt, valued, with_numbers, Small, ScannedAs}

-- ---- the bytes of a line that its line feed follows
module _ (t : List ℕ) (i : ℕ) (f : has_feed (drop i t) ≡ true) where
  pub feed_here : i < length t
  unfolding has_feed
  feed_here = elim (dec_le (length t) i) [
    | yes l ↦ false_not_true (sym (ap has_feed (drop_of_length-le t l)) ∙ f)
    | no g ↦ omega arith
  ]

  -- the line feed itself
  pub line_done : get_or t i 0 ≡ line_feed → line_at t i ≡ []
  unfolding first_line
  line_done e = rw (drop-cons t i 0 feed_here) (simp (eq-eqb (get_or t i 0) line_feed e))

  module _ (e : eqb (get_or t i 0) line_feed ≡ false) where
    pub line_byte : line_at t i ≡ get_or t i 0 ∷ line_at t (i + 1)
    unfolding first_line
    line_byte = rw (add-one i) (rw (drop-cons t i 0 feed_here) (simp e))

    pub feed_on : has_feed (drop (i + 1) t) ≡ true
    unfolding has_feed
    feed_on =
        let k : cond (eqb (get_or t i 0) line_feed) true (has_feed (drop (suc i) t)) ≡ true = sym (ap has_feed (drop-cons t i 0 feed_here)) ∙ f in
        rw (add-one i) (sym (ap (λ (b : Bool). cond b true (has_feed (drop (suc i) t))) e) ∙ k)

    pub end_on : line_end t (i + 1) ≡ line_end t i
    end_on = omega (arith, ap length line_byte)

-- no digit is a line feed, so a number ends before it
leading_line : (l : List ℕ) → leading (first_line l) ≡ leading l
unfolding leading first_line
leading_line [] = refl
leading_line (b ∷ l) = go (eqb b line_feed) refl (leading_line l)
  where
    go : (f : Bool) → eqb b line_feed ≡ f → leading (first_line l) ≡ leading l → leading (cond f [] (b ∷ first_line l)) ≡ cond (is_digit b) (b ∷ leading l) []
    go true e h = sym (ap (λ (x : ℕ). cond (is_digit x) (x ∷ leading l) []) (eqb-true b line_feed e))
    go false e h = ap (λ (ds : List ℕ). cond (is_digit b) (b ∷ ds) []) h

-- ---- on the way to a stop

-- at the place i in the state q, from the place `at` in the state `from`
pub record Scanning (h : House) (t : List ℕ) (at from i q : ℕ) : Type 0 where
  pub resumes : Resumes t i q
  pub here : at ≤ i
  pub end : line_end t i ≡ line_end t at
  pub run : run_of h q (line_at t i) ≡ run_of h from (line_at t at)
  pub numbers : met h q (line_at t i) ≡ met h from (line_at t at)

-- past the byte before the place i in the state r: on the way still, or at a stop
pub record Past (h : House) (t : List ℕ) (at from i r : ℕ) : Type 0 where
  pub some : 1 ≤ i
  pub on : stops ≤ r → Scanning h t at from i r
  pub stopped : r < stops → StopsAt h t at from (i - 1) r

pub scanning_start : (h : House) (t : List ℕ) (at from : ℕ) → Resumes t at from → Scanning h t at from at from
scanning_start h t at from r = record { resumes = r; here = omega arith; end = refl; run = refl; numbers = refl }

not_number : (q : ℕ) → stops ≤ q → is_number q ≡ false
not_number q l = ap (λ (b : Bool). leb ends q && b) (le-ltb q stops l) ∙ and-false (leb ends q)

a_number : (q : ℕ) → ends ≤ q → q < stops → is_number q ≡ true
a_number q l g = ap₂ (λ (a b : Bool). a && b) (le-leb ends q l) (lt-ltb q stops g)

module _ (h : House) (t : List ℕ) (at from i q r : ℕ) (s : Scanning h t at from i q) (e : r ≡ next_of h q (class_of (get_or t i 0))) where
  abbrev b : ℕ
  b = get_or t i 0

  pub next_known : r < state_count
  next_known = rw e (next_inside h q s.resumes.known b)

  -- a state of a line that has not ended is not reached over the line feed
  no_feed : ends ≤ r → eqb b line_feed ≡ false
  no_feed l = ne_eqb b line_feed (λ x. omega (arith, e ∙ ap (λ c. next_of h q (class_of c)) x, next_ended h q s.resumes.known))

  module _ (l : ends ≤ r) where
    run_on : run_of h r (line_at t (i + 1)) ≡ run_of h from (line_at t at)
    unfolding run_of
    run_on = ap (λ p. run_of h p (line_at t (i + 1))) e ∙ sym (ap (run_of h q) (line_byte t i s.resumes.feed (no_feed l))) ∙ s.run

    pub scanning_on : stops ≤ r → Scanning h t at from (i + 1) r
    scanning_on g =
        let f = s.resumes.feed in
        let n : is_number (next_of h q (class_of b)) ≡ false = ap is_number (sym e) ∙ not_number r g in
        record {
          resumes = record { feed = feed_on t i f (no_feed l); going = l; known = next_known; digits_done = λ x. false_not_true (sym (not_number r g) ∙ x) };
          here = omega (arith, s.here);
          end = end_on t i f (no_feed l) ∙ s.end;
          run = run_on;
          numbers =
              ap (λ p. met h p (line_at t (i + 1))) e
              ∙ sym (met_on h q b (line_at t (i + 1)) (ap (λ (x : Bool). x && not (eqb q (next_of h q (class_of b)))) n))
              ∙ sym (ap (met h q) (line_byte t i f (no_feed l))) ∙ s.numbers;
        }

    pub at_number : r < stops → AtNumber h t at from i r
    at_number g =
        let f = s.resumes.feed in
        let n : is_number (next_of h q (class_of b)) ≡ true = ap is_number (sym e) ∙ a_number r l g in
        let d = number_begins h q s.resumes.known b n in
        let apart = ne_eqb q (next_of h q (class_of b)) (λ x. false_not_true (sym (s.resumes.digits_done (ap is_number x ∙ n)) ∙ d)) in
        let line = line_byte t i f (no_feed l) in
        record {
          begun = a_number r l g;
          here = s.here;
          feed = f;
          first_digit = d;
          end = s.end;
          run = run_on;
          numbers =
              sym s.numbers ∙ ap (met h q) line ∙ met_new h q b (line_at t (i + 1)) (ap₂ (λ (x y : Bool). x && not y) n apart)
              ∙ ap₂ (λ (p : ℕ) (ds : List ℕ). record { state = p; digits = ds } ∷ met h p (line_at t (i + 1))) (sym e)
              (ap leading (sym line) ∙ leading_line (drop i t));
        }

  pub at_feed : r < ends → AtFeed h t at from i r
  unfolding run_of met
  at_feed l =
      let x : b ≡ line_feed = fed (eqb b line_feed) refl in
      let line = line_done t i s.resumes.feed x in
      record {
        end = omega (arith, ap length line, s.end);
        ended = e ∙ ap₂ (λ (p c : ℕ). next_of h p (class_of c)) (sym (ap (run_of h q) line) ∙ s.run) x;
        none = sym s.numbers ∙ ap (met h q) line;
      }
    where
      fed : (f : Bool) → eqb b line_feed ≡ f → b ≡ line_feed
      fed true z = eqb-true b line_feed z
      fed false z = absurd (omega (arith, e, next_going h q s.resumes.known b s.resumes.going z))

  -- a byte more: the line is read on, or this is the stop
  pub past_byte : Past h t at from (i + 1) r
  past_byte =
      record {
        some = omega arith;
        on = λ g. scanning_on (omega arith) g;
        stopped = λ g. subst (λ k. StopsAt h t at from k r) (omega arith) (record { at_feed = at_feed; at_number = λ l. at_number l g });
      }

-- ---- past a number

-- a line from a number on is its digits and the rest
split_line : (l : List ℕ) → first_line l ≡ leading l ++ first_line (past l)
unfolding first_line leading past
split_line [] = refl
split_line (b ∷ l) = go (is_digit b) refl (split_line l)
  where
    go : (d : Bool) → is_digit b ≡ d → first_line l ≡ leading l ++ first_line (past l)
        → first_line (b ∷ l) ≡ cond d (b ∷ leading l) [] ++ first_line (cond d (past l) (b ∷ l))
    go true e h =
        ap (λ (f : Bool). cond f [] (b ∷ first_line l)) (ne_eqb b line_feed (λ x. false_not_true (sym (ap is_digit x) ∙ e))) ∙ ap (λ (m : List ℕ). b ∷ m) h
    go false e h = refl

feed_past : (l : List ℕ) → has_feed (past l) ≡ has_feed l
unfolding has_feed past
feed_past [] = refl
feed_past (b ∷ l) = go (is_digit b) refl (feed_past l)
  where
    go : (d : Bool) → is_digit b ≡ d → has_feed (past l) ≡ has_feed l → has_feed (cond d (past l) (b ∷ l)) ≡ cond (eqb b line_feed) true (has_feed l)
    go true e h = h ∙ sym (ap (λ (f : Bool). cond f true (has_feed l)) (ne_eqb b line_feed (λ x. false_not_true (sym (ap is_digit x) ∙ e))))
    go false e h = refl

past_head : (l : List ℕ) → is_digit (get_or (past l) 0 0) ≡ false
unfolding past
past_head [] = refl
past_head (b ∷ l) = go (is_digit b) refl (past_head l)
  where
    go : (d : Bool) → is_digit b ≡ d → is_digit (get_or (past l) 0 0) ≡ false → is_digit (get_or (cond d (past l) (b ∷ l)) 0 0) ≡ false
    go true e h = h
    go false e h = e

-- ---- from number to number

-- at the place i in the state q, with the values so far: the numbers that are left make them those of the line that starts at `at`
pub record Gathering (h : House) (t : List ℕ) (at : ℕ) (before : List ℕ) (i q : ℕ) (p : Bool) (v : List ℕ) : Type 0 where
  pub end : line_end t i ≡ line_end t at
  pub run : run_of h q (line_at t i) ≡ run_of h start (line_at t at)
  pub gathered : with_numbers (valued v p) (met h q (line_at t i)) ≡ with_numbers (valued before true) (met h start (line_at t at))

pub resumes_start : (t : List ℕ) (at : ℕ) → has_feed (drop at t) ≡ true → Resumes t at start
resumes_start t at f =
    record { feed = f; going = start_inside.0; known = start_inside.1; digits_done = λ x. false_not_true (sym (not_number start (omega arith)) ∙ x) }

pub first_feedless : (l : List ℕ) → feedless (first_line l) ≡ true
unfolding first_line
first_feedless [] = refl
first_feedless (b ∷ l) = go (eqb b line_feed) refl (first_feedless l)
  where
    go : (f : Bool) → eqb b line_feed ≡ f → feedless (first_line l) ≡ true → feedless (cond f [] (b ∷ first_line l)) ≡ true
    go true e h = refl
    go false e h = ap₂ (λ (x y : Bool). not x && y) e h

module _ (h : House) (t : List ℕ) (at : ℕ) (before : List ℕ) (i q : ℕ) (p : Bool) (v : List ℕ) (g : Gathering h t at before i q p v) (place r : ℕ) where
  -- at the line feed nothing is left
  pub gathered_all : (k : Kind) → AtFeed h t i q place r → k ≡ kind_of_code r → ScannedAs h t at place k p before v
  unfolding with_numbers
  gathered_all k f e =
      record {
        is_end = f.end ∙ g.end;
        is_kind =
            e ∙ ap kind_of_code (f.ended ∙ ap (λ s. next_of h s (class_of line_feed)) g.run ∙ grid_reads h (line_at t at) (first_feedless (drop at t)))
            ∙ kind_back (kind_of h (line_at t at));
        are_values = sym (ap (with_numbers (valued v p)) f.none) ∙ g.gathered;
      }

  module _ (n : AtNumber h t i q place r) where
    abbrev digits : List ℕ
    digits = leading (drop place t)

    abbrev next : ℕ
    next = place + length digits

    at_next : drop next t ≡ past (drop place t)
    at_next = sym (past_drop (drop place t) ∙ drop-drop (length digits) place t)

    -- the rest of the line past the number's first digit is its other digits and what stands past them
    others : line_at t (place + 1) ≡ leading (drop (place + 1) t) ++ line_at t next
    unfolding past
    others =
        let line = drop-cons t place 0 (feed_here t place n.feed) in
        let p : past (drop place t) ≡ past (drop (place + 1) t) =
        rw (add-one place) (ap past line ∙ ap (λ (d : Bool). cond d (past (drop (suc place) t)) (get_or t place 0 ∷ drop (suc place) t)) n.first_digit) in
        split_line (drop (place + 1) t) ∙ ap (λ (l : List ℕ). leading (drop (place + 1) t) ++ first_line l) (sym (at_next ∙ p))

    pub next_past : place < next
    unfolding leading
    next_past =
        let line = drop-cons t place 0 (feed_here t place n.feed) in
        let e = ap leading line ∙ ap (λ (d : Bool). cond d (get_or t place 0 ∷ leading (drop (suc place) t)) []) n.first_digit in
        omega (arith, ap length e)

    pub next_resumes : Resumes t next r
    next_resumes =
        record {
          feed = ap has_feed at_next ∙ feed_past (drop place t) ∙ n.feed;
          going = omega (arith, leb-true ends r (and_left (leb ends r) (ltb r stops) n.begun));
          known = omega (arith, ltb-true r stops (and_right (leb ends r) (ltb r stops) n.begun));
          digits_done = λ x. ap is_digit (sym (get_or-drop next t 0 0 ∙ ap (λ k. get_or t k 0) (add-zero next)) ∙ ap (λ l. get_or l 0 0) at_next)
              ∙ past_head (drop place t);
        }

    pub gathered_more : (w : ℕ) (p' : Bool) → w ≡ read_value digits → p' ≡ (p && plain digits)
        → Gathering h t at before next r p' (set v (r - ends) w)
    unfolding with_numbers
    gathered_more w p' ew ep =
        let rest = leading_digits (drop (place + 1) t) in
        record {
          end = omega (
            arith,
            ap length (split_line (drop place t)),
            length-append digits (first_line (past (drop place t))),
            ap (λ l. length (first_line l)) at_next,
            n.end,
            g.end,
          );
          run = sym (digits_run h r n.begun (leading (drop (place + 1) t)) (line_at t next) rest) ∙ ap (run_of h r) (sym others) ∙ n.run ∙ g.run;
          gathered =
              ap₂ (λ (x : ℕ) (y : Bool). with_numbers (valued (set v (r - ends) x) y) (met h r (line_at t next))) ew ep
              ∙ ap (with_numbers (valued (set v (r - ends) (read_value digits)) (p && plain digits)))
              (sym (digits_met h r n.begun (leading (drop (place + 1) t)) (line_at t next) rest) ∙ ap (met h r) (sym others))
              ∙ sym (ap (with_numbers (valued v p)) n.numbers) ∙ g.gathered;
        }

-- ---- values stay small
bounded_set : (v : List ℕ) (j x i : ℕ) → ((k : ℕ) → get_or v k 0 ≤ max_number) → x ≤ max_number → get_or (set v j x) i 0 ≤ max_number
bounded_set [] j x i s h = omega arith
bounded_set (y ∷ v) zero x zero s h = h
bounded_set (y ∷ v) zero x (suc i) s h = s (suc i)
bounded_set (y ∷ v) (suc j) x zero s h = s zero
bounded_set (y ∷ v) (suc j) x (suc i) s h = bounded_set v j x i (λ k. s (suc k)) h

pub small_set : (v : List ℕ) (j x : ℕ) → Small v → x ≤ max_number → Small (set v j x)
small_set v j x s h = record { each = λ i. bounded_set v j x i s.each h }

-- a number's state has a place of its own
pub number_inside : (r : ℕ) → is_number r ≡ true → (ends ≤ r) × (r < stops)
number_inside r n = (leb-true ends r (and_left (leb ends r) (ltb r stops) n), ltb-true r stops (and_right (leb ends r) (ltb r stops) n))

-- ---- bytes up to the text's end
module _ (h : House) (t : List ℕ) (i q : ℕ) where
  pub run_done : length t ≤ i → run_of h q (drop i t) ≡ q
  unfolding run_of
  run_done l = ap (run_of h q) (drop_of_length-le t l)

  pub run_byte : (r : ℕ) → i < length t → r ≡ next_of h q (class_of (get_or t i 0)) → run_of h r (drop (i + 1) t) ≡ run_of h q (drop i t)
  unfolding run_of
  run_byte r l e = rw (add-one i) (ap (λ p. run_of h p (drop (suc i) t)) e ∙ sym (ap (run_of h q) (drop-cons t i 0 l)))
