-- Which numbers reading a line meets: those of its form, each in a state of its own (`form_met`).
-- Key idea: the way of the line's form is among the ways of every state that is met. Where that way has the digits of a number in front, the state is that
-- number's own, and else it is no number's: one test of every way of every state, which is computed for each house (`placed_ways`).
use Prim.Native.Nat.{ℕ, zero, suc, ◌+◌, ◌-◌, ◌<◌}
use Rattle.std.specs.Prelude.{◌≡◌, ◌⊎◌, Bool, ◌&&◌, length, get_or, drop, T, eqb, leb, ltb}
use Rattle.std.proofs.Math.Path.{refl, sym, ap, ap₂, subst}
use Rattle.std.proofs.Common.{◌∙◌, inl, inr, ⊎_elim, zero-add, add-zero, eqb→eq}
use Rattle.std.proofs.Math.Bool.{true, false, not, cond, and-false}
use mathlib.Core.List.{List, [], ◌∷◌, ◌++◌, map}
use native.Mathlib.Omega.{arith}
use borrow.Author.Tests.{eq-eqb, ne_eqb, ltb-true}
use Rattle.lists.specs.Lists.{every, cons_if}
use Rattle.lists.specs.Members.{both, left, right, and_left, and_right, false_not_true}
use Rattle.forms.specs.Words.{line_feed, text}
use Rattle.forms.specs.Form.{is_printable, is_digit, printable, some, leading, past, Piece, word, number, any_bytes, starts_with, matches, numbers}
use Rattle.forms.specs.FormLaws.{Digits}
use Rattle.forms.specs.WrittenLines.{digit_printable}
use Rattle.forms.specs.declared.House.{House}
use Rattle.forms.specs.declared.House.TheVariants.{Ours, Partner}
use Rattle.forms.specs.Forms.{note_form, short_note_form, span_form_of, unit_form_of, rule_form_of}
use Rattle.read_form.specs.Kinds.{shapes_of, kind_of}
use Rattle.read_form.specs.Grid.{Sign, byte, digit, more, free, signs, fits, Way, way, go_on}
use Rattle.read_form.specs.Grid.{over, State, ended, unprintable, going, in_line, follows, kind_from}
use Rattle.read_form.specs.Grid.{start_ways, in_digits, in_number, state_count, ends, stops, states, start, state_at, class_of, next_of, run_of}
use Rattle.read_form.specs.GridLaws.{signs_fit, states_length, next_inside, next_state, start_inside, start_state}
use Rattle.read_form.specs.Met.{Met, is_number, met, in_turn}
use Rattle.read_form.specs.declared.Kind.{Kind}

-- ---- the digits of a line's numbers, sign by sign

sign_numbers : List Sign → List ℕ → List (List ℕ)
sign_numbers [] l = []
sign_numbers (byte x ∷ t) l = sign_numbers t (drop 1 l)
sign_numbers (digit ∷ t) l = leading l ∷ sign_numbers t (drop 1 l)
sign_numbers (more ∷ t) l = sign_numbers t (past l)
sign_numbers (free ∷ t) l = []

word_numbers : (w : List ℕ) (t : List Sign) (l : List ℕ) → starts_with w l ≡ true → sign_numbers (map byte w ++ t) l ≡ sign_numbers t (drop (length w) l)
unfolding sign_numbers
word_numbers [] t l h = refl
word_numbers (x ∷ w) t [] h = false_not_true h
word_numbers (x ∷ w) t (b ∷ l) h = word_numbers w t l (and_right (eqb x b) (starts_with w l) h)

form_numbers : (f : List Piece) (l : List ℕ) → matches f l ≡ true → sign_numbers (signs f) l ≡ numbers f l
unfolding sign_numbers matches numbers leading past
form_numbers [] l h = refl
form_numbers (word w ∷ f) l h =
    let m = drop (length w) l in
    word_numbers w (signs f) l (and_left (starts_with w l) (matches f m) h) ∙ form_numbers f m (and_right (starts_with w l) (matches f m) h)
form_numbers (number ∷ f) [] h = false_not_true h
form_numbers (number ∷ f) (b ∷ l) h = go (is_digit b) (form_numbers f (past l)) h
  where
    go : (d : Bool) → (matches f (past l) ≡ true → sign_numbers (signs f) (past l) ≡ numbers f (past l))
        → (some (cond d (b ∷ leading l) []) && matches f (cond d (past l) (b ∷ l))) ≡ true
        → cond d (b ∷ leading l) [] ∷ sign_numbers (signs f) (past l) ≡ cond d (b ∷ leading l) [] ∷ numbers f (cond d (past l) (b ∷ l))
    go true r h = ap (λ (ns : List (List ℕ)). (b ∷ leading l) ∷ ns) (r h)
    go false r h = false_not_true h
form_numbers (any_bytes ∷ f) l h = refl

-- how many numbers are left
digits_left : List Sign → ℕ
digits_left [] = 0
digits_left (byte x ∷ t) = digits_left t
digits_left (digit ∷ t) = suc (digits_left t)
digits_left (more ∷ t) = digits_left t
digits_left (free ∷ t) = 0

-- ---- a byte more

-- whether signs go on over a byte, and what is then left of them
goes : List Sign → ℕ → Bool
goes [] b = false
goes (byte x ∷ t) b = eqb x b
goes (digit ∷ t) b = is_digit b
goes (more ∷ t) b = cond (is_digit b) true (goes t b)
goes (free ∷ t) b = true

after : List Sign → ℕ → List Sign
after [] b = []
after (byte x ∷ t) b = t
after (digit ∷ t) b = t
after (more ∷ t) b = cond (is_digit b) (more ∷ t) (after t b)
after (free ∷ t) b = free ∷ t

go_on_after : (k : Kind) (t : List Sign) (b : ℕ) (ws : List Way) → go_on k t b ws ≡ cons_if (goes t b) (way k (after t b)) ws
unfolding goes after
go_on_after k [] b ws = refl
go_on_after k (byte x ∷ t) b ws = refl
go_on_after k (digit ∷ t) b ws = refl
go_on_after k (more ∷ t) b ws = go (is_digit b) (go_on_after k t b ws)
  where
    go : (d : Bool) → go_on k t b ws ≡ cons_if (goes t b) (way k (after t b)) ws
        → cond d (way k (more ∷ t) ∷ ws) (go_on k t b ws) ≡ cons_if (cond d true (goes t b)) (way k (cond d (more ∷ t) (after t b))) ws
    go true e = refl
    go false e = e
go_on_after k (free ∷ t) b ws = refl

-- signs that a line has go on over its first byte, and the rest of the line has what is left of them
fits_goes : (t : List Sign) (b : ℕ) (l : List ℕ) → fits t (b ∷ l) ≡ true → (goes t b ≡ true) × (fits (after t b) l ≡ true)
unfolding fits goes after past
fits_goes [] b l h = false_not_true h
fits_goes (byte x ∷ t) b l h = (and_left (eqb x b) (fits t l) h, and_right (eqb x b) (fits t l) h)
fits_goes (digit ∷ t) b l h = (and_left (is_digit b) (fits t l) h, and_right (is_digit b) (fits t l) h)
fits_goes (more ∷ t) b l h = go (is_digit b) (fits_goes t b l) h
  where
    go : (d : Bool) → (fits t (b ∷ l) ≡ true → (goes t b ≡ true) × (fits (after t b) l ≡ true)) → fits t (cond d (past l) (b ∷ l)) ≡ true
        → (cond d true (goes t b) ≡ true) × (fits (cond d (more ∷ t) (after t b)) l ≡ true)
    go true r h = (refl, h)
    go false r h = r h
fits_goes (free ∷ t) b l h = (refl, refl)

-- ---- the ways of a state

Among : Way → List Way → Type 0
Among w [] = ⊥
Among w (v ∷ vs) = (v ≡ w) ⊎ Among w vs

among_passes : (p : Way → Bool) (w : Way) (ws : List Way) → T (every p ws) → Among w ws → T (p w)
unfolding Among
among_passes p w [] h a = absurd a
among_passes p w (v ∷ vs) h a =
    ⊎_elim (λ (e : v ≡ w). subst (λ x. T (p x)) e (left (p v) (every p vs) h)) (λ (m : Among w vs). among_passes p w vs (right (p v) (every p vs) h) m) a

among_cons : (w x : Way) (e : Bool) (ws : List Way) → Among w ws → Among w (cons_if e x ws)
unfolding Among
among_cons w x true ws a = inr a
among_cons w x false ws a = a

abbrev stepped : Way → ℕ → List Way → List Way
stepped (way k t) b ws = go_on k t b ws

-- a way that goes on over a byte is among the ways past it
over_among : (k : Kind) (t : List Sign) (b : ℕ) → goes t b ≡ true → (ws : List Way) → Among (way k t) ws → Among (way k (after t b)) (over ws b)
unfolding Among over
over_among k t b g [] a = absurd a
over_among k t b g (way j u ∷ ws) a =
    let w = way k (after t b) in
    let here : Among w (go_on k t b (over ws b)) =
    subst (Among w) (sym (go_on_after k t b (over ws b) ∙ ap (λ (e : Bool). cons_if e w (over ws b)) g)) (inl refl) in
    ⊎_elim (λ (e : way j u ≡ way k t). subst (λ x. Among w (stepped x b (over ws b))) (sym e) here)
    (λ (m : Among (way k t) ws). subst (Among w) (sym (go_on_after j u b (over ws b))) (among_cons w _ (goes u b) (over ws b) (over_among k t b g ws m))) a

abbrev ways_of : State → List Way
ways_of (ended k) = []
ways_of unprintable = []
ways_of (going ws) = ws

no_feed : (b : ℕ) → is_printable b ≡ true → eqb b line_feed ≡ false
no_feed b p = ne_eqb b line_feed (λ e. false_not_true (sym (ap is_printable e) ∙ p))

ways_follow : (s : State) (b : ℕ) → is_printable b ≡ true → ways_of (follows s b) ≡ over (ways_of s) b
unfolding over
ways_follow (ended k) b p = rw (no_feed b p) refl
ways_follow unprintable b p = rw (no_feed b p) refl
ways_follow (going ws) b p = rw (no_feed b p) (rw p refl)

-- ---- where the states of numbers are

-- the number behind those of the states of a kind's numbers
abbrev behind : House → Kind → ℕ
behind h Kind.Unprintable = stops
behind h Kind.Note = stops
behind h Kind.Sheet = ends + 1
behind h Kind.Unit = ends + 4
behind Ours Kind.Rule = ends + 8
behind Partner Kind.Rule = ends + 7
behind h Kind.Other = stops

-- the state of the next number
abbrev next_number : House → Kind → List Sign → ℕ
next_number h k t = behind h k - digits_left t

-- one digit and all digits that follow stand for a number
abbrev formed : List Sign → Bool
formed [] = true
formed (byte x ∷ t) = not (in_digits t) && formed t
formed (digit ∷ t) = in_digits t && formed t
formed (more ∷ t) = not (in_digits t) && formed t
formed (free ∷ t) = true

-- a way with digits in front is one of its number's own state, and any other is of no number's state
abbrev placed_way : House → ℕ → Way → Bool
placed_way h q (way k t) = formed t && cond (in_digits t) (is_number q && eqb (suc q) (next_number h k t)) (not (is_number q))

abbrev placed_state : House → ℕ → State → Bool
placed_state h q s = cond (is_number q) (in_number s) true && every (placed_way h q) (ways_of s)

-- of these states, numbered from q on
abbrev placed_from : House → ℕ → List State → Bool
placed_from h q [] = true
placed_from h q (s ∷ ss) = let rest = placed_from h (suc q) ss in placed_state h q s && rest

placed_ways : (h : House) → T (placed_from h 0 (states h))
unfolding states over text digits_left
placed_ways Ours = tt
placed_ways Partner = tt

placed_at : (h : House) (ss : List State) (q i : ℕ) → T (placed_from h q ss) → i < length ss → T (placed_state h (q + i) (get_or ss i (going [])))
placed_at h [] q i t l = absurd (omega arith)
placed_at h (s ∷ ss) q zero t l = subst (λ n. T (placed_state h n s)) (sym (add-zero q)) (left (placed_state h q s) (placed_from h (suc q) ss) t)
placed_at h (s ∷ ss) q (suc i) t l =
    let e : suc q + i ≡ q + suc i = omega arith in
    subst (λ n. T (placed_state h n (get_or ss i (going [])))) e (placed_at h ss (suc q) i (right (placed_state h q s) (placed_from h (suc q) ss) t) (omega arith))

holds : (b : Bool) → T b → b ≡ true
holds true t = refl
holds false t = absurd t

fails : (b : Bool) → T (not b) → b ≡ false
fails true t = absurd t
fails false t = refl

-- of one state
module _ (h : House) (q : ℕ) (hq : q < state_count) where
  placed : T (placed_state h q (state_at h q))
  placed =
      subst (λ n. T (placed_state h n (state_at h q))) (zero-add q)
      (placed_at h (states h) 0 q (placed_ways h) (subst (λ n. q < n) (sym (states_length h)) hq))

  number_state : is_number q ≡ true → T (in_number (state_at h q))
  number_state e =
      subst T (ap (λ (b : Bool). cond b (in_number (state_at h q)) true) e)
      (left (cond (is_number q) (in_number (state_at h q)) true) (every (placed_way h q) (ways_of (state_at h q))) placed)

  module _ (k : Kind) (t : List Sign) (a : Among (way k t) (ways_of (state_at h q))) where
    way_placed : T (placed_way h q (way k t))
    way_placed =
        among_passes (placed_way h q) (way k t) (ways_of (state_at h q))
        (right (cond (is_number q) (in_number (state_at h q)) true) (every (placed_way h q) (ways_of (state_at h q))) placed) a

    way_formed : T (formed t)
    way_formed = left (formed t) (cond (in_digits t) (is_number q && eqb (suc q) (next_number h k t)) (not (is_number q))) way_placed

    where_placed : T (cond (in_digits t) (is_number q && eqb (suc q) (next_number h k t)) (not (is_number q)))
    where_placed = right (formed t) (cond (in_digits t) (is_number q && eqb (suc q) (next_number h k t)) (not (is_number q))) way_placed

    own_number : in_digits t ≡ true → (is_number q ≡ true) × (suc q ≡ next_number h k t)
    own_number e =
        let p = subst (λ (b : Bool). T (cond b (is_number q && eqb (suc q) (next_number h k t)) (not (is_number q)))) e where_placed in
        (holds (is_number q) (left (is_number q) _ p), eqb→eq (suc q) (next_number h k t) (right (is_number q) _ p))

    no_number_lem : in_digits t ≡ false → is_number q ≡ false
    no_number_lem e =
        fails (is_number q) (subst (λ (b : Bool). T (cond b (is_number q && eqb (suc q) (next_number h k t)) (not (is_number q)))) e where_placed)

  -- a way that goes on over a byte is one of the state that follows
  module _ (b : ℕ) (p : is_printable b ≡ true) (k : Kind) (t : List Sign) (g : goes t b ≡ true) (a : Among (way k t) (ways_of (state_at h q))) where
    follows_among : Among (way k (after t b)) (ways_of (state_at h (next_of h q (class_of b))))
    follows_among =
        subst (Among (way k (after t b))) (sym (ap ways_of (next_state h q hq b) ∙ ways_follow (state_at h q) b p)) (over_among k t b g (ways_of (state_at h q)) a)

-- ---- what a byte adds

module _ (h : House) (q b : ℕ) (l : List ℕ) where
  pub met_on : (is_number (next_of h q (class_of b)) && not (eqb q (next_of h q (class_of b)))) ≡ false → met h q (b ∷ l) ≡ met h (next_of h q (class_of b)) l
  unfolding met
  met_on e = rw e refl

  pub met_new : (is_number (next_of h q (class_of b)) && not (eqb q (next_of h q (class_of b)))) ≡ true
      → met h q (b ∷ l) ≡ record { state = next_of h q (class_of b); digits = leading (b ∷ l) } ∷ met h (next_of h q (class_of b)) l
  unfolding met
  met_new e = rw e refl

no_numbers : (t : List Sign) → fits t [] ≡ true → sign_numbers t [] ≡ []
unfolding fits sign_numbers past
no_numbers [] f = refl
no_numbers (byte x ∷ t) f = false_not_true f
no_numbers (digit ∷ t) f = false_not_true f
no_numbers (more ∷ t) f = no_numbers t f
no_numbers (free ∷ t) f = refl

-- a byte of no number: the state that follows is no number's, and as many numbers are left
record Quiet (t : List Sign) (b : ℕ) (l : List ℕ) : Type 0 where
  outside : in_digits (after t b) ≡ false
  numbers : sign_numbers t (b ∷ l) ≡ sign_numbers (after t b) l
  left : digits_left t ≡ digits_left (after t b)

quiet : (t : List Sign) (b : ℕ) (l : List ℕ) → T (formed t) → in_digits t ≡ false → is_digit b ≡ false → goes t b ≡ true → Quiet t b l
unfolding goes after sign_numbers digits_left
quiet [] b l w i d g = false_not_true g
quiet (byte x ∷ t) b l w i d g = record { outside = fails (in_digits t) (left (not (in_digits t)) (formed t) w); numbers = refl; left = refl }
quiet (digit ∷ t) b l w i d g = false_not_true (sym d ∙ g)
quiet (more ∷ t) b l w i d g = false_not_true (sym i)
quiet (free ∷ t) b l w i d g = record { outside = refl; numbers = refl; left = refl }

quiet_past : (t : List Sign) (b : ℕ) (l : List ℕ) → is_digit b ≡ false → Quiet t b l → Quiet (more ∷ t) b l
unfolding after sign_numbers digits_left past
quiet_past t b l d u =
    record {
      outside = ap (λ (e : Bool). in_digits (cond e (more ∷ t) (after t b))) d ∙ u.outside;
      numbers = ap (λ (e : Bool). sign_numbers t (cond e (past l) (b ∷ l))) d ∙ u.numbers
          ∙ sym (ap (λ (e : Bool). sign_numbers (cond e (more ∷ t) (after t b)) l) d);
      left = u.left ∙ sym (ap (λ (e : Bool). digits_left (cond e (more ∷ t) (after t b))) d);
    }

-- ---- the numbers that a line of a form meets

-- one byte, and then the rest of the line
module _ (h : House) (k : Kind) (b : ℕ) (l : List ℕ) (p : is_printable b ≡ true)
    (rest : (r : ℕ) (u : List Sign) → r < state_count → Among (way k u) (ways_of (state_at h r)) → fits u l ≡ true
    → met h r l ≡ in_turn (next_number h k u) (sign_numbers u l))
    (q : ℕ) (hq : q < state_count) where
  abbrev r : ℕ
  r = next_of h q (class_of b)

  module _ (t : List Sign) (a : Among (way k t) (ways_of (state_at h q))) (f : fits t (b ∷ l) ≡ true) where
    on : Among (way k (after t b)) (ways_of (state_at h r))
    on = follows_among h q hq b p k t (fits_goes t b l f).0 a

    goes_rest : met h r l ≡ in_turn (next_number h k (after t b)) (sign_numbers (after t b) l)
    goes_rest = rest r (after t b) (next_inside h q hq b) on (fits_goes t b l f).1

    same_left : (is_number r && not (eqb q r)) ≡ false → sign_numbers t (b ∷ l) ≡ sign_numbers (after t b) l → digits_left t ≡ digits_left (after t b)
        → met h q (b ∷ l) ≡ in_turn (next_number h k t) (sign_numbers t (b ∷ l))
    same_left e ns ds = met_on h q b l e ∙ goes_rest ∙ sym (ap₂ (λ (d : ℕ) (xs : List (List ℕ)). in_turn (behind h k - d) xs) ds ns)

    met_quiet : Quiet t b l → met h q (b ∷ l) ≡ in_turn (next_number h k t) (sign_numbers t (b ∷ l))
    met_quiet u =
        same_left (ap (λ (e : Bool). e && not (eqb q r)) (no_number_lem h r (next_inside h q hq b) k (after t b) on u.outside)) u.numbers u.left

  met_byte : (t : List Sign) → Among (way k t) (ways_of (state_at h q)) → fits t (b ∷ l) ≡ true
      → met h q (b ∷ l) ≡ in_turn (next_number h k t) (sign_numbers t (b ∷ l))
  unfolding goes after sign_numbers digits_left past
  met_byte [] a f = false_not_true (fits_goes [] b l f).0
  met_byte (byte x ∷ t) a f =
      let w = way_formed h q hq k (byte x ∷ t) a in
      met_quiet (byte x ∷ t) a f (record { outside = fails (in_digits t) (left (not (in_digits t)) (formed t) w); numbers = refl; left = refl })
  met_byte (digit ∷ t) a f =
      let w = way_formed h q hq k (digit ∷ t) a in
      let own = own_number h r (next_inside h q hq b) k t (on (digit ∷ t) a f) (holds (in_digits t) (left (in_digits t) (formed t) w)) in
      let apart = ne_eqb q r (λ e. false_not_true (sym (no_number_lem h q hq k (digit ∷ t) a refl) ∙ ap is_number e ∙ own.0)) in
      let s : r ≡ next_number h k (digit ∷ t) = omega (arith, own.1) in
      let n : next_number h k t ≡ suc (next_number h k (digit ∷ t)) = omega (arith, own.1) in
      met_new h q b l (ap₂ (λ (x y : Bool). x && not y) own.0 apart)
      ∙ ap₂ (λ (m : ℕ) (ms : List Met). record { state = m; digits = leading (b ∷ l) } ∷ ms) s
      (goes_rest (digit ∷ t) a f ∙ ap (λ (m : ℕ). in_turn m (sign_numbers t l)) n)
  met_byte (more ∷ t) a f = go (is_digit b) refl
    where
      go : (d : Bool) → is_digit b ≡ d → met h q (b ∷ l) ≡ in_turn (next_number h k (more ∷ t)) (sign_numbers (more ∷ t) (b ∷ l))
      go true d =
          let stays : after (more ∷ t) b ≡ more ∷ t = ap (λ (e : Bool). cond e (more ∷ t) (after t b)) d in
          let there = subst (λ (u : List Sign). Among (way k u) (ways_of (state_at h r))) stays (on (more ∷ t) a f) in
          let same : q ≡ r = omega (arith, (own_number h q hq k (more ∷ t) a refl).1, (own_number h r (next_inside h q hq b) k (more ∷ t) there refl).1) in
          same_left (more ∷ t) a f (ap (λ (e : Bool). is_number r && not e) (eq-eqb q r same) ∙ and-false (is_number r))
          (ap (λ (e : Bool). sign_numbers t (cond e (past l) (b ∷ l))) d ∙ sym (ap (λ (u : List Sign). sign_numbers u l) stays))
          (sym (ap digits_left stays))
      go false d =
          let w = way_formed h q hq k (more ∷ t) a in
          let g : goes t b ≡ true = sym (ap (λ (e : Bool). cond e true (goes t b)) d) ∙ (fits_goes (more ∷ t) b l f).0 in
          met_quiet (more ∷ t) a f (quiet_past t b l d
          (quiet t b l (right (not (in_digits t)) (formed t) w) (fails (in_digits t) (left (not (in_digits t)) (formed t) w)) d g))
  met_byte (free ∷ t) a f = met_quiet (free ∷ t) a f (record { outside = refl; numbers = refl; left = refl })

met_way : (h : House) (k : Kind) (l : List ℕ) (q : ℕ) (t : List Sign) → q < state_count → Among (way k t) (ways_of (state_at h q)) → fits t l ≡ true
    → printable l ≡ true → met h q l ≡ in_turn (next_number h k t) (sign_numbers t l)
unfolding met printable
met_way h k [] q t hq a f p = sym (ap (in_turn (next_number h k t)) (no_numbers t f))
met_way h k (b ∷ l) q t hq a f p =
    met_byte h k b l (and_left (is_printable b) (every is_printable l) p)
    (λ r u i m e. met_way h k l r u i m e (and_right (is_printable b) (every is_printable l) p)) q hq t a f

-- what a line of a kind is
abbrev Told : House → List ℕ → Kind → Type 0
Told h l Kind.Unprintable = Unit {0}
Told h l Kind.Note = Unit {0}
Told h l Kind.Sheet = (printable l ≡ true) × (matches (span_form_of h) l ≡ true)
Told h l Kind.Unit = (printable l ≡ true) × (matches (unit_form_of h) l ≡ true)
Told h l Kind.Rule = (printable l ≡ true) × (matches (rule_form_of h) l ≡ true)
Told h l Kind.Other = Unit {0}

told : (h : House) (l : List ℕ) → Told h l (kind_of h l)
unfolding kind_of
told h l = go (printable l) (matches note_form l) (matches short_note_form l) (matches (span_form_of h) l) (matches (unit_form_of h) l) (matches (rule_form_of h) l)
    refl refl refl refl
  where
    go : (p m n s u r : Bool) → printable l ≡ p → matches (span_form_of h) l ≡ s → matches (unit_form_of h) l ≡ u → matches (rule_form_of h) l ≡ r
        → Told h l (cond p (cond m Kind.Note (cond n Kind.Note (cond s Kind.Sheet (cond u Kind.Unit (cond r Kind.Rule Kind.Other))))) Kind.Unprintable)
    go false m n s u r ep es eu er = tt
    go true true n s u r ep es eu er = tt
    go true false true s u r ep es eu er = tt
    go true false false true u r ep es eu er = (ep, es)
    go true false false false true r ep es eu er = (ep, eu)
    go true false false false false true ep es eu er = (ep, er)
    go true false false false false false ep es eu er = tt

form_met : (h : House) (k : Kind) (f : List Piece) (l : List ℕ) → Among (way k (signs f)) (start_ways (shapes_of h)) → printable l ≡ true → matches f l ≡ true
    → met h start l ≡ in_turn (next_number h k (signs f)) (numbers f l)
form_met h k f l a p m =
    met_way h k l start (signs f) start_inside.1 (subst (λ s. Among (way k (signs f)) (ways_of s)) (sym (start_state h)) a) (signs_fit f l ∙ m) p
    ∙ ap (in_turn (next_number h k (signs f))) (form_numbers f l m)

-- the states of each kind's numbers begin here
first_numbers : (h : House) → (next_number h Kind.Sheet (signs (span_form_of h)) ≡ ends) × (next_number h Kind.Unit (signs (unit_form_of h)) ≡ ends + 1)
    × (next_number h Kind.Rule (signs (rule_form_of h)) ≡ ends + 4)
unfolding text digits_left
first_numbers Ours = (refl, refl, refl)
first_numbers Partner = (refl, refl, refl)

module _ (h : House) (l : List ℕ) where
  pub sheet_met : kind_of h l ≡ Kind.Sheet → met h start l ≡ in_turn ends (numbers (span_form_of h) l)
  unfolding Among
  sheet_met e =
      let t = subst (Told h l) e (told h l) in
      form_met h Kind.Sheet (span_form_of h) l (inr (inr (inl refl))) t.0 t.1 ∙ ap (λ n. in_turn n (numbers (span_form_of h) l)) (first_numbers h).0

  pub unit_met : kind_of h l ≡ Kind.Unit → met h start l ≡ in_turn (ends + 1) (numbers (unit_form_of h) l)
  unfolding Among
  unit_met e =
      let t = subst (Told h l) e (told h l) in
      form_met h Kind.Unit (unit_form_of h) l (inr (inr (inr (inl refl)))) t.0 t.1 ∙ ap (λ n. in_turn n (numbers (unit_form_of h) l)) (first_numbers h).1

  pub rule_met : kind_of h l ≡ Kind.Rule → met h start l ≡ in_turn (ends + 4) (numbers (rule_form_of h) l)
  unfolding Among
  rule_met e =
      let t = subst (Told h l) e (told h l) in
      form_met h Kind.Rule (rule_form_of h) l (inr (inr (inr (inr (inl refl))))) t.0 t.1
      ∙ ap (λ n. in_turn n (numbers (rule_form_of h) l)) (first_numbers h).2

-- ---- a number begins with a digit, and its digits lead to no other state

outside : (t : List Sign) (b : ℕ) → T (formed t) → is_digit b ≡ false → goes t b ≡ true → in_digits (after t b) ≡ false
unfolding goes
outside [] b w d g = false_not_true g
outside (byte x ∷ t) b w d g = (quiet (byte x ∷ t) b [] w refl d g).outside
outside (digit ∷ t) b w d g = false_not_true (sym d ∙ g)
outside (more ∷ t) b w d g =
    (quiet_past t b [] d
    (quiet t b [] (right (not (in_digits t)) (formed t) w) (fails (in_digits t) (left (not (in_digits t)) (formed t) w)) d
    (sym (ap (λ (e : Bool). cond e true (goes t b)) d) ∙ g))).outside
outside (free ∷ t) b w d g = (quiet (free ∷ t) b [] w refl d g).outside

abbrev formed_way : Way → Bool
formed_way (way k t) = formed t

-- past a byte that is no digit no number has begun
over_outside : (ws : List Way) (b : ℕ) → T (every formed_way ws) → is_digit b ≡ false → in_number (going (over ws b)) ≡ false
unfolding over
over_outside [] b w d = refl
over_outside (way k t ∷ ws) b w d =
    ap (λ vs. in_number (going vs)) (go_on_after k t b (over ws b)) ∙ go (goes t b) refl (over_outside ws b (right (formed t) (every formed_way ws) w) d)
  where
    go : (g : Bool) → goes t b ≡ g → in_number (going (over ws b)) ≡ false → in_number (going (cons_if g (way k (after t b)) (over ws b))) ≡ false
    go true e r = outside t b (left (formed t) (every formed_way ws) w) d e
    go false e r = r

follows_outside : (s : State) (b : ℕ) → T (every formed_way (ways_of s)) → is_digit b ≡ false → in_number (follows s b) ≡ false
follows_outside s b w d = go (eqb b line_feed) s w
  where
    line : (s : State) → T (every formed_way (ways_of s)) → in_number (in_line s b) ≡ false
    line (ended k) w = refl
    line unprintable w = refl
    line (going ws) w = here (is_printable b)
      where
        here : (p : Bool) → in_number (cond p (going (over ws b)) unprintable) ≡ false
        here true = over_outside ws b w d
        here false = refl

    go : (f : Bool) (s : State) → T (every formed_way (ways_of s)) → in_number (cond f (ended (kind_from s [])) (in_line s b)) ≡ false
    go true s w = refl
    go false s w = line s w

every_formed : (h : House) (q : ℕ) (ws : List Way) → T (every (placed_way h q) ws) → T (every formed_way ws)
every_formed h q [] t = tt
every_formed h q (way k u ∷ ws) t =
    both (formed u) (every formed_way ws) (left (formed u) _ (left (placed_way h q (way k u)) (every (placed_way h q) ws) t))
    (every_formed h q ws (right (placed_way h q (way k u)) (every (placed_way h q) ws) t))

-- the first way of a state in which a number has begun
number_way : (s : State) → T (in_number s) → (k : Kind) × (t : List Sign) × Among (way k (more ∷ t)) (ways_of s)
unfolding Among
number_way (ended k) n = absurd n
number_way unprintable n = absurd n
number_way (going []) n = absurd n
number_way (going (way k [] ∷ ws)) n = absurd n
number_way (going (way k (byte x ∷ t) ∷ ws)) n = absurd n
number_way (going (way k (digit ∷ t) ∷ ws)) n = absurd n
number_way (going (way k (more ∷ t) ∷ ws)) n = (k, t, inl refl)
number_way (going (way k (free ∷ t) ∷ ws)) n = absurd n

module _ (h : House) (q : ℕ) (hq : q < state_count) (b : ℕ) where
  pub number_begins : is_number (next_of h q (class_of b)) ≡ true → is_digit b ≡ true
  number_begins n = go (is_digit b) refl
    where
      go : (d : Bool) → is_digit b ≡ d → d ≡ true
      go true e = refl
      go false e =
          let w = every_formed h q (ways_of (state_at h q))
          (right (cond (is_number q) (in_number (state_at h q)) true) (every (placed_way h q) (ways_of (state_at h q))) (placed h q hq)) in
          let r = number_state h (next_of h q (class_of b)) (next_inside h q hq b) n in
          absurd (subst T (ap in_number (next_state h q hq b) ∙ follows_outside (state_at h q) b w e) r)

  pub digits_stay : is_number q ≡ true → is_digit b ≡ true → next_of h q (class_of b) ≡ q
  unfolding goes after
  digits_stay n d =
      let m = number_way (state_at h q) (number_state h q hq n) in
      let there = follows_among h q hq b (holds (is_printable b) (digit_printable b d)) m.0 (more ∷ m.1)
      (ap (λ (e : Bool). cond e true (goes m.1 b)) d) m.2 in
      let same = subst (λ (u : List Sign). Among (way m.0 u) (ways_of (state_at h (next_of h q (class_of b)))))
      (ap (λ (e : Bool). cond e (more ∷ m.1) (after m.1 b)) d) there in
      omega (
        arith,
        (own_number h q hq m.0 (more ∷ m.1) m.2 refl).1,
        (own_number h (next_of h q (class_of b)) (next_inside h q hq b) m.0 (more ∷ m.1) same refl).1,
      )

-- so past a number's first digit the others may be left out
module _ (h : House) (q : ℕ) (n : is_number q ≡ true) where
  inside : q < state_count
  inside = omega (arith, ltb-true q stops (and_right (leb ends q) (ltb q stops) n))

  pub digits_run : (ds l : List ℕ) → Digits ds → run_of h q (ds ++ l) ≡ run_of h q l
  unfolding run_of
  digits_run [] l d = refl
  digits_run (b ∷ ds) l d = ap (λ r. run_of h r (ds ++ l)) (digits_stay h q inside b n d.0) ∙ digits_run ds l d.1

  pub digits_met : (ds l : List ℕ) → Digits ds → met h q (ds ++ l) ≡ met h q l
  digits_met [] l d = refl
  digits_met (b ∷ ds) l d =
      let s = digits_stay h q inside b n d.0 in
      let r = next_of h q (class_of b) in
      met_on h q b (ds ++ l) (ap (λ (e : Bool). is_number r && not e) (eq-eqb q r (sym s)) ∙ and-false (is_number r))
      ∙ ap (λ r. met h r (ds ++ l)) s ∙ digits_met ds l d.1
