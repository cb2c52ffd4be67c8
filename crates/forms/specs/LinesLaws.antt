-- The laws of lines: joined they give the text back, and a text of some bytes is its first line and then the lines of what stands past it.
-- Key idea: every definition of Lines goes byte by byte with the one test whether the byte is the line feed, so each law is an induction on the text
-- with two cases.
use Rattle.std.specs.Prelude.{ℕ, zero, suc, ◌+◌, ◌-◌, ◌≤◌, ◌<◌, ◌≡◌, refl, Bool, true, false, not, cond, List, [], ◌∷◌, map, length, get_or, take, drop, eqb, ltb}
use Rattle.std.proofs.Common.{sym, ap₂, ◌∙◌, true≢false, arith, drop_of_length-le, drop-cons, drop-drop, eqb-true, lt-ltb, le-ltb, ltb-false}
use Rattle.std.proofs.Math.Path.{ap}
use Rattle.lists.specs.Lists.{joined, every}
use Rattle.forms.specs.Words.{line_feed}
use Rattle.forms.specs.Lines.{TextLine, text_line, in_front, lines, spelt, first_line, has_feed, past_line, whole_lines}

-- ---- the lines joined give the text back, and no line holds a line feed

joined_front : (b : ℕ) (ls : List TextLine) → joined (map spelt (in_front b ls)) ≡ b ∷ joined (map spelt ls)
joined_front b [] = refl
joined_front b (l ∷ ls) = refl

pub lines_joined : (t : List ℕ) → joined (map spelt (lines t)) ≡ t
unfolding lines
lines_joined [] = refl
lines_joined (b ∷ t) = go (eqb b line_feed) refl (lines_joined t)
  where
    go : (e : Bool) → eqb b line_feed ≡ e → joined (map spelt (lines t)) ≡ t
        → joined (map spelt (cond e (text_line [] true ∷ lines t) (in_front b (lines t)))) ≡ b ∷ t
    go true e h = ap (λ (m : List ℕ). line_feed ∷ m) h ∙ ap (λ (c : ℕ). c ∷ t) (sym (eqb-true b line_feed e))
    go false e h = joined_front b (lines t) ∙ ap (λ (m : List ℕ). b ∷ m) h

abbrev pub feedless : TextLine → Bool
feedless l = every (λ b. not (eqb b line_feed)) l.bytes

feedless_front : (b : ℕ) (ls : List TextLine) → eqb b line_feed ≡ false → every feedless ls ≡ true → every feedless (in_front b ls) ≡ true
feedless_front b [] e h = simp e
feedless_front b (l ∷ ls) e h = simp e h

pub lines_feedless : (t : List ℕ) → every feedless (lines t) ≡ true
unfolding lines
lines_feedless [] = refl
lines_feedless (b ∷ t) = go (eqb b line_feed) refl (lines_feedless t)
  where
    go : (e : Bool) → eqb b line_feed ≡ e → every feedless (lines t) ≡ true → every feedless (cond e (text_line [] true ∷ lines t) (in_front b (lines t))) ≡ true
    go true e h = h
    go false e h = feedless_front b (lines t) e h

-- ---- the first line, and the rest

lines_cons : (b : ℕ) (t : List ℕ) → lines (b ∷ t) ≡ text_line (first_line (b ∷ t)) (has_feed (b ∷ t)) ∷ lines (past_line (b ∷ t))
unfolding lines first_line has_feed past_line
lines_cons b [] = go (eqb b line_feed)
  where
    go : (e : Bool) → cond e (text_line [] true ∷ []) (text_line (b ∷ []) false ∷ []) ≡ text_line (cond e [] (b ∷ [])) (cond e true false) ∷ lines (cond e [] [])
    go true = refl
    go false = refl
lines_cons b (c ∷ t) = go (eqb b line_feed) (lines_cons c t)
  where
    go : (e : Bool) → lines (c ∷ t) ≡ text_line (first_line (c ∷ t)) (has_feed (c ∷ t)) ∷ lines (past_line (c ∷ t))
        → cond e (text_line [] true ∷ lines (c ∷ t)) (in_front b (lines (c ∷ t)))
        ≡ text_line (cond e [] (b ∷ first_line (c ∷ t))) (cond e true (has_feed (c ∷ t))) ∷ lines (cond e (c ∷ t) (past_line (c ∷ t)))
    go true h = refl
    go false h = ap (in_front b) h

take_first : (t : List ℕ) → take (length (first_line t)) t ≡ first_line t
unfolding first_line
take_first [] = refl
take_first (b ∷ t) = go (eqb b line_feed) (take_first t)
  where
    go : (e : Bool) → take (length (first_line t)) t ≡ first_line t → take (length (cond e [] (b ∷ first_line t))) (b ∷ t) ≡ cond e [] (b ∷ first_line t)
    go true h = refl
    go false h = ap (λ (m : List ℕ). b ∷ m) h

drop_first : (t : List ℕ) → drop (suc (length (first_line t))) t ≡ past_line t
unfolding first_line past_line
drop_first [] = refl
drop_first (b ∷ t) = go (eqb b line_feed) (drop_first t)
  where
    go : (e : Bool) → drop (suc (length (first_line t))) t ≡ past_line t → drop (suc (length (cond e [] (b ∷ first_line t)))) (b ∷ t) ≡ cond e t (past_line t)
    go true h = refl
    go false h = h

-- ---- at a place of a text

-- where the line that starts at a place ends
abbrev pub line_end : List ℕ → ℕ → ℕ
line_end t at = at + length (first_line (drop at t))

module _ (t : List ℕ) (at : ℕ) where
  pub line_part : (end : ℕ) → end ≡ line_end t at → take (end - at) (drop at t) ≡ first_line (drop at t)
  line_part end e =
      let k : end - at ≡ length (first_line (drop at t)) = omega arith in
      ap (λ (n : ℕ). take n (drop at t)) k ∙ take_first (drop at t)

  -- the lines from a place on: the one that starts there, and those past its end
  pub lines_at : (next : ℕ) → at < length t → next ≡ line_end t at + 1 →
      lines (drop at t) ≡ text_line (first_line (drop at t)) (has_feed (drop at t)) ∷ lines (drop next t)
  lines_at next h e =
      let k : at + suc (length (first_line (drop at t))) ≡ next = omega arith in
      let p : past_line (drop at t) ≡ drop next t = sym (drop_first (drop at t)) ∙ drop-drop (suc (length (first_line (drop at t)))) at t
      ∙ ap (λ (n : ℕ). drop n t) k in
      rw (← p) (rw (drop-cons t at 0 h) (lines_cons (get_or t at 0) (drop (suc at) t)))

  pub lines_none : length t ≤ at → lines (drop at t) ≡ []
  unfolding lines
  lines_none h = ap lines (drop_of_length-le t h)

-- ---- the bytes up to the last line feed

-- there are some exactly where there is a line feed
feed_whole : (t : List ℕ) → ltb 0 (whole_lines t) ≡ has_feed t
unfolding whole_lines has_feed
feed_whole [] = refl
feed_whole (b ∷ t) = go (has_feed (b ∷ t))
  where
    go : (e : Bool) → ltb 0 (cond e (suc (whole_lines t)) 0) ≡ e
    go true = lt-ltb 0 (suc (whole_lines t)) (omega arith)
    go false = refl

whole_drop : (t : List ℕ) (at : ℕ) → at ≤ whole_lines t → at + whole_lines (drop at t) ≡ whole_lines t
unfolding whole_lines
whole_drop t zero h = omega arith
whole_drop [] (suc n) h = absurd (omega arith)
whole_drop (b ∷ t) (suc n) h = go (has_feed (b ∷ t)) h (whole_drop t n)
  where
    go : (e : Bool) → suc n ≤ cond e (suc (whole_lines t)) 0 → (n ≤ whole_lines t → n + whole_lines (drop n t) ≡ whole_lines t)
        → suc n + whole_lines (drop n t) ≡ cond e (suc (whole_lines t)) 0
    go true l ih = omega (arith, ih (omega arith))
    go false l ih = absurd (omega arith)

whole_rest : (t : List ℕ) (at : ℕ) → whole_lines t ≤ at → whole_lines (drop at t) ≡ 0
unfolding whole_lines has_feed
whole_rest t zero h = omega arith
whole_rest [] (suc n) h = refl
whole_rest (b ∷ t) (suc n) h = go (eqb b line_feed) (has_feed t) (feed_whole t) h (whole_rest t n)
  where
    go : (e f : Bool) → ltb 0 (whole_lines t) ≡ f → cond (cond e true f) (suc (whole_lines t)) 0 ≤ suc n → (whole_lines t ≤ n → whole_lines (drop n t) ≡ 0)
        → whole_lines (drop n t) ≡ 0
    go true f w l ih = ih (omega arith)
    go false true w l ih = ih (omega arith)
    go false false w l ih = ih (omega (arith, ltb-false 0 (whole_lines t) w))

first_whole : (t : List ℕ) → has_feed t ≡ true → suc (length (first_line t)) ≤ whole_lines t
unfolding whole_lines has_feed first_line
first_whole [] h = absurd (true≢false (sym h))
first_whole (b ∷ t) h = go (eqb b line_feed) h (first_whole t)
  where
    go : (e : Bool) → cond e true (has_feed t) ≡ true → (has_feed t ≡ true → suc (length (first_line t)) ≤ whole_lines t)
        → suc (length (cond e [] (b ∷ first_line t))) ≤ cond (cond e true (has_feed t)) (suc (whole_lines t)) 0
    go true f ih = omega arith
    go false f ih = rw f (omega (arith, ih f))

first_all : (t : List ℕ) → has_feed t ≡ false → first_line t ≡ t
unfolding has_feed first_line
first_all [] h = refl
first_all (b ∷ t) h = go (eqb b line_feed) h (first_all t)
  where
    go : (e : Bool) → cond e true (has_feed t) ≡ false → (has_feed t ≡ false → first_line t ≡ t) → cond e [] (b ∷ first_line t) ≡ b ∷ t
    go true f ih = absurd (true≢false f)
    go false f ih = ap (λ (m : List ℕ). b ∷ m) (ih f)

pub whole_within : (t : List ℕ) → whole_lines t ≤ length t
unfolding whole_lines
whole_within [] = omega arith
whole_within (b ∷ t) = go (has_feed (b ∷ t)) (whole_within t)
  where
    go : (e : Bool) → whole_lines t ≤ length t → cond e (suc (whole_lines t)) 0 ≤ suc (length t)
    go true h = omega arith
    go false h = omega arith

-- a line that starts before the last line feed is ended, and one that starts past it is not
module _ (t : List ℕ) (at : ℕ) where
  pub whole_ended : at < whole_lines t → has_feed (drop at t) ≡ true
  whole_ended h = sym (feed_whole (drop at t)) ∙ lt-ltb 0 (whole_lines (drop at t)) (omega (arith, whole_drop t at (omega arith)))

  pub whole_next : at < whole_lines t → line_end t at + 1 ≤ whole_lines t
  whole_next h = omega (arith, first_whole (drop at t) (whole_ended h), whole_drop t at (omega arith))

  pub rest_unended : whole_lines t ≤ at → has_feed (drop at t) ≡ false
  rest_unended h = sym (feed_whole (drop at t)) ∙ le-ltb 0 (whole_lines (drop at t)) (omega (arith, whole_rest t at h))

  pub rest_line : whole_lines t ≤ at → first_line (drop at t) ≡ drop at t
  rest_line h = first_all (drop at t) (rest_unended h)

-- one byte more
pub whole_feed : (t : List ℕ) (n : ℕ) → n < length t → eqb (get_or t n 0) line_feed ≡ true → whole_lines (take (suc n) t) ≡ suc n
unfolding whole_lines has_feed
whole_feed [] n h e = absurd (omega arith)
whole_feed (b ∷ t) zero h e = rw e refl
whole_feed (b ∷ t) (suc n) h e =
    let ih = whole_feed t n (omega arith) e in
    let f : has_feed (take (suc n) t) ≡ true = sym (feed_whole (take (suc n) t)) ∙ lt-ltb 0 (whole_lines (take (suc n) t)) (omega arith) in
    go (eqb b line_feed) (has_feed (take (suc n) t)) f ih
  where
    go : (e f : Bool) → f ≡ true → whole_lines (take (suc n) t) ≡ suc n → cond (cond e true f) (suc (whole_lines (take (suc n) t))) 0 ≡ suc (suc n)
    go true f w ih = ap suc ih
    go false true w ih = ap suc ih
    go false false w ih = absurd (true≢false (sym w))

pub whole_other : (t : List ℕ) (n : ℕ) → n < length t → eqb (get_or t n 0) line_feed ≡ false → whole_lines (take (suc n) t) ≡ whole_lines (take n t)
unfolding whole_lines has_feed
whole_other [] n h e = absurd (omega arith)
whole_other (b ∷ t) zero h e = rw e refl
whole_other (b ∷ t) (suc n) h e =
    let ih = whole_other t n (omega arith) e in
    let f : has_feed (take (suc n) t) ≡ has_feed (take n t) = sym (feed_whole (take (suc n) t)) ∙ ap (ltb 0) ih ∙ feed_whole (take n t) in
    ap₂ (λ (f : Bool) (k : ℕ). cond (cond (eqb b line_feed) true f) (suc k) 0) f ih
