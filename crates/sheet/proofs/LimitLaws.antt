-- The limits of a sheet's steps, as bounds; a stretch in two parts; windows inside a stretch have their slots there.
use Rattle.std.specs.Prelude.{◌≡◌, refl, Bool, true, false, ◌&&◌, cond, ℕ, suc, ◌+◌, ◌≤◌, ◌<◌, T, leb, ltb, eqb, length, ℤ, pos, neg_ℤ}
use Rattle.std.proofs.Common.{◌∙◌, inl, inr, arith, leb→le, lt→ltb, eqb→eq}
use Rattle.std.proofs.Math.Logic.{⊎_elim}
use mathlib.Core.List.{List, [], ◌∷◌, map}
use Rattle.std.proofs.Math.Decide.{dec_le}
use Rattle.std.proofs.Math.Dec.{ltb→lt, eqb_refl}
use Rattle.lists.specs.Lists.{within, keep, how_many, smallest, largest}
use Rattle.sheet.specs.Sheet.{Window, Rule, Sheet, count_in, in_windows, inside_of, on_stretch, at_most, at_least, limit}
use Rattle.lists.specs.Members.{In, both, left, right, within_iff, in_keep, keep_in, in_map, map_in}
use Rattle.lists.specs.Counts.{one_if_le, one_if_split}
use Rattle.lists.specs.Extremes.{largest_base, largest_ge, largest_in, smallest_base, smallest_le, smallest_in}

-- a stretch in two parts
pub count_in_split : (a b : ℕ) → a ≤ b → (xs : List ℕ) → count_in 1 b xs ≡ count_in 1 a xs + count_in (suc a) b xs
count_in_split a b h [] = refl
count_in_split a b h (x ∷ xs) = omega (
  arith,
  count_in_split a b h xs,
  one_if_split (within 1 b x) (within 1 a x) (within (suc a) b x)
      (λ t.
      let p = (within_iff 1 b x).0 t in
      elim (dec_le x a) [ yes l ↦ inl ((within_iff 1 a x).1 (omega arith)) | no g ↦ inr ((within_iff (suc a) b x).1 (omega arith)) ])
      (λ t. let p = (within_iff 1 a x).0 t in (within_iff 1 b x).1 (omega arith))
      (λ t. let p = (within_iff (suc a) b x).0 t in (within_iff 1 b x).1 (omega arith))
      (λ t u. let p = (within_iff 1 a x).0 t in let q = (within_iff (suc a) b x).0 u in omega arith),
)

-- windows inside a stretch have their slots there
pub inside_count : (f t : ℕ) (ws : List Window) (xs : List ℕ) → T (in_windows ws xs) → how_many (inside_of f t) ws ≤ count_in f t xs
inside_count f t [] [] h = omega arith
inside_count f t [] (x ∷ xs) h = absurd h
inside_count f t (w ∷ ws) [] h = absurd h
inside_count f t (w ∷ ws) (x ∷ xs) h =
    let p = (within_iff w.first w.last x).0 (left (within w.first w.last x) (in_windows ws xs) h) in
    omega (
      arith,
      inside_count f t ws xs (right (within w.first w.last x) (in_windows ws xs) h),
      one_if_le (leb f w.first && leb w.last t) (within f t x) (λ q.
          let a = leb→le f w.first (left (leb f w.first) (leb w.last t) q) in
          let b = leb→le w.last t (right (leb f w.first) (leb w.last t) q) in
          (within_iff f t x).1 (omega arith)),
    )

-- ---- limits
cond_yes : (c : Bool) (x y : ℤ) → T c → cond c x y ≡ x
cond_yes true x y h = refl
cond_yes false x y h = absurd h

cond_no : (c : Bool) (x y : ℤ) → (T c → ⊥) → cond c x y ≡ y
cond_no true x y h = absurd (h tt)
cond_no false x y h = refl

module _ (s : Sheet) where
  pub limit_fwd : (a b : ℕ) → a < b → limit s a b ≡ pos (at_most s (suc a) b)
  unfolding limit
  limit_fwd a b h = cond_yes (ltb a b) (pos (at_most s (suc a) b)) (cond (ltb b a) (neg_ℤ (pos (at_least s (suc b) a))) (pos 0)) (lt→ltb a b h)

  pub limit_back : (a b : ℕ) → b < a → limit s a b ≡ neg_ℤ (pos (at_least s (suc b) a))
  unfolding limit
  limit_back a b h =
      cond_no (ltb a b) (pos (at_most s (suc a) b)) (cond (ltb b a) (neg_ℤ (pos (at_least s (suc b) a))) (pos 0)) (λ t. omega (arith, ltb→lt a b t))
      ∙ cond_yes (ltb b a) (neg_ℤ (pos (at_least s (suc b) a))) (pos 0) (lt→ltb b a h)

  pub limit_same : (a : ℕ) → limit s a a ≡ pos 0
  unfolding limit
  limit_same a =
      cond_no (ltb a a) (pos (at_most s (suc a) a)) (cond (ltb a a) (neg_ℤ (pos (at_least s (suc a) a))) (pos 0)) (λ t. omega (arith, ltb→lt a a t))
      ∙ cond_no (ltb a a) (neg_ℤ (pos (at_least s (suc a) a))) (pos 0) (λ t. omega (arith, ltb→lt a a t))

  on : (f t : ℕ) (r : Rule) → T (on_stretch f t r) → (r.from ≡ f) × (r.to ≡ t)
  on f t r h = (eqb→eq r.from f (left (eqb r.from f) (eqb r.to t) h), eqb→eq r.to t (right (eqb r.from f) (eqb r.to t) h))

  own : (r : Rule) → T (on_stretch r.from r.to r)
  own r = both (eqb r.from r.from) (eqb r.to r.to) (eqb_refl r.from) (eqb_refl r.to)

  pub at_most_rule : (r : Rule) → In r s.rules → at_most s r.from r.to ≤ r.high
  unfolding at_most
  at_most_rule r m = smallest_le (length s.units) r.high (map (λ q. q.high) (keep (on_stretch r.from r.to) s.rules))
      (map_in (λ (q : Rule). q.high) r (keep (on_stretch r.from r.to) s.rules) (keep_in (on_stretch r.from r.to) r s.rules m (own r)))

  pub at_least_rule : (r : Rule) → In r s.rules → r.low ≤ at_least s r.from r.to
  unfolding at_least
  at_least_rule r m = largest_ge (how_many (inside_of r.from r.to) s.units) r.low (map (λ q. q.low) (keep (on_stretch r.from r.to) s.rules))
      (map_in (λ (q : Rule). q.low) r (keep (on_stretch r.from r.to) s.rules) (keep_in (on_stretch r.from r.to) r s.rules m (own r)))

  pub at_most_n : (f t : ℕ) → at_most s f t ≤ length s.units
  unfolding at_most
  at_most_n f t = smallest_base (length s.units) (map (λ q. q.high) (keep (on_stretch f t) s.rules))

  pub at_least_windows : (f t : ℕ) → how_many (inside_of f t) s.units ≤ at_least s f t
  unfolding at_least
  at_least_windows f t = largest_base (how_many (inside_of f t) s.units) (map (λ q. q.low) (keep (on_stretch f t) s.rules))

  pub at_most_ge : (f t k : ℕ) → k ≤ length s.units → ((r : Rule) → In r s.rules → r.from ≡ f → r.to ≡ t → k ≤ r.high) → k ≤ at_most s f t
  unfolding at_most
  at_most_ge f t k h g =
      let hs = map (λ (q : Rule). q.high) (keep (on_stretch f t) s.rules) in
      ⊎_elim (λ e. omega arith)
      (λ m. let p = in_map (λ (q : Rule). q.high) (smallest (length s.units) hs) (keep (on_stretch f t) s.rules) m in
      let q = in_keep (on_stretch f t) p.0 s.rules p.1 in
      let w = on f t p.0 q.1 in
      omega (arith, g p.0 q.0 w.0 w.1, p.2)) (smallest_in (length s.units) hs)

  pub at_least_le : (f t k : ℕ) → how_many (inside_of f t) s.units ≤ k → ((r : Rule) → In r s.rules → r.from ≡ f → r.to ≡ t → r.low ≤ k)
      → at_least s f t ≤ k
  unfolding at_least
  at_least_le f t k h g =
      let hs = map (λ (q : Rule). q.low) (keep (on_stretch f t) s.rules) in
      ⊎_elim (λ e. omega arith)
      (λ m. let p = in_map (λ (q : Rule). q.low) (largest (how_many (inside_of f t) s.units) hs) (keep (on_stretch f t) s.rules) m in
      let q = in_keep (on_stretch f t) p.0 s.rules p.1 in
      let w = on f t p.0 q.1 in
      omega (arith, g p.0 q.0 w.0 w.1, p.2)) (largest_in (how_many (inside_of f t) s.units) hs)
