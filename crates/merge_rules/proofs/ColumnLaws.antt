-- One rule more in the columns: what the code stores is the rules with one more at their front.
-- Key idea: the columns have at a place what the rule there has, so the first place on the stretch is the same in both.
use mathlib.Core.Path.{◌≡◌, refl, sym, ap, ap₂, subst, ◌∙◌}
use mathlib.Core.Bool.{Bool, false, ◌&&◌}
use mathlib.Core.List.{List, [], ◌∷◌, ◌++◌, map, map-append}
use Prim.Native.Nat.{ℕ, zero, suc, ◌+◌, ◌≤◌, ◌<◌, min, max}
use native.Mathlib.Omega.{arith}
use lib.Dec.{eqb}
use lib.ListN.{length, get_or, set, length-append, length-set, length-map, get_or-map}
use lib.Seq.{map-set_same}
use Rattle.lists.specs.Lists.{on_front}
use Rattle.lists.specs.First.{first_place, first_before, first_at}
use Rattle.sheet.specs.Sheet.{Rule, on_stretch, no_rule}
use Rattle.merge_sheets.specs.Merge.{tightened, with_rule}
use Rattle.merge_sheets.proofs.CombineLaws.{with_rule_there, with_rule_behind}
use Rattle.merge_rules.specs.Columns.{Columns, columns, rule_of, stretch_at, AtFront}
use Rattle.merge_rules.proofs.FrontLaws.{front_at, front_set, front_more}

map_set : {A B : Type 0} (g : A → B) (xs : List A) (i : ℕ) (x : A) → map g (set xs i x) ≡ set (map g xs) i (g x)
map_set g [] i x = refl
map_set g (y ∷ ys) zero x = refl
map_set g (y ∷ ys) (suc i) x = ap (λ l. g y ∷ l) (map_set g ys i x)

-- ---- one column
module _ (col : Rule → ℕ) (zeros : col no_rule ≡ 0) (qs : List Rule) (room now : List ℕ) (f : now ≡ on_front (map col qs) room) where
  abbrev size : length (map col qs) ≡ length qs
  size = length-map qs col

  column_at : (j : ℕ) → j < length qs → get_or now j 0 ≡ col (get_or qs j no_rule)
  column_at j h =
      front_at (map col qs) room now f j 0 (omega (arith, size))
      ∙ subst (λ (d : ℕ). get_or (map col qs) j d ≡ col (get_or qs j no_rule)) zeros (get_or-map col qs j no_rule)

  column_same : (p : ℕ) (q : Rule) → col q ≡ col (get_or qs p no_rule) → now ≡ on_front (map col (set qs p q)) room
  column_same p q e = f ∙ ap (λ l. on_front l room) (sym (map-set_same col qs p q no_rule e))

  column_set : (p : ℕ) (q : Rule) (v : ℕ) → v ≡ col q → p < length qs → set now p v ≡ on_front (map col (set qs p q)) room
  column_set p q v e h =
      front_set (map col qs) room now f p v (omega (arith, size))
      ∙ ap (λ l. on_front l room) (ap (set (map col qs) p) e ∙ sym (map_set col qs p q))

  column_more : (r : Rule) → length qs < length now → set now (length qs) (col r) ≡ on_front (map col (qs ++ (r ∷ []))) room
  column_more r h =
      ap (λ k. set now k (col r)) (sym size)
      ∙ front_more (map col qs) room now f (col r) (omega (arith, size))
      ∙ ap (λ l. on_front l room) (sym (map-append col qs (r ∷ [])))

-- ---- the four
module _ (f t l h : ℕ) (n : ℕ) (fs ts ls hs : List ℕ) (qs : List Rule) (before : Columns) (held : AtFront qs n before (columns fs ts ls hs)) where
  abbrev here : ℕ → Bool
  here = stretch_at fs ts f t

  abbrev r : Rule
  r = rule_of f t l h

  same_test : (j : ℕ) → j < length qs → here j ≡ on_stretch f t (get_or qs j no_rule)
  same_test j k =
      ap₂ (λ (a b : ℕ). eqb a f && eqb b t) (column_at (λ q. q.from) refl qs before.from fs held.froms j k)
      (column_at (λ q. q.to) refl qs before.to ts held.tos j k)

  module _ (p : ℕ) (found : p ≡ first_place n here) where
    earlier : (j : ℕ) → j < p → j < length qs → on_stretch f t (get_or qs j no_rule) ≡ false
    earlier j k m = sym (same_test j m) ∙ first_before here n j (omega (arith, found))

    -- the stretch is there
    pub tightens : p < n → (lo hi : ℕ) → lo ≡ max (get_or ls p 0) l → hi ≡ min (get_or hs p 0) h
        → AtFront (with_rule qs r) n before (columns fs ts (set ls p lo) (set hs p hi))
    tightens k lo hi el eh =
        let m : p < length qs = omega (arith, held.count) in
        let q = tightened (get_or qs p no_rule) r in
        let on = sym (same_test p m) ∙ ap here found ∙ first_at here n (omega (arith, found)) in
        let w = with_rule_there qs r p m on (λ j i. earlier j i (omega arith)) in
        let low = ap (λ (x : ℕ). max x l) (column_at (λ q. q.low) refl qs before.low ls held.lows p m) in
        let high = ap (λ (x : ℕ). min x h) (column_at (λ q. q.high) refl qs before.high hs held.highs p m) in
        subst (λ (cs : List Rule). AtFront cs n before (columns fs ts (set ls p lo) (set hs p hi))) (sym w) (record {
          count = held.count ∙ sym (length-set qs p q);
          froms = column_same (λ q. q.from) refl qs before.from fs held.froms p q refl;
          tos = column_same (λ q. q.to) refl qs before.to ts held.tos p q refl;
          lows = column_set (λ q. q.low) refl qs before.low ls held.lows p q lo (el ∙ low) m;
          highs = column_set (λ q. q.high) refl qs before.high hs held.highs p q hi (eh ∙ high) m;
        })

    -- it is not
    pub stands_behind : n ≤ p → (n < length fs) × (n < length ts) × (n < length ls) × (n < length hs)
        → AtFront (with_rule qs r) (n + 1) before (columns (set fs n f) (set ts n t) (set ls n l) (set hs n h))
    stands_behind k long =
        let e = held.count in
        let w = with_rule_behind qs r (λ j i. earlier j (omega (arith, e)) i) in
        subst (λ (cs : List Rule). AtFront cs (n + 1) before (columns (set fs n f) (set ts n t) (set ls n l) (set hs n h))) (sym w) (record {
          count = omega (arith, e, length-append qs (r ∷ []));
          froms = ap (λ i. set fs i f) e ∙ column_more (λ q. q.from) refl qs before.from fs held.froms r (omega (arith, e, long.0));
          tos = ap (λ i. set ts i t) e ∙ column_more (λ q. q.to) refl qs before.to ts held.tos r (omega (arith, e, long.1));
          lows = ap (λ i. set ls i l) e ∙ column_more (λ q. q.low) refl qs before.low ls held.lows r (omega (arith, e, long.2));
          highs = ap (λ i. set hs i h) e ∙ column_more (λ q. q.high) refl qs before.high hs held.highs r (omega (arith, e, long.3));
        })
