-- The walk back, one boundary at a time.
-- Key idea: the walk stands at the end of its room, so a boundary more is one more in front. No boundary is on it twice, so it has at most w boundaries and
-- starts at level 1 or above: the walk can always go on until it meets a boundary again.
use Prim.Native.Nat.{ℕ, suc, ◌+◌, ◌-◌, ◌≤◌, ◌<◌}
use native.Mathlib.Omega.{arith}
use mathlib.Core.Path.{◌≡◌, sym, ap, subst, ◌∙◌}
use mathlib.Core.List.{List, [], ◌∷◌}
use Rattle.std.specs.Prelude.{◌≢◌, EachIndex}
use lib.ListN.{length, get_or, take, drop, set, length-take, length-drop, length-set, drop_of_length-le}
use lib.Seq.{drop-cons, drop-set-lt, get_or-set_same}
use lib.IntN.{ℤ, ◌+ℤ◌}
use Rattle.lists.specs.Members.{In}
use Rattle.network.proofs.NetworkLaws.{distinct_length}
use Rattle.network.specs.Table.{entry}
use Rattle.network_levels.specs.Levels.{level}
use Rattle.network_cycles.specs.CycleLaws.{at_in}
use Rattle.network_cycles.specs.WalkLaws.{WalkedBack, met_again}
use Rattle.network_levels.specs.Finder.{Weighed, Fallen, Source, Found}
use Rattle.network.specs.Cycles.{Upto, Distinct, Cycle}

pub record WalkInv (w : ℕ) (d : List ℤ) (walk : List ℕ) (k v : ℕ) : Type 0 where
  pub low : 0 < k
  pub most : k ≤ w
  pub long : length walk ≡ w + 1
  pub at : get_or walk k 0 ≡ v
  pub walked : WalkedBack w (entry w d) (k - 1) v (drop (suc k) walk)
  pub upto : Upto (w - 1) (v ∷ drop (suc k) walk)
  pub apart : Distinct (v ∷ drop (suc k) walk)

pub walk_start : {w : ℕ} {d : List ℤ} (walk : List ℕ) {last : ℕ} → Weighed w d → Fallen w d last → length walk ≡ w + 1 → WalkInv w d (set walk w last) w last
unfolding WalkedBack
walk_start {w} {d} walk {last} q f l =
    let t = set walk w last in
    let n = length-set walk w last in
    let h : length t ≤ suc w = omega arith in
    let none : drop (suc w) t ≡ [] = drop_of_length-le t h in
    let below : last ≤ w - 1 = omega (arith, f.inside) in
    record {
      low = omega (arith, q.some);
      most = omega arith;
      long = n ∙ l;
      at = get_or-set_same walk w last 0 (omega arith);
      walked = subst (λ (xs : List ℕ). WalkedBack w (entry w d) (w - 1) last xs) (sym none) (f.inside, f.fell);
      upto = subst (λ (xs : List ℕ). Upto (w - 1) (last ∷ xs)) (sym none) (below, tt);
      apart = subst (λ (xs : List ℕ). Distinct (last ∷ xs)) (sym none) ((λ m. let r = at_in last [] m in omega (arith, r.inside)), tt);
    }

module _ {w : ℕ} {d : List ℤ} {walk : List ℕ} {k v u : ℕ} (q : Weighed w d) (i : WalkInv w d walk k v) (s : Source w d (k - 1) v u) where
  whole : drop k walk ≡ v ∷ drop (suc k) walk
  whole = drop-cons walk k 0 (omega (arith, i.long, i.most)) ∙ ap (λ (x : ℕ). x ∷ drop (suc k) walk) i.at

  size : length (v ∷ drop (suc k) walk) ≡ w + 1 - k
  size = ap length (sym whole) ∙ (omega (arith, length-drop k walk, i.long))

  -- the boundary stands on the walk already, n places behind its front
  pub walk_found : (n : ℕ) → n < length (drop k walk) → get_or (drop k walk) n 0 ≡ u → Found w d k (k + n + 1) walk
  walk_found n h met =
      let n' = ap length whole in
      let at : get_or (v ∷ drop (suc k) walk) n 0 ≡ u = ap (λ (xs : List ℕ). get_or xs n 0) (sym whole) ∙ met in
      let z = q.zeros v (omega (arith, i.upto.0, q.some)) in
      let c = met_again w (entry w d) (w - 1) (k - 1) v (drop (suc k) walk) u n (omega arith) at i.walked i.upto i.apart z s.gives in
      let m : k + n + 1 - k ≡ suc n = omega arith in
      let t : take (suc n) (v ∷ drop (suc k) walk) ≡ take (k + n + 1 - k) (drop k walk) =
      ap (take (suc n)) (sym whole) ∙ ap (λ (x : ℕ). take x (drop k walk)) (sym m) in
      let room = distinct_length (w - 1) (take (suc n) (v ∷ drop (suc k) walk)) c.upto c.apart in
      record {
        order = omega arith;
        inside = omega (arith, i.long, size);
        short = omega (arith, room, length-take (suc n) (v ∷ drop (suc k) walk), size, q.some);
        cycle = subst (Cycle (w - 1) (entry w d)) t c;
      }

  -- it does not, and becomes the walk's first
  pub walk_next : EachIndex (drop k walk) (λ n. get_or (drop k walk) n 0 ≢ u) → WalkInv w d (set walk (k - 1) u) (k - 1) u
  unfolding WalkedBack
  walk_next absent =
      let t = set walk (k - 1) u in
      let e : suc (k - 1) ≡ k = omega (arith, i.low) in
      let after : drop (suc (k - 1)) t ≡ v ∷ drop (suc k) walk =
      drop-set-lt (suc (k - 1)) walk (k - 1) u (omega arith) ∙ ap (λ (x : ℕ). drop x walk) e ∙ whole in
      let fresh : In u (v ∷ drop (suc k) walk) → ⊥ = (λ m.
      let r = at_in u (v ∷ drop (suc k) walk) m in
      absent r.place (omega (arith, r.inside, ap length whole)) (ap (λ (xs : List ℕ). get_or xs r.place 0) whole ∙ r.value)) in
      let below : u ≤ w - 1 = omega (arith, s.inside) in
      let upto : Upto (w - 1) (u ∷ (v ∷ drop (suc k) walk)) = (below, i.upto) in
      let apart : Distinct (u ∷ (v ∷ drop (suc k) walk)) = (fresh, i.apart) in
      let room = distinct_length (w - 1) (u ∷ (v ∷ drop (suc k) walk)) upto apart in
      let two : 2 ≤ k = omega (arith, room, size, q.some, i.most) in
      let e₂ : suc (k - 1 - 1) ≡ k - 1 = omega arith in
      let walked : WalkedBack w (entry w d) (k - 1 - 1) u (v ∷ drop (suc k) walk) = (
        s.inside,
        subst (λ (x : ℕ). (level w (entry w d) x u +ℤ entry w d u v) ≡ level w (entry w d) (suc x) v) (sym e₂) s.gives,
        subst (λ (x : ℕ). WalkedBack w (entry w d) x v (drop (suc k) walk)) (sym e₂) i.walked,
      ) in
      record {
        low = omega arith;
        most = omega (arith, i.most);
        long = length-set walk (k - 1) u ∙ i.long;
        at = get_or-set_same walk (k - 1) u 0 (omega (arith, i.long, i.most));
        walked = subst (λ (xs : List ℕ). WalkedBack w (entry w d) (k - 1 - 1) u xs) (sym after) walked;
        upto = subst (λ (xs : List ℕ). Upto (w - 1) (u ∷ xs)) (sym after) upto;
        apart = subst (λ (xs : List ℕ). Distinct (u ∷ xs)) (sym after) apart;
      }
