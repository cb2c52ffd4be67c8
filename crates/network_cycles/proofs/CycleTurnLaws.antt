-- A list written from one of its places on: its back first, then its front behind that.
use Prim.Native.Nat.{ℕ, ◌+◌, ◌-◌, ◌≤◌}
use native.Mathlib.Omega.{arith}
use mathlib.Core.Path.{◌≡◌, sym, ap, subst, ◌∙◌}
use mathlib.Core.List.{List, ◌++◌, append-nil}
use lib.Dec.{T}
use lib.ListN.{length, take, drop, length-take, length-drop, length-append, drop_of_length-le}
use lib.Seq.{take_all, take_at, drop_at}
use lib.IntN.{ℤ}
use Rattle.lists.specs.Slices.{back, part_length}
use Rattle.lists.specs.Values.{front_part, front_length}
use Rattle.network.specs.Network.{is_negative_cycle}
use Rattle.network.specs.Table.{entry}
use Rattle.network_cycles.specs.CycleLaws.{turned_at}
use Rattle.network_levels.specs.Finder.{Lowest, Found, CycleAt}

pub turned_list : (c out o p : List ℕ) (low k n rest : ℕ) → n ≡ length c → low ≤ n → rest ≡ n - low → k ≡ n - rest → n ≤ length out
    → o ≡ take rest (drop low c) ++ drop (length (take rest (drop low c))) out
    → p ≡ take low c ++ drop (length (take low c)) (take k (drop rest o))
    → back rest k p o ≡ (drop low c ++ take low c) ++ drop n out
turned_list c out o p low k n rest en hl er ek ho eo ep =
    let whole : take rest (drop low c) ≡ drop low c = take_all rest (drop low c) (omega (arith, length-drop low c)) in
    let long : length (drop low c) ≡ rest = omega (arith, length-drop low c) in
    let form : o ≡ drop low c ++ drop rest out =
    eo ∙ ap (λ (x : List ℕ). x ++ drop (length x) out) whole ∙ ap (λ (i : ℕ). drop low c ++ drop i out) long in
    let lo = front_length (drop low c) rest long out o form (omega arith) in
    let size : length (take k (drop rest o)) ≡ k = part_length rest k o (omega (arith, lo)) in
    let fits : length (take k (drop rest o)) ≤ length (take low c) = omega (arith, size, length-take low c) in
    let second : p ≡ take low c = ep ∙ ap (λ (x : List ℕ). take low c ++ x) (drop_of_length-le (take k (drop rest o)) fits) ∙ append-nil (take low c) in
    let e : rest + k ≡ n = omega arith in
    front_part (drop low c) rest long out o form k p ∙ ap (λ (x : List ℕ). (drop low c ++ x) ++ drop (rest + k) out) second
    ∙ ap (λ (i : ℕ). (drop low c ++ take low c) ++ drop i out) e

-- the stretch of the walk that is a cycle, turned to its least boundary
pub cycle_put : (w : ℕ) (d : List ℤ) (a b : ℕ) (walk out result : List ℕ) (low : ℕ) → Found w d a b walk
    → Lowest (take (b - a) (drop a walk)) low
    → result ≡ (drop low (take (b - a) (drop a walk)) ++ take low (take (b - a) (drop a walk))) ++ drop (length (take (b - a) (drop a walk))) out
    → CycleAt w d out (b - a) result
cycle_put w d a b walk out result low f l e =
    let c = take (b - a) (drop a walk) in
    let o₁ = f.order in
    let o₂ = f.inside in
    let n : length c ≡ b - a = part_length a (b - a) walk (omega arith) in
    let t = drop low c ++ take low c in
    let m : length t ≡ b - a = length-append (drop low c) (take low c) ∙ (omega (arith, length-drop low c, length-take low c, l.inside)) in
    let form : result ≡ t ++ drop (b - a) out = e ∙ ap (λ (i : ℕ). t ++ drop i out) n in
    let front : take (b - a) result ≡ t = ap (take (b - a)) form ∙ take_at t (drop (b - a) out) (b - a) m in
    let turned = turned_at (w - 1) (entry w d) c low f.cycle l.inside l.least in
    record {
      short = f.short;
      cycle = subst (λ (x : List ℕ). T (is_negative_cycle (w - 1) (entry w d) x)) (sym front) turned;
      past = ap (drop (b - a)) form ∙ drop_at t (drop (b - a) out) (b - a) m;
    }
