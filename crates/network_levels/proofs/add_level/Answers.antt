-- Row k stands at the end of what is made, and the level below it goes to the front of the rest.
use Rattle.std.proofs.Common.{◌≡◌, ◌+◌, ◌*◌, ◌-◌, ◌≤◌, ◌<◌, ℕ, ℤ, List, length, take, drop, arith, ap, length-take}
use Rattle.network.proofs.TableLaws.{row_inside}
use Rattle.network_levels.specs.LevelSteps.{RowOf, last_row, row_sums_fit, rows_next}
use Rattle.network_levels.specs.Finder.{LevelsUpTo}
use Rattle.network_levels.proofs.add_level.Goals as goal

-- both rows are inside
inside : (k w n : ℕ) → k < w → w * w + w ≤ n → k * w + w + w ≤ n
inside k w n h room = omega (arith, row_inside k w h)

prev_is : (k w : ℕ) (d levels made : List ℤ) → made ≡ take (k * w + w) levels → k < w → w * w + w ≤ length levels → LevelsUpTo w d levels k
    → RowOf w k d (take (length made - k * w) (drop (k * w) made))
prev_is k w d levels made e h room v =
    let i = inside k w (length levels) h room in
    let l : length made ≡ k * w + w = omega (arith, ap length e, length-take (k * w + w) levels) in
    last_row w k (length made - k * w) d levels made e (omega arith) (omega arith) v

pub make_level-requires : goal.make_level-requires
make_level-requires c =
    let a = c.args in
    let s = c.split_at_mut-made in
    let q = c.requires in
    let p = prev_is a.k a.w a.d.now a.levels.now s.result.0.now s.ensures.front q.2 q.1 q.3 in
    let i = inside a.k a.w (length a.levels.now) q.2 q.1 in
    (q.0.few, q.0.room, p.long, omega (arith, length-take a.w s.result.1.now, s.ensures.back_len), row_sums_fit p q.0 q.2)

pub returns : goal.returns
returns c =
    let a = c.args in
    let s = c.split_at_mut-made in
    let q = c.requires in
    let p = prev_is a.k a.w a.d.now a.levels.now s.result.0.now s.ensures.front q.2 q.1 q.3 in
    simp (s.ensures.front, s.ensures.back) (rows_next p a.w a.levels.now c.make_level.new.row q.3 (omega arith)
    (inside a.k a.w (length a.levels.now) q.2 q.1) c.make_level.ensures)
