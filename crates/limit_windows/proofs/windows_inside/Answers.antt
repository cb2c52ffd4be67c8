-- Key idea: what one turn asks and leaves is `turn`; a row is done where its inner loop has come to 0.
use Rattle.std.proofs.Common.{◌≡◌, sym, ap, subst, rules, arith, ℕ, ◌-◌, ◌*◌, ◌+◌, get_or, pos, neg_ℤ, to_z, to_z-of_z, SFits, w16}
use Rattle.sheet.specs.Questions.{windows_of}
use Rattle.sheet.proofs.QuestionLaws.{windows_of_length}
use Rattle.limit_windows.specs.Inside.{exact_weights, inside_weights}
use Rattle.limit_windows.specs.InsideLaws.{ends_none, fit_ordered}
use Rattle.limit_places.specs.LentTableLaws.{TableFilled, filled_is, is_filled, filled_over}
use Rattle.limit_places.specs.Sweep.{swept_last, rebase, own_base}
use Rattle.limit_windows.proofs.Sums.{Summed, Turn, turn, first_row, next_row}
use Rattle.limit_windows.proofs.windows_inside.Goals as goal
use Rattle.limit_windows.proofs.windows_inside.Goals.{After-exact_windows, In-loop-b}

-- the table that the exact windows leave
exact : (c : After-exact_windows) → TableFilled c.args.w (exact_weights (windows_of c.args.first.now c.args.last.now)) c.args.t.now c.exact_windows.new.t
exact c =
    let a = c.args in
    is_filled a.w (exact_weights (windows_of a.first.now a.last.now)) a.t.now c.exact_windows.new.t c.requires.0 c.exact_windows.ensures

one : (c : In-loop-b) → Turn c.args.w (windows_of c.args.first.now c.args.last.now) c.loop-a.t c.loop-b.t c.loop-a.a c.loop-b.b
    (c.loop-a.a * c.args.w + (c.loop-b.b - 1)) (to_z w16 c.loop-b.sum-bits)
one c =
    let a = c.args in
    turn a.w (windows_of a.first.now a.last.now) c.loop-a.t c.loop-b.t c.loop-a.a c.loop-b.b (to_z w16 c.loop-b.sum-bits) (omega arith)
    (omega (arith, windows_of_length a.first.now a.last.now c.requires.1.paired, c.requires.1.few)) (omega arith) (omega arith) (omega arith) (omega arith)
    c.loop-b.invariant.sum c.loop-b.invariant.swept

pub loop-a-init : goal.loop-a-init
loop-a-init c =
    let a = c.args in
    let ws = windows_of a.first.now a.last.now in
    let t = c.exact_windows.new.t in
    own_base a.w (exact_weights ws) (inside_weights ws) a.t.now t 1 1
    (first_row a.w ws (fit_ordered a.w a.first.now a.last.now c.requires.1) a.t.now t (exact (goal.at.loop-a-init c).After-exact_windows))

pub loop-b-init : goal.loop-b-init
loop-b-init c =
    let a = c.args in
    let l = c.loop-a in
    let ws = windows_of a.first.now a.last.now in
    record {
      sum = ap (λ (n : ℕ). neg_ℤ (pos n)) (sym (ends_none ws (fit_ordered a.w a.first.now a.last.now c.requires.1) l.a l.a (omega arith)));
      swept = own_base a.w (exact_weights ws) (inside_weights ws) c.exact_windows.new.t l.t l.a l.a l.invariant;
    }

pub overflow_add-sum : goal.overflow_add-sum
overflow_add-sum c =
    let x : SFits w16 (get_or c.loop-b.t (c.loop-a.a * c.args.w + (c.loop-b.b - 1)) (pos 0)) = search rules in
    rw (to_z-of_z x) (one (goal.at.overflow_add-sum c).In-loop-b).sum_fits

pub overflow_add-t : goal.overflow_add-t
overflow_add-t c =
    let at = c.loop-a.a * c.args.w + (c.loop-b.b - 1) in
    let x : SFits w16 (get_or c.loop-b.t at (pos 0)) = search rules in
    let y : SFits w16 (get_or c.loop-b.t (at - c.args.w) (pos 0)) = search rules in
    let o = one (goal.at.overflow_add-t c).In-loop-b in
    rw (to_z-of_z x, to_z-of_z o.sum_fits, to_z-of_z y) o.fits

pub loop-b-preserved : goal.loop-b-preserved
loop-b-preserved c =
    let at = c.loop-a.a * c.args.w + (c.loop-b.b - 1) in
    let x : SFits w16 (get_or c.loop-b.t at (pos 0)) = search rules in
    let y : SFits w16 (get_or c.loop-b.t (at - c.args.w) (pos 0)) = search rules in
    let o = one (goal.at.loop-b-preserved c).In-loop-b in
    record {
      sum = rw (to_z-of_z x, to_z-of_z o.sum_fits) o.sum_is;
      swept = rw (to_z-of_z x, to_z-of_z o.sum_fits, to_z-of_z y, to_z-of_z o.fits) o.next;
    }

pub loop-a-preserved : goal.loop-a-preserved
loop-a-preserved c =
    let a = c.args in
    let r = c.loop-a in
    let ws = windows_of a.first.now a.last.now in
    let t₀ = c.exact_windows.new.t in
    let e : c.loop-b.b ≡ 0 = omega arith in
    let done : Summed a.w ws r.t r.a 0 c.loop-b.t = subst (λ (b : ℕ). Summed a.w ws r.t r.a b c.loop-b.t) e c.loop-b.invariant.swept in
    next_row a.w ws (fit_ordered a.w a.first.now a.last.now c.requires.1) t₀ c.loop-b.t r.a
    (rebase a.w (exact_weights ws) (inside_weights ws) r.t c.loop-b.t t₀ r.a r.a r.a 0 r.invariant done)

pub returns : goal.returns
returns c =
    let a = c.args in
    let l = c.loop-a in
    let ws = windows_of a.first.now a.last.now in
    let t₀ = c.exact_windows.new.t in
    filled_is a.w (inside_weights ws) a.t.now l.t c.requires.0
    (filled_over a.w (exact_weights ws) (inside_weights ws) a.t.now t₀ l.t (exact (goal.at.returns c).After-exact_windows)
    (swept_last a.w (exact_weights ws) (inside_weights ws) t₀ l.t l.a l.a (omega arith) l.invariant))
