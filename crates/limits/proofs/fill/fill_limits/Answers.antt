-- Key idea: the windows inside, n forward, and then rule after rule (`rule_line_lem`). What is required of the lists is required of the slices that they are.
use Rattle.std.proofs.Common.{◌≡◌, refl, sym, ap, ◌∙◌, subst, arith, ◌*◌, ◌-◌, ◌≤◌, ℕ, [], ◌++◌, length, drop}
use Rattle.network.specs.Table.{entry, table_of}
use Rattle.sheet.specs.Sizes.{boundaries_of}
use Rattle.sheet.specs.Lists.{Lists, listed, given}
use Rattle.sheet.specs.Sheet.{Sheet, limit, boundaries}
use Rattle.sheet.specs.Questions.{windows_of}
use Rattle.sheet.proofs.QuestionLaws.{windows_of_length}
use Rattle.limit_windows.specs.Inside.{inside_weights}
use Rattle.limit_windows.specs.InsideLaws.{fit_ordered}
use Rattle.limit_places.specs.LentTableLaws.{TableFilled, filled_is, is_filled, filled_over}
use Rattle.limits.specs.LimitTable.{with_forward, limit_table, CanFill}
use Rattle.limits.specs.LimitTableLaws.{fillable_lists, fillable_windows, fillable_rule, accepted_span, boundaries_are}
use Rattle.limits.proofs.Rules.{ruled, unruled, ruled_from, ruled_none, ruled_all, rule_line_lem}
use Rattle.limits.proofs.fill.fill_limits.Goals as goal
use Rattle.limits.proofs.fill.fill_limits.Goals.{After-fill_forward}

-- the lists of the contract are the slices of the struct
same : (v l : Lists) (room : ℕ) → v ≡ l → CanFill l room → CanFill v room
same v l room e f = subst (λ (x : Lists). CanFill x room) (sym e) f

module _ (l : Lists) where
  wide : boundaries (given l) ≡ boundaries_of l.span
  wide = boundaries_are l.span l.first l.last l.from l.to l.low l.high

  room : (n : ℕ) → CanFill l n → boundaries_of l.span * boundaries_of l.span ≤ n
  room n f = subst (λ (w : ℕ). w * w ≤ n) wide f.fits

pub boundaries-w-requires : goal.boundaries-w-requires
boundaries-w-requires c =
    let i = c.lists.inside in
    let ok = same _ _ _ c.lists.view_is c.requires in
    accepted_span i.span i.first.now i.last.now i.from.now i.to.now i.low.now i.high.now ok.ok ok.agree

pub windows_inside-requires : goal.windows_inside-requires
windows_inside-requires c =
    let ok = same _ _ _ c.lists.view_is c.requires in
    rw c.boundaries-w.ensures (room _ _ ok, fillable_windows ok)

pub fill_forward-requires : goal.fill_forward-requires
fill_forward-requires c =
    let ok = same _ _ _ c.lists.view_is c.requires in
    ((fillable_windows ok).few, rw c.boundaries-w.ensures (omega (arith, room _ _ ok, c.windows_inside.auto.t)))

-- the limits without rules
plain : (c : After-fill_forward) → let i = c.lists.inside in
    TableFilled (boundaries_of i.span) (limit (ruled i.span (windows_of i.first.now i.last.now) [])) c.args.t.now c.fill_forward.new.t
plain c =
    let i = c.lists.inside in
    let ok = same _ _ _ c.lists.view_is c.requires in
    let w = boundaries_of i.span in
    let t = c.windows_inside.new.t in
    let u = c.fill_forward.new.t in
    let ws = windows_of i.first.now i.last.now in
    let fit = fillable_windows ok in
    let f = is_filled w (inside_weights ws) c.args.t.now t (room _ _ ok) (rw c.boundaries-w.ensures at c.windows_inside.ensures) in
    let g = is_filled w (with_forward (length i.first.now) (entry w t)) t u (omega (arith, room _ _ ok, c.windows_inside.auto.t))
    (rw c.boundaries-w.ensures at c.fill_forward.ensures) in
    unruled i.span ws w c.args.t.now t u (fit_ordered w i.first.now i.last.now fit) f
    (subst (λ (n : ℕ). TableFilled w (with_forward n (entry w t)) t u) (sym (windows_of_length i.first.now i.last.now fit.paired)) g)

pub loop-k-init : goal.loop-k-init
loop-k-init c =
    let i = c.lists.inside in
    let u = c.fill_forward.new.t in
    let p = plain (goal.at.loop-k-init c).After-fill_forward in
    subst (λ (q : Sheet). TableFilled (boundaries_of i.span) (limit q) u u)
    (sym (ruled_none i.span i.first.now i.last.now i.from.now i.to.now i.low.now i.high.now)) (record { long = refl; at = p.at; past = refl })

pub bounds-lists-inside-k-in-loop-k : goal.bounds-lists-inside-k-in-loop-k
bounds-lists-inside-k-in-loop-k c = omega (arith, fillable_lists (same _ _ _ c.lists.view_is c.requires))

pub bounds-lists-inside-k-in-loop-k-2 : goal.bounds-lists-inside-k-in-loop-k-2
bounds-lists-inside-k-in-loop-k-2 c = omega (arith, fillable_lists (same _ _ _ c.lists.view_is c.requires))

pub bounds-lists-inside-k-in-loop-k-3 : goal.bounds-lists-inside-k-in-loop-k-3
bounds-lists-inside-k-in-loop-k-3 c = omega (arith, fillable_lists (same _ _ _ c.lists.view_is c.requires))

pub apply_rule-requires : goal.apply_rule-requires
apply_rule-requires c =
    let ok = same _ _ _ c.lists.view_is c.requires in
    let fit = fillable_rule ok (c.loop-k.k - 1) (omega arith) in
    rw c.boundaries-w.ensures (fit.starts, fit.ordered, fit.ends, fit.low, fit.high, omega (arith, room _ _ ok))

pub loop-k-preserved : goal.loop-k-preserved
loop-k-preserved c =
    let l = c.loop-k in
    let ok = same _ _ _ c.lists.view_is c.requires in
    rule_line_lem ok c.fill_forward.new.t l.t c.apply_rule.new.t l.k (omega (arith, room _ _ ok)) (omega arith) (omega arith) l.invariant
    (rw c.boundaries-w.ensures at c.apply_rule.ensures)

pub returns : goal.returns
returns c =
    let i = c.lists.inside in
    let l = c.loop-k in
    let t = c.args.t.now in
    let u = c.fill_forward.new.t in
    let ok = same _ _ _ c.lists.view_is c.requires in
    let e : l.k ≡ 0 = omega arith in
    let w = boundaries_of i.span in
    let ws = windows_of i.first.now i.last.now in
    let v = listed i.span i.first.now i.last.now i.from.now i.to.now i.low.now i.high.now in
    let done = filled_over w (limit (ruled i.span ws [])) (limit (given v)) t u l.t (plain (goal.at.returns c).After-fill_forward)
    (subst (λ (r : Sheet). TableFilled w (limit r) u l.t) (ruled_all i.span i.first.now i.last.now i.from.now i.to.now i.low.now i.high.now)
    (subst (λ (k : ℕ). TableFilled w (limit (ruled_from i.span i.first.now i.last.now i.from.now i.to.now i.low.now i.high.now k)) u l.t) e l.invariant)) in
    subst (λ (x : Lists). l.t ≡ limit_table (given x) t) c.lists.view_is
    (filled_is w (limit (given v)) t l.t (room _ _ ok) done ∙ ap (λ (k : ℕ). table_of k (limit (given v)) ++ drop (k * k) t) (sym (wide v)))
