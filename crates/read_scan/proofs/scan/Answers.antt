-- At the line feed nothing is left to gather; at a number its value goes to the place of its state, and the line is read on past its digits.
use Rattle.std.proofs.Common.{◌≡◌, ◌+◌, ◌-◌, ◌≤◌, ◌&&◌, ℕ, Bool, true, false, cond, length, set, drop, refl, sym, ap, subst, ◌∙◌, arith, Option, Some, None, IfSome, is_some}
use Rattle.std.specs.Option.{unwrap_or}
use Rattle.forms.specs.Form.{leading, plain, value}
use Rattle.forms.specs.declared.House.{House}
use Rattle.read_form.specs.Grid.{ends}
use Rattle.read_form.specs.Reader.{Serves}
use Rattle.read_number.specs.Number.{max_number, number_read}
use Rattle.read_scan.specs.Scan.{AtNumber, Resumes}
use Rattle.read_scan.specs.ScanLaws.{feed_here, Gathering, gathered_all, next_past, next_resumes, gathered_more, small_set}
use Rattle.read_scan.proofs.scan.Goals as goal
use Rattle.read_scan.proofs.scan.Goals.{After-number_at-number}

pub returns-then-stop-lt-ENDS-clause-scanned_as : goal.returns-then-stop-lt-ENDS-clause-scanned_as
returns-then-stop-lt-ENDS-clause-scanned_as c h t =
    let l = c.loop-stop in
    gathered_all h _ _ _ _ _ _ _ (l.invariant.2 h t) _ _ _ ((c.to_stop-stop.ensures h t).at_feed c.if-stop-lt-ENDS.true) c.of_state.ensures

-- its value, if question 4 lets it pass
value_of : (b : Bool) (v : ℕ) → unwrap_or (cond b (Some v) None) 0 ≡ cond b v 0
value_of true v = refl
value_of false v = refl

plain_of : (b : Bool) (v : ℕ) → is_some (cond b (Some v) None) ≡ b
plain_of true v = refl
plain_of false v = refl

value_small : (o : Option ℕ) → IfSome o (λ v. v ≤ max_number) → unwrap_or o 0 ≤ max_number
value_small None h = omega arith
value_small (Some v) h = h

module _ (c : After-number_at-number) where
  at_number : (h : House) → Serves h c.args.reader
      → AtNumber h c.args.text.now c.loop-stop.i c.loop-stop.state c.to_stop-stop.result.place c.to_stop-stop.result.state
  at_number h t = (c.to_stop-stop.ensures h t).at_number c.if-stop-lt-ENDS.false

  -- for one of the houses whose tables they are
  some_number : AtNumber c.requires.1.0 c.args.text.now c.loop-stop.i c.loop-stop.state c.to_stop-stop.result.place c.to_stop-stop.result.state
  some_number = let p = c.requires.1 in at_number p.0 p.1

  next_is : c.number_at-number.result.next ≡ c.to_stop-stop.result.place + length (leading (drop c.to_stop-stop.result.place c.args.text.now))
  unfolding number_read
  next_is = ap (λ n. n.next) c.number_at-number.ensures.value

  value_is : c.number_at-number.result.value ≡ (let d = leading (drop c.to_stop-stop.result.place c.args.text.now) in cond (plain d) (Some (value d)) None)
  unfolding number_read
  value_is = ap (λ n. n.value) c.number_at-number.ensures.value

pub loop-stop-smaller : goal.loop-stop-smaller
loop-stop-smaller c =
    let k = (goal.at.loop-stop-smaller c).After-number_at-number in
    let n = some_number k in
    omega (
      arith,
      next_is k,
      next_past _ _ _ _ _ _ _ _ (c.loop-stop.invariant.2 _ c.requires.1.1) _ _ n,
      n.here,
      feed_here c.args.text.now c.loop-stop.i c.loop-stop.invariant.0.feed,
    )

pub loop-stop-preserved : goal.loop-stop-preserved
loop-stop-preserved c =
    let k = (goal.at.loop-stop-preserved c).After-number_at-number in
    let l = c.loop-stop in
    let t = c.args.text.now in
    let r = c.to_stop-stop.result.state in
    let d = leading (drop c.to_stop-stop.result.place t) in
    let v = c.unwrap_or.ensures ∙ ap (λ o. unwrap_or o 0) (value_is k) ∙ value_of (plain d) (value d) in
    let p = ap (λ b. l.plain && b) (c.is_some-plain.ensures ∙ ap is_some (value_is k) ∙ plain_of (plain d) (value d)) in
    let small : c.unwrap_or.result ≤ max_number = rw c.unwrap_or.ensures (value_small _ c.number_at-number.ensures.value_le_max_number) in (
      subst (λ i. Resumes t i r) (sym (next_is k)) (next_resumes _ _ _ _ _ _ _ _ (l.invariant.2 _ c.requires.1.1) _ _ (some_number k)),
      small_set l.values (r - ends) _ l.invariant.1 small,
      λ h b. subst (λ i. Gathering h t c.args.at c.args.values.now i r (l.plain && c.is_some-plain.result) (set l.values (r - ends) c.unwrap_or.result))
          (sym (next_is k))
          (gathered_more h t c.args.at _ l.i l.state l.plain l.values (l.invariant.2 h b) _ r (at_number k h b) _ _ v p),
    )
