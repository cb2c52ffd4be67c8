-- The digits that std counts are the digits that the number starts with.
use Rattle.std.proofs.Common.{◌+◌, ◌-◌, arith, ap, drop, length, take_all, length-drop, ◌∙◌, None}
use Rattle.std.specs.Prelude.{take_while}
use Rattle.forms.specs.Form.{is_digit}
use Rattle.read_number.specs.Number.{number_with}
use Rattle.read_number.proofs.NumberLaws.{some_here, leading_count}
use Rattle.read_number.proofs.faulty.Goals as goal

pub slice_bounds-digits-count : goal.slice_bounds-digits-count
slice_bounds-digits-count c = omega (arith, some_here c.args.s.now c.args.at c.requires)

pub slice_bounds-digits-start : goal.slice_bounds-digits-start
slice_bounds-digits-start c = omega (arith, some_here c.args.s.now c.args.at c.requires)

pub returns : goal.returns
returns c =
    let l = drop c.args.at c.args.s.now in
    let all = take_all (length c.args.s.now - c.args.at) l (omega (arith, length-drop c.args.at c.args.s.now)) in
    ap (λ n. number_with None (c.args.at + n)) (c.digits.ensures ∙ ap (λ k. length (take_while is_digit k)) all ∙ leading_count l)
