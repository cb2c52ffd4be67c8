-- Each return is the first no: the questions asked before it were answered yes.
use Rattle.plan_ask.proofs.OrderLaws.{agreed, says_lists, says_span, says_units, says_rules, says_windows, says_stretches, says_loaders, says_counts, says_none}
use Rattle.std.proofs.Common.{sym, ◌∙◌, arith}
use Rattle.plan_ask.proofs.ask_lists.Goals as goal

pub returns-then-not-all_agree : goal.returns-then-not-all_agree
returns-then-not-all_agree c = says_lists _ _ c.refused.ensures c.if-not-all_agree.ensures

pub returns-then-not-is_span : goal.returns-then-not-is_span
returns-then-not-is_span c =
    says_span _ _ _ _ c.lists.view_is c.l.view_is c.if-not-all_agree.ensures _ c.refused-then-not-is_span.ensures c.if-not-is_span.ensures

pub returns-then-l-gt-MAX_UNITS : goal.returns-then-l-gt-MAX_UNITS
returns-then-l-gt-MAX_UNITS c =
    says_units _ _ _ _ c.lists.view_is c.l.view_is c.if-not-all_agree.ensures c.if-not-is_span.ensures
    _ c.refused-then-l-gt-MAX_UNITS.ensures c.if-l-gt-MAX_UNITS.true

pub returns-then-l-gt-MAX_RULES : goal.returns-then-l-gt-MAX_RULES
returns-then-l-gt-MAX_RULES c =
    says_rules _ _ _ _ c.lists.view_is c.l.view_is c.if-not-all_agree.ensures c.if-not-is_span.ensures c.if-l-gt-MAX_UNITS.false
    _ c.refused-then-l-gt-MAX_RULES.ensures c.if-l-gt-MAX_RULES.true

pub all_rise-requires : goal.all_rise-requires
all_rise-requires c = (agreed _ _ _ _ c.lists.view_is c.l.view_is c.if-not-all_agree.ensures).windows

pub returns-then-not-all_rise : goal.returns-then-not-all_rise
returns-then-not-all_rise c =
    says_windows _ _ _ _ c.lists.view_is c.l.view_is c.if-not-all_agree.ensures c.if-not-is_span.ensures c.if-l-gt-MAX_UNITS.false c.if-l-gt-MAX_RULES.false
    _ (omega (arith, c.carried_place.ensures)) _ c.refused-then-not-all_rise.ensures c.if-not-all_rise.ensures

pub all_rise-requires-2 : goal.all_rise-requires-2
all_rise-requires-2 c = (agreed _ _ _ _ c.lists.view_is c.l.view_is c.if-not-all_agree.ensures).stretches

pub returns-then-not-all_rise-2 : goal.returns-then-not-all_rise-2
returns-then-not-all_rise-2 c =
    says_stretches _ _ _ _ c.lists.view_is c.l.view_is c.if-not-all_agree.ensures c.if-not-is_span.ensures c.if-l-gt-MAX_UNITS.false c.if-l-gt-MAX_RULES.false
    _ (omega (arith, c.carried_place.ensures)) c.if-not-all_rise.ensures _ c.refused-then-not-all_rise-2.ensures c.if-not-all_rise-2.ensures

pub returns-then-not-all_new : goal.returns-then-not-all_new
returns-then-not-all_new c =
    says_loaders _ _ _ _ c.lists.view_is c.l.view_is c.if-not-all_agree.ensures c.if-not-is_span.ensures c.if-l-gt-MAX_UNITS.false c.if-l-gt-MAX_RULES.false
    _ (omega (arith, c.carried_place.ensures)) c.if-not-all_rise.ensures c.if-not-all_rise-2.ensures _ c.refused-then-not-all_new.ensures c.if-not-all_new.ensures

pub all_rise-requires-3 : goal.all_rise-requires-3
all_rise-requires-3 c = let a = agreed _ _ _ _ c.lists.view_is c.l.view_is c.if-not-all_agree.ensures in a.highs ∙ sym a.lows

pub returns-then-not-all_rise-3 : goal.returns-then-not-all_rise-3
returns-then-not-all_rise-3 c =
    says_counts _ _ _ _ c.lists.view_is c.l.view_is c.if-not-all_agree.ensures c.if-not-is_span.ensures c.if-l-gt-MAX_UNITS.false c.if-l-gt-MAX_RULES.false
    _ (omega (arith, c.carried_place.ensures)) c.if-not-all_rise.ensures c.if-not-all_rise-2.ensures c.if-not-all_new.ensures
    _ c.refused-then-not-all_rise-3.ensures c.if-not-all_rise-3.ensures

pub returns : goal.returns
returns c =
    says_none _ _ _ _ c.lists.view_is c.l.view_is c.if-not-all_agree.ensures c.if-not-is_span.ensures c.if-l-gt-MAX_UNITS.false c.if-l-gt-MAX_RULES.false
    _ (omega (arith, c.carried_place.ensures)) c.if-not-all_rise.ensures c.if-not-all_rise-2.ensures c.if-not-all_new.ensures c.if-not-all_rise-3.ensures
