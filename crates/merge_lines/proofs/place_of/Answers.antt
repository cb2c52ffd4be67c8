-- The search of std's lists is that of the definition.
use Rattle.std.proofs.Common.{rules, length, eqb, ap, ◌∙◌}
use Rattle.std.specs.Option.{unwrap_or}
use Rattle.std.proofs.lemmas.Iterator.{YieldsList-from_slice}
use Rattle.std.proofs.lemmas.Iterator.Search.{position_from_yields_List}
use Rattle.merge_questions.specs.FirstLaws.{first_or_end}
use Rattle.merge_lines.proofs.place_of.Goals as goal

pub returns : goal.returns
returns c =
    let ks = c.args.numbers.now in
    let found = position_from_yields_List (λ n. eqb n c.args.loader) _ _ c.position.result c.position.ensures.ran (YieldsList-from_slice ks c.iter.ensures.rest)
    (λ x b q k. search rules) in
    c.unwrap_or.ensures ∙ ap (λ o. unwrap_or o (length ks)) found ∙ first_or_end (λ n. eqb n c.args.loader) 0 ks
