-- The windows inside all stretches stand in the table, and the arcs are made of them where they stand.
use mathlib.Core.Path.{sym, ◌∙◌, subst}
use mathlib.Core.List.{List}
use native.Mathlib.Omega.{arith}
use borrow.Author.Rules.{rules}
use Rattle.integers.specs.Parts.{Within}
use Rattle.network.specs.Table.{entry}
use Rattle.sheet.specs.Sizes.{max_units}
use Rattle.sheet.specs.Sheet.{Window}
use Rattle.sheet.specs.Questions.{windows_of}
use Rattle.sheet.proofs.QuestionLaws.{windows_of_length}
use Rattle.limit_windows.specs.Inside.{inside_weights}
use Rattle.limit_places.specs.LentTableLaws.{TableFilled, is_filled}
use Rattle.plan_arcs.proofs.ArcLaws.{less_same, inside_within}
use Rattle.plan_arcs.proofs.cut_arcs.Statement.{statement}
use Rattle.plan_arcs.proofs.cut_arcs.Tie as tie

abbrev units : tie.Start → List Window
units c = windows_of c.args.first.now c.args.last.now

filled : (c : tie.After-windows_inside)
    → let st = c in
    TableFilled st.args.w (inside_weights (units st.before.before.before.before)) st.args.out.now c.windows_inside.new.t
filled c =
    let st = c in
    is_filled st.args.w (inside_weights (units st.before.before.before.before)) st.args.out.now c.windows_inside.new.t st.requires.1 c.windows_inside.ensures

arcs_requires : tie.Need-arcs-requires
arcs_requires c κs =
    let st = c in
    let f = filled c.before.before in
    let n = windows_of_length st.args.first.now st.args.last.now st.requires.0.paired in (
      omega (arith, f.long, st.requires.1),
      λ a b ha hb. subst (Within max_units) (sym (f.at a b ha hb)) (inside_within (units st.before.before.before.before.before.before) a b (omega (arith, st.requires.0.few))),
    )

returns : tie.Need-returns
returns c a b ha hb =
    let inside = c in
    let st = inside in
    let f = filled inside.before.before.before.before in
    c.arcs.ensures a b ha hb
    ∙ less_same (entry st.args.w inside.windows_inside.new.t) (inside_weights (units st.before.before.before.before.before.before.before.before)) a b (f.at b a hb ha) (f.at a b ha hb)

pub cut_arcs_spec : {M : Type 1} → statement M
cut_arcs_spec = tie.close (tie.spec (λ c κs. search rules) arcs_requires (λ c. search rules) returns)
