use Rattle.std.proofs.Common.{◌≡◌, ◌<◌, ℕ, ◌+◌, arith, subst, sym, refl, ap₂, ◌∙◌}
use Rattle.forms.specs.Lines.{whole_lines}
use Rattle.forms.specs.LinesLaws.{whole_within, whole_next}
use denote.Enum.Bare.{sameb}
use denote.Enum.Declared.{tag_of}
use lib.Dec.{eqb}
use Rattle.read_form.specs.Grid.{code, same_kind}
use Rattle.read_form.specs.declared.Kind.{Kind}
use Rattle.read_form.specs.contracts.Kind.{the_type}
use Rattle.read_places.proofs.SearchLaws.{Searching, search_start, search_found, search_counted, search_passed, search_none}
use Rattle.read_places.proofs.search.Goals as goal
use Rattle.read_places.proofs.search.Goals.{In-loop-at, then-eq+else-left-eq0, else-eq}

-- a line starts before the last line feed
in_whole : (c : In-loop-at) → c.loop-at.at < whole_lines c.args.text.now
in_whole c = omega (arith, c.lines_end-whole.ensures)

-- std's test of two kinds is that of their codes
tag_is : (k : Kind) → tag_of the_type k ≡ code k
tag_is Kind.Unprintable = refl
tag_is Kind.Note = refl
tag_is Kind.Sheet = refl
tag_is Kind.Unit = refl
tag_is Kind.Rule = refl
tag_is Kind.Other = refl

same : (j k : Kind) → sameb the_type j k ≡ same_kind j k
same j k = ap₂ eqb (tag_is j) (tag_is k)

pub loop-at-init : goal.loop-at-init
loop-at-init c = search_start c.args.kind _ _

pub returns-then-left-eq0 : goal.returns-then-left-eq0
returns-then-left-eq0 c =
    let p = goal.at.returns-then-left-eq0 c in
    let r = c.to_end-line in
    search_found _ _ _ _ _ _ c.loop-at.invariant _ (in_whole p.In-loop-at) r.ensures.place_value _ r.ensures.kind_value
    (sym (c.eq.ensures ∙ same _ _) ∙ c.if-eq.true) c.if-left-eq0.true

pub overflow_add-at : goal.overflow_add-at
overflow_add-at c =
    let p = goal.at.overflow_add-at c in
    let t = c.args.text.now in
    omega (arith, c.to_end-line.ensures.place_value, whole_next t c.loop-at.at (in_whole p.In-loop-at), whole_within t)

pub overflow_add-n : goal.overflow_add-n
overflow_add-n c =
    let p = goal.at.overflow_add-n c in
    omega (arith, c.loop-at.invariant.number, in_whole p.In-loop-at, whole_within c.args.text.now)

pub loop-at-preserved : goal.loop-at-preserved
loop-at-preserved c =
    let p = goal.at.loop-at-preserved c in
    let r = c.to_end-line in
    let on : ℕ → Type 0 = λ m. Searching c.args.kind c.args.text.now c.args.j (r.result.place + 1) (c.loop-at.n + 1) m in
    let i = c.loop-at.invariant in
    let e = sym (c.eq.ensures ∙ same _ _) in
    elim c.if-eq.branch [
      | then-eq+else-left-eq0 w ↦
          subst on (sym w.left-is) (search_counted _ _ _ _ _ _ i _ (in_whole p.In-loop-at) r.ensures.place_value _ r.ensures.kind_value
          (e ∙ w.if-eq.true) w.if-left-eq0.false)
      | else-eq w ↦
          subst on (sym w.left-is) (search_passed _ _ _ _ _ _ i _ (in_whole p.In-loop-at) r.ensures.place_value _ r.ensures.kind_value
          (e ∙ w.if-eq.false))
    ]

pub returns : goal.returns
returns c = search_none _ _ _ _ _ _ c.loop-at.invariant (omega (arith, c.loop-at-test.false, c.lines_end-whole.ensures))
