-- The line of a unit: in a text of our own format whose lines pass all questions, the bytes at the j-th spot of a unit are one whole line of the text, less the
-- line feed, and this line says the sheet's j-th unit.
-- Key idea: a spot that there is has a line that stands there (`spot_stands`), the units are what these lines say, in their order (`unit_lines_lem`), and a line
-- that passes its questions says its content's values.
use Rattle.std.specs.Prelude.{ℕ, suc, ◌+◌, ◌-◌, ◌<◌, ◌≡◌, refl, true, cond, List, [], ◌∷◌, ◌++◌, map, T, length, get_or, take, drop, Ok}
use Rattle.std.proofs.Common.{sym, ap, subst, ◌∙◌, append_assoc, arith, take_at, drop_at}
use mathlib.Core.List.Memᴰ
use Rattle.std.proofs.Math.ListN.{get_or-map}
use Rattle.lists.specs.Lists.{joined, keep}
use Rattle.lists.specs.Members.{In, in_at}
use Rattle.questions.specs.Questions.{AllYes}
use Rattle.sheet.specs.Sheet.{SheetUnit, head_or, no_unit}
use Rattle.forms.specs.Words as Words
use Rattle.forms.specs.Words.{line_feed}
use Rattle.forms.specs.Form.{matches}
use Rattle.forms.specs.Lines.{TextLine, lines, spelt}
use Rattle.forms.specs.declared.House.TheVariants.{Ours}
use Rattle.read_form.specs.Kinds.{form_of}
use Rattle.read_form.specs.Grid.{same_kind}
use Rattle.read_form.specs.declared.Kind.{Kind}
use Rattle.read_line.specs.Content.{form_content, content_of}
use Rattle.read_line.specs.Line.{values_of, line_of}
use Rattle.read_line.specs.declared.Line.TheVariants as Line
use Rattle.read_questions.specs.Reading.{unit_of, sheet_in, line_questions}
use Rattle.read_places.specs.Places.{Placed, is_of, spots, no_spot}
use Rattle.read_places.specs.PlacesLaws.{LinePasses, each_passes, kind_is, unit_on, unit_lines_lem, unit_count, no_line, around, spot_stands}
use Rattle.read_places.specs.declared.Spot.{Spot}

-- at the spot s of the text stands a line, with a line feed behind it, that says the unit u of its sheet
pub record LineOfUnit (text : List ℕ) (u : SheetUnit) (s : Spot) : Type 0 where
  pub before : List TextLine
  pub line : TextLine
  pub after : List TextLine
  pub split : lines text ≡ before ++ (line ∷ after)
  pub number : s.number ≡ suc (length before)
  pub start : s.start ≡ length (joined (map spelt before))
  pub bytes : take (s.end - s.start) (drop s.start text) ≡ line.bytes
  pub ended : line.ended ≡ true
  pub says : line_of Ours line.bytes true ≡ Ok (Line.Unit u.loader u.window.first u.window.last)
  pub listed : In u (sheet_in Ours text).units

-- a line of this kind that passes its questions says its unit
unit_told : (l : TextLine) → LinePasses Ours l → T (is_of Kind.Unit l)
    → let u = unit_on l in line_of Ours l.bytes true ≡ Ok (Line.Unit u.loader u.window.first u.window.last)
unfolding content_of
unit_told l p t = p.says ∙ go (form_of Ours l.bytes) (subst T (kind_is l p Kind.Unit) t)
  where
    go : (q : Kind) → T (same_kind q Kind.Unit) → let x = form_content Ours q l.bytes in let u = head_or no_unit (unit_of x) in
        values_of x ≡ Ok (Line.Unit u.loader u.window.first u.window.last)
    go Kind.Unprintable t = absurd t
    go Kind.Note t = absurd t
    go Kind.Sheet t = absurd t
    go Kind.Unit t = refl
    go Kind.Rule t = absurd t
    go Kind.Other t = absurd t

no_unit_lem : unit_on no_line ≡ no_unit
unfolding content_of matches Words.text
no_unit_lem = refl

said_at : (ls : List TextLine) (j : ℕ) → get_or (map unit_on ls) j no_unit ≡ unit_on (get_or ls j no_line)
said_at ls j = ap (get_or (map unit_on ls) j) (sym no_unit_lem) ∙ get_or-map unit_on ls j no_line

-- ---- the bytes at a spot
part_is : (b l f a : List ℕ) (start size : ℕ) → length b ≡ start → length l ≡ size → take size (drop start (b ++ ((l ++ f) ++ a))) ≡ l
part_is b l f a start size e d =
    ap (take size) (drop_at b ((l ++ f) ++ a) start e ∙ append_assoc l f a) ∙ take_at l (f ++ a) size d

pub line_says : (text : List ℕ) → AllYes (line_questions Ours 1 [] (lines text)) → (j : ℕ) → j < length (sheet_in Ours text).units
    → LineOfUnit text (get_or (sheet_in Ours text).units j no_unit) (get_or (spots Kind.Unit text) j no_spot)
line_says text asked j h =
    let found = spot_stands Kind.Unit text j (omega (arith, unit_count text asked)) in
    let r = found.stands in
    let l = r.line in
    let b = joined (map spelt r.before) in
    let at = r.place in
    let s = get_or (spots Kind.Unit text) j no_spot in
    let u = get_or (sheet_in Ours text).units j no_unit in
    let here = ap (λ (p : Placed). p.line) at in
    let passed = each_passes Ours 1 [] (lines text) asked l
    (subst (λ (ls : List TextLine). In l ls) (sym r.split) (Memᴰ.append_right r.before (Memᴰ.head refl))) in
    let said : unit_on l ≡ u =
    sym (ap (λ (us : List SheetUnit). get_or us j no_unit) (unit_lines_lem text asked) ∙ said_at (keep (is_of Kind.Unit) (lines text)) j
    ∙ ap unit_on (sym found.line ∙ here)) in
    let start : s.start ≡ length b = ap (λ (q : Spot). q.start) found.spot ∙ omega (arith, ap (λ (q : Placed). q.spot.start) at) in
    let end : s.end ≡ length b + length l.bytes = ap (λ (q : Spot). q.end) found.spot ∙ omega (arith, ap (λ (q : Placed). q.spot.end) at) in
    record {
      before = r.before;
      line = l;
      after = r.after;
      split = r.split;
      number = ap (λ (q : Spot). q.number) found.spot ∙ omega (arith, ap (λ (q : Placed). q.spot.number) at);
      start = start;
      bytes =
          ap (λ (t : List ℕ). take (s.end - s.start) (drop s.start t)) (around text r.before l r.after r.split)
          ∙ part_is b l.bytes (cond l.ended (line_feed ∷ []) []) (joined (map spelt r.after)) s.start (s.end - s.start) (sym start)
          (omega (arith, start, end));
      ended = passed.ended;
      says = subst (λ (v : SheetUnit). line_of Ours l.bytes true ≡ Ok (Line.Unit v.loader v.window.first v.window.last)) said
          (unit_told l passed (subst (λ (x : TextLine). T (is_of Kind.Unit x)) here found.kind));
      listed = in_at no_unit (sheet_in Ours text).units j h;
    }
