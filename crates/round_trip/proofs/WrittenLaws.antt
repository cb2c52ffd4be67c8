-- The lines of a sheet's text, read by the same house, say what was written.
-- Key idea: a line's own form matches it and gives its numbers back, and every form before it differs from it at a word, which is one computed test.
-- A stretch by its start and its hours ends where it was said to end.
use Rattle.std.specs.Prelude.{◌≡◌, refl, true, false, List, [], ◌∷◌, map, ℕ, ◌≤◌, ◌<◌, T, length, get_or}
use Rattle.std.proofs.Common.{sym, ap₂, ◌∙◌, arith}
use Rattle.std.proofs.Math.Path.{ap}
use Rattle.lists.specs.Lists.{every}
use Rattle.sheet.specs.Sizes.{max_slots}
use Rattle.sheet.specs.Sheet.{Rule, SheetUnit}
use Rattle.sheet.proofs.WrittenLaws.{FitUnit, FitRule}
use Rattle.forms.specs.Words.{text}
use Rattle.forms.specs.Form.{Piece, printable, value, plain, matches, numbers, written}
use Rattle.forms.specs.FormLaws.{Suits, separated, written_matches, forms_apart, apart_unmatched}
use Rattle.forms.specs.Forms.{note_form, short_note_form, span_form_of, unit_form_of, rule_form_of}
use Rattle.forms.specs.Decimal.{digits, spell}
use Rattle.forms.specs.DecimalLaws.{values_digits, numbers_in, suits_digits}
use Rattle.forms.specs.declared.House.{House}
use Rattle.forms.specs.declared.House.TheVariants.{Ours, Partner}
use Rattle.read_form.specs.Kinds.{form_of}
use Rattle.read_form.specs.declared.Kind.{Kind}
use Rattle.read_line.specs.Content.{Content, sheet, unit, rule, value_at, last_of, unit_said, rule_said, form_content, content_of}
use Rattle.read_line.specs.Content.{numbers_in as digitsIn}
use Rattle.sheet_texts.specs.SheetText.{hours_of, unit_numbers, rule_numbers}
use Rattle.round_trip.specs.WrittenContents.{LowKept}
use Rattle.forms.specs.WrittenLines.{words_printable, written_printable, digits_plain}

-- ---- the three forms of a house

-- a form that reading has for lines of a kind
record Own (h : House) (f : List Piece) (k : Kind) : Type 0 where
  ends : separated f ≡ true
  shown : T (words_printable f)
  kind : (ns : List (List ℕ)) → Suits f ns → form_of h (written f ns) ≡ k

-- each form differs from those before it
module _ (h : House) where
  abbrev notes : List Piece → Type 0
  notes f = T (forms_apart note_form f) × T (forms_apart short_note_form f)

  module _ (f : List Piece) (apart : notes f) (ends : separated f ≡ true) (ns : List (List ℕ)) (s : Suits f ns) where
    no_note : matches note_form (written f ns) ≡ false
    no_note = apart_unmatched note_form f ns apart.0 ends s

    no_short_note : matches short_note_form (written f ns) ≡ false
    no_short_note = apart_unmatched short_note_form f ns apart.1 ends s

    own : matches f (written f ns) ≡ true
    own = (written_matches f ns ends s).matched

  span_kind : notes (span_form_of h) → separated (span_form_of h) ≡ true → (ns : List (List ℕ)) → Suits (span_form_of h) ns
      → form_of h (written (span_form_of h) ns) ≡ Kind.Sheet
  span_kind apart ends ns s =
      let f = span_form_of h in
      rw (no_note f apart ends ns s, no_short_note f apart ends ns s, own f apart ends ns s) refl

  unit_kind : notes (unit_form_of h) → T (forms_apart (span_form_of h) (unit_form_of h)) → separated (unit_form_of h) ≡ true → (ns : List (List ℕ))
      → Suits (unit_form_of h) ns → form_of h (written (unit_form_of h) ns) ≡ Kind.Unit
  unit_kind apart span ends ns s =
      let f = unit_form_of h in
      rw (no_note f apart ends ns s, no_short_note f apart ends ns s, apart_unmatched (span_form_of h) f ns span ends s, own f apart ends ns s) refl

  rule_kind : notes (rule_form_of h) → T (forms_apart (span_form_of h) (rule_form_of h)) → T (forms_apart (unit_form_of h) (rule_form_of h))
      → separated (rule_form_of h) ≡ true → (ns : List (List ℕ)) → Suits (rule_form_of h) ns → form_of h (written (rule_form_of h) ns) ≡ Kind.Rule
  rule_kind apart span units ends ns s =
      let f = rule_form_of h in
      rw (
        no_note f apart ends ns s,
        no_short_note f apart ends ns s,
        apart_unmatched (span_form_of h) f ns span ends s,
        apart_unmatched (unit_form_of h) f ns units ends s,
        own f apart ends ns s,
      ) refl

span_own : (h : House) → Own h (span_form_of h) Kind.Sheet
unfolding text printable
span_own Ours = record { ends = refl; shown = tt; kind = span_kind Ours (tt, tt) refl }
span_own Partner = record { ends = refl; shown = tt; kind = span_kind Partner (tt, tt) refl }

unit_own : (h : House) → Own h (unit_form_of h) Kind.Unit
unfolding text printable
unit_own Ours = record { ends = refl; shown = tt; kind = unit_kind Ours (tt, tt) tt refl }
unit_own Partner = record { ends = refl; shown = tt; kind = unit_kind Partner (tt, tt) tt refl }

rule_own : (h : House) → Own h (rule_form_of h) Kind.Rule
unfolding text printable
rule_own Ours = record { ends = refl; shown = tt; kind = rule_kind Ours (tt, tt) tt tt refl }
rule_own Partner = record { ends = refl; shown = tt; kind = rule_kind Partner (tt, tt) tt tt refl }

-- ---- what their lines say

module _ (h : House) (f : List Piece) (k : Kind) (o : Own h f k) (ns : List ℕ) (many : length ns ≡ numbers_in f) where
  suits : Suits f (map digits ns)
  suits = suits_digits f ns many

  spelt_printable : T (printable (spell f ns))
  spelt_printable = written_printable f (map digits ns) o.shown suits

  spelt_content : content_of h (spell f ns) ≡ form_content h k (spell f ns)
  unfolding content_of
  spelt_content = ap (λ (j : Kind). form_content h j (spell f ns)) (o.kind (map digits ns) suits)

  spelt_numbers : numbers f (spell f ns) ≡ map digits ns
  spelt_numbers = (written_matches f (map digits ns) o.ends suits).found

value_back : (n : ℕ) → value (digits n) ≡ n
value_back n = ap (λ (ns : List ℕ). get_or ns 0 0) (values_digits (n ∷ []))

-- numbers of at most four digits
abbrev Small : List ℕ → Type 0
Small [] = Unit {0}
Small (n ∷ ns) = (n < 10000) × Small ns

numbers_plain : (ns : List ℕ) → Small ns → T (every plain (map digits ns))
numbers_plain [] h = tt
numbers_plain (n ∷ ns) h = rw (digits_plain n h.0) (numbers_plain ns h.1)

-- a line and what it says, as reading is to find it
pub record Line (h : House) (bytes : List ℕ) (x : Content) : Type 0 where
  pub shown : T (printable bytes)
  pub says : content_of h bytes ≡ x
  pub plain : T (every plain (digitsIn x))

-- ---- each line, whatever its numbers, is printable

span_many : (h : House) → 1 ≡ numbers_in (span_form_of h)
span_many Ours = refl
span_many Partner = refl

unit_many : (h : House) (u : SheetUnit) → length (unit_numbers h u) ≡ numbers_in (unit_form_of h)
unit_many Ours u = refl
unit_many Partner u = refl

rule_many : (h : House) (r : Rule) → length (rule_numbers h r) ≡ numbers_in (rule_form_of h)
rule_many Ours r = refl
rule_many Partner r = refl

module _ (h : House) where
  pub span_shown : (p : ℕ) → T (printable (spell (span_form_of h) (p ∷ [])))
  span_shown p = spelt_printable h (span_form_of h) Kind.Sheet (span_own h) (p ∷ []) (span_many h)

  pub unit_shown : (u : SheetUnit) → T (printable (spell (unit_form_of h) (unit_numbers h u)))
  unit_shown u = spelt_printable h (unit_form_of h) Kind.Unit (unit_own h) (unit_numbers h u) (unit_many h u)

  pub rule_shown : (r : Rule) → T (printable (spell (rule_form_of h) (rule_numbers h r)))
  rule_shown r = spelt_printable h (rule_form_of h) Kind.Rule (rule_own h) (rule_numbers h r) (rule_many h r)

-- ---- the span

pub span_line : (h : House) (p : ℕ) → p ≤ max_slots → Line h (spell (span_form_of h) (p ∷ [])) (sheet (digits p ∷ []) p)
span_line h p most =
    let f = span_form_of h in
    let ns = p ∷ [] in
    record {
      shown = span_shown h p;
      says =
          spelt_content h f Kind.Sheet (span_own h) ns (span_many h)
          ∙ ap (λ (ds : List (List ℕ)). sheet ds (value_at ds 0)) (spelt_numbers h f Kind.Sheet (span_own h) ns (span_many h))
          ∙ ap (sheet (digits p ∷ [])) (value_back p);
      plain = numbers_plain ns (omega arith, tt);
    }

-- ---- a unit

module _ (span : ℕ) (most : span ≤ max_slots) where
  module _ (u : SheetUnit) (fits : FitUnit span u) where
    abbrev unit_in : List (List ℕ) → Content
    unit_in ds = unit ds u.loader u.window.first u.window.last

    unit_said_lem : (h : House) → unit_said h (map digits (unit_numbers h u)) ≡ unit_in (map digits (unit_numbers h u))
    unit_said_lem Ours = rw (value_back u.loader, value_back u.window.first, value_back u.window.last) refl
    unit_said_lem Partner =
        let f = u.window.first in
        let l = u.window.last in
        let ends : last_of f (hours_of f l) ≡ l = omega (arith, fits.starts, fits.ordered) in
        rw (value_back u.loader, value_back f, value_back (hours_of f l))
        (ap (unit (map digits (unit_numbers Partner u)) u.loader f) ends)

    unit_small : (h : House) → Small (unit_numbers h u)
    unit_small Ours = (omega (arith, fits.number), (omega (arith, fits.ordered, fits.ends), (omega (arith, fits.ends), tt)))
    unit_small Partner = (omega (arith, fits.number), (omega (arith, fits.ordered, fits.ends), (omega (arith, fits.ends), tt)))

    pub unit_line_lem : (h : House) → Line h (spell (unit_form_of h) (unit_numbers h u)) (unit_in (map digits (unit_numbers h u)))
    unit_line_lem h =
        let f = unit_form_of h in
        let ns = unit_numbers h u in
        record {
          shown = unit_shown h u;
          says =
              spelt_content h f Kind.Unit (unit_own h) ns (unit_many h u)
              ∙ ap (unit_said h) (spelt_numbers h f Kind.Unit (unit_own h) ns (unit_many h u)) ∙ unit_said_lem h;
          plain = numbers_plain ns (unit_small h);
        }

  -- ---- a rule: to the partner it goes without its low
  module _ (r : Rule) (fits : FitRule span r) where
    abbrev rule_in : List (List ℕ) → Content
    rule_in ds = rule ds r.from r.to r.low r.high

    rule_said_lem : (h : House) → LowKept h r → rule_said h (map digits (rule_numbers h r)) ≡ rule_in (map digits (rule_numbers h r))
    rule_said_lem Ours k = rw (value_back r.from, value_back r.to, value_back r.low, value_back r.high) refl
    rule_said_lem Partner k =
        let f = r.from in
        let t = r.to in
        let ds = map digits (rule_numbers Partner r) in
        let ends : last_of f (hours_of f t) ≡ t = omega (arith, fits.starts, fits.ordered) in
        rw (value_back f, value_back (hours_of f t), value_back r.high)
        (ap₂ (λ (b lo : ℕ). rule ds f b lo r.high) ends (sym k))

    rule_small : (h : House) → Small (rule_numbers h r)
    rule_small Ours =
        (omega (arith, fits.ordered, fits.ends), (omega (arith, fits.ends), (omega (arith, fits.counts), (omega (arith, fits.counts), tt))))
    rule_small Partner = (omega (arith, fits.ordered, fits.ends), (omega (arith, fits.ends), (omega (arith, fits.counts), tt)))

    pub rule_line_lem : (h : House) → LowKept h r → Line h (spell (rule_form_of h) (rule_numbers h r)) (rule_in (map digits (rule_numbers h r)))
    rule_line_lem h k =
        let f = rule_form_of h in
        let ns = rule_numbers h r in
        record {
          shown = rule_shown h r;
          says =
              spelt_content h f Kind.Rule (rule_own h) ns (rule_many h r)
              ∙ ap (rule_said h) (spelt_numbers h f Kind.Rule (rule_own h) ns (rule_many h r)) ∙ rule_said_lem h k;
          plain = numbers_plain ns (rule_small h);
        }
