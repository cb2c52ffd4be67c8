-- Reading with rooms for every sheet: the first no decides, or the lists hold the text's sheet at their fronts.
-- Key idea: every list is long enough for a sheet that reading accepts, so that 12 is never a no.
use Rattle.std.specs.Prelude.{◌≡◌, ◌⊎◌, Bool, true, false, ◌||◌, List, ℕ, ◌≤◌, ◌<◌, T, leb, eqb, length}
use Rattle.std.proofs.Common.{sym, ◌∙◌, subst, inl, inr, ⊎_elim, arith, eqb→eq}
use Rattle.std.proofs.Math.Path.{ap}
use Rattle.std.proofs.lemmas.Bool.{lt-leb}
use Rattle.lists.specs.Lists.{within}
use Rattle.lists.specs.Members.{within_iff}
use Rattle.sheet.specs.declared.Sheet.{Sheet as Read}
use Rattle.questions.specs.Questions.{Verdict, no, all_yes, first_no}
use Rattle.questions.proofs.FirstNoLaws.{no_here}
use Rattle.sheet.specs.Sizes.{max_bytes}
use Rattle.forms.specs.declared.House.{House}
use Rattle.read_questions.specs.Reading.{ListRooms, rooms_for_all, refused, read, reading, questions, concluded, sheet_in}
use Rattle.read_questions.proofs.ConcludedLaws.{Accepted, concluded_read, concluded_no}
use Rattle.read_questions.proofs.AcceptedLaws.{reading_accepts, reading_loaders}
use Rattle.read_questions.proofs.RefusalLaws.{asks_text, reading_refusals}
use Rattle.read_rooms.specs.Rooms.{sizes_of, leaves, rooms_after}
use Rattle.read_whole.specs.Fronts.{fronts, Held}
use Rattle.read_whole.specs.FrontsLaws.{lists_of, held, fronts_are}

-- a question that is asked of a text has at most two digits
pub two_digits : (q : ℕ) → T (asks_text q) → q < 100
two_digits q h =
    ⊎_elim (λ (a : T (within 1 11 q)). omega (arith, ((within_iff 1 11 q).0 a).1)) (λ (b : T (eqb q 16)). omega (arith, eqb→eq q 16 b))
    (either (within 1 11 q) (eqb q 16) h)
  where
    either : (a b : Bool) → T (a || b) → T a ⊎ T b
    either true b h = inl tt
    either false b h = inr h

-- a text that is longer than question 1 allows is refused by it, the first question
pub too_long : (h : House) (input : List ℕ) → max_bytes < length input → first_no (questions h input rooms_for_all) ≡ no 1 0
unfolding questions
too_long h input long = no_here (leb (length input) max_bytes) 1 0 _ (lt-leb (length input) max_bytes long)

-- ---- what reading comes to, with rooms for every sheet
module _ (h : House) (input : List ℕ) (m : ListRooms (List ℕ)) (sizes : sizes_of m ≡ rooms_for_all) where
  abbrev pub verdict : Verdict
  verdict = first_no (questions h input rooms_for_all)

  decided : reading h input (sizes_of m) ≡ concluded verdict (sheet_in h input)
  unfolding reading
  decided = ap (λ z. concluded (first_no (questions h input z)) (sheet_in h input)) sizes

  module _ (number line : ℕ) (e : refused number line ≡ reading h input (sizes_of m)) where
    pub first_no_lem : verdict ≡ no number line
    first_no_lem = concluded_no verdict (sheet_in h input) number line (e ∙ decided)

    pub refused_small : (number < 100) × (line ≤ max_bytes)
    refused_small =
        let r = reading_refusals h input number line first_no_lem in
        (two_digits number r.number_known, r.line_known)

  module _ (t : Read) (e : read t.span t.units t.rules ≡ reading h input (sizes_of m))
      (after : ListRooms (List ℕ)) (lists : after ≡ rooms_after h input m) where
    accepts : Accepted verdict (sheet_in h input) t.span t.units t.rules
    accepts = concluded_read verdict (sheet_in h input) t.span t.units t.rules (e ∙ decided)

    pub all_yes_lem : verdict ≡ all_yes
    all_yes_lem = accepts.verdict

    left_is : after ≡ leaves (read 0 0 0) (sheet_in h input) m
    left_is = lists ∙ ap (λ a. leaves a (sheet_in h input) m) (sym e)

    -- the lists hold the text's sheet
    pub read_held : Held t after
    read_held =
        subst (Held t) (sym left_is)
        (held (sheet_in h input) t accepts.span accepts.units accepts.rules m (reading_accepts h input rooms_for_all all_yes_lem)
        (reading_loaders h input rooms_for_all all_yes_lem))

    -- just these
    pub read_lists : fronts t after ≡ lists_of (sheet_in h input)
    read_lists = ap (fronts t) left_is ∙ fronts_are (sheet_in h input) t accepts.span accepts.units accepts.rules m
