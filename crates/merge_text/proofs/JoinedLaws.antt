-- From what reading two texts and asking about both came to, to what merging them into one is to answer and leave.
-- Key idea: the numbers of the merged sheet stand at the fronts of the lists, a list for each number, so the lists are that sheet's, which planning accepts.
use mathlib.Core.Path.{◌≡◌, sym, ap, ap₂, ◌∙◌, subst}
use mathlib.Core.List.{List, [], map, map-map}
use Prim.Native.Nat.{ℕ, ◌≤◌, ◌<◌}
use Rattle.questions.specs.Questions.{Verdict, no, all_yes, first_no}
use Rattle.sheet.specs.Sizes.{max_bytes}
use Rattle.sheet.specs.Sheet.{Window, WrittenSheet, loaders}
use Rattle.sheet.specs.Lists.{WrittenLists, written_lists, written_by}
use Rattle.sheet.specs.declared.Sheet.{Sheet as Read}
use Rattle.forms.specs.declared.House.TheVariants.{Ours}
use Rattle.plan_ask.specs.Asking.{Listed}
use Rattle.read_questions.specs.Reading.{ListRooms, refused, read}
use Rattle.read_questions.specs.Steps.{columns}
use Rattle.read_questions.proofs.ConcludedLaws.{Accepted, concluded_read, concluded_no}
use Rattle.read_whole.specs.Fronts.{fronts, Held}
use Rattle.read_whole.specs.FrontsLaws.{lists_of, written_back, passes_back}
use Rattle.sheet_texts.specs.SheetText.{sheet_text}
use Rattle.print_bytes.specs.Writing.{refused_line}
use Rattle.merge_questions.specs.Merging.{merge_questions, merged_in}
use Rattle.merge_join.specs.Join.{join_reply, fronts_of, MergedAtFront}
use Rattle.merge_laws.proofs.Merged.{merge_accepted, merge_loaders, refused_small}
use Rattle.write_fronts.specs.Outcome.{bytes_by, reply_by}
use Rattle.merge_text.specs.MergeText.{merged_text, merging_text}

-- a sheet's numbers at the fronts of the lists: these are the sheet's lists
fronts_lists : (s : Read) (w : WrittenSheet) (m : ListRooms (List ℕ)) → s.span ≡ w.span → fronts_of s m ≡ columns w.units w.rules
    → fronts s m ≡ lists_of w
fronts_lists s w m p e = ap₂ in_lists p e ∙ ap₂ with_windows (sym (windows (λ v. v.first))) (sym (windows (λ v. v.last)))
  where
    in_lists : ℕ → ListRooms (List ℕ) → WrittenLists
    in_lists span k = written_lists span k.loader k.first k.last k.from k.to k.low k.high

    with_windows : List ℕ → List ℕ → WrittenLists
    with_windows firsts lasts =
        written_lists w.span (loaders w) firsts lasts (map (λ r. r.from) w.rules) (map (λ r. r.to) w.rules) (map (λ r. r.low) w.rules)
        (map (λ r. r.high) w.rules)

    windows : (f : Window → ℕ) → map f (map (λ u. u.window) w.units) ≡ map (λ u. f u.window) w.units
    windows f = map-map f (λ u. u.window) w.units

module _ (one two : List ℕ) where
  abbrev text : List ℕ
  text = sheet_text Ours (merged_in one two)

  -- ---- a refusal

  module _ (q n : ℕ) (told : refused q n ≡ join_reply one two) where
    is_no : first_no (merge_questions one two) ≡ no q n
    unfolding join_reply
    is_no = concluded_no (first_no (merge_questions one two)) (merged_in one two) q n told

    pub refusal_small : (q < 100) × (n ≤ max_bytes)
    refusal_small = refused_small one two q n is_no

    pub refusal_told : (reply_by (no q n) [] ≡ merging_text one two) × (refused_line q n ≡ merged_text one two)
    refusal_told = (ap (λ (v : Verdict). reply_by v text) (sym is_no), ap (λ (v : Verdict). bytes_by v text) (sym is_no))

  -- ---- a sheet

  module _ (s : Read) (m : ListRooms (List ℕ)) (told : read s.span s.units s.rules ≡ join_reply one two) (at : MergedAtFront s one two m) where
    accepts : Accepted (first_no (merge_questions one two)) (merged_in one two) s.span s.units s.rules
    unfolding join_reply
    accepts = concluded_read (first_no (merge_questions one two)) (merged_in one two) s.span s.units s.rules told

    lists : fronts s m ≡ lists_of (merged_in one two)
    lists = fronts_lists s (merged_in one two) m accepts.span at.fronts

    pub sheet_held : Held s m
    sheet_held =
        let yes = accepts.verdict in
        record { long = at.long; passes = subst Listed (sym lists) (passes_back (merged_in one two) (merge_accepted one two yes) (merge_loaders one two yes)) }

    pub sheet_told : let bytes = sheet_text Ours (written_by (fronts s m)) in
        (reply_by all_yes bytes ≡ merging_text one two) × (bytes ≡ merged_text one two)
    sheet_told =
        let is : sheet_text Ours (written_by (fronts s m)) ≡ text =
        ap (λ l. sheet_text Ours (written_by l)) lists ∙ ap (sheet_text Ours) (written_back (merged_in one two)) in
        (ap₂ reply_by (sym accepts.verdict) is, ap₂ bytes_by (sym accepts.verdict) is)
