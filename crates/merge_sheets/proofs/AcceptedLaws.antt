-- What a merge gives, planning accepts: of two accepted sheets, once the merge's own questions are answered yes; and its loader numbers are all new.
-- Key idea: a merged rule is on the stretch of some rule, and its high is the high of some rule, so both are in bounds; a number of the second sheet is
-- new after the first sheet's, which do not have it, and after its own earlier ones.
use Rattle.std.specs.Prelude.{◌≡◌, ℕ, ◌≤◌, length}
use Rattle.std.proofs.Common.{sym, le→leb}
use Rattle.std.proofs.Math.Path.{subst}
use Rattle.std.proofs.Math.Logic.{⊎_elim}
use Rattle.std.proofs.Math.Bool.{not}
use mathlib.Core.List.Memᴰ
use mathlib.Core.List.{List, [], ◌∷◌, ◌++◌, map, map-append, append-nil, append_assoc}
use native.Mathlib.Omega.{arith}
use Rattle.std.proofs.Math.Dec.{T, nltb→le, T_not, not_T}
use Rattle.std.proofs.lemmas.List.{length-map}
use Rattle.lists.specs.Lists.{within, every, member}
use Rattle.lists.specs.Members.{In, both, left, right, within_iff, every_in, in_every, every_both, member_in, in_member}
use Rattle.questions.proofs.FirstNoLaws.{yes_at}
use Rattle.sheet.specs.Sizes.{max_slots, max_units, max_rules, max_count, max_loader}
use Rattle.sheet.specs.Sheet.{Rule, Sheet, SheetUnit, WrittenSheet, constraints, loaders}
use Rattle.sheet.specs.Questions.{is_stretch, is_window, is_count, span_fits, units_fit, rules_fit, windows_fit, stretches_fit, counts_fit, sheet_questions, accepted}
use Rattle.sheet.specs.Questions.{is_new, all_new, loaders_fit}
use Rattle.sheet.proofs.QuestionLaws.{accepted_sized}
use Rattle.sheet.proofs.LoaderLaws.{loaders_more}
use Rattle.merge_sheets.specs.Merge.{merged_rules, merged, crossed}
use Rattle.merge_sheets.proofs.MergeLaws.{merged_is, high_is, merged_windows}

-- ---- the questions of both sheets

windows_fit_lem : (s : Sheet) → T (accepted s) → T (windows_fit s)
unfolding accepted
windows_fit_lem s ok = yes_at (sheet_questions s) ok 3 tt

stretches_fit_lem : (s : Sheet) → T (accepted s) → T (stretches_fit s)
unfolding accepted
stretches_fit_lem s ok = yes_at (sheet_questions s) ok 4 tt

module _ (a b : WrittenSheet) (first : T (accepted (constraints a))) (second : T (accepted (constraints b))) (spans : a.span ≡ b.span) where
  abbrev rules : List Rule
  rules = a.rules ++ b.rules

  windows : T (windows_fit (constraints (merged a b)))
  unfolding windows_fit merged
  windows =
      rw (merged_windows a b) (every_both (λ w. is_window a.span w.first w.last) (constraints a).units (constraints b).units
      (windows_fit_lem (constraints a) first) (rw spans (windows_fit_lem (constraints b) second)))

  given_stretches : T (every (λ r. is_stretch a.span r.from r.to) rules)
  unfolding stretches_fit
  given_stretches =
      every_both (λ r. is_stretch a.span r.from r.to) a.rules b.rules (stretches_fit_lem (constraints a) first)
      (rw spans (stretches_fit_lem (constraints b) second))

  stretches : T (stretches_fit (constraints (merged a b)))
  unfolding stretches_fit merged
  stretches =
      in_every (λ r. is_stretch a.span r.from r.to) (merged_rules rules) (λ c m.
      let q = merged_is rules c m in
      subst (λ (r : Rule). T (is_stretch a.span r.from r.to)) (sym q.2)
      (every_in (λ r. is_stretch a.span r.from r.to) q.0 rules q.1 given_stretches))

  given_high : (r : Rule) → In r rules → r.high ≤ max_count
  given_high r m =
      ⊎_elim (λ k. ((accepted_sized (constraints a) first).counts r k).1) (λ k. ((accepted_sized (constraints b) second).counts r k).1)
      (Memᴰ.append_cases a.rules m)

  counts : T (every (λ r. not (crossed r)) (merged a b).rules) → T (counts_fit (constraints (merged a b)))
  unfolding counts_fit merged
  counts ordered = in_every (λ r. is_count r.low r.high) (merged_rules rules) (λ c m.
      let q = merged_is rules c m in
      let h = high_is rules q.0 q.1 in
      let most : c.high ≤ max_count = subst (λ (r : Rule). r.high ≤ max_count) (sym q.2) (omega (arith, h.3, given_high h.0 h.1)) in
      let order = nltb→le c.high c.low (every_in (λ r. not (crossed r)) c (merged_rules rules) m ordered) in
      both (within 0 max_count c.low) (within c.low max_count c.high) ((within_iff 0 max_count c.low).1 (omega arith, omega (arith, order, most)))
      ((within_iff c.low max_count c.high).1 (order, most)))

-- equal spans, few enough units, no combined low above its high, few enough rules: 19, 9, 21 and 10
pub merged_accepted : (a b : WrittenSheet) → T (accepted (constraints a)) → T (accepted (constraints b)) → a.span ≡ b.span
    → length (merged a b).units ≤ max_units → T (every (λ r. not (crossed r)) (merged a b).rules) → length (merged a b).rules ≤ max_rules
    → T (accepted (constraints (merged a b)))
unfolding accepted span_fits units_fit rules_fit merged
merged_accepted a b first second spans few_units ordered few_rules =
    let s = constraints (merged a b) in
    let span : T (span_fits s) = (within_iff 1 max_slots a.span).1 (accepted_sized (constraints a) first).slots in
    let units : T (units_fit s) = le→leb (length s.units) max_units (omega (arith, few_units, length-map (a.units ++ b.units) (λ u. u.window))) in
    let few : T (rules_fit s) = le→leb (length s.rules) max_rules few_rules in
    both (span_fits s) _ span (both (units_fit s) _ units (both (rules_fit s) _ few (both (windows_fit s) _ (windows a b first second spans)
    (both (stretches_fit s) _ (stretches a b first second spans) (both (counts_fit s) _ (counts a b first second spans ordered) tt)))))

-- ---- question 16

-- of units whose numbers come after others, and after those of another sheet that has none of them
module _ (known : List ℕ) where
  after_both : (earlier : List ℕ) (k : ℕ) → T (is_new earlier k) → T (not (member k known)) → T (is_new (known ++ earlier) k)
  unfolding is_new
  after_both earlier k new other =
      let size = within 1 max_loader k in
      both size (not (member k (known ++ earlier))) (left size (not (member k earlier)) new)
      (not_T (member k (known ++ earlier)) (λ t.
      ⊎_elim (λ m. T_not (member k known) other (in_member k known m))
      (λ m. T_not (member k earlier) (right size (not (member k earlier)) new) (in_member k earlier m))
      (Memᴰ.append_cases known (member_in k (known ++ earlier) t))))

  more_loaders : (earlier : List ℕ) (us : List SheetUnit) → T (loaders_fit (known ++ earlier)) → T (all_new earlier (map (λ u. u.loader) us))
      → T (every (λ u. not (member u.loader known)) us) → T (loaders_fit (known ++ (earlier ++ map (λ u. u.loader) us)))
  unfolding all_new
  more_loaders earlier [] fit new other = rw (append-nil earlier) fit
  more_loaders earlier (u ∷ us) fit new other =
      let k = u.loader in
      let ks = map (λ (v : SheetUnit). v.loader) us in
      let here = after_both earlier k (left (is_new earlier k) (all_new (earlier ++ (k ∷ [])) ks) new) (left (not (member k known)) _ other) in
      subst (λ xs. T (loaders_fit (known ++ xs))) (append_assoc earlier (k ∷ []) ks)
      (more_loaders (earlier ++ (k ∷ [])) us
      (subst (λ xs. T (loaders_fit xs)) (append_assoc known earlier (k ∷ [])) (loaders_more (known ++ earlier) k fit here))
      (right (is_new earlier k) (all_new (earlier ++ (k ∷ [])) ks) new) (right (not (member k known)) _ other))

pub merged_loaders : (a b : WrittenSheet) → T (loaders_fit (loaders a)) → T (loaders_fit (loaders b))
    → T (every (λ u. not (member u.loader (loaders a))) b.units) → T (loaders_fit (loaders (merged a b)))
unfolding merged
merged_loaders a b first second other =
    rw (map-append (λ u. u.loader) a.units b.units)
    (more_loaders (loaders a) [] b.units (rw (append-nil (loaders a)) first) second other)
