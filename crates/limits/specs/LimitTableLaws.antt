-- What an accepted sheet in parallel lists gives to code, and the size of its limits.
use Rattle.std.specs.Prelude.{◌≡◌, List, ℕ, suc, ◌*◌, ◌≤◌, ◌<◌, T, drop, ℤ, pos}
use Rattle.std.proofs.Common.{◌∙◌, arith, length-append, length-drop}
use Rattle.std.proofs.Math.Path.{subst}
use Rattle.std.proofs.Math.Decide.{dec_le}
use Rattle.std.proofs.Math.ListN.{length, get_or}
use Rattle.integers.specs.Parts.{Within, neg}
use Rattle.lists.specs.Members.{In, in_at}
use Rattle.network.specs.Table.{max_boundaries, table_of, entry}
use Rattle.network.proofs.TableLaws.{length_table_of, entry_front}
use Rattle.sheet.specs.Sizes.{max_slots, max_count, top_of, boundaries_of}
use Rattle.sheet.specs.Sheet.{Rule, Sheet, top, boundaries, no_window, inside_of, at_least, limit, no_rule}
use Rattle.sheet.proofs.LimitLaws.{limit_fwd, limit_back, limit_same, at_most_n, at_least_le}
use Rattle.sheet.specs.Questions.{windows_of, rules_of, sheet_of, lists_agree, accepted}
use Rattle.sheet.proofs.QuestionLaws.{Agree, lists_agree_read, windows_of_length, windows_of_at, rules_of_length, rules_of_at}
use Rattle.sheet.proofs.QuestionLaws.{accepted_sized, accepted_valid}
use Rattle.limit_windows.specs.Inside.{WindowsFit}
use Rattle.limits.specs.LimitTable.{Fillable, limit_table}
use Rattle.lists.specs.Counts.{how_many_most}

-- a rule's fields, by line
pub record RuleFits (span f t l h : ℕ) : Type 0 where
  pub starts : 1 ≤ f
  pub ordered : f ≤ t
  pub ends : t < boundaries_of span
  pub low : l ≤ max_count
  pub high : h ≤ max_count

module _ {span : ℕ} {first last from to low high : List ℕ} {room : ℕ} (f : Fillable span first last from to low high room) where
  pub fillable_lists : Agree first last from to low high
  fillable_lists = lists_agree_read first last from to low high f.agree

  pub fillable_windows : WindowsFit (boundaries_of span) first last
  unfolding sheet_of top
  fillable_windows = record {
    paired = fillable_lists.windows;
    few = omega (arith, windows_of_length first last fillable_lists.windows, (accepted_sized (sheet_of span first last from to low high) f.ok).units);
    each = λ j h.
        let e = windows_of_at first last fillable_lists.windows j h in
        let w = get_or (windows_of first last) j no_window in
        let v : (1 ≤ w.first) × (w.first ≤ w.last) × (w.last ≤ top_of span) = (accepted_valid (sheet_of span first last from to low high) f.ok).windows j
        (omega (arith, windows_of_length first last fillable_lists.windows)) in
        let x = rw e at v in
        (x.0, x.1, omega (arith, x.2));
  }

  pub fillable_rule : (k : ℕ) → k < length from → RuleFits span (get_or from k 0) (get_or to k 0) (get_or low k 0) (get_or high k 0)
  unfolding sheet_of top
  fillable_rule k h =
      let l = fillable_lists in
      let rs = rules_of from to low high in
      let r : Rule = record { from = get_or from k 0; to = get_or to k 0; low = get_or low k 0; high = get_or high k 0 } in
      let e : get_or rs k no_rule ≡ r = rules_of_at from to low high l.stretches l.lows l.highs k h in
      let n : length rs ≡ length from = rules_of_length from to low high l.stretches l.lows l.highs in
      let m : In r rs = subst (λ (q : Rule). In q rs) e (in_at no_rule rs k (omega arith)) in
      let v = (accepted_valid (sheet_of span first last from to low high) f.ok).stretches r m in
      let c = (accepted_sized (sheet_of span first last from to low high) f.ok).counts r m in
      record { starts = v.0; ordered = v.1; ends = omega (arith, v.2); low = omega (arith, c.0, c.1); high = c.1 }

pub accepted_span : (span : ℕ) (first last from to low high : List ℕ) → T (accepted (sheet_of span first last from to low high))
    → T (lists_agree first last from to low high) → span ≤ max_slots
unfolding sheet_of
accepted_span span first last from to low high ok agree = (accepted_sized (sheet_of span first last from to low high) ok).slots.1

pub boundaries_are : (span : ℕ) (first last from to low high : List ℕ) → boundaries (sheet_of span first last from to low high) ≡ boundaries_of span
unfolding sheet_of top
boundaries_are span first last from to low high = omega arith

-- every limit of an accepted sheet is within the largest count of 0
pub limit_small : (s : Sheet) → T (accepted s) → (a b : ℕ) → Within max_count (limit s a b)
limit_small s ok a b =
    let size = accepted_sized s ok in
    elim (dec_le b a) [
      | no g ↦ rw (limit_fwd s a b (omega arith)) (omega (arith, at_most_n s (suc a) b), omega arith)
      | yes l ↦ elim (dec_le a b) [
        | no g ↦
            let k : at_least s (suc b) a ≤ max_count = at_least_le s (suc b) a max_count
            (omega (arith, how_many_most (inside_of (suc b) a) s.units)) (λ r m e f. omega (arith, size.counts r m)) in
            rw (limit_back s a b (omega arith)) (omega (arith, neg (pos (at_least s (suc b) a))), omega (arith, neg (pos (at_least s (suc b) a))))
        | yes k ↦ let e : b ≡ a = omega arith in rw (e, limit_same s a) (omega arith, omega arith)
      ]
    ]

-- ---- the filled table, as a pass over it and a search of its cycles ask

pub boundaries_fit : (s : Sheet) → T (accepted s) → (2 ≤ boundaries s) × (boundaries s ≤ max_boundaries)
unfolding top
boundaries_fit s ok = let n = (accepted_sized s ok).slots in (omega arith, omega arith)

module _ (s : Sheet) (t : List ℤ) where
  pub length_limit_table : boundaries s * boundaries s ≤ length t → length (limit_table s t) ≡ length t
  length_limit_table h =
      let w = boundaries s in
      length-append (table_of w (limit s)) (drop (w * w) t) ∙ omega (arith, length_table_of w (limit s), length-drop (w * w) t)

  module _ (a b : ℕ) (ha : a < boundaries s) (hb : b < boundaries s) where
    pub limit_table_at : entry (boundaries s) (limit_table s t) a b ≡ limit s a b
    limit_table_at = entry_front (boundaries s) (limit s) (drop (boundaries s * boundaries s) t) a b ha hb
