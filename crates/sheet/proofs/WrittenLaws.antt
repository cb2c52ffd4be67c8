-- The written sheet of a call's lists, where the loader numbers are as many as the units: its plans keep to the sheet of the other lists, and its loader
-- numbers are those given; and what the units and rules of an accepted one are, place by place.
-- Key idea: units are numbers and windows side by side, so the numbers of the units and their windows are the two lists again.
use Rattle.std.specs.Prelude.{◌≡◌, refl, List, [], ◌∷◌, map, ℕ, zero, suc, ◌≤◌, ◌<◌, T, length, get_or}
use Rattle.std.proofs.Common.{sym, ap, ◌∙◌, subst, arith}
use Rattle.std.proofs.lemmas.List.{length-map}
use Rattle.std.proofs.Math.ListN.{get_or-map}
use Rattle.lists.specs.Members.{in_at}
use Rattle.sheet.specs.Sizes.{max_count, max_loader, carried_place}
use Rattle.sheet.specs.Sheet.{Window, Rule, Sheet, SheetUnit, WrittenSheet, constraints, loaders, top, no_window, no_rule, no_unit}
use Rattle.sheet.specs.Questions.{windows_of, rules_of, accepted, loaders_fit}
use Rattle.sheet.proofs.QuestionLaws.{windows_of_length, windows_of_at, accepted_sized, accepted_valid, accepted_stretch}
use Rattle.sheet.proofs.LoaderLaws.{loader_size}
use Rattle.sheet.specs.Lists.{WrittenLists, given_by, units_of, written_by}

-- ---- numbers and windows side by side

pub units_of_length : (ks : List ℕ) (ws : List Window) → length ks ≡ length ws → length (units_of ks ws) ≡ length ws
units_of_length [] [] e = refl
units_of_length [] (w ∷ ws) e = absurd (omega arith)
units_of_length (k ∷ ks) [] e = absurd (omega arith)
units_of_length (k ∷ ks) (w ∷ ws) e = ap suc (units_of_length ks ws (omega arith))

units_at_lem : (ks : List ℕ) (ws : List Window) → length ks ≡ length ws → (j : ℕ) → j < length ws
    → get_or (units_of ks ws) j no_unit ≡ record { loader = get_or ks j 0; window = get_or ws j no_window }
units_at_lem ks [] e j h = absurd (omega arith)
units_at_lem [] (w ∷ ws) e j h = absurd (omega arith)
units_at_lem (k ∷ ks) (w ∷ ws) e zero h = refl
units_at_lem (k ∷ ks) (w ∷ ws) e (suc j) h = units_at_lem ks ws (omega arith) j (omega arith)

-- the same from three lists
pub units_of_at : (ks fs ls : List ℕ) → length ks ≡ length fs → length ls ≡ length fs → (j : ℕ) → j < length fs
    → get_or (units_of ks (windows_of fs ls)) j no_unit ≡ record { loader = get_or ks j 0; window = record { first = get_or fs j 0; last = get_or ls j 0 } }
units_of_at ks fs ls e f j h =
    let n = windows_of_length fs ls f in
    units_at_lem ks (windows_of fs ls) (e ∙ sym n) j (omega arith)
    ∙ ap (λ (w : Window). record { loader = get_or ks j 0; window = w }) (windows_of_at fs ls f j h)

units_windows : (ks : List ℕ) (ws : List Window) → length ks ≡ length ws → map (λ u. u.window) (units_of ks ws) ≡ ws
units_windows [] [] e = refl
units_windows [] (w ∷ ws) e = absurd (omega arith)
units_windows (k ∷ ks) [] e = absurd (omega arith)
units_windows (k ∷ ks) (w ∷ ws) e = ap (λ vs. w ∷ vs) (units_windows ks ws (omega arith))

units_loaders : (ks : List ℕ) (ws : List Window) → length ks ≡ length ws → map (λ u. u.loader) (units_of ks ws) ≡ ks
units_loaders [] [] e = refl
units_loaders [] (w ∷ ws) e = absurd (omega arith)
units_loaders (k ∷ ks) [] e = absurd (omega arith)
units_loaders (k ∷ ks) (w ∷ ws) e = ap (λ js. k ∷ js) (units_loaders ks ws (omega arith))

module _ (l : WrittenLists) (as_many : length l.loader ≡ length (given_by l).units) where
  pub written_constraints : constraints (written_by l) ≡ given_by l
  written_constraints =
      let s = given_by l in
      ap (λ (ws : List Window). record { span = s.span; units = ws; rules = s.rules }) (units_windows l.loader s.units as_many)

  pub written_loaders : loaders (written_by l) ≡ l.loader
  written_loaders = units_loaders l.loader (given_by l).units as_many

-- ---- the windows, units and rules again, from their lists

pub windows_back : (ws : List Window) → windows_of (map (λ w. w.first) ws) (map (λ w. w.last) ws) ≡ ws
windows_back [] = refl
windows_back (w ∷ ws) = ap (λ r. w ∷ r) (windows_back ws)

pub units_back : (us : List SheetUnit) → units_of (map (λ u. u.loader) us) (map (λ u. u.window) us) ≡ us
units_back [] = refl
units_back (u ∷ us) = ap (λ r. u ∷ r) (units_back us)

pub rules_back : (rs : List Rule) → rules_of (map (λ r. r.from) rs) (map (λ r. r.to) rs) (map (λ r. r.low) rs) (map (λ r. r.high) rs) ≡ rs
rules_back [] = refl
rules_back (r ∷ rs) = ap (λ xs. r ∷ xs) (rules_back rs)

-- ---- the lists again, from the windows and rules that they make

pub record WindowLists (first last : List ℕ) : Type 0 where
  pub firsts : map (λ w. w.first) (windows_of first last) ≡ first
  pub lasts : map (λ w. w.last) (windows_of first last) ≡ last

pub windows_lists : (fs ls : List ℕ) → length ls ≡ length fs → WindowLists fs ls
windows_lists [] [] e = record { firsts = refl; lasts = refl }
windows_lists [] (l ∷ ls) e = absurd (omega arith)
windows_lists (f ∷ fs) [] e = absurd (omega arith)
windows_lists (f ∷ fs) (l ∷ ls) e =
    let r = windows_lists fs ls (omega arith) in
    record { firsts = ap (λ xs. f ∷ xs) r.firsts; lasts = ap (λ xs. l ∷ xs) r.lasts }

pub record RuleLists (from to low high : List ℕ) : Type 0 where
  pub froms : map (λ r. r.from) (rules_of from to low high) ≡ from
  pub tos : map (λ r. r.to) (rules_of from to low high) ≡ to
  pub lows : map (λ r. r.low) (rules_of from to low high) ≡ low
  pub highs : map (λ r. r.high) (rules_of from to low high) ≡ high

pub rules_lists : (fs ts ls hs : List ℕ) → length ts ≡ length fs → length ls ≡ length fs → length hs ≡ length fs → RuleLists fs ts ls hs
rules_lists [] [] [] [] e g k = record { froms = refl; tos = refl; lows = refl; highs = refl }
rules_lists [] (t ∷ ts) ls hs e g k = absurd (omega arith)
rules_lists [] [] (l ∷ ls) hs e g k = absurd (omega arith)
rules_lists [] [] [] (h ∷ hs) e g k = absurd (omega arith)
rules_lists (f ∷ fs) [] ls hs e g k = absurd (omega arith)
rules_lists (f ∷ fs) (t ∷ ts) [] hs e g k = absurd (omega arith)
rules_lists (f ∷ fs) (t ∷ ts) (l ∷ ls) [] e g k = absurd (omega arith)
rules_lists (f ∷ fs) (t ∷ ts) (l ∷ ls) (h ∷ hs) e g k =
    let r = rules_lists fs ts ls hs (omega arith) (omega arith) (omega arith) in
    record {
      froms = ap (λ xs. f ∷ xs) r.froms;
      tos = ap (λ xs. t ∷ xs) r.tos;
      lows = ap (λ xs. l ∷ xs) r.lows;
      highs = ap (λ xs. h ∷ xs) r.highs;
    }

-- ---- the units and the rules of an accepted sheet

pub record FitUnit (span : ℕ) (u : SheetUnit) : Type 0 where
  pub number : (1 ≤ u.loader) × (u.loader ≤ max_loader)
  pub starts : 1 ≤ u.window.first
  pub ordered : u.window.first ≤ u.window.last
  pub ends : u.window.last ≤ carried_place span

pub record FitRule (span : ℕ) (r : Rule) : Type 0 where
  pub starts : 1 ≤ r.from
  pub ordered : r.from ≤ r.to
  pub ends : r.to ≤ span
  pub counts : (r.low ≤ r.high) × (r.high ≤ max_count)

pub rule_fits : (s : Sheet) → T (accepted s) → (j : ℕ) → j < length s.rules → FitRule s.span (get_or s.rules j no_rule)
rule_fits s ok j h =
    let m = in_at no_rule s.rules j h in
    let e = accepted_stretch s ok (get_or s.rules j no_rule) m in
    record { starts = e.0; ordered = e.1; ends = e.2; counts = (accepted_sized s ok).counts (get_or s.rules j no_rule) m }

pub unit_fits : (w : WrittenSheet) → T (accepted (constraints w)) → T (loaders_fit (loaders w)) → (j : ℕ) → j < length w.units
    → FitUnit w.span (get_or w.units j no_unit)
unfolding top
unit_fits w ok fit j h =
    let us = w.units in
    let k = get_or-map (λ (u : SheetUnit). u.loader) us j no_unit in
    let v = get_or-map (λ (u : SheetUnit). u.window) us j no_unit in
    let n = loader_size (loaders w) fit j (omega (arith, length-map us (λ (u : SheetUnit). u.loader))) in
    let e = (accepted_valid (constraints w) ok).windows j (omega (arith, length-map us (λ (u : SheetUnit). u.window))) in
    record {
      number = subst (λ i. (1 ≤ i) × (i ≤ max_loader)) k n;
      starts = subst (λ (x : Window). 1 ≤ x.first) v e.0;
      ordered = subst (λ (x : Window). x.first ≤ x.last) v e.1;
      ends = subst (λ (x : Window). x.last ≤ carried_place w.span) v e.2;
    }
