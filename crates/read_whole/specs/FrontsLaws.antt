-- What reading leaves at the front of the lists is the text's sheet.
-- Key idea: a sheet in parallel lists is the sheet again, and the front of a room is what was put onto it.
use Rattle.std.specs.Prelude.{◌≡◌, refl, ◌&&◌, List, map, ℕ, T, eqb, length}
use Rattle.std.proofs.Common.{sym, ap, ◌∙◌, subst}
use Rattle.std.proofs.Math.Dec.{eqb_refl}
use Rattle.std.proofs.lemmas.List.{length-map}
use Rattle.lists.specs.Members.{both}
use Rattle.sheet.specs.Sheet.{Sheet, SheetUnit, WrittenSheet, constraints, loaders}
use Rattle.sheet.specs.Questions.{sheet_of, lists_agree, accepted, loaders_fit}
use Rattle.sheet.specs.declared.Sheet.{Sheet as Read}
use Rattle.read_questions.specs.Reading.{ListRooms, read}
use Rattle.lists.specs.FrontLaws.{front_is, front_holds}
use Rattle.read_rooms.specs.Rooms.{leaves}
use Rattle.sheet.specs.Lists.{WrittenLists, written_lists, given_by, units_of, written_by, agree}
use Rattle.sheet.proofs.WrittenLaws.{windows_back, units_back, rules_back}
use Rattle.plan_ask.specs.Asking.{Listed}
use Rattle.read_whole.specs.Fronts.{fronts, Held}

-- ---- a sheet in parallel lists is the sheet again

-- the lists of a sheet
abbrev pub lists_of : WrittenSheet → WrittenLists
lists_of w =
    let s = constraints w in
    written_lists s.span (loaders w) (map (λ v. v.first) s.units) (map (λ v. v.last) s.units)
    (map (λ r. r.from) s.rules) (map (λ r. r.to) s.rules) (map (λ r. r.low) s.rules) (map (λ r. r.high) s.rules)

pub given_back : (w : WrittenSheet) → given_by (lists_of w) ≡ constraints w
unfolding sheet_of
given_back w = rw (windows_back (constraints w).units, rules_back w.rules) refl

-- as it is written, too
pub written_back : (w : WrittenSheet) → written_by (lists_of w) ≡ w
written_back w =
    ap (λ (s : Sheet). record { span = s.span; units = units_of (loaders w) s.units; rules = s.rules }) (given_back w)
    ∙ ap (λ (us : List SheetUnit). record { span = w.span; units = us; rules = w.rules }) (units_back w.units)

same_length : {A : Type 0} (xs : List A) (f g : A → ℕ) → T (eqb (length (map f xs)) (length (map g xs)))
same_length xs f g = subst (λ k. T (eqb (length (map f xs)) k)) (length-map xs f ∙ sym (length-map xs g)) (eqb_refl (length (map f xs)))

agree_back : (w : WrittenSheet) → T (agree (lists_of w).constraints)
unfolding lists_agree
agree_back w =
    let s = constraints w in
    let a = eqb (length (map (λ w. w.last) s.units)) (length (map (λ w. w.first) s.units)) in
    let b = eqb (length (map (λ r. r.to) s.rules)) (length (map (λ r. r.from) s.rules)) in
    let c = eqb (length (map (λ r. r.low) s.rules)) (length (map (λ r. r.from) s.rules)) in
    let d = eqb (length (map (λ r. r.high) s.rules)) (length (map (λ r. r.from) s.rules)) in
    both a (b && (c && d)) (same_length s.units (λ w. w.last) (λ w. w.first))
    (both b (c && d) (same_length s.rules (λ r. r.to) (λ r. r.from))
    (both c d (same_length s.rules (λ r. r.low) (λ r. r.from)) (same_length s.rules (λ r. r.high) (λ r. r.from))))

-- of a sheet that is accepted and whose loader numbers are new they pass planning's questions
pub passes_back : (w : WrittenSheet) → T (accepted (constraints w)) → T (loaders_fit (loaders w)) → Listed (lists_of w)
passes_back w ok fit = record {
  as_many = length-map w.units (λ u. u.loader) ∙ sym (length-map w.units (λ u. u.window)) ∙ sym (length-map (constraints w).units (λ v. v.first));
  lists = agree_back w;
  sheet = subst (λ s. T (accepted s)) (sym (given_back w)) ok;
  loaders = fit;
}

-- ---- the front of each room
module _ (w : WrittenSheet) (t : Read) (span : t.span ≡ w.span) (units : t.units ≡ length w.units) (rules : t.rules ≡ length w.rules)
    (m : ListRooms (List ℕ)) where
  abbrev left : ListRooms (List ℕ)
  left = leaves (read 0 0 0) w m

  -- as many windows as units
  windows : t.units ≡ length (constraints w).units
  windows = units ∙ sym (length-map w.units (λ u. u.window))

  pub fronts_are : fronts t left ≡ lists_of w
  fronts_are =
      rw (
        span,
        front_is (λ u. u.loader) w.units t.units m.loader _ units refl,
        front_is (λ v. v.first) (constraints w).units t.units m.first _ windows refl,
        front_is (λ v. v.last) (constraints w).units t.units m.last _ windows refl,
        front_is (λ r. r.from) w.rules t.rules m.from _ rules refl,
        front_is (λ r. r.to) w.rules t.rules m.to _ rules refl,
        front_is (λ r. r.low) w.rules t.rules m.low _ rules refl,
        front_is (λ r. r.high) w.rules t.rules m.high _ rules refl,
      ) refl

  pub held : T (accepted (constraints w)) → T (loaders_fit (loaders w)) → Held t left
  held ok fit = record {
    long = record {
      in_loader = front_holds (λ u. u.loader) w.units t.units m.loader _ units refl;
      in_first = front_holds (λ v. v.first) (constraints w).units t.units m.first _ windows refl;
      in_last = front_holds (λ v. v.last) (constraints w).units t.units m.last _ windows refl;
      in_from = front_holds (λ r. r.from) w.rules t.rules m.from _ rules refl;
      in_to = front_holds (λ r. r.to) w.rules t.rules m.to _ rules refl;
      in_low = front_holds (λ r. r.low) w.rules t.rules m.low _ rules refl;
      in_high = front_holds (λ r. r.high) w.rules t.rules m.high _ rules refl;
    };
    passes = subst Listed (sym fronts_are) (passes_back w ok fit);
  }
