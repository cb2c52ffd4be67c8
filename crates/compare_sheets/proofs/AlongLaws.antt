-- A plan goes along with its units: for the same wave listed in another order there is a lawful plan that gives each unit the same slot.
-- Key idea: a unit with its slot is one entry of a list, and the plan is moved by recursion on the permutation of the units. Windows and counts look at each
-- entry by itself, so what is lawful stays lawful.
use Rattle.std.specs.Prelude.{◌≡◌, refl, Bool, ℕ, zero, suc, ◌+◌, ◌<◌, get_or}
use Rattle.std.proofs.Math.Path.{sym, ap, subst}
use Rattle.std.proofs.Common.{◌∙◌, arith}
use mathlib.Core.List.Permᴰ
use mathlib.Core.List.{List, [], ◌∷◌, map, Permᴰ}
use Rattle.std.proofs.Math.Dec.{T}
use Rattle.std.proofs.Math.ListN.{length, length-map, get_or-map}
use Rattle.lists.specs.Lists.{within, every, how_many, one_if}
use Rattle.lists.specs.Members.{In, both, left, right, in_at, place_in, every_in, in_every}
use Rattle.lists.specs.Permutations.{how_many_perm, in_perm, every_perm}
use Rattle.slots.specs.Slots.{Slot}
use Rattle.sheet.specs.Sheet.{Window, SheetUnit, WrittenSheet, constraints, loaders, count_in, in_windows, obeys, lawful, no_unit}
use Rattle.sheet.proofs.PlanLaws.{lawful_iff}
use Rattle.sheet.proofs.LoaderLaws.{loader_once}
use Rattle.compare_sheets.specs.Comparing.{Accepted, Relisted, SameLoader}

-- ---- units with their slots

pub record Seat : Type 0 where
  pub unit : SheetUnit
  pub slot : Slot

abbrev pub seat : SheetUnit → Slot → Seat
seat u x = record { unit = u; slot = x }

abbrev pub seats : List SheetUnit → List Slot → List Seat
seats [] xs = []
seats (u ∷ us) [] = []
seats (u ∷ us) (x ∷ xs) = seat u x ∷ seats us xs

abbrev no_seat : Seat
no_seat = seat no_unit 0

abbrev windows : List SheetUnit → List Window
windows us = map (λ u. u.window) us

-- the slot lies in the unit's window
abbrev sits : Seat → Bool
sits p = within p.unit.window.first p.unit.window.last p.slot

seats_length : (us : List SheetUnit) (x : List Slot) → length x ≡ length us → length (seats us x) ≡ length us
seats_length [] x e = refl
seats_length (u ∷ us) [] e = absurd (omega arith)
seats_length (u ∷ us) (x ∷ xs) e = ap suc (seats_length us xs (omega arith))

seats_at : (us : List SheetUnit) (x : List Slot) → length x ≡ length us → (j : ℕ) → j < length us
    → get_or (seats us x) j no_seat ≡ seat (get_or us j no_unit) (get_or x j 0)
seats_at [] x e j h = absurd (omega arith)
seats_at (u ∷ us) [] e j h = absurd (omega arith)
seats_at (u ∷ us) (x ∷ xs) e zero h = refl
seats_at (u ∷ us) (x ∷ xs) e (suc j) h = seats_at us xs (omega arith) j (omega arith)

seats_count : (f t : Slot) (us : List SheetUnit) (x : List Slot) → length x ≡ length us → how_many (λ p. within f t p.slot) (seats us x) ≡ count_in f t x
seats_count f t [] [] e = refl
seats_count f t [] (x ∷ xs) e = absurd (omega arith)
seats_count f t (u ∷ us) [] e = absurd (omega arith)
seats_count f t (u ∷ us) (x ∷ xs) e = ap (λ k. one_if (within f t x) + k) (seats_count f t us xs (omega arith))

windows_sit : (us : List SheetUnit) (x : List Slot) → T (in_windows (windows us) x) → T (every sits (seats us x))
windows_sit [] x h = tt
windows_sit (u ∷ us) [] h = absurd h
windows_sit (u ∷ us) (x ∷ xs) h =
    let here = sits (seat u x) in
    let rest = in_windows (windows us) xs in
    both here (every sits (seats us xs)) (left here rest h) (windows_sit us xs (right here rest h))

sit_windows : (us : List SheetUnit) (x : List Slot) → length x ≡ length us → T (every sits (seats us x)) → T (in_windows (windows us) x)
sit_windows [] [] e h = tt
sit_windows [] (x ∷ xs) e h = absurd (omega arith)
sit_windows (u ∷ us) [] e h = absurd (omega arith)
sit_windows (u ∷ us) (x ∷ xs) e h =
    let here = sits (seat u x) in
    let rest = every sits (seats us xs) in
    both here (in_windows (windows us) xs) (left here rest h) (sit_windows us xs (omega arith) (right here rest h))

-- ---- the plan goes along

record Moved (us vs : List SheetUnit) (x : List Slot) : Type 0 where
  pub plan : List Slot
  pub size : length plan ≡ length vs
  pub same : Permᴰ (seats us x) (seats vs plan)

moved : {us vs : List SheetUnit} → Permᴰ us vs → (x : List Slot) → length x ≡ length us → Moved us vs x
moved Permᴰ.nil x e = record { plan = []; size = refl; same = Permᴰ.nil }
moved (Permᴰ.cons q p) [] e = absurd (omega arith)
moved (Permᴰ.cons q p) (x ∷ xs) e =
    let r = moved p xs (omega arith) in
    record { plan = x ∷ r.plan; size = ap suc r.size; same = Permᴰ.cons (ap (λ u. seat u x) q) r.same }
moved (Permᴰ.swap q r) [] e = absurd (omega arith)
moved (Permᴰ.swap q r) (x ∷ []) e = absurd (omega arith)
moved (Permᴰ.swap q r) (x ∷ y ∷ xs) e =
    record { plan = y ∷ x ∷ xs; size = e; same = Permᴰ.swap (ap (λ u. seat u x) q) (ap (λ u. seat u y) r) }
moved (Permᴰ.trans p q) x e =
    let r = moved p x e in
    let s = moved q r.plan r.size in
    record { plan = s.plan; size = s.size; same = Permᴰ.trans r.same s.same }

module _ (w v : WrittenSheet) (listed : Relisted w v) where
  module _ (x : List Slot) (legal : T (lawful (constraints w) x)) where
    fit : T (in_windows (windows w.units) x)
    unfolding lawful
    fit = left (in_windows (windows w.units) x) (every (obeys x) w.rules) legal

    obeyed : T (every (obeys x) w.rules)
    unfolding lawful
    obeyed = right (in_windows (windows w.units) x) (every (obeys x) w.rules) legal

    size : length x ≡ length w.units
    size = ((lawful_iff (constraints w) x).0 legal).seated.size ∙ length-map w.units (λ u. u.window)

    m : Moved w.units v.units x
    m = moved listed.units x size

    -- the plan of the other listing
    pub along : List Slot
    along = m.plan

    -- has the same counts,
    pub along_count : (f t : Slot) → count_in f t x ≡ count_in f t along
    unfolding along
    along_count f t =
        sym (seats_count f t w.units x size) ∙ how_many_perm (λ p. within f t p.slot) m.same ∙ seats_count f t v.units m.plan m.size

    -- is lawful,
    pub along_lawful : T (lawful (constraints v) along)
    unfolding lawful along
    along_lawful =
        both (in_windows (windows v.units) m.plan) (every (obeys m.plan) v.rules)
        (sit_windows v.units m.plan m.size (every_perm sits m.same (windows_sit w.units x fit)))
        (every_perm (obeys m.plan) listed.rules (in_every (obeys m.plan) w.rules (λ r k.
        subst (λ n. T (within r.low r.high n)) (along_count r.from r.to) (every_in (obeys x) r w.rules k obeyed))))

    -- and has each loader's unit in the same slot.
    pub along_seat : Accepted v → (i j : ℕ) → SameLoader w v i j
        → seat (get_or w.units i no_unit) (get_or x i 0) ≡ seat (get_or v.units j no_unit) (get_or along j 0)
    unfolding along
    along_seat ok i j l =
        let mine : Seat = seat (get_or w.units i no_unit) (get_or x i 0) in
        let here : In mine (seats w.units x) =
        subst (λ p. In p (seats w.units x)) (seats_at w.units x size i l.one)
        (in_at no_seat (seats w.units x) i (omega (arith, l.one, seats_length w.units x size))) in
        let there = place_in no_seat mine (seats v.units m.plan) (in_perm mine m.same here) in
        let k = there.0 in
        let inside : k < length v.units = omega (arith, there.1, seats_length v.units m.plan m.size) in
        let is = sym there.2 ∙ seats_at v.units m.plan m.size k inside in
        let many = length-map v.units (λ u. u.loader) in
        let same : k ≡ j = loader_once (loaders v) ok.loaders k j (omega arith) (omega (arith, l.other))
        (get_or-map (λ (u : SheetUnit). u.loader) v.units k no_unit ∙ sym (ap (λ (p : Seat). p.unit.loader) is)
        ∙ sym (get_or-map (λ (u : SheetUnit). u.loader) w.units i no_unit) ∙ l.number) in
        is ∙ ap (λ (a : ℕ). seat (get_or v.units a no_unit) (get_or m.plan a 0)) same

  -- a loader of the one is a loader of the other
  pub other_place : (i : ℕ) → i < length w.units → (j : ℕ) × SameLoader w v i j
  other_place i h =
      let u = get_or w.units i no_unit in
      let there = place_in no_unit u v.units (in_perm u listed.units (in_at no_unit w.units i h)) in
      let loader : SheetUnit → ℕ = (λ u. u.loader) in (
        there.0,
        record {
          one = h;
          other = there.1;
          number = get_or-map loader w.units i no_unit ∙ sym (ap loader there.2) ∙ sym (get_or-map loader v.units there.0 no_unit);
        },
      )

-- ---- and back
pub relisted_back : (w v : WrittenSheet) → Relisted w v → Relisted v w
relisted_back w v r = record { span = sym r.span; units = Permᴰ.symm r.units; rules = Permᴰ.symm r.rules }
