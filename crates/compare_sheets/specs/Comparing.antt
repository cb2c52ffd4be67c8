-- Two sheets that customers compare: the same wave listed in another order, and a wave that is allowed more. Definitions only.
use Rattle.std.specs.Prelude.{◌≡◌, ◌&&◌, ℕ, ◌≤◌, ◌<◌, T, eqb, length, get_or}
use mathlib.Core.List.{List, [], ◌∷◌, Permᴰ}
use Rattle.lists.specs.Lists.{how_many}
use Rattle.slots.specs.Slots.{Slot}
use Rattle.sheet.specs.Sheet.{Window, Rule, Sheet, WrittenSheet, constraints, loaders, no_window, unit_places}
use Rattle.sheet.specs.Questions.{accepted, loaders_fit}

-- every question that planning asks of a sheet is answered yes, 16 included
pub record Accepted (w : WrittenSheet) : Type 0 where
  pub sheet : T (accepted (constraints w))
  pub loaders : T (loaders_fit (loaders w))

-- ---- listed in another order

-- the same span, the same units, each with its loader number, and the same rules (`List.Permᴰ` is the library's permutation)
pub record Relisted (w v : WrittenSheet) : Type 0 where
  pub span : w.span ≡ v.span
  pub units : Permᴰ w.units v.units
  pub rules : Permᴰ w.rules v.rules

-- the units at place i of the one sheet and at place j of the other have the same loader number
pub record SameLoader (w v : WrittenSheet) (i j : ℕ) : Type 0 where
  pub one : i < length w.units
  pub other : j < length v.units
  pub number : get_or (loaders w) i 0 ≡ get_or (loaders v) j 0

-- how many units whose windows close in slot c the plan has in slot t
unfoldable pub seats_closing : Sheet → List Slot → Slot → Slot → ℕ
seats_closing s plan c t = how_many (λ j. eqb (get_or s.units j no_window).last c && eqb (get_or plan j 0) t) (unit_places s)

-- no other unit's window closes where that of the unit at place i does
abbrev pub ClosesAlone : Sheet → ℕ → Type 0
ClosesAlone s i = (k : ℕ) → k < length s.units → (get_or s.units k no_window).last ≡ (get_or s.units i no_window).last → k ≡ i

-- ---- allowed more

-- two lists of one length, place by place
abbrev pub Each : {A : Type 0} → (A → A → Type 0) → List A → List A → Type 0
Each R [] [] = Unit {0}
Each R [] (y ∷ ys) = ⊥
Each R (x ∷ xs) [] = ⊥
Each R (x ∷ xs) (y ∷ ys) = R x y × Each R xs ys

-- the window v is as wide as u or wider
pub record Wider (u v : Window) : Type 0 where
  pub opens : v.first ≤ u.first
  pub closes : u.last ≤ v.last

-- the rule q is on the stretch of r, and as loose as r or looser
pub record LooserRule (r q : Rule) : Type 0 where
  pub from : q.from ≡ r.from
  pub to : q.to ≡ r.to
  pub low : q.low ≤ r.low
  pub high : r.high ≤ q.high

-- t allows what s allows: any number of its windows are wider and of its rules looser, and all else is equal. (No plan looks at a loader number.)
pub record Looser (s t : Sheet) : Type 0 where
  pub span : s.span ≡ t.span
  pub units : Each Wider s.units t.units
  pub rules : Each LooserRule s.rules t.rules
