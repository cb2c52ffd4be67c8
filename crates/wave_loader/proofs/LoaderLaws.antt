-- The number of a word, digit by digit.
-- Key idea: a number that is past every loader number stays so with more digits behind it, so capping it at each digit is capping it once at the end.
use Rattle.std.specs.Prelude.{Option, Some, None}
use mathlib.Core.Path.{◌≡◌, refl, sym, ap, ◌∙◌}
use mathlib.Core.Bool.{Bool, true, ◌&&◌, cond}
use mathlib.Core.List.{List, [], ◌∷◌}
use Prim.Native.Nat.{ℕ, suc, ◌+◌, ◌-◌, ◌*◌, ◌≤◌, ◌<◌}
use native.Mathlib.Omega.{arith}
use native.Mathlib.Numerals.{add-one}
use lib.ListN.{length, get_or, drop, drop_of_length-le}
use lib.Seq.{drop-cons}
use Rattle.lists.specs.Lists.{every}
use Rattle.sheet.specs.Sizes.{max_loader}
use Rattle.forms.specs.Form.{is_digit, value_from}
use Rattle.wave_loader.specs.Named.{capped, loader_named}

-- what is named where these bytes follow on a number
abbrev pub named_from : ℕ → List ℕ → Option ℕ
named_from v l = cond (every is_digit l) (Some (capped (value_from v l))) None

capped_step : (v d : ℕ) → capped (capped v * 10 + d) ≡ capped (v * 10 + d)
capped_step v d = omega arith

capped_early : (v : ℕ) (l : List ℕ) → capped (value_from (capped v) l) ≡ capped (value_from v l)
unfolding value_from
capped_early v [] = omega arith
capped_early v (b ∷ l) =
    sym (capped_early (capped v * 10 + (b - 48)) l) ∙ ap (λ n. capped (value_from n l)) (capped_step v (b - 48)) ∙ capped_early (v * 10 + (b - 48)) l

-- a word that has bytes
pub some_named : (word : List ℕ) → (length word ≡ 0 → ⊥) → loader_named word ≡ named_from 0 word
unfolding loader_named
some_named [] h = absurd (h refl)
some_named (b ∷ l) h = refl

pub none_named : (word : List ℕ) → length word ≡ 0 → loader_named word ≡ None
unfolding loader_named
none_named [] h = refl
none_named (b ∷ l) h = absurd (omega arith)

-- at a place of a word: the byte there is a digit, or none
module _ (word : List ℕ) (v i : ℕ) (h : i < length word) where
  pub digit_here : (n : ℕ) → is_digit (get_or word i 0) ≡ true → n ≡ capped (v * 10 + (get_or word i 0 - 48))
      → named_from v (drop i word) ≡ named_from n (drop (i + 1) word)
  unfolding value_from
  digit_here n d e =
      let b = get_or word i 0 in
      let rest = drop (suc i) word in
      rw (add-one i, e) (rw (drop-cons word i 0 h) (
      ap (λ (t : Bool). cond (t && every is_digit rest) (Some (capped (value_from (v * 10 + (b - 48)) rest))) None) d
      ∙ ap (λ n. cond (every is_digit rest) (Some n) None) (sym (capped_early (v * 10 + (b - 48)) rest))
      ))

-- behind the last byte
pub all_named : (word : List ℕ) (v i : ℕ) → length word ≤ i → v ≤ suc max_loader → named_from v (drop i word) ≡ Some v
unfolding value_from
all_named word v i h small = ap (named_from v) (drop_of_length-le word h) ∙ ap Some (omega arith)
