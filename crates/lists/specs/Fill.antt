-- A loop that fills the front of a list, one place a turn.
-- Key idea: before the turn of place i the first i places hold their values and the others what they had, so a store moves the seam by one.
use Rattle.std.specs.Prelude.{◌≡◌, refl, List, ◌++◌, ℕ, ◌+◌, ◌≤◌, ◌<◌, length, get_or, drop, set, replicate}
use Rattle.std.proofs.Common.{sym, ap, subst, ◌∙◌, arith, length-set}
use Rattle.lists.specs.Values.{Filled, filled_store, list_of_is, replicate_values}

-- the first n places of t₀ are to hold the values of g, and the first i of them do
pub record FillInv {A : Type 0} (g : ℕ → A) (n : ℕ) (t₀ : List A) (i : ℕ) (t : List A) : Type 0 where
  pub most : i ≤ n
  pub long : length t ≡ length t₀
  pub form : Filled g i t₀ t

module _ {A : Type 0} {g : ℕ → A} {n : ℕ} {t₀ : List A} where
  pub fill_start : FillInv g n t₀ 0 t₀
  fill_start = record { most = omega arith; long = refl; form = refl }

  module _ {i : ℕ} {t : List A} (f : FillInv g n t₀ i t) where
    pub fill_next : {v : A} → v ≡ g i → i < n → n ≤ length t₀ → FillInv g n t₀ (i + 1) (set t i v)
    fill_next {v} e h r = record {
      most = omega arith;
      long = length-set t i v ∙ f.long;
      form = filled_store g i t₀ t f.form v (omega arith) e;
    }

    pub fill_end : n ≤ i → Filled g n t₀ t
    fill_end h = let e : i ≡ n = omega arith in subst (λ (k : ℕ). Filled g k t₀ t) e f.form

-- the values of a list, and one value
pub filled_copy : {A : Type 0} (d : A) (xs t₀ t : List A) → Filled (λ j. get_or xs j d) (length xs) t₀ t → t ≡ xs ++ drop (length xs) t₀
filled_copy d xs t₀ t f =
    f ∙ ap (λ ys. ys ++ drop (length xs) t₀) (sym (list_of_is (λ j. get_or xs j d) d (length xs) xs refl (λ j h. refl)))

pub filled_one : {A : Type 0} (v : A) (n : ℕ) (t₀ t : List A) → Filled (λ _. v) n t₀ t → t ≡ replicate n v ++ drop n t₀
filled_one v n t₀ t f = f ∙ ap (λ ys. ys ++ drop n t₀) (sym (replicate_values n v))
