-- The laws of tables: entries, lengths, rows.
-- Key idea: rows of one width w stand one behind the other, so what stands at a * w + b is entry b of row a.
use Rattle.std.specs.Prelude.{◌≡◌, List, ◌++◌, map, ℕ, zero, suc, ◌+◌, ◌*◌, ◌≤◌, ◌<◌, length, get_or, drop, ℤ, pos}
use Rattle.std.proofs.Common.{sym, ap, ◌∙◌, append_assoc, append-nil, arith, mul-le-mul_right, length-append, length-drop, drop_at, get_or-append-add}
use Rattle.std.proofs.Math.ListN.{get_or-append}
use Rattle.lists.specs.Lists.{run, joined}
use Rattle.network.specs.Network.{Weights}
use Rattle.network.specs.Closure.{step}
use Rattle.lists.specs.Values.{list_of, length_list_of, list_of_at}
use Rattle.network.specs.Table.{table_of, entry, middle}

-- ---- rows of one width
module _ (w : ℕ) (F : ℕ → List ℤ) (wide : (a : ℕ) → length (F a) ≡ w) where
  pub length_rows : (i k : ℕ) → length (joined (map F (run i k))) ≡ k * w
  length_rows i zero = omega arith
  length_rows i (suc k) = length-append (F i) (joined (map F (run (suc i) k))) ∙ (omega (arith, wide i, length_rows (suc i) k))

  rows_at : (i k a b : ℕ) (d : ℤ) → a < k → b < w → get_or (joined (map F (run i k))) (a * w + b) d ≡ get_or (F (i + a)) b d
  rows_at i zero a b d h l = absurd (omega arith)
  rows_at i (suc k) zero b d h l =
      let e : 0 * w + b ≡ b = omega arith in
      let j : i ≡ i + 0 = omega arith in
      ap (λ (n : ℕ). get_or (F i ++ joined (map F (run (suc i) k))) n d) e
      ∙ get_or-append (F i) (joined (map F (run (suc i) k))) d b (omega (arith, wide i))
      ∙ ap (λ (n : ℕ). get_or (F n) b d) j
  rows_at i (suc k) (suc a) b d h l =
      let e : suc a * w + b ≡ length (F i) + (a * w + b) = omega (arith, wide i) in
      let j : suc i + a ≡ i + suc a = omega arith in
      ap (λ (n : ℕ). get_or (F i ++ joined (map F (run (suc i) k))) n d) e
      ∙ get_or-append-add (F i) (joined (map F (run (suc i) k))) (a * w + b) d
      ∙ rows_at (suc i) k a b d (omega arith) l
      ∙ ap (λ (n : ℕ). get_or (F n) b d) j

  pub rows_snoc : (i k : ℕ) → joined (map F (run i (suc k))) ≡ joined (map F (run i k)) ++ F (i + k)
  rows_snoc i zero = let e : i ≡ i + 0 = omega arith in append-nil (F i) ∙ ap F e
  rows_snoc i (suc k) =
      let e : suc i + k ≡ i + suc k = omega arith in
      ap (λ (l : List ℤ). F i ++ l) (rows_snoc (suc i) k ∙ ap (λ (n : ℕ). joined (map F (run (suc i) k)) ++ F n) e)
      ∙ sym (append_assoc (F i) (joined (map F (run (suc i) k))) (F (i + suc k)))

-- ---- tables
pub length_table_of : (w : ℕ) (f : Weights) → length (table_of w f) ≡ w * w
length_table_of w f = length_rows w (λ a. list_of w (f a)) (λ a. length_list_of (f a) w) 0 w

-- row a ends inside the table
pub row_inside : (a w : ℕ) → a < w → a * w + w ≤ w * w
row_inside a w h = let k : (a + 1) * w ≤ w * w = mul-le-mul_right w (omega arith) in omega arith

pub entry_table_of : (w : ℕ) (f : Weights) (a b : ℕ) → a < w → b < w → entry w (table_of w f) a b ≡ f a b
entry_table_of w f a b ha hb =
    let e : 0 + a ≡ a = omega arith in
    rows_at w (λ a. list_of w (f a)) (λ a. length_list_of (f a) w) 0 w a b (pos 0) ha hb
    ∙ list_of_at (f (0 + a)) w b (pos 0) hb ∙ ap (λ (n : ℕ). f n b) e

-- the same where the table stands in front of other places
pub entry_front : (w : ℕ) (f : Weights) (t : List ℤ) (a b : ℕ) → a < w → b < w → entry w (table_of w f ++ t) a b ≡ f a b
entry_front w f t a b ha hb =
    get_or-append (table_of w f) t (pos 0) (a * w + b) (omega (arith, length_table_of w f, row_inside a w ha)) ∙ entry_table_of w f a b ha hb

pub entry_middle : (w m : ℕ) (t : List ℤ) (a b : ℕ) → a < w → b < w → entry w (middle w m t) a b ≡ step m (entry w t) a b
unfolding middle
entry_middle w m t a b ha hb = entry_front w (step m (entry w t)) (drop (w * w) t) a b ha hb

pub length_middle : (w m : ℕ) (t : List ℤ) → w * w ≤ length t → length (middle w m t) ≡ length t
unfolding middle
length_middle w m t h = length-append (table_of w (step m (entry w t))) (drop (w * w) t)
    ∙ (omega (arith, length_table_of w (step m (entry w t)), length-drop (w * w) t))

pub drop_middle : (w m : ℕ) (t : List ℤ) → drop (w * w) (middle w m t) ≡ drop (w * w) t
unfolding middle
drop_middle w m t = drop_at (table_of w (step m (entry w t))) (drop (w * w) t) (w * w) (length_table_of w (step m (entry w t)))
