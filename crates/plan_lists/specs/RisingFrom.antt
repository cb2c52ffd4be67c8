-- The pairs of two lists from a place on: what is left to ask gives the whole answer. The code asks them by `all` now (`specs/RisingLaws.antt`); these laws stand.
-- Key idea: at each place the test of that place and what is left past it give what was left before it.
use Rattle.std.specs.Prelude.{◌≡◌, Bool, true, false, ◌&&◌, List, ℕ, suc, ◌+◌, ◌≤◌, ◌<◌, length, get_or, drop}
use Rattle.std.proofs.Math.Path.{ap}
use Rattle.std.proofs.Common.{ap₂, ◌∙◌, arith, drop_of_length-le, drop-cons}
use Rattle.lists.specs.Lists.{every}
use Rattle.sheet.specs.Sheet.{Window, no_window}
use Rattle.sheet.specs.Questions.{windows_of, rising}
use Rattle.sheet.proofs.QuestionLaws.{windows_of_length, windows_of_at}

unfoldable pub rising_from : ℕ → ℕ → ℕ → List ℕ → List ℕ → ℕ → Bool
rising_from least start most fs ls j = every (λ w. rising least start most w.first w.last) (drop j (windows_of fs ls))

module _ (least start most : ℕ) (fs ls : List ℕ) (e : length ls ≡ length fs) where
  rising_here : (j : ℕ) → j < length fs
      → rising_from least start most fs ls j ≡ (rising least start most (get_or fs j 0) (get_or ls j 0) && rising_from least start most fs ls (suc j))
  unfolding rising_from
  rising_here j h =
      ap (every (λ w. rising least start most w.first w.last)) (drop-cons (windows_of fs ls) j no_window (omega (arith, windows_of_length fs ls e)))
      ∙ ap (λ (w : Window). rising least start most w.first w.last && rising_from least start most fs ls (suc j)) (windows_of_at fs ls e j h)

  pub rising_next : (j : ℕ) → j < length fs → rising least start most (get_or fs j 0) (get_or ls j 0) ≡ true
      → rising_from least start most fs ls j ≡ rising_from least start most fs ls (j + 1)
  rising_next j h t = rising_here j h ∙ ap₂ (λ b k. b && rising_from least start most fs ls k) t (omega arith)

  pub rising_stop : (j : ℕ) → j < length fs → rising least start most (get_or fs j 0) (get_or ls j 0) ≡ false → rising_from least start most fs ls j ≡ false
  rising_stop j h t = rising_here j h ∙ ap (λ b. b && rising_from least start most fs ls (suc j)) t

  pub rising_end : (j : ℕ) → length fs ≤ j → rising_from least start most fs ls j ≡ true
  unfolding rising_from
  rising_end j h =
      ap (every (λ w. rising least start most w.first w.last))
      (drop_of_length-le (windows_of fs ls) {i = j} (omega (arith, windows_of_length fs ls e)))
