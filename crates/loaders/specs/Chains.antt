-- The chains by which earlier loader numbers are searched: numbers with one remainder are one chain, the latest first. A place p stands for the number
-- just before it, and 0 for none. Definitions only.
use Rattle.std.specs.Prelude.{◌≡◌, List, ℕ, ◌-◌, ◌%◌, ◌≤◌, ◌<◌, length, get_or}

-- how many there are
abbrev pub chains : ℕ
chains = 256

-- Of the first n numbers, those with the remainder b all stand before place p, and the one just before p, if there is one, has it.
pub record From (ks : List ℕ) (n b p : ℕ) : Type 0 where
  pub most : p ≤ n
  pub own : 0 < p → get_or ks (p - 1) 0 % chains ≡ b
  pub others : (i : ℕ) → p ≤ i → i < n → get_or ks i 0 % chains ≡ b → ⊥

-- The first n numbers are in their chains: `heads` has where each chain begins, `nexts` where it goes on after each number.
pub record Linked (ks : List ℕ) (n : ℕ) (heads nexts : List ℕ) : Type 0 where
  pub wide : length heads ≡ chains
  pub head : (b : ℕ) → b < chains → From ks n b (get_or heads b 0)
  pub next : (j : ℕ) → j < n → From ks j (get_or ks j 0 % chains) (get_or nexts j 0)
