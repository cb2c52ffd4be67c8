-- Reading a line to its line feed, byte by byte.
-- Key idea: from a place on, what is left of the line leads from the present state where the whole line leads from the start (`Going`). The line feed takes
-- that state to the code of the line's kind, and no other byte takes it to a state of a line that has ended.
use Prim.Native.Nat.{ℕ, ◌+◌, ◌-◌, ◌≤◌, ◌<◌}
use mathlib.Core.Path.{◌≡◌, refl, sym, ap, ◌∙◌}
use mathlib.Core.Bool.{Bool, true, false}
use mathlib.Core.List.{List}
use native.Mathlib.Omega.{arith}
use lib.ListN.{length, get_or, drop}
use lib.Dec.{eqb}
use borrow.Author.Tests.{eqb-true}
use Rattle.forms.specs.Words.{line_feed}
use Rattle.forms.specs.Lines.{has_feed}
use Rattle.forms.specs.LinesLaws.{line_end}
use Rattle.forms.specs.declared.House.TheVariants.{Ours}
use Rattle.read_form.specs.Kinds.{kind_of}
use Rattle.read_form.specs.Grid.{code, ends, state_count, start, class_of, next_of, run_of}
use Rattle.read_form.specs.GridLaws.{next_inside, next_going, next_ended, start_inside, grid_reads}
use Rattle.read_scan.specs.Scan.{line_at}
use Rattle.read_scan.specs.ScanLaws.{line_done, line_byte, feed_on, end_on, first_feedless}

-- on the way, at the place i in the state q
pub record Going (t : List ℕ) (at i q : ℕ) : Type 0 where
  pub feed : has_feed (drop i t) ≡ true
  pub end : line_end t i ≡ line_end t at
  pub run : run_of Ours q (line_at t i) ≡ run_of Ours start (line_at t at)

-- past the line feed
pub record Done (t : List ℕ) (at i q : ℕ) : Type 0 where
  pub place : i - 1 ≡ line_end t at
  pub some : 1 ≤ i
  pub kind : q ≡ code (kind_of Ours (line_at t at))

-- one of the two, by the state
pub record Ending (t : List ℕ) (at i q : ℕ) : Type 0 where
  pub known : q < state_count
  pub going : ends ≤ q → Going t at i q
  pub done : q < ends → Done t at i q

pub ending_start : (t : List ℕ) (at : ℕ) → has_feed (drop at t) ≡ true → Ending t at at start
ending_start t at f =
    record { known = start_inside.1; going = λ l. record { feed = f; end = refl; run = refl }; done = λ l. absurd (omega (arith, start_inside.0)) }

module _ (t : List ℕ) (at i q r : ℕ) (known : q < state_count) (l : ends ≤ q) (g : Going t at i q) (e : r ≡ next_of Ours q (class_of (get_or t i 0))) where
  over_feed : eqb (get_or t i 0) line_feed ≡ true → Ending t at (i + 1) r
  unfolding run_of
  over_feed z =
      let x = eqb-true (get_or t i 0) line_feed z in
      let line = line_done t i g.feed x in
      let state : r ≡ next_of Ours q (class_of line_feed) = e ∙ ap (λ c. next_of Ours q (class_of c)) x in
      record {
        known = rw e (next_inside Ours q known (get_or t i 0));
        going = λ m. absurd (omega (arith, state, next_ended Ours q known));
        done = λ m. record {
          place = omega (arith, ap length line, g.end);
          some = omega arith;
          kind = state ∙ ap (λ p. next_of Ours p (class_of line_feed)) (sym (ap (run_of Ours q) line) ∙ g.run)
              ∙ grid_reads Ours (line_at t at) (first_feedless (drop at t));
        };
      }

  over_byte : eqb (get_or t i 0) line_feed ≡ false → Ending t at (i + 1) r
  unfolding run_of
  over_byte z =
      record {
        known = rw e (next_inside Ours q known (get_or t i 0));
        going = λ m. record {
          feed = feed_on t i g.feed z;
          end = end_on t i g.feed z ∙ g.end;
          run = ap (λ p. run_of Ours p (line_at t (i + 1))) e ∙ sym (ap (run_of Ours q) (line_byte t i g.feed z)) ∙ g.run;
        };
        done = λ m. absurd (omega (arith, e, next_going Ours q known (get_or t i 0) l z));
      }

  pub ending_on : Ending t at (i + 1) r
  ending_on = go (eqb (get_or t i 0) line_feed) refl
    where
      go : (b : Bool) → eqb (get_or t i 0) line_feed ≡ b → Ending t at (i + 1) r
      go true z = over_feed z
      go false z = over_byte z
