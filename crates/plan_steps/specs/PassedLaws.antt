-- What the pass over a sheet's limits says of the sheet: where it finishes, its table is solved; where it stops, no plan is lawful.
-- Key idea: the table of the limits has the limits as its entries, so what the pass says of its table it says of the sheet.
use Rattle.std.specs.Prelude.{◌≡◌, List, ℕ, ◌≤◌, T, length, ℤ, pos, ◌+ℤ◌, ◌≤ℤ◌}
use Rattle.std.proofs.Math.Path.{refl, subst}
use Rattle.std.proofs.Common.{sym, ◌∙◌, arith}
use Rattle.network.specs.Network.{Potential, Feasible}
use Rattle.network.specs.Table.{table_of, entry}
use Rattle.network.proofs.TableLaws.{entry_table_of, length_table_of}
use Rattle.network_pass.specs.Pass.{finished, stopped}
use Rattle.network_pass.proofs.PassLaws.{finished_kept, pass_finished, pass_sound, stopped_infeasible}
use Rattle.sheet.specs.Sheet.{Sheet, top, boundaries, limit, lawful, count_in}
use Rattle.sheet.proofs.LimitLaws.{limit_same}
use Rattle.sheet.proofs.PotentialLaws.{lawful_feasible}
use Rattle.plan_rooms.specs.Rooms.{places}
use Rattle.plan_steps.specs.Closing.{passed}
use Rattle.sheet.specs.Solved.{Valid, Solved}

module _ (s : Sheet) where
  at : (a b : ℕ) → a ≤ top s → b ≤ top s → entry (boundaries s) (table_of (boundaries s) (limit s)) a b ≡ limit s a b
  at a b ha hb = entry_table_of (boundaries s) (limit s) a b (omega arith) (omega arith)

  zeros : (a : ℕ) → a ≤ top s → entry (boundaries s) (table_of (boundaries s) (limit s)) a a ≡ pos 0
  zeros a ha = at a a ha ha ∙ limit_same s a

  limits_feasible : (z : Potential) → Feasible (top s) (limit s) z → Feasible (top s) (entry (boundaries s) (table_of (boundaries s) (limit s))) z
  limits_feasible z f a b ha hb = subst (λ (d : ℤ). z b ≤ℤ (z a +ℤ d)) (sym (at a b ha hb)) (f a b ha hb)

  pub passed_size : (t : List ℤ) → passed s ≡ finished t → length t ≡ places s
  unfolding passed
  passed_size t e =
      let w = boundaries s in
      let n = length_table_of w (limit s) in
      (finished_kept w w 0 (table_of w (limit s)) t (omega arith) e).long ∙ n

  pub passed_solved : Valid s → (t : List ℤ) → passed s ≡ finished t → Solved s (entry (boundaries s) t)
  unfolding passed
  passed_solved ok t e =
      let F = pass_finished (top s) (boundaries s) refl (table_of (boundaries s) (limit s)) zeros t e in
      record {
        valid = ok;
        finished = record {
          closed = F.closed;
          diagonal = F.diagonal;
          below = λ a b ha hb. subst (λ (d : ℤ). entry (boundaries s) t a b ≤ℤ d) (at a b ha hb) (F.below a b ha hb);
        };
        sound = λ z f. pass_sound (top s) (boundaries s) refl (table_of (boundaries s) (limit s)) zeros t e z (limits_feasible z f);
      }

  pub stopped_no_potential : passed s ≡ stopped → (z : Potential) → Feasible (top s) (limit s) z → ⊥
  unfolding passed
  stopped_no_potential e z f =
      stopped_infeasible (top s) (boundaries s) refl (table_of (boundaries s) (limit s)) zeros e z (limits_feasible z f)

  pub stopped_unlawful : passed s ≡ stopped → (x : List ℕ) → T (lawful s x) → ⊥
  stopped_unlawful e x l = stopped_no_potential e (λ b. pos (count_in 1 b x)) (lawful_feasible s x l (top s))
