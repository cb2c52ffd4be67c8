-- The lists of a call whose questions are answered yes: their stretches have ends in order, their text is of its three parts and is no longer than maxText.
-- Key idea: what an accepted sheet's units and rules are, place by place, is what the lists hold there.
use Rattle.std.specs.Prelude.{◌≡◌, refl, List, [], ◌∷◌, map, ℕ, suc, ◌+◌, ◌≤◌, ◌<◌, length, get_or, drop}
use Rattle.std.proofs.Common.{ap, ◌∙◌, arith, add-one, drop_of_length-le, drop-cons}
use Rattle.std.proofs.Math.Path.{subst}
use Rattle.lists.specs.Lists.{joined}
use Rattle.forms.specs.declared.House.{House}
use Rattle.sheet.specs.Sheet.{Window, top}
use Rattle.sheet.specs.Questions.{windows_of, rules_of, sheet_of}
use Rattle.sheet.proofs.QuestionLaws.{Agree, windows_of_at, rules_of_length, rules_of_at, accepted_sized, accepted_valid}
use Rattle.sheet.specs.Lists.{WrittenLists, given_by, units_of, written_by}
use Rattle.sheet.proofs.WrittenLaws.{FitRule, rule_fits}
use Rattle.plan_ask.specs.Asking.{Listed}
use Rattle.plan_ask.proofs.AskingLaws.{units_length}
use Rattle.plan_ask.proofs.ListedLaws.{listed_agree, written_accepted, written_new}
use Rattle.sheet_texts.specs.SheetText.{span_text, unit_texts, rule_texts, sheet_text, max_text}
use Rattle.sheet_texts.proofs.SheetTextLaws.{text_short}
use Rattle.print_bytes.specs.Writing.{Written}
use Rattle.print_bytes.proofs.WritingLaws.{Pending, pending_nothing}
use Rattle.write_entries.specs.Lines.{Stretches}

-- ---- a line for each entry of a list, one after another

module _ {A : Type 0} (f : A → List ℕ) (d : A) (xs : List A) {page₀ : List ℕ} {at₀ : ℕ} {whole page : List ℕ} {at : ℕ} (i : ℕ) where
  -- the next line stands in front
  pub texts_next : (x : A) → get_or xs i d ≡ x → i < length xs → Pending page₀ at₀ whole page at (map f (drop i xs))
      → Pending page₀ at₀ whole page at (f x ∷ map f (drop (i + 1) xs))
  texts_next x e h l =
      rw (add-one i) (subst (λ ys. Pending page₀ at₀ whole page at (map f ys)) (drop-cons xs i d h ∙ ap (λ y. y ∷ drop (suc i) xs) e) l)

  -- none is left
  pub texts_end : length xs ≤ i → Pending page₀ at₀ whole page at (map f (drop i xs)) → Written page₀ at₀ whole page at
  texts_end h l = pending_nothing (subst (λ ys. Pending page₀ at₀ whole page at (map f ys)) (drop_of_length-le xs {i = i} h) l)

-- ---- the lists of a call

module _ (l : WrittenLists) (y : Listed l) where
  agree : let k = l.constraints in Agree k.first k.last k.from k.to k.low k.high
  agree = listed_agree l y

  pub listed_units : Stretches l.constraints.first l.constraints.last
  unfolding sheet_of top
  listed_units = let k = l.constraints in record {
    paired = agree.windows;
    each = λ j h.
        let e = (accepted_valid (given_by l) y.sheet).windows j (omega (arith, units_length k agree)) in
        let at = windows_of_at k.first k.last agree.windows j h in
        record {
          ordered = subst (λ (w : Window). w.first ≤ w.last) at e.1;
          most = omega (arith, subst (λ (w : Window). w.last ≤ top (given_by l)) at e.2, (accepted_sized (given_by l) y.sheet).slots.1);
        };
  }

  pub listed_rules : Stretches l.constraints.from l.constraints.to
  unfolding sheet_of
  listed_rules = let k = l.constraints in let a = agree in record {
    paired = a.stretches;
    each = λ j h.
        let n = rules_of_length k.from k.to k.low k.high a.stretches a.lows a.highs in
        let at = rules_of_at k.from k.to k.low k.high a.stretches a.lows a.highs j h in
        let e = subst (FitRule k.span) at (rule_fits (given_by l) y.sheet j (omega arith)) in
        record { ordered = e.ordered; most = omega (arith, e.ends, (accepted_sized (given_by l) y.sheet).slots.1) };
  }

  pub listed_short : (h : House) → length (sheet_text h (written_by l)) ≤ max_text
  listed_short h = text_short h (written_by l) (written_accepted l y) (written_new l y)

pub text_parts : (h : House) (l : WrittenLists) → let k = l.constraints in
    sheet_text h (written_by l) ≡ joined (span_text h k.span ∷ unit_texts h (units_of l.loader (windows_of k.first k.last))
    ∷ rule_texts h (rules_of k.from k.to k.low k.high) ∷ [])
unfolding sheet_text sheet_of
text_parts h l = refl
