-- The span, the units' lines and the rules' lines, one after the other.
use Rattle.std.proofs.Common.{◌≡◌, sym, ap, ◌∙◌, subst, List, [], ◌∷◌, ℕ, ◌≤◌, length, arith}
use Rattle.forms.specs.declared.House.{House}
use Rattle.sheet.specs.Sizes.{max_slots}
use Rattle.sheet.specs.Questions.{windows_of, rules_of}
use Rattle.sheet.specs.Lists.{Lists, listed, WrittenLists, written_lists, units_of, written_by}
use Rattle.plan_ask.specs.Asking.{Listed}
use Rattle.plan_ask.proofs.AskingLaws.{span_bound}
use Rattle.plan_ask.proofs.ListedLaws.{listed_agree}
use Rattle.print_bytes.specs.Writing.{Room}
use Rattle.print_bytes.proofs.WritingLaws.{Pending, pending_whole, pending_room, pending_after, pending_nothing}
use Rattle.sheet_texts.specs.SheetText.{span_text, unit_texts, rule_texts, sheet_text}
use Rattle.write_entries.specs.Lines.{Stretches}
use Rattle.write_lines.specs.LinesLaws.{listed_units, listed_rules, text_parts}
use Rattle.write_lines.proofs.put_sheet.Goals as goal

abbrev both : List ℕ → Lists → WrittenLists
both ks k = record { loader = ks; constraints = k }

-- the lists of the sheet, each by itself
module _ {lists : WrittenLists} {ks : List ℕ} {k : Lists} {p : ℕ} {fs ls rs ts lo hi : List ℕ} (outer : both ks k ≡ lists)
    (inner : listed p fs ls rs ts lo hi ≡ k) where
  is : lists ≡ written_lists p ks fs ls rs ts lo hi
  is = sym (ap (both ks) inner ∙ outer)

  begun : (h : House) {page : List ℕ} {at : ℕ} → Room page at (sheet_text h (written_by lists))
      → Pending page at (sheet_text h (written_by lists)) page at
      (span_text h p ∷ unit_texts h (units_of ks (windows_of fs ls)) ∷ rule_texts h (rules_of rs ts lo hi) ∷ [])
  begun h room = pending_whole _ (ap (λ l. sheet_text h (written_by l)) is ∙ text_parts h (written_lists p ks fs ls rs ts lo hi)) room

  module _ (y : Listed lists) where
    asked : Listed (written_lists p ks fs ls rs ts lo hi)
    asked = subst Listed is y

    short : p ≤ max_slots
    short = span_bound (listed p fs ls rs ts lo hi) asked.sheet

    units_fit : (length ks ≡ length fs) × Stretches fs ls
    units_fit = (asked.as_many, listed_units (written_lists p ks fs ls rs ts lo hi) asked)

    rules_fit : Stretches rs ts × (length lo ≡ length rs) × (length hi ≡ length rs)
    rules_fit =
        let a = listed_agree (written_lists p ks fs ls rs ts lo hi) asked in
        (listed_rules (written_lists p ks fs ls rs ts lo hi) asked, a.lows, a.highs)

pub overflow_cast-c-inside : goal.overflow_cast-c-inside
overflow_cast-c-inside c = let h = short c.lists.view_is c.c.view_is c.requires.listed in omega (arith, h)

pub put_span-next-requires : goal.put_span-next-requires
put_span-next-requires c = pending_room (begun c.lists.view_is c.c.view_is c.args.house c.requires.room)

pub put_units-next2-requires-clause-loader_len : goal.put_units-next2-requires-clause-loader_len
put_units-next2-requires-clause-loader_len c = units_fit c.lists.view_is c.c.view_is c.requires.listed

pub put_units-next2-requires-clause-room : goal.put_units-next2-requires-clause-room
put_units-next2-requires-clause-room c =
    pending_room (pending_after (begun c.lists.view_is c.c.view_is c.args.house c.requires.room) c.put_span-next.ensures)

pub put_rules-requires-clause-stretches : goal.put_rules-requires-clause-stretches
put_rules-requires-clause-stretches c = rules_fit c.lists.view_is c.c.view_is c.requires.listed

pub put_rules-requires-clause-room : goal.put_rules-requires-clause-room
put_rules-requires-clause-room c =
    let b = begun c.lists.view_is c.c.view_is c.args.house c.requires.room in
    pending_room (pending_after (pending_after b c.put_span-next.ensures) c.put_units-next2.ensures)

pub returns : goal.returns
returns c =
    let b = begun c.lists.view_is c.c.view_is c.args.house c.requires.room in
    pending_nothing (pending_after (pending_after (pending_after b c.put_span-next.ensures) c.put_units-next2.ensures) c.put_rules.ensures)
