-- The parts of the arrays behind what stands there are long enough for a sheet, and come back with its numbers at their fronts.
use Rattle.std.proofs.Common.{ℕ, List, ap, ◌∙◌}
use Rattle.forms.specs.declared.House.TheVariants.{Ours}
use Rattle.questions.specs.declared.Refusal.{Refusal}
use Rattle.read_questions.specs.Reading.{ListRooms, rooms, refused}
use Rattle.merge_read.proofs.BehindLaws.{answer_long, answer_short, parts_hold, kept_behind}
use Rattle.merge_read.proofs.read_behind.Goals as goal

pub returns-then-text-gt-MAX_BYTES : goal.returns-then-text-gt-MAX_BYTES
returns-then-text-gt-MAX_BYTES c = record {
  result_value = ap (λ (f : Refusal). refused f.number f.line) c.refused.ensures ∙ answer_long Ours c.args.text.now c.if-text-gt-MAX_BYTES.true;
  kept_behind = tt;
}

pub ask_text-requires : goal.ask_text-requires
ask_text-requires c =
    let a = c.args in
    parts_hold a.units a.rules (rooms a.numbers.now a.firsts.now a.lasts.now a.froms.now a.tos.now a.lows.now a.highs.now) c.requires

pub returns : goal.returns
returns c =
    let a = c.args in
    let k = c.ask_text in
    let m : ListRooms (List ℕ) = rooms a.numbers.now a.firsts.now a.lasts.now a.froms.now a.tos.now a.lows.now a.highs.now in
    let p : ListRooms (List ℕ) = rooms k.new.numbers k.new.firsts k.new.lasts k.new.froms k.new.tos k.new.lows k.new.highs in
    record {
      result_value = k.ensures.result_value ∙ answer_short Ours a.text.now c.if-text-gt-MAX_BYTES.false;
      kept_behind = kept_behind a.units a.rules m c.requires a.text.now k.result p k.ensures.result_value k.ensures.kept;
    }
