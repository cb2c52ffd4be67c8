-- Each text is read into arrays that have places for it, and what is asked about both is asked of the two sheets that stand there.
use Rattle.std.proofs.Common.{ℕ, ◌+◌, ◌≡◌, List, replicate, refl, sym, ap, ◌∙◌, arith, rules}
use Rattle.std.specs.Prelude.{Ok}
use Rattle.std.proofs.lemmas.Result.{err_from_is_err_and, IfOk-at_ok}
use Rattle.questions.specs.declared.Refusal.{Refusal}
use Rattle.merge_questions.specs.declared.Blamed.{Blamed}
use Rattle.sheet.specs.Sizes.{max_units, max_rules}
use Rattle.forms.specs.declared.House.TheVariants.{Ours}
use Rattle.read_questions.specs.Reading.{sheet_in, ListRooms, rooms, read, reply_of}
use Rattle.read_questions.specs.Steps.{Holds}
use Rattle.merge_read.specs.Behind.{text_reply, NumbersBehind}
use Rattle.merge_rules.specs.Columns as Rules
use Rattle.merge_questions.specs.RefusalLaws.{mapped_err, mapped_ok}
use Rattle.merge_both.specs.Both.{BothRead, blamed_by}
use Rattle.merge_join.proofs.JoinLaws.{first_refused, second_refused, both_asked}
use Rattle.merge_join.proofs.ReadLaws.{accepted, holds_both, holds_fewer, holds_second, both_read, joined_left}
use Rattle.merge_join.proofs.join.Goals.{Start, In_ok-a, In_ok-b}
use Rattle.merge_join.proofs.join.Goals as goal

-- ---- the arrays: as they are lent, with those of the call's own, and after each text
abbrev own : List ℕ → List ℕ → List ℕ → ListRooms (List ℕ)
own numbers firsts lasts =
    let none : List ℕ = replicate (max_rules + max_rules) 0 in
    rooms numbers firsts lasts none none none none

abbrev after_first : In_ok-a → ListRooms (List ℕ)
after_first c = let k = c.read_behind.new in rooms k.numbers k.firsts k.lasts k.froms k.tos k.lows k.highs

long : (z : Start) → Holds (max_units + max_units) (max_rules + max_rules) (own z.args.numbers.now z.args.firsts.now z.args.lasts.now)
long z =
    let a = z.args in
    holds_both (rooms a.numbers.now a.firsts.now a.lasts.now a.froms.now a.tos.now a.lows.now a.highs.now) z.requires

-- ---- what each text gave

-- a refusal of the first text
abbrev of_first : Refusal → Blamed
of_first f = record { refusal = f; sheet = 1 }

first_is : (c : In_ok-a) → c.read_behind.result ≡ Ok c.in_ok-a.a
first_is c = mapped_ok (λ f b. b ≡ of_first f) c.read_behind.result c.in_ok-a.a (search rules)

second_is : (c : In_ok-b) → c.read_behind-2.result ≡ Ok c.in_ok-b.b
second_is c = mapped_ok (λ f b. b ≡ blamed_by f) c.read_behind-2.result c.in_ok-b.b (search rules)

first_told : (c : In_ok-a) → read c.in_ok-a.a.span c.in_ok-a.a.units c.in_ok-a.a.rules ≡ text_reply Ours c.args.one.now
first_told c = ap reply_of (sym (first_is c)) ∙ c.read_behind.ensures.result_value

second_told : (c : In_ok-b) → read c.in_ok-b.b.span c.in_ok-b.b.units c.in_ok-b.b.rules ≡ text_reply Ours c.args.two.now
second_told c = ap reply_of (sym (second_is c)) ∙ c.read_behind-2.ensures.result_value

first_kept : (c : In_ok-a) → let a = c.args in
    NumbersBehind c.in_ok-a.a a.one.now 0 0 (own a.numbers.now a.firsts.now a.lasts.now) (after_first c)
first_kept c = IfOk-at_ok _ (first_is c) c.read_behind.ensures.kept_behind

second_kept : (c : In_ok-b) → let a = c.in_ok-a.a in let i = c.read_behind.new in let k = c.read_behind-2.new in
    NumbersBehind c.in_ok-b.b c.args.two.now a.units a.rules (rooms i.numbers i.firsts i.lasts i.froms i.tos i.lows i.highs)
    (rooms k.numbers k.firsts k.lasts k.froms k.tos k.lows k.highs)
second_kept c = IfOk-at_ok _ (second_is c) c.read_behind-2.ensures.kept_behind

-- both sheets stand in the arrays, the columns for the combined rules as they are lent
reads_both : (c : In_ok-b) → let a = c.args in let i = c.read_behind.new in let k = c.read_behind-2.new in
    read c.in_ok-a.a.span c.in_ok-a.a.units c.in_ok-a.a.rules ≡ text_reply Ours a.one.now
    → NumbersBehind c.in_ok-a.a a.one.now 0 0 (own a.numbers.now a.firsts.now a.lasts.now) (rooms i.numbers i.firsts i.lasts i.froms i.tos i.lows i.highs)
    → BothRead (sheet_in Ours a.one.now) (sheet_in Ours a.two.now) c.in_ok-a.a c.in_ok-b.b k.numbers
    (Rules.columns k.froms k.tos k.lows k.highs) (Rules.columns a.froms.now a.tos.now a.lows.now a.highs.now)
reads_both c told kept =
    let a = c.args in
    both_read a.one.now c.in_ok-a.a (own a.numbers.now a.firsts.now a.lasts.now) _
    (holds_both (rooms a.numbers.now a.firsts.now a.lasts.now a.froms.now a.tos.now a.lows.now a.highs.now) c.requires)
    kept a.two.now c.in_ok-b.b _ (second_kept c) told (second_told c) (Rules.columns a.froms.now a.tos.now a.lows.now a.highs.now)
    c.requires.in_from c.requires.in_to c.requires.in_low c.requires.in_high

-- ---- the needs
pub read_behind-requires : goal.read_behind-requires
read_behind-requires c =
    holds_fewer (max_units + max_units) (max_rules + max_rules) _ _ _ (long (goal.at.read_behind-requires c).Start) (omega arith) (omega arith)

pub read_behind-requires-2 : goal.read_behind-requires-2
read_behind-requires-2 c =
    let d = (goal.at.read_behind-requires-2 c).In_ok-a in
    holds_second c.args.one.now c.in_ok-a.a _ (after_first d) (long (goal.at.read_behind-requires-2 c).Start) (first_kept d)

pub ask_both-requires : goal.ask_both-requires
ask_both-requires c =
    let d = (goal.at.ask_both-requires c).In_ok-a in
    (_, (_, reads_both (goal.at.ask_both-requires c).In_ok-b (first_told d) (first_kept d)))

pub returns-in_err-a : goal.returns-in_err-a
returns-in_err-a c =
    let p = err_from_is_err_and c.from_residual.result c.from_residual.ensures.1 in
    let m = mapped_err (λ f b. b ≡ of_first f) c.read_behind.result c.in_err-a.field-0.0 (search rules) in
    let says = first_refused c.args.one.now c.args.two.now m.0.number m.0.line (ap reply_of (sym m.1) ∙ c.read_behind.ensures.result_value) in
    rw (p.1, p.2, m.2) (record {
      result_value = says.reply_is;
      result_value_2 = says.blame_is;
      leaves_merged = tt;
    })

pub returns-in_err-b : goal.returns-in_err-b
returns-in_err-b c =
    let p = err_from_is_err_and c.from_residual-in_err-b.result c.from_residual-in_err-b.ensures.1 in
    let m = mapped_err (λ f b. b ≡ blamed_by f) c.read_behind-2.result c.in_err-b.field-0.0 (search rules) in
    let d = (goal.at.returns-in_err-b c).In_ok-a in
    let says = second_refused c.args.one.now c.args.two.now (accepted c.args.one.now c.in_ok-a.a (first_told d)).verdict m.0.number m.0.line _
    (ap reply_of (sym m.1) ∙ c.read_behind-2.ensures.result_value) refl in
    rw (p.1, p.2, m.2) (record {
      result_value = says.reply_is;
      result_value_2 = says.blame_is;
      leaves_merged = tt;
    })

pub returns : goal.returns
returns c =
    let e = (goal.at.returns c).In_ok-b in
    let d = (goal.at.returns c).In_ok-a in
    let z = (goal.at.returns c).Start in
    let a = c.args in
    let q = c.ask_both.new in
    let asks = c.ask_both.ensures _ _ (reads_both e (first_told d) (first_kept d)) in
    let says = both_asked a.one.now a.two.now (accepted a.one.now c.in_ok-a.a (first_told d)).verdict _ _
    (accepted a.two.now c.in_ok-b.b (second_told e)).verdict asks.reply asks.blames in record {
      result_value = says.reply_is;
      result_value_2 = says.blame_is;
      leaves_merged = joined_left a.one.now c.in_ok-a.a (own a.numbers.now a.firsts.now a.lasts.now) (after_first d) (long z) (first_kept d)
          a.two.now c.in_ok-b.b _ (second_kept e) (first_told d) (second_told e) c.ask_both.result
          (Rules.columns a.froms.now a.tos.now a.lows.now a.highs.now) (Rules.columns q.froms q.tos q.lows q.highs) asks.left;
    }
