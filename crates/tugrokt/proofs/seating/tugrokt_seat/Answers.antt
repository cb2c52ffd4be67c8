-- The call of seat, with its reply as numbers.
use Rattle.std.proofs.Common.{ℕ, ap, ◌∙◌}
use Rattle.plan_answers.specs.Reply.{seat_reply}
use Rattle.tugrokt_replies.specs.Numbers.{seating_of}
use Rattle.tugrokt.proofs.seating.tugrokt_seat.Goals as goal

pub returns : goal.returns
returns c =
    let called = c.seat in
    record {
      reply = seat_reply called.result;
      left = called.ensures.settled;
      told = c.from.ensures ∙ ap (λ (k : ℕ). seating_of k (seat_reply called.result)) called.ensures.looked;
    }
