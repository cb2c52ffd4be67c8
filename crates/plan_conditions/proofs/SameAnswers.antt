-- Planning, deciding and seating agree: of the same lists, where none of the three calls is refused, the sheet fits exactly when it gets a plan, seating gets
-- one exactly when planning does, and all or none of them say none; by a plan the table, the seats and the narrowed windows are the same.
-- Key idea: each is the same definition of the sheet.
use Rattle.std.specs.Prelude.{◌≡◌, ◌↔◌, List, ℕ, length, take, ℤ}
use Rattle.std.proofs.Common.{sym, ap, ◌∙◌}
use Rattle.network.specs.Table.{entry}
use Rattle.network_pass.specs.Pass.{Passed, finished}
use Rattle.questions.specs.Questions.{all_yes}
use Rattle.sheet.specs.Sheet.{Sheet, boundaries}
use Rattle.sheet.specs.Lists.{WrittenLists, given_by}
use Rattle.plan_rooms.specs.Rooms.{Rooms, DecideRooms, SeatRooms, decide_lent, seat_lent, places}
use Rattle.plan_ask.specs.Questions.{refusal, refusal_in}
use Rattle.plan_answers.specs.Planning.{conclusion, conclusion_in, Settled, DecideSettled, SeatSettled, planned, seated}
use Rattle.plan_answers.specs.Reply as says
use Rattle.plan_conditions.proofs.ConditionLaws.{Planned}
use Rattle.plan_conditions.proofs.SharedConditions as all
use Rattle.plan_conditions.proofs.Conditions as plans
use Rattle.plan_conditions.proofs.DecideConditions as decides
use Rattle.plan_conditions.proofs.SeatConditions as seats

same_table : (p : Passed) (t u : List ℤ) → p ≡ finished t → p ≡ finished u → t ≡ u
same_table p t u e f = cc

module _ (l : WrittenLists)
    (before : Rooms) (reply : says.Reply) (after : Rooms) (call : Settled (conclusion l before) (given_by l) before reply after)
    (asked : refusal l before ≡ all_yes) where
  abbrev pub s : Sheet
  s = given_by l

  abbrev pub n : ℕ
  n = length s.units

  module _ (beforeD : DecideRooms) (replyD : says.Reply) (afterD : DecideRooms)
      (callD : DecideSettled (conclusion_in l (decide_lent beforeD)) (given_by l) beforeD replyD afterD) (askedD : refusal_in l (decide_lent beforeD) ≡ all_yes) where
    -- The sheet fits exactly when it gets a plan, does not exactly when planning says none,
    pub decide_agrees : (replyD ≡ says.plan) ↔ (reply ≡ says.plan)
    decide_agrees =
        let d = decides.fits_exactly_when_lawful l beforeD replyD afterD callD askedD in
        let p = plans.plan_exactly_when_lawful l before reply after call asked in
        (λ f. p.1 (d.0 f), λ f. d.1 (p.0 f))

    pub decide_none_agrees : ((k : ℕ) × (replyD ≡ says.none k)) ↔ ((k : ℕ) × (reply ≡ says.none k))
    decide_none_agrees = (
      (λ f. let r = plans.ring_otherwise l before reply after call asked (decides.none_unlawful l beforeD replyD afterD callD f.0 f.1) in (r.0, r.1)),
      (λ f. let r = decides.ring_otherwise l beforeD replyD afterD callD askedD (plans.none_unlawful l before reply after call f.0 f.1) in (r.0, r.1)),
    )

    -- and its table is the same.
    pub decide_same_table : reply ≡ says.plan → take (places s) afterD.table ≡ take (places s) after.table
    decide_same_table f =
        let P = plans.call_planned l before reply after call f in
        let D = decides.call_planned l beforeD replyD afterD callD (decide_agrees.1 f) in
        all.table_at s D.table D.size D.solved beforeD.table afterD.table (ap (λ r. r.table) D.left)
        ∙ same_table _ D.table P.table D.finished P.finished
        ∙ sym (all.table_at s P.table P.size P.solved before.table after.table (ap (λ r. r.table) P.left))

  module _ (beforeS : SeatRooms) (replyS : says.Reply) (afterS : SeatRooms)
      (callS : SeatSettled (conclusion_in l (seat_lent beforeS)) (given_by l) beforeS replyS afterS) (askedS : refusal_in l (seat_lent beforeS) ≡ all_yes) where
    -- Seating gets a plan exactly when planning does, and says none exactly when planning does,
    pub seat_agrees : (replyS ≡ says.plan) ↔ (reply ≡ says.plan)
    seat_agrees =
        let d = seats.plan_exactly_when_lawful l beforeS replyS afterS callS askedS in
        let p = plans.plan_exactly_when_lawful l before reply after call asked in
        (λ f. p.1 (d.0 f), λ f. d.1 (p.0 f))

    pub seat_none_agrees : (replyS ≡ says.none 0) ↔ ((k : ℕ) × (reply ≡ says.none k))
    seat_none_agrees = (
      (λ f. let r = plans.ring_otherwise l before reply after call asked (seats.none_unlawful l beforeS replyS afterS callS 0 f) in (r.0, r.1)),
      (λ f. (seats.none_otherwise l beforeS replyS afterS callS askedS (plans.none_unlawful l before reply after call f.0 f.1)).0),
    )

    -- and then the table, the seats and the narrowed windows are the same.
    module _ (f : reply ≡ says.plan) where
      P : Planned (planned s) s before reply after
      P = plans.call_planned l before reply after call f

      S : Planned (seated s) s beforeS replyS afterS
      S = seats.call_planned l beforeS replyS afterS callS (seat_agrees.1 f)

      pub seat_same_table : take (places s) afterS.table ≡ take (places s) after.table
      seat_same_table =
          all.table_at s S.table S.size S.solved beforeS.table afterS.table (ap (λ r. r.table) S.left)
          ∙ same_table _ S.table P.table S.finished P.finished
          ∙ sym (all.table_at s P.table P.size P.solved before.table after.table (ap (λ r. r.table) P.left))

      pub seat_same_plan : take n afterS.plan ≡ take n after.plan
      seat_same_plan =
          seats.plan_at l beforeS replyS afterS callS (seat_agrees.1 f) ∙ sym (plans.plan_at l before reply after call f)

      pub seat_same_earliest : take n afterS.earliest ≡ take n after.earliest
      seat_same_earliest =
          all.earliest_at s (entry (boundaries s) S.table) S.solved beforeS.earliest afterS.earliest (ap (λ r. r.earliest) S.left)
          ∙ sym (all.earliest_at s (entry (boundaries s) P.table) P.solved before.earliest after.earliest (ap (λ r. r.earliest) P.left))

      pub seat_same_latest : take n afterS.latest ≡ take n after.latest
      seat_same_latest =
          all.latest_at s (entry (boundaries s) S.table) S.solved beforeS.latest afterS.latest (ap (λ r. r.latest) S.left)
          ∙ sym (all.latest_at s (entry (boundaries s) P.table) P.solved before.latest after.latest (ap (λ r. r.latest) P.left))
