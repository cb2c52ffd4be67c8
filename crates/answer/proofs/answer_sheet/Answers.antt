-- What is asked decides which call answers it, and that call's answer is the one to the query.
use Rattle.std.proofs.Common.{true, ℕ, List, sym, subst}
use Rattle.sheet.specs.Lists.{given_by}
use Rattle.plan_ask.specs.Asking.{Solvable}
use Rattle.wave_words.specs.declared.Query.{Query}
use Rattle.wave_words.specs.declared.Query.TheVariants.{Fits}
use Rattle.answer_conditions.specs.Answer.{AnswerToSheet, Answered}
use Rattle.answer.proofs.answer_sheet.Goals.{Start}
use Rattle.answer.proofs.answer_sheet.Goals as goal

-- an answer to the sheet, by what is asked
abbrev AnswersTo : Start → List ℕ → ℕ → Query → Type 0
AnswersTo c left next query = let a = c.args in Answered (AnswerToSheet query a.lists.now.loader (given_by a.lists.now)) a.page.now left next

pub fits_sheet-requires : goal.fits_sheet-requires
fits_sheet-requires c =
    subst (λ l. Solvable l.constraints true) (sym c.lists.view_is) (record { lists = c.requires.lists; sheet = c.requires.sheet; rooms = tt })

pub returns-in-Plan : goal.returns-in-Plan
returns-in-Plan c = subst (AnswersTo (goal.at.returns-in-Plan c).Start _ _) (sym c.in-Plan.is) c.plan_sheet.ensures

pub returns-in-Fits : goal.returns-in-Fits
returns-in-Fits c =
    let a = c.args in
    let answered = subst (λ l. Answered (AnswerToSheet Fits a.lists.now.loader (given_by l)) a.page.now c.fits_sheet.new.page c.fits_sheet.result) c.lists.view_is
    (c.fits_sheet.ensures a.lists.now.loader) in
    subst (AnswersTo (goal.at.returns-in-Fits c).Start _ _) (sym c.in-Fits.is) answered
