-- The words in the code are those of the list, in its order.
-- Key idea: each test that was left passes one entry of the list, so what is found in the rest of it is found in the whole.
use Rattle.std.proofs.Common.{refl, inl, inr}
use Rattle.forms.specs.Words.{text}
use Rattle.wave_words.proofs.asked_by.Goals as goal

pub returns-then-called : goal.returns-then-called
unfolding text
returns-then-called c = inl (c.if-called.ensures.0 tt, refl)

pub returns-then-called-2 : goal.returns-then-called-2
unfolding text
returns-then-called-2 c = inr (c.if-called.ensures.1, inl (c.if-called-2.ensures.0 tt, refl))

pub returns-then-called-3 : goal.returns-then-called-3
unfolding text
returns-then-called-3 c = inr (c.if-called.ensures.1, inr (c.if-called-2.ensures.1, inl (c.if-called-3.ensures.0 tt, refl)))

pub returns-then-called-4 : goal.returns-then-called-4
unfolding text
returns-then-called-4 c = inr (c.if-called.ensures.1, inr (c.if-called-2.ensures.1, inr (c.if-called-3.ensures.1, inl (c.if-called-4.ensures.0 tt, refl))))

pub returns-then-called-5 : goal.returns-then-called-5
unfolding text
returns-then-called-5 c = inr (c.if-called.ensures.1, inr (c.if-called-2.ensures.1, inr (c.if-called-3.ensures.1, inr (c.if-called-4.ensures.1, inl (c.if-called-5.ensures.0 tt, refl)))))

pub returns-then-called-6 : goal.returns-then-called-6
unfolding text
returns-then-called-6 c = inr (c.if-called.ensures.1, inr (c.if-called-2.ensures.1, inr (c.if-called-3.ensures.1, inr (c.if-called-4.ensures.1, inr (c.if-called-5.ensures.1, inl (c.if-called-6.ensures.0 tt, refl))))))

pub returns-then-called-7 : goal.returns-then-called-7
unfolding text
returns-then-called-7 c = inr (c.if-called.ensures.1, inr (c.if-called-2.ensures.1, inr (c.if-called-3.ensures.1, inr (c.if-called-4.ensures.1, inr (c.if-called-5.ensures.1, inr (c.if-called-6.ensures.1, inl (c.if-called-7.ensures.0 tt, refl)))))))

pub returns : goal.returns
unfolding text
returns c = inr (c.if-called.ensures.1, inr (c.if-called-2.ensures.1, inr (c.if-called-3.ensures.1, inr (c.if-called-4.ensures.1, inr (c.if-called-5.ensures.1, inr (c.if-called-6.ensures.1, inr (c.if-called-7.ensures.1, refl)))))))
