use Rattle.std.proofs.Common.{arith, refl}
use Rattle.model.specs.Utf8.{utf8_step}
use Rattle.chars.specs.Leads.{lead_3, lead_4, lead_e0, lead_ed, lead_f0, lead_f4}
use Rattle.chars.proofs.second_fits.Goals as goal

pub returns-in-224-clause-of_three : goal.returns-in-224-clause-of_three
unfolding utf8_step
returns-in-224-clause-of_three c = λ l. rw (lead_e0 _ c.in-224.is, c.within.ensures) refl

pub returns-in-237-clause-of_three : goal.returns-in-237-clause-of_three
unfolding utf8_step
returns-in-237-clause-of_three c = λ l. rw (lead_ed _ c.in-237.is, c.within-in-237.ensures) refl

pub returns-in-240-clause-of_four : goal.returns-in-240-clause-of_four
unfolding utf8_step
returns-in-240-clause-of_four c = λ l. rw (lead_f0 _ c.in-240.is, c.within-in-240.ensures) refl

pub returns-in-244-clause-of_four : goal.returns-in-244-clause-of_four
unfolding utf8_step
returns-in-244-clause-of_four c = λ l. rw (lead_f4 _ c.in-244.is, c.within-in-244.ensures) refl

pub returns-in_default-clause-of_three : goal.returns-in_default-clause-of_three
unfolding utf8_step
returns-in_default-clause-of_three c = λ l. rw (lead_3 _ c.requires.0 l (λ e. omega arith) (λ e. omega arith), c.within-in_default.ensures) refl

pub returns-in_default-clause-of_four : goal.returns-in_default-clause-of_four
unfolding utf8_step
returns-in_default-clause-of_four c = λ l. rw (lead_4 _ l c.requires.1 (λ e. omega arith) (λ e. omega arith), c.within-in_default.ensures) refl
