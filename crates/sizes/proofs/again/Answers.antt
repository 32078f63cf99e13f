use Rattle.std.proofs.Common.{ap, ◌≡◌, ◌∙◌, arith}
use Rattle.sizes.specs.Capped.{less}
use Rattle.sizes.specs.Again.{added_of, times, times_none, times_more, times_over, times_agree}
use Rattle.sizes.proofs.again.Goals as goal

pub loop-time-init : goal.loop-time-init
loop-time-init c = times_none _ _

pub returns-in_err-u : goal.returns-in_err-u
returns-in_err-u c = λ a e.
    c.from_residual.ensures ∙ times_over c.args.after _ c.loop-time._time c.args.k c.loop-time-test.true c.loop-time.invariant c.in_err-u.ensures
    ∙ ap (λ s. less c.args.after (times (added_of s) c.args.k)) c.taken-t.ensures
    ∙ times_agree c.args.before c.args.after a e c.args.k

pub loop-time-preserved : goal.loop-time-preserved
loop-time-preserved c = c.in_ok-u.ensures ∙ times_more c.args.after _ c.loop-time._time c.loop-time.invariant

pub returns : goal.returns
returns c = λ a e.
    let n : c.loop-time._time ≡ c.args.k = omega arith in
    c.loop-time.invariant ∙ ap (λ s. less c.args.after (times (added_of s) c.loop-time._time)) c.taken-t.ensures
    ∙ times_agree c.args.before c.args.after a e c.loop-time._time ∙ ap (λ k. less c.args.after (times a k)) n
