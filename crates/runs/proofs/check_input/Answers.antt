use Rattle.runs.specs.Input.{number_short, number_part, number_size, number_none}
use Rattle.runs.proofs.check_input.Goals as goal

pub returns-then-input-lt-HEAD : goal.returns-then-input-lt-HEAD
returns-then-input-lt-HEAD c =
    number_short _ c.if-input-lt-HEAD.true

pub returns-then-not-parts_fit : goal.returns-then-not-parts_fit
returns-then-not-parts_fit c =
    number_part _ c.if-input-lt-HEAD.false c.u32_at-oldtape.ensures c.u32_at-oldbytes.ensures c.u32_at-replacement.ensures c.u32_at-newtape.ensures c.u32_at-newbytes.ensures c.parts_fit.ensures c.if-not-parts_fit.true

pub returns-then-input-size : goal.returns-then-input-size
returns-then-input-size c =
    number_size _ c.if-input-lt-HEAD.false c.u32_at-oldtape.ensures c.u32_at-oldbytes.ensures c.u32_at-replacement.ensures c.u32_at-newtape.ensures c.u32_at-newbytes.ensures c.parts_fit.ensures c.if-not-parts_fit.false c.if-input-size.true

pub returns : goal.returns
returns c =
    number_none _ c.if-input-lt-HEAD.false c.u32_at-oldtape.ensures c.u32_at-oldbytes.ensures c.u32_at-replacement.ensures c.u32_at-newtape.ensures c.u32_at-newbytes.ensures c.parts_fit.ensures c.if-not-parts_fit.false c.if-input-size.false
