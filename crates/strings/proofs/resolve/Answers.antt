use Rattle.std.proofs.Common.{refl, arith}
use Rattle.strings.specs.Shown.{cut_old, cut_new}
use Rattle.strings.proofs.resolve.Goals as goal

pub slice_bounds-result-end : goal.slice_bounds-result-end
slice_bounds-result-end c =
    c.requires.first c.if-id-olds.true

pub returns-then-id-olds : goal.returns-then-id-olds
returns-then-id-olds c =
    cut_old c.args.old.now c.args.new.now c.args.olds c.args.id.0 c.args.start c.args.len c.if-id-olds.true

pub overflow_sub-at : goal.overflow_sub-at
overflow_sub-at c =
    c.requires.second c.if-id-olds.false

pub slice_bounds-result-end-2 : goal.slice_bounds-result-end-2
slice_bounds-result-end-2 c =
    omega (arith, c.requires.second c.if-id-olds.false, c.requires.within)

pub returns : goal.returns
returns c =
    cut_new c.args.old.now c.args.new.now c.args.olds c.args.id.0 c.args.start c.args.len c.if-id-olds.false _ refl
