use Rattle.table.specs.Wide.{wide_inside}
use Rattle.table.specs.Strings.{part_bounds, part_is}
use Prim.Native.Nat.{◌+◌}
use native.Mathlib.Omega.{arith}
use mathlib.Core.Path.{refl}
use Rattle.table.proofs.string_at.Goals as goal

pub wide_at-a-requires : goal.wide_at-a-requires
wide_at-a-requires c =
    omega (arith, wide_inside c.args.starts.now c.args.id.0 (omega (arith, c.requires.id_in_bounds)))

pub wide_at-z-requires : goal.wide_at-z-requires
wide_at-z-requires c =
    omega (arith, wide_inside c.args.starts.now (c.args.id.0 + 1) c.requires.id_in_bounds)

pub slice_bounds-result-count : goal.slice_bounds-result-count
slice_bounds-result-count c =
    omega (arith, part_bounds c.args.starts.now c.args.strs.now refl c.wide_at-a.ensures c.wide_at-z.ensures c.requires.id_in_bounds c.requires.starts)

pub slice_bounds-result-start : goal.slice_bounds-result-start
slice_bounds-result-start c =
    omega (arith, part_bounds c.args.starts.now c.args.strs.now refl c.wide_at-a.ensures c.wide_at-z.ensures c.requires.id_in_bounds c.requires.starts)

pub slice_bounds-result-end : goal.slice_bounds-result-end
slice_bounds-result-end c =
    omega (arith, part_bounds c.args.starts.now c.args.strs.now refl c.wide_at-a.ensures c.wide_at-z.ensures c.requires.id_in_bounds c.requires.starts)

pub returns : goal.returns
returns c =
    part_is c.args.starts.now c.args.strs.now refl c.wide_at-a.ensures c.wide_at-z.ensures c.requires.id_in_bounds
