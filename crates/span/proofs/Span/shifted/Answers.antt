use mir.Syntax.{w64}
use mir.ValLaws.{to_z-of_z}
use mathlib.Core.Path.{refl}
use Rattle.model.specs.Offset.{shifted}
use Rattle.span.proofs.Span.shifted.Goals as goal

pub returns : goal.returns
unfolding shifted
returns c = rw (c.shift_clamp.ensures, c.shift_clamp-2.ensures, c.amount_of-by.ensures, to_z-of_z w64 c.args.by c.ranges.by) refl
