use mir.Syntax.{w64}
use mir.ValLaws.{to_z-of_z}
use Rattle.std.proofs.Common.{◌≡◌, ℕ, ℤ, Option, Some, None, unwrap_or, ◌∙◌}
use Rattle.model.specs.Offset.{shift_u32}
use Rattle.model.specs.Merge.{moved_offset}
use Rattle.span.specs.Values.{option_of}
use Rattle.splice.specs.Written.{moved_some, moved_none}
use Rattle.splice.proofs.moved_offset.Goals as goal

moved : (o : ℕ) (by : ℤ) (r : Option ℕ) → option_of r ≡ shift_u32 o by → unwrap_or r 0 ≡ moved_offset o by
moved o by (Some n) e = moved_some o by n e
moved o by None e = moved_none o by e

pub returns : goal.returns
returns c = c.unwrap_or.ensures ∙ rw (to_z-of_z w64 c.args.by c.ranges.by) at (moved c.args.o _ _ c.shift_u32.ensures)
