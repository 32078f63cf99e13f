use Rattle.std.proofs.Common.{ap, ◌∙◌}
use mathlib.Core.List.{List}
use Rattle.records.specs.declared.Use.{Use}
use Rattle.records.specs.Uses.{use_among}
use Rattle.records.proofs.Uses.{uses_right}
use Rattle.records.proofs.word_use.Goals as goal

pub returns : goal.returns
returns c =
    ap (λ (us : List Use). use_among us c.args.i) c.uses_of.ensures ∙ uses_right c.args.kind c.args.tag c.args.i c.requires
