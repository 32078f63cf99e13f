use Rattle.bounds.specs.Walk.{span_length_lem}
use Rattle.std.proofs.Common.{rules}
use Rattle.bounds.proofs.span_length.Goals as goal

pub returns : goal.returns
returns c =
    search (rules, span_length_lem)
