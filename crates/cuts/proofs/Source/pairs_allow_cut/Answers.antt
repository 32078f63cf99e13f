use Rattle.std.proofs.Common.{◌∙◌}
use Rattle.span.specs.Order.{le_is}
use Rattle.cuts.specs.Pairs.{reach_allows}
use Rattle.cuts.proofs.Source.pairs_allow_cut.Goals as goal

pub returns : goal.returns
returns c =
    c.le.ensures ∙ le_is _ _ ∙ reach_allows _ _ _ c.reach.ensures
