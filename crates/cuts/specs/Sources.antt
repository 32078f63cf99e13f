-- The nodes and the pairs of a source.
use Rattle.std.specs.Prelude.{List}
use Rattle.model.specs.Types.{SourceNode, PairLink}
use Rattle.cuts.specs.declared.Source.{Source}
use Rattle.cuts.specs.Gaps.{nodes_of}
use Rattle.cuts.specs.Pairs.{pairs_of}

abbrev pub nodes_in : Source → List SourceNode
nodes_in s = nodes_of s.tape.now s.nodes

abbrev pub pairs_in : Source → List PairLink
pairs_in s = pairs_of s.tape.now s.pairs
