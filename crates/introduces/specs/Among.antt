-- Number 15 over nodes at hand.
use Rattle.std.specs.Prelude.{ℕ, Bool}
use Rattle.model.specs.Lists.{any}
use Rattle.model.specs.Types.{SourceNode}
use Rattle.ruby_formats.specs.declared.nodes.Nodes.{Nodes}
use Rattle.ruby_formats.specs.Nodes.{nodes_store, first_nodes}
use Rattle.introduces.specs.Linked.{refers_to}

-- does a node of the reading refer to a base among the first n nodes of the book?
abbrev pub refers_to_first : Nodes → ℕ → Nodes → SourceNode → Bool
refers_to_first ns n reading = refers_to (nodes_store ns) (first_nodes ns n) (nodes_store reading)

-- does any?
abbrev pub any_refers : Nodes → ℕ → Nodes → Bool
any_refers ns n reading = any (refers_to_first ns n reading) (first_nodes reading reading.run.count)
