-- The nodes that `Nodes` has at hand.
use Rattle.std.specs.Prelude.{◌≡◌, ℕ, ◌+◌, ◌*◌, List}
use Rattle.model.specs.Types.{SourceNode}
use Rattle.model.specs.Store.{NodeStore}
use Rattle.model.specs.Tape.{record_at, records_at, node_codec}
use Rattle.strings.specs.Lent.{lent_store}
use Rattle.ruby_formats.specs.declared.nodes.Nodes.{Nodes}

abbrev pub node_in : Nodes → ℕ → SourceNode
node_in ns i = record_at node_codec ns.strings.tape.now (ns.run.at + 49 * i)

-- the first n of them
abbrev pub first_nodes : Nodes → ℕ → List SourceNode
first_nodes ns n = records_at node_codec ns.strings.tape.now ns.run.at n

-- the same nodes of the same strings, whatever the index
abbrev pub SameNodes : Nodes → Nodes → Type 0
SameNodes ns of =
    (ns.run ≡ of.run) × (ns.strings.tape.now ≡ of.strings.tape.now) × (ns.strings.store.now ≡ of.strings.store.now)
    × (ns.strings.old.now ≡ of.strings.old.now) × (ns.strings.new.now ≡ of.strings.new.now)

-- the store that has their strings
abbrev pub nodes_store : Nodes → NodeStore
nodes_store ns = lent_store ns.strings
