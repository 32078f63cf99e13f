-- Number 10 over nodes at hand.
use Rattle.std.specs.Prelude.{ℕ, Bool}
use Rattle.ruby_formats.specs.declared.nodes.Nodes.{Nodes}
use Rattle.ruby_formats.specs.Nodes.{nodes_store}
use Rattle.dependency.specs.Parts.{refers_among}

-- does node i refer to a base among the first n that stand before it?
abbrev pub refers_first : Nodes → ℕ → ℕ → ℕ → Bool
refers_first ns from n i = refers_among (nodes_store ns) from ns.strings.tape.now ns.run.at n i
