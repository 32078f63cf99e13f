use Rattle.std.proofs.Common.{◌≡◌}
use Rattle.ruby_formats.specs.Asks.{asks_at, count_to_last}
use Rattle.ruby_formats.proofs.asked_nodes.Given as goal

abbrev pub invariant-loop-n : goal.invariant-loop-n
invariant-loop-n l = count_to_last l.n (asks_at l.from.0 l.tape l.nodes.at) ≡ count_to_last l.nodes.count (asks_at l.from.0 l.tape l.nodes.at)
