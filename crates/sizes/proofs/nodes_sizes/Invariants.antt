use Rattle.std.specs.Prelude.{◌≡◌, length}
use Rattle.sizes.specs.InPlace.{nodes_add, node_from}
use Rattle.sizes.specs.Capped.{Taking}
use Rattle.sizes.specs.Known.{Known}
use Rattle.sizes.proofs.nodes_sizes.Given as goal

abbrev pub invariant-loop-i : goal.invariant-loop-i
invariant-loop-i l =
    Taking l.initial.u (nodes_add l.w.tape.now l.w.st.now l.run.at l.run.count) (node_from l.w.tape.now l.w.st.now l.run.at) l.run.count l.i l.u
    × Known l.w.tape.now l.w.st.now l.memo × (length l.memo ≡ length l.initial.memo)
