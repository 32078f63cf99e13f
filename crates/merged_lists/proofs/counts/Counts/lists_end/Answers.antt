use Rattle.merged_lists.specs.Sizes.{lists_end, totals_are}
use native.Mathlib.Omega.{arith}
use Rattle.merged_lists.proofs.counts.Counts.lists_end.Goals as goal

pub returns : goal.returns
unfolding lists_end
returns c =
    let t = totals_are c.args.self.now.kept c.args.self.now.reading c.totals-all.ensures in omega (arith, t.nodes, t.pairs, t.containers, t.diagnostics)
