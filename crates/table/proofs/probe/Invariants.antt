use Rattle.table.specs.Layout.{wide_words, strings_of}
use Rattle.model.specs.Intern.{probe}
use mathlib.Core.Path.{◌≡◌}
use Prim.Native.Nat.{◌-◌, ◌<◌}
use lib.ListN.{length}
use Rattle.table.proofs.probe.Given as goal

abbrev pub invariant-loop-k : goal.invariant-loop-k
invariant-loop-k l = (l.at < length l.table) × (probe (l.most - l.k) (strings_of (wide_words l.starts) l.strs) l.table l.s l.at l.k ≡ probe l.most (strings_of (wide_words l.starts) l.strs) l.table l.s l.from 0)
