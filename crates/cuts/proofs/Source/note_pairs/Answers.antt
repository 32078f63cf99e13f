use Rattle.cuts.specs.Window.{noted_start, noted_pairs}
use mathlib.Core.Path.{refl}
use native.Mathlib.Omega.{arith}
use lib.ListN.{length}
use Rattle.cuts.proofs.Source.note_pairs.Goals as goal

pub loop-i-init : goal.loop-i-init
loop-i-init c =
    (refl, noted_start _ _ _ (length c.args.slots.now) _ c.zero_words.ensures)

pub loop-i-preserved : goal.loop-i-preserved
loop-i-preserved c = (
  omega (arith, c.note.auto.slots, c.loop-i.invariant.0),
  noted_pairs _ _ _ _ _ _ c.loop-i.invariant.1 (omega arith) _ refl (omega arith) _ _ c.pair_start.ensures c.pair_end.ensures c.note.ensures,
)
