use Rattle.cuts.specs.Window.{window_filled}
use mathlib.Core.Path.{refl, ◌∙◌}
use native.Mathlib.Omega.{arith}
use lib.ListN.{length-take, length-drop}
use Rattle.cuts.proofs.Source.fill.Goals as goal

pub returns : goal.returns
returns c =
    let at-put-bounds = c in
    let start = at-put-bounds in
    window_filled _ start.args.words.now _ _ _ _ (omega (arith, start.requires)) (c.fill_slots.auto.slots ∙ simp (length-take, length-drop) (omega (
      arith,
      at-put-bounds.put_bounds.auto.words,
      start.requires,
    ))) c.fill_slots.ensures _ _ at-put-bounds.put_bounds.ensures refl
