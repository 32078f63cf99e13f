use Rattle.cuts.specs.Window.{reaches_of}
use Rattle.cuts.proofs.Source.fill_slots.Goals as goal

pub returns : goal.returns
returns c =
    let at-note-pairs = c in
    reaches_of _ _ _ at-note-pairs.note_pairs.ensures _ c.run_up.ensures
