use Rattle.places.specs.Found.{walk_near, walk_bytes, walk_lists, walk_found, walk_none}
use mathlib.Core.Path.{sym, ◌∙◌}
use native.Mathlib.Omega.{arith}
use Rattle.places.proofs.places_of.Goals as goal

pub lists_at-l-requires : goal.lists_at-l-requires
lists_at-l-requires c =
    walk_near _ _ _ c.all_layers-s.ensures

pub frame_holds-requires : goal.frame_holds-requires
frame_holds-requires c =
    (walk_bytes _ _ _ c.all_layers-s.ensures, omega arith, walk_lists _ _ _ _ c.all_layers-s.ensures c.lists_at-l.ensures)

pub returns-then-frame_holds : goal.returns-then-frame_holds
returns-then-frame_holds c =
    walk_found _ _ _ _ c.all_layers-s.ensures c.lists_at-l.ensures _ c.found_places.ensures (sym c.frame_holds.ensures ∙ c.if-frame_holds.true)

pub returns-else-frame_holds : goal.returns-else-frame_holds
returns-else-frame_holds c =
    walk_none _ _ _ _ c.all_layers-s.ensures c.lists_at-l.ensures (sym c.frame_holds.ensures ∙ c.if-frame_holds.false)
