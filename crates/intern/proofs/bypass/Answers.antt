use Rattle.std.proofs.Common.{refl, sym, ◌∙◌}
use Rattle.stats.specs.Ways.{adds_bypass}
use Rattle.interner.specs.Room.{room_there}
use Rattle.intern.proofs.Answers.{bypass_told, bypass_refused}
use Rattle.intern.proofs.bypass.Goals as goal

pub returns-then-not-has_room : goal.returns-then-not-has_room
returns-then-not-has_room c =
    bypass_refused c.args.work.now c.args.strs.now c.args.st.now c.requires.good c.args.s.now _ c.has_room.ensures c.if-not-has_room.true

pub alloc-requires : goal.alloc-requires
alloc-requires c =
    record {
      good = c.requires.good;
      count_bound = room_there _ _ _ _ (sym c.has_room.ensures ∙ c.if-not-has_room.false);
      counted = (adds_bypass _ _ c.requires.good.counts c.bypass-stats.ensures).counted;
    }

pub returns : goal.returns
returns c =
    bypass_told c.args.work.now c.args.strs.now c.args.st.now c.requires.good c.args.s.now _ c.has_room.ensures c.if-not-has_room.false _ _ _ _ (adds_bypass _ _ c.requires.good.counts c.bypass-stats.ensures) _ c.alloc.ensures _ refl refl
