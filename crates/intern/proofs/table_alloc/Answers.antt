use Rattle.std.proofs.Common.{refl, sym, ◌∙◌}
use Rattle.stats.specs.Ways.{adds_table_alloc}
use Rattle.interner.specs.Room.{room_there}
use Rattle.intern.proofs.Answers.{enter_asks, alloc_told, alloc_refused}
use Rattle.intern.proofs.table_alloc.Goals as goal

pub returns-then-not-has_room : goal.returns-then-not-has_room
returns-then-not-has_room c =
    alloc_refused c.args.work.now c.args.strs.now c.args.st.now c.requires.good c.args.s.now _ c.has_room.ensures _ _ c.if-not-has_room.true

pub alloc-requires : goal.alloc-requires
alloc-requires c =
    record {
      good = c.requires.good;
      count_bound = room_there _ _ _ _ (sym c.has_room.ensures ∙ c.if-not-has_room.false);
      counted = (adds_table_alloc _ _ c.requires.good.counts _ _ c.requires.slots_nonzero.2 c.requires.at_lt_slots.1 c.table_alloc-stats.ensures).counted;
    }

pub enter-requires : goal.enter-requires
enter-requires c =
    record {
      le_slots = enter_asks c.args.work.now c.args.strs.now c.args.st.now c.requires.good c.args.s.now _ c.has_room.ensures c.if-not-has_room.false _ _ _ _ (adds_table_alloc _ _ c.requires.good.counts _ _ c.requires.slots_nonzero.2 c.requires.at_lt_slots.1 c.table_alloc-stats.ensures) _ c.alloc.ensures _ refl c.requires.slots_nonzero.0 _ c.requires.at_lt_slots.0;
      min_work_words_in_bounds = c.alloc.ensures.good.words.room;
    }

pub returns : goal.returns
returns c =
    alloc_told c.args.work.now c.args.strs.now c.args.st.now c.requires.good c.args.s.now _ c.has_room.ensures c.if-not-has_room.false _ _ _ _ (adds_table_alloc _ _ c.requires.good.counts _ _ c.requires.slots_nonzero.2 c.requires.at_lt_slots.1 c.table_alloc-stats.ensures) _ c.alloc.ensures _ refl _ c.requires.at_lt_slots.0 c.requires.at_lt_slots.2 _ _ _ _ refl refl c.enter.ensures.work_after c.enter.ensures.value
