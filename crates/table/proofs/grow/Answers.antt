use Rattle.table.specs.Layout.{wide_words, Starts, Entries}
use Rattle.table.specs.Moved.{grown}
use Rattle.table.specs.Cleared.{new_length_lem, new_old, new_high, new_table}
use mathlib.Core.Path.{subst}
use mathlib.Core.Path.{sym, ◌∙◌}
use mathlib.Core.List.{List}
use Prim.Native.Nat.{ℕ, ◌+◌, ◌-◌, ◌*◌}
use lib.ListN.{length, take}
use Rattle.table.proofs.grow.Goals as goal

pub move_slots-requires : goal.move_slots-requires
move_slots-requires c =
    record {
      work = record {
        room = rw (new_length_lem c.args.work.now c.args.n c.requires.le_n.0 c.requires.le_n.1 c.requires.work.room _ c.clear_part.ensures) c.requires.work.room;
        few = c.requires.work.few;
        starts = subst (λ (l : List ℕ). Starts (wide_words (take (8192 + 2 * c.args.count + 2 - 8192) l)) (length c.args.strs.now)) (sym (new_high c.args.work.now c.args.n c.requires.le_n.0 c.requires.le_n.1 c.requires.work.room _ c.clear_part.ensures)) c.requires.work.starts;
      };
      le_n = c.requires.le_n;
      entries = subst (λ (l : List ℕ). Entries l (c.args.count + 1)) (sym (new_old c.args.work.now c.args.n c.requires.le_n.0 c.requires.le_n.1 c.requires.work.room _ c.clear_part.ensures)) c.requires.entries;
    }

pub returns : goal.returns
returns c =
    record {
      work_after = grown c.args.strs.now c.args.work.now _ _ c.args.count c.args.n (new_old c.args.work.now c.args.n c.requires.le_n.0 c.requires.le_n.1 c.requires.work.room _ c.clear_part.ensures) (new_high c.args.work.now c.args.n c.requires.le_n.0 c.requires.le_n.1 c.requires.work.room _ c.clear_part.ensures) (new_table c.args.work.now c.args.n c.requires.le_n.0 c.requires.le_n.1 c.requires.work.room _ c.clear_part.ensures) c.move_slots.ensures.work_after;
      work_unchanged = c.move_slots.ensures.work_unchanged ∙ new_high c.args.work.now c.args.n c.requires.le_n.0 c.requires.le_n.1 c.requires.work.room _ c.clear_part.ensures;
    }
