use Rattle.table.specs.Sizes.{starts_length}
use Rattle.table.specs.Moved.{slot_found}
use Rattle.table.specs.Layout.{strings_of, table_of, starts_of}
use Rattle.table.specs.Views.{table_length}
use mathlib.Core.Path.{subst}
use mathlib.Core.Path.{ap}
use Prim.Native.Nat.{ℕ, ◌+◌, ◌-◌, ◌<◌}
use native.Mathlib.Omega.{arith}
use lib.ListN.{length, set}
use Rattle.table.proofs.place.Goals as goal

pub string_at-requires : goal.string_at-requires
string_at-requires c =
    record {
      starts = c.requires.work.starts;
      id_in_bounds = omega (arith, starts_length c.args.work.now (length c.args.strs.now) c.args.count c.requires.work, c.requires.e_nonzero);
    }

pub returns : goal.returns
returns c =
    let len = table_length c.args.n c.args.work.now c.requires.le_n.0 c.requires.le_n.1 c.requires.work.room in
    let at = slot_found (strings_of (starts_of c.args.count c.args.work.now) c.args.strs.now) (table_of c.args.n c.args.work.now) _ c.args.n (c.args.e - 1) _ c.empty_slot-p.result _ len c.string_at.ensures c.fx_hash.ensures c.slot_of-h.ensures.0 c.empty_slot-p.ensures.0 in
    record {
      work_after = ap (λ (j : ℕ). set c.args.work.now (c.args.n - 256 + j) c.args.e) at;
      e_bound = subst (λ (j : ℕ). j < c.args.n) at (omega (arith, len, c.empty_slot-p.ensures.1));
    }
