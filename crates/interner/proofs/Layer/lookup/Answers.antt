use Rattle.interner.specs.Lookups.{lookup_is}
use Rattle.table.specs.Sizes.{size_hi, size_lo, size_length, starts_length}
use Rattle.table.specs.Layout.{Entries, table_of}
use mathlib.Core.Path.{subst}
use mathlib.Core.Path.{sym}
use Prim.Native.Nat.{ℕ, ◌<◌}
use native.Mathlib.Omega.{arith}
use lib.ListN.{length}
use Rattle.interner.proofs.Layer.lookup.Goals as goal

pub overflow_sub-off : goal.overflow_sub-off
overflow_sub-off c =
    omega (arith, size_lo c.args.self.now.good.size (λ e. let p = c.requires in let z : ⊥ = omega (arith, e) in z), size_hi c.args.self.now.good.size, c.args.self.now.good.words.room, c.args.self.now.good.words.few)

pub overflow_add-end : goal.overflow_add-end
overflow_add-end c =
    record { fits = omega (arith, size_lo c.args.self.now.good.size (λ e. let p = c.requires in let z : ⊥ = omega (arith, e) in z), size_hi c.args.self.now.good.size, c.args.self.now.good.words.room, c.args.self.now.good.words.few) }

pub offset_bounds-self-off : goal.offset_bounds-self-off
offset_bounds-self-off c =
    omega (arith, size_lo c.args.self.now.good.size (λ e. let p = c.requires in let z : ⊥ = omega (arith, e) in z), size_hi c.args.self.now.good.size, c.args.self.now.good.words.room, c.args.self.now.good.words.few)

pub slice_bounds-probe-end : goal.slice_bounds-probe-end
slice_bounds-probe-end c =
    omega (arith, size_lo c.args.self.now.good.size (λ e. let p = c.requires in let z : ⊥ = omega (arith, e) in z), size_hi c.args.self.now.good.size, c.args.self.now.good.words.room, c.args.self.now.good.words.few)

pub probe-requires : goal.probe-requires
probe-requires c =
    let len = size_length c.args.self.now.work.now c.args.self.now.good.size c.args.self.now.good.words.room in
    let starts = starts_length c.args.self.now.work.now (length c.args.self.now.strs.now) c.args.self.now.st.now.count c.args.self.now.good.words in
    record {
      from_in_bounds = subst (λ (m : ℕ). c.slot_of-from.result < m) (sym len) c.slot_of-from.ensures.1;
      starts = c.args.self.now.good.words.starts;
      entries = subst (λ (m : ℕ). Entries (table_of c.args.self.now.st.now.slots c.args.self.now.work.now) m) (sym starts) c.args.self.now.good.entries;
    }

pub returns : goal.returns
returns c =
    lookup_is c.args.self.now.work.now c.args.self.now.strs.now c.args.self.now.st.now c.args.self.now.good c.args.s.now c.requires _ _ _ _ c.fx_hash.ensures c.slot_of-from.ensures.0 c.probe.ensures
