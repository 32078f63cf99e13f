use Rattle.table.specs.Sizes.{starts_length}
use Rattle.interner.specs.Lookups.{resolved}
use native.Mathlib.Omega.{arith}
use lib.ListN.{length}
use Rattle.interner.proofs.Layer.resolve.Goals as goal

pub string_at-requires : goal.string_at-requires
string_at-requires c =
    record {
      starts = c.args.self.now.good.words.starts;
      id_in_bounds = omega (arith, starts_length c.args.self.now.work.now (length c.args.self.now.strs.now) c.args.self.now.st.now.count c.args.self.now.good.words, c.requires);
    }

pub returns : goal.returns
returns c =
    resolved c.args.self.now.work.now c.args.self.now.strs.now c.args.self.now.st.now c.args.self.now.good _ _ c.string_at.ensures
