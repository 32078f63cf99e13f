use Rattle.std.proofs.Common.{subst, sym}
use Rattle.stats.specs.Counts.{default_is}
use Rattle.interner.specs.State.{Fresh}
use Rattle.interner.specs.Begun.{begun}
use Rattle.interner.proofs.StrInterner.new.Goals as goal

pub returns : goal.returns
returns c =
    let h = c.default.ensures in
    let r = h.1.1.1.1.1 in
    let s = default_is c.default.result.stats r.1 in
    λ strs fits.
    subst (Fresh c.args.work.now strs c.args.base c.put_start.new.work)
    (λ i. record { slots = sym h.0 i; occupied = sym h.1.0 i; count = sym h.1.1.0 i; base = c.args.base; used = c.args.base; last = sym r.0 i; stats = sym s i })
    (begun c.args.work.now strs c.args.base c.requires fits c.put_start.ensures)
