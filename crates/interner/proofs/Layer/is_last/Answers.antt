use Rattle.interner.specs.Lookups.{last_none, last_some}
use Rattle.interner.proofs.Layer.is_last.Goals as goal

pub returns-then-self-eq0 : goal.returns-then-self-eq0
returns-then-self-eq0 c =
    last_none c.args.self.now.work.now c.args.self.now.strs.now c.args.self.now.st.now c.args.self.now.good _ c.if-self-eq0.true

pub returns : goal.returns
returns c =
    last_some c.args.self.now.work.now c.args.self.now.strs.now c.args.self.now.st.now c.args.self.now.good _ _ _ c.if-self-eq0.false c.resolve.ensures c.same.ensures
