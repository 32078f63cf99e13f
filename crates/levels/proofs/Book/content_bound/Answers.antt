use Rattle.std.proofs.Common.{arith}
use Rattle.levels.specs.Table.{bound_none, bound_content, content_fits}
use Rattle.levels.proofs.Book.content_bound.Goals as goal

pub content_place-at-requires : goal.content_place-at-requires
content_place-at-requires c =
    c.args.self.now.of_tape.few

pub content_below-requires : goal.content_below-requires
content_below-requires c =
    record {
      at_in_bounds = content_fits c.args.self.now.tape.now c.args.self.now.st.now c.args.i _ c.args.self.now.of_tape c.requires.i_lt_contents c.content_place-at.ensures;
    }

pub returns-then-content_below : goal.returns-then-content_below
returns-then-content_below c =
    bound_content c.args.self.now.tape.now c.args.self.now.st.now c.args.i c.args.m _ _ c.content_place-at.ensures (omega arith) (c.content_below.ensures.sure c.if-content_below.true)

pub returns : goal.returns
returns c =
    bound_none _ _ _ (omega arith)
