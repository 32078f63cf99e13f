use Rattle.std.proofs.Common.{arith}
use Rattle.levels.specs.Table.{bound_none, bound_segment, segment_fits}
use Rattle.levels.proofs.Book.segment_bound.Goals as goal

pub segment_place-at-requires : goal.segment_place-at-requires
segment_place-at-requires c =
    c.args.self.now.of_tape.few

pub overflow_add-v : goal.overflow_add-v
overflow_add-v c =
    let fits = segment_fits c.args.self.now.tape.now c.args.self.now.st.now c.args.i c.segment_place-at.result c.args.self.now.of_tape c.requires.i_lt_segments c.segment_place-at.ensures in
    omega (arith, fits)

pub bounds-self-at : goal.bounds-self-at
bounds-self-at c =
    let fits = segment_fits c.args.self.now.tape.now c.args.self.now.st.now c.args.i c.segment_place-at.result c.args.self.now.of_tape c.requires.i_lt_segments c.segment_place-at.ensures in
    omega (arith, fits)

pub returns-then-v-m : goal.returns-then-v-m
returns-then-v-m c =
    bound_segment c.args.self.now.tape.now c.args.self.now.st.now c.args.i c.args.m _ c.segment_place-at.result c.segment_place-at.ensures (omega arith) c.if-v-m.true

pub returns-then-v-gt32 : goal.returns-then-v-gt32
returns-then-v-gt32 c =
    bound_none _ _ _ (omega arith)

pub returns : goal.returns
returns c =
    bound_segment c.args.self.now.tape.now c.args.self.now.st.now c.args.i c.args.m _ c.segment_place-at.result c.segment_place-at.ensures (omega (arith, c.if-v-m.false)) (omega arith)
