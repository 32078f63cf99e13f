use Rattle.std.proofs.Common.{refl, arith}
use Rattle.layer.specs.Source.{source_few}
use Rattle.layer.specs.Grafting.{room_for, grafting_short, grafting_room, grafting_refused, grafting_finish, grafting_told}
use Rattle.layer.proofs.grafting.Grafting.graft_by.Goals as goal

pub overflow_add-len : goal.overflow_add-len
overflow_add-len c =
    let x = c.args.self.now.exact in
    omega (arith, c.layer_length-len.ensures, c.nodes_length.ensures, source_few c.args.self.now.source.now.held, x.contents, x.segments, x.contents_fit, x.segments_fit)

pub returns-then-out-to : goal.returns-then-out-to
returns-then-out-to c =
    grafting_short c.args.self.now c.args.out.now c.args.strs.now (omega (arith, c.layer_length-len.ensures, c.nodes_length.ensures, c.if-out-to.true))

pub walk-requires : goal.walk-requires
walk-requires c =
    let h = c.requires.min_work_words_in_bounds in
    let fits = room_for c.args.self.now c.layer_length-len.ensures c.nodes_length.ensures h.2 c.if-out-to.false in
    record { walk_room = rw c.layer_length-len.ensures (grafting_room c.args.self.now c.args.out.now fits c.plan_of-plan.ensures); min_work_words_in_bounds = (h.0, h.1); pairs = c.requires.pairs }

pub returns-in_err-m : goal.returns-in_err-m
returns-in_err-m c =
    let fits = room_for c.args.self.now c.layer_length-len.ensures c.nodes_length.ensures c.requires.min_work_words_in_bounds.2 c.if-out-to.false in
    rw c.from_residual.ensures (grafting_refused c.args.self.now c.args.out.now fits c.plan_of-plan.ensures (rw c.layer_length-len.ensures at c.in_err-m.ensures) refl)

pub finish-requires : goal.finish-requires
finish-requires c =
    let fits = room_for c.args.self.now c.layer_length-len.ensures c.nodes_length.ensures c.requires.min_work_words_in_bounds.2 c.if-out-to.false in
    let r = grafting_finish c.args.self.now c.args.out.now fits c.plan_of-plan.ensures (rw c.layer_length-len.ensures at c.in_ok-m.ensures) refl c.walk.auto.out in
    record { rising = r.0; fits = (r.1, r.2) }

pub returns : goal.returns
returns c =
    let fits = room_for c.args.self.now c.layer_length-len.ensures c.nodes_length.ensures c.requires.min_work_words_in_bounds.2 c.if-out-to.false in
    grafting_told c.args.self.now c.args.out.now fits c.plan_of-plan.ensures (rw c.layer_length-len.ensures at c.in_ok-m.ensures) refl c.walk.auto.out c.finish.ensures
