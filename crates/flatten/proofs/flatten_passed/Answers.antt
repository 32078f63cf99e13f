use Rattle.std.proofs.Common.{◌≡◌, ◌∙◌, None, sym, ap, arith}
use Rattle.refusal.specs.Refusal.{number, number_in, handed_on}
use Rattle.tape.specs.Held.{held_texts_inside}
use Rattle.flatten.specs.Flat.{nodes_end, inside}
use Rattle.flatten.specs.Stages.{room_for, no_room, no_graft, lists_inside, no_lists, flat_written}
use Rattle.flatten.proofs.flatten_passed.Goals as goal

pub returns-then-not-has_room : goal.returns-then-not-has_room
returns-then-not-has_room c =
    no_room c.requires c.args.book.now.held c.args.out_tape.now c.args.out_bytes.now c.args.work.now c.has_room.ensures c.if-not-has_room.true

pub slice_bounds-copy_at-end : goal.slice_bounds-copy_at-end
slice_bounds-copy_at-end c = omega (arith, held_texts_inside c.args.book.now.held)

pub slice_bounds-copy_at-end-2 : goal.slice_bounds-copy_at-end-2
slice_bounds-copy_at-end-2 c = omega (arith, inside c.requires c.args.book.now.held)

pub returns-in_err-l : goal.returns-in_err-l
returns-in_err-l c =
    let none : c.graft_layer.result ≡ None = c.in_err-l.ensures.ok_part in
    let full : number c.in_err-l.field-0.0 ≡ 18 = ap number_in (rw none at c.in_err-l.ensures.value) in
    rw (handed_on _ c.from_residual.ensures.1, full)
    (no_graft c.requires c.args.book.now.held c.args.out_tape.now c.args.out_bytes.now c.args.work.now
    c.copy_at-2.auto.out c.copy_at.auto.out c.graft_layer.ensures none)

pub overflow_add-at : goal.overflow_add-at
overflow_add-at c =
    let x = lists_inside c.requires c.args.book.now.held c.args.out_tape.now c.args.out_bytes.now c.args.work.now
    c.copy_at-2.auto.out c.copy_at.auto.out c.graft_layer.ensures c.in_ok-l.ensures.ok_part in
    omega (arith, x, c.well_formed)

pub overflow_sub-at : goal.overflow_sub-at
overflow_sub-at c = omega (arith, nodes_end c.requires c.args.book.now.held)

pub overflow_add-at-2 : goal.overflow_add-at-2
overflow_add-at-2 c =
    let x = lists_inside c.requires c.args.book.now.held c.args.out_tape.now c.args.out_bytes.now c.args.work.now
    c.copy_at-2.auto.out c.copy_at.auto.out c.graft_layer.ensures c.in_ok-l.ensures.ok_part in
    omega (arith, x, c.well_formed)

pub slice_bounds-lists-count : goal.slice_bounds-lists-count
slice_bounds-lists-count c = omega (arith, inside c.requires c.args.book.now.held)

pub slice_bounds-lists-start : goal.slice_bounds-lists-start
slice_bounds-lists-start c = omega (arith, inside c.requires c.args.book.now.held)

pub overflow_sub-out_tape : goal.overflow_sub-out_tape
overflow_sub-out_tape c =
    let x = lists_inside c.requires c.args.book.now.held c.args.out_tape.now c.args.out_bytes.now c.args.work.now
    c.copy_at-2.auto.out c.copy_at.auto.out c.graft_layer.ensures c.in_ok-l.ensures.ok_part in
    omega (arith, x, c.graft_layer.auto.out, c.copy_at-2.auto.out)

pub returns-then-out_tape-at : goal.returns-then-out_tape-at
returns-then-out_tape-at c =
    let i = inside c.requires c.args.book.now.held in
    no_lists c.requires c.args.book.now.held c.args.out_tape.now c.args.out_bytes.now c.args.work.now
    c.copy_at-2.auto.out c.copy_at.auto.out c.graft_layer.ensures c.in_ok-l.ensures.ok_part
    (omega (arith, c.if-out_tape-at.true, i, c.graft_layer.auto.out, c.copy_at-2.auto.out))

pub copy_at-requires-3 : goal.copy_at-requires-3
copy_at-requires-3 c =
    let x = lists_inside c.requires c.args.book.now.held c.args.out_tape.now c.args.out_bytes.now c.args.work.now
    c.copy_at-2.auto.out c.copy_at.auto.out c.graft_layer.ensures c.in_ok-l.ensures.ok_part in
    omega (arith, x, c.if-out_tape-at.false, c.graft_layer.auto.out, c.copy_at-2.auto.out)

pub overflow_add-result : goal.overflow_add-result
overflow_add-result c =
    let x = lists_inside c.requires c.args.book.now.held c.args.out_tape.now c.args.out_bytes.now c.args.work.now
    c.copy_at-2.auto.out c.copy_at.auto.out c.graft_layer.ensures c.in_ok-l.ensures.ok_part in
    omega (arith, x, c.if-out_tape-at.false, c.graft_layer.auto.out, c.copy_at-2.auto.out, c.well_formed)

pub returns : goal.returns
returns c =
    let i = inside c.requires c.args.book.now.held in
    flat_written c.requires c.args.book.now.held c.args.out_tape.now c.args.out_bytes.now c.args.work.now
    c.copy_at-2.auto.out c.copy_at.auto.out c.graft_layer.ensures c.in_ok-l.ensures.ok_part
    c.copy_at-2.ensures c.copy_at.ensures (room_for _ _ _ _ (sym c.has_room.ensures ∙ c.if-not-has_room.false))
    (omega (arith, c.if-out_tape-at.false, i, c.graft_layer.auto.out, c.copy_at-2.auto.out)) c.copy_at-3.ensures (omega (arith, i))
