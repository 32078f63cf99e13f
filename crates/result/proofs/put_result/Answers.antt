use Rattle.std.proofs.Common.{◌≡◌, None, refl, sym, ap, arith, ◌∙◌}
use Rattle.refusal.specs.Refusal.{number, number_in, handed_on}
use Rattle.model.specs.Region.{edit_of}
use Rattle.merged_lists.specs.Sizes.{room_facts}
use Rattle.result.specs.Merging.{no_room, no_graft, no_size, at_small, diagnostics_ready, bytes_small, merged}
use Rattle.result.proofs.put_result.Goals as goal

pub returns-then-not-room_for : goal.returns-then-not-room_for
unfolding edit_of
returns-then-not-room_for c =
    no_room c.args.m.now.fits c.of-counts.ensures.kept c.new_lengths-l.ensures c.args.out_tape.now c.args.out_bytes.now c.args.work.now (rw c.of-counts.ensures.reading at c.room_for.ensures) c.if-not-room_for.true

pub put_store-requires : goal.put_store-requires
put_store-requires c =
    let f = room_facts _ _ _ _ _ _ _ (sym c.room_for.ensures ∙ c.if-not-room_for.false) in record {
      lengths = c.new_lengths-l.ensures;
      room = (f.work, f.normalized, f.base, f.nodes_at);
    }

pub returns-in_err-g : goal.returns-in_err-g
unfolding edit_of
returns-in_err-g c =
    let s = c.put_store.auto in
    let none : c.put_store.result ≡ None = c.in_err-g.ensures.ok_part in
    let full : number c.in_err-g.field-0.0 ≡ 18 = ap number_in (rw none at c.in_err-g.ensures.value) in
    rw (handed_on _ c.from_residual.ensures.1, full)
    (no_graft c.args.m.now.fits c.of-counts.ensures.kept c.new_lengths-l.ensures c.args.out_tape.now c.args.out_bytes.now c.args.work.now (rw none at c.put_store.ensures) s.out_tape s.out_bytes s.work)

pub overflow_add-at : goal.overflow_add-at
unfolding edit_of
overflow_add-at c =
    let s = c.put_store.auto in
    let x = at_small c.args.m.now.fits c.of-counts.ensures.kept c.new_lengths-l.ensures c.args.out_tape.now c.args.out_bytes.now c.args.work.now (rw c.in_ok-g.ensures.ok_part at c.put_store.ensures) s.out_tape s.out_bytes refl in
    omega (arith, x, c.well_formed)

pub lists_end-size-requires : goal.lists_end-size-requires
unfolding edit_of
lists_end-size-requires c =
    let s = c.put_store.auto in
    let x = at_small c.args.m.now.fits c.of-counts.ensures.kept c.new_lengths-l.ensures c.args.out_tape.now c.args.out_bytes.now c.args.work.now (rw c.in_ok-g.ensures.ok_part at c.put_store.ensures) s.out_tape s.out_bytes refl in
    omega (arith, x, c.well_formed)

pub returns-then-out_tape-size : goal.returns-then-out_tape-size
unfolding edit_of
returns-then-out_tape-size c =
    let s = c.put_store.auto in
    no_size c.args.m.now.fits c.of-counts.ensures.kept c.new_lengths-l.ensures c.args.out_tape.now c.args.out_bytes.now c.args.work.now (rw c.in_ok-g.ensures.ok_part at c.put_store.ensures) s.out_tape s.out_bytes refl
    s.work (rw c.of-counts.ensures.reading at c.lists_end-size.ensures) (omega (arith, c.if-out_tape-size.true, s.out_tape))

pub put_lists-requires : goal.put_lists-requires
unfolding edit_of
put_lists-requires c =
    let s = c.put_store.auto in
    let ready = diagnostics_ready c.args.m.now.fits c.of-counts.ensures.kept c.new_lengths-l.ensures c.args.out_tape.now c.args.out_bytes.now c.args.work.now (rw c.in_ok-g.ensures.ok_part at c.put_store.ensures) s.out_tape s.out_bytes refl
    (rw c.of-counts.ensures.reading at c.room_for.ensures) c.if-not-room_for.false (rw c.of-counts.ensures.reading at c.lists_end-size.ensures) (omega (arith, c.if-out_tape-size.false, s.out_tape)) in
    record { counts = c.of-counts.ensures; room = omega (arith, c.lists_end-size.ensures, c.if-out_tape-size.false); diagnostics = ready }

pub overflow_add-l : goal.overflow_add-l
unfolding edit_of
overflow_add-l c =
    let s = c.put_store.auto in
    let x = bytes_small c.args.m.now.fits c.of-counts.ensures.kept c.new_lengths-l.ensures c.args.out_tape.now c.args.out_bytes.now c.args.work.now (rw c.in_ok-g.ensures.ok_part at c.put_store.ensures) s.out_tape s.out_bytes refl
    (rw c.of-counts.ensures.reading at c.room_for.ensures) c.if-not-room_for.false (rw c.of-counts.ensures.reading at c.lists_end-size.ensures) (omega (arith, c.if-out_tape-size.false, s.out_tape)) in
    omega (arith, x, c.well_formed)

pub returns : goal.returns
unfolding edit_of
returns c =
    let s = c.put_store.auto in
    merged c.args.m.now.fits c.of-counts.ensures.kept c.new_lengths-l.ensures c.args.out_tape.now c.args.out_bytes.now c.args.work.now (rw c.in_ok-g.ensures.ok_part at c.put_store.ensures) s.out_tape s.out_bytes refl
    (rw c.of-counts.ensures.reading at c.room_for.ensures) c.if-not-room_for.false (rw c.of-counts.ensures.reading at c.lists_end-size.ensures) (omega (arith, c.if-out_tape-size.false, s.out_tape)) s.work
    c.put_lists.ensures (c.put_lists.auto.out ∙ s.out_tape) (rw c.of-counts.ensures.reading at c.output_of.ensures)
