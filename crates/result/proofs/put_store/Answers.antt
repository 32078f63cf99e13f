use Rattle.model.specs.Region.{edit_of}
use Rattle.merged_lists.specs.declared.Lengths.{Lengths}
use Rattle.result.specs.Merging.{nodes_at_lem, pools_fit}
use Rattle.result.specs.Stages.{store_told}
use Rattle.fitting.specs.Inside.{inside}
use mathlib.Core.Path.{ap}
use native.Mathlib.Omega.{arith}
use Rattle.result.proofs.put_store.Goals as goal

pub put_new_texts-requires : goal.put_new_texts-requires
put_new_texts-requires c =
    let x = ap (λ (y : Lengths). y.base) c.requires.lengths in
    omega (arith, x, c.requires.room.2)

pub overflow_cast-l : goal.overflow_cast-l
unfolding edit_of
overflow_cast-l c =
    let i = inside c.args.m.now.fits in let x = ap (λ (y : Lengths). y.text) c.requires.lengths in omega (arith, x, i.limit)

pub put_head-requires : goal.put_head-requires
put_head-requires c =
    let n = nodes_at_lem c.args.m.now.fits in (n.0, n.1, omega (arith, c.requires.room.3))

pub invariant_of-to : goal.invariant_of-to
invariant_of-to c =
    let fits = pools_fit c.args.m.now.fits in
    record { fits = record { strings = fits.0; contents = fits.1; segments = fits.2 } }

pub graft_reading-requires : goal.graft_reading-requires
graft_reading-requires c =
    let m = c.requires.room in
    (omega (arith, m.0), omega (arith, m.2, c.put_new_texts.auto.out), omega (arith, m.3, c.put_head.auto.out))

pub returns : goal.returns
unfolding edit_of
returns c =
    let m = c.requires.room in
    store_told c.args.m.now.fits c.requires.lengths c.args.out_tape.now c.args.out_bytes.now m.3 m.2 c.put_new_texts.ensures c.put_head.ensures c.graft_reading.ensures
