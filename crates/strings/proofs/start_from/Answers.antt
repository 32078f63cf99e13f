use Rattle.std.proofs.Common.{◌≡◌, ap, ◌∙◌, arith}
use Rattle.strings.specs.Starts.{start_in, run_to}
use Rattle.strings.proofs.start_from.Goals as goal

pub loop-i-init : goal.loop-i-init
loop-i-init c =
    (c.requires.between.order, c.requires.start_value)

pub run_end-next-requires : goal.run_end-next-requires
run_end-next-requires c =
    c.requires.readable.store.few

pub start_after-place-requires : goal.start_after-place-requires
start_after-place-requires c =
    record {
      readable = c.requires.readable;
      in_layer = (run_to c.requires.readable c.run_end-next.ensures c.loop-i-test.true c.requires.between.inside).0;
      start_value = c.loop-i.invariant.1;
    }

pub loop-i-smaller : goal.loop-i-smaller
loop-i-smaller c =
    let r = run_to c.requires.readable c.run_end-next.ensures c.loop-i-test.true c.requires.between.inside in omega (arith, r.0.after, r.1)

pub loop-i-preserved : goal.loop-i-preserved
loop-i-preserved c =
    ((run_to c.requires.readable c.run_end-next.ensures c.loop-i-test.true c.requires.between.inside).1, c.start_after-place.ensures)

pub returns : goal.returns
returns c =
    let e : c.loop-i.i ≡ c.args.to = omega arith in c.loop-i.invariant.1 ∙ ap (start_in c.args.tape.now) e
