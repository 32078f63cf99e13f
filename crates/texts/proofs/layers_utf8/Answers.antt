use Rattle.std.proofs.Common.{arith}
use Rattle.places.specs.Walked.{runs_fit}
use Rattle.texts.specs.Layers.{layers_none, layers_bytes, layers_bad, layers_more, layers_all}
use Rattle.texts.proofs.layers_utf8.Goals as goal

pub loop-k-init : goal.loop-k-init
loop-k-init c = layers_none _ _ _ c.requires.1

pub runs-l-requires : goal.runs-l-requires
runs-l-requires c = (c.loop-k-test.true, c.loop-k.invariant.here)

pub strings_end-requires : goal.strings_end-requires
strings_end-requires c =
    record {
      count_in_bounds = (runs_fit c.args.layers.now.counted.1 (omega (arith, c.args.layers.now.counted.0, c.loop-k-test.true)) c.runs-l.ensures).strings;
      count_in_bounds_2 = layers_bytes c.loop-k.invariant (omega (arith, c.args.layers.now.counted.0, c.loop-k-test.true)) c.runs-l.ensures c.requires.0;
      bytes_value = c.loop-k.invariant.whole;
    }

pub returns-in_default : goal.returns-in_default
returns-in_default c =
    layers_bad c.loop-k.invariant (omega (arith, c.args.layers.now.counted.0, c.loop-k-test.true)) c.runs-l.ensures c.strings_end.ensures c.in_default.not-Some

pub loop-k-preserved : goal.loop-k-preserved
loop-k-preserved c =
    layers_more c.loop-k.invariant (omega (arith, c.args.layers.now.counted.0, c.loop-k-test.true)) c.runs-l.ensures c.strings_end.ensures c.in-Some.is

pub returns : goal.returns
returns c = layers_all c.loop-k.invariant (omega (arith, c.args.layers.now.counted.0))
