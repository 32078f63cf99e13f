use Rattle.places.specs.Found.{layer_small, layer_added}
use native.Mathlib.Omega.{arith}
use Rattle.places.proofs.with_layer.Goals as goal

pub strings_length-bytes-requires : goal.strings_length-bytes-requires
strings_length-bytes-requires c =
    let l = layer_small c.args.tape.now c.args.s.end c.next_layer-l.result c.next_layer-l.ensures c.requires.end_in_bounds.0 in (omega (arith, l.strings), c.requires.end_in_bounds.1)

pub overflow_add-result-2 : goal.overflow_add-result-2
overflow_add-result-2 c =
    let l = layer_small c.args.tape.now c.args.s.end c.next_layer-l.result c.next_layer-l.ensures c.requires.end_in_bounds.0 in omega (arith, l.counts, l.near, c.requires.small.counts)

pub overflow_add-result-3 : goal.overflow_add-result-3
overflow_add-result-3 c =
    let l = layer_small c.args.tape.now c.args.s.end c.next_layer-l.result c.next_layer-l.ensures c.requires.end_in_bounds.0 in omega (arith, l.counts, l.near, c.requires.small.counts)

pub overflow_add-result-4 : goal.overflow_add-result-4
overflow_add-result-4 c =
    let l = layer_small c.args.tape.now c.args.s.end c.next_layer-l.result c.next_layer-l.ensures c.requires.end_in_bounds.0 in omega (arith, l.counts, l.near, c.requires.small.counts)

pub returns : goal.returns
returns c =
    layer_added _ _ c.args.s _ _ _ _ c.next_layer-l.ensures c.strings_length-bytes.ensures (omega (arith, c.requires, c.saturating_add.ensures, c.min.ensures))
