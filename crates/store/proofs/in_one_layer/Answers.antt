use Rattle.std.proofs.Common.{refl, rules}
use Rattle.wire.proofs.Ranges.{range_any}
use Rattle.store.specs.Pools.{in_layer, in_one}
use Rattle.store.proofs.in_one_layer.Goals as goal

pub returns : goal.returns
unfolding in_one
returns c =
    let a = c.args in
    range_any _ _ _ _ (in_layer a.starts.now a.layers a.total a.start a.end) refl (λ x b q k. search rules) _ c.any.ensures.ran
