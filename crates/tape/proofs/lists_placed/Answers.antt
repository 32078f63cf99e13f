use Rattle.tape.specs.Placed.{fit_pairs, fit_containers, fit_diagnostics, pairs_bad, containers_bad, lists_end_lem}
use Rattle.tape.proofs.lists_placed.Goals as goal

pub pairs_placed-requires : goal.pairs_placed-requires
pairs_placed-requires c =
    fit_pairs c.requires

pub returns-then-not-pairs_placed : goal.returns-then-not-pairs_placed
returns-then-not-pairs_placed c =
    pairs_bad _ _ c.pairs_placed.ensures c.if-not-pairs_placed.true

pub containers_placed-requires : goal.containers_placed-requires
containers_placed-requires c =
    fit_containers c.requires

pub returns-then-not-containers_placed : goal.returns-then-not-containers_placed
returns-then-not-containers_placed c =
    containers_bad _ _ c.pairs_placed.ensures c.containers_placed.ensures c.if-not-containers_placed.true

pub diagnostics_placed-requires : goal.diagnostics_placed-requires
diagnostics_placed-requires c =
    fit_diagnostics c.requires

pub returns : goal.returns
returns c =
    lists_end_lem _ _ c.pairs_placed.ensures c.containers_placed.ensures c.if-not-pairs_placed.false c.if-not-containers_placed.false c.diagnostics_placed.ensures
