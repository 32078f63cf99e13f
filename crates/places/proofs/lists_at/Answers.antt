use Rattle.model.specs.Tape.{count_at, node_codec, pair_codec, container_codec, diagnostic_codec}
use Rattle.places.specs.Found.{list_runs}
use Rattle.places.specs.Ends.{nodes_end, pairs_end, containers_end, diagnostics_end}
use mathlib.Core.Path.{refl}
use native.Mathlib.Omega.{arith}
use Rattle.places.proofs.lists_at.Goals as goal

pub overflow_mul-pairs_at : goal.overflow_mul-pairs_at
overflow_mul-pairs_at c =
    omega (arith, nodes_end _ _ _ c.requires c.count_at-nodes.ensures)

pub overflow_add-pairs_at : goal.overflow_add-pairs_at
overflow_add-pairs_at c =
    omega (arith, nodes_end _ _ _ c.requires c.count_at-nodes.ensures)

pub overflow_mul-containers_at : goal.overflow_mul-containers_at
overflow_mul-containers_at c =
    omega (arith, pairs_end _ _ _ c.requires c.count_at-nodes.ensures _ c.count_at-pairs.ensures)

pub overflow_add-containers_at : goal.overflow_add-containers_at
overflow_add-containers_at c =
    omega (arith, pairs_end _ _ _ c.requires c.count_at-nodes.ensures _ c.count_at-pairs.ensures)

pub overflow_mul-diagnostics_at : goal.overflow_mul-diagnostics_at
overflow_mul-diagnostics_at c =
    omega (arith, containers_end _ _ _ c.requires c.count_at-nodes.ensures _ c.count_at-pairs.ensures _ c.count_at-containers.ensures)

pub overflow_add-diagnostics_at : goal.overflow_add-diagnostics_at
overflow_add-diagnostics_at c =
    omega (arith, containers_end _ _ _ c.requires c.count_at-nodes.ensures _ c.count_at-pairs.ensures _ c.count_at-containers.ensures)

pub overflow_mul-result : goal.overflow_mul-result
overflow_mul-result c =
    omega (arith, diagnostics_end _ _ _ c.requires c.count_at-nodes.ensures _ c.count_at-pairs.ensures _ c.count_at-containers.ensures _ c.count_at-diagnostics.ensures)

pub overflow_add-result : goal.overflow_add-result
overflow_add-result c =
    omega (arith, diagnostics_end _ _ _ c.requires c.count_at-nodes.ensures _ c.count_at-pairs.ensures _ c.count_at-containers.ensures _ c.count_at-diagnostics.ensures)

pub returns : goal.returns
unfolding list_runs count_at node_codec pair_codec container_codec diagnostic_codec
returns c =
    rw (c.count_at-diagnostics.ensures, c.count_at-containers.ensures, c.count_at-pairs.ensures, c.count_at-nodes.ensures) refl
