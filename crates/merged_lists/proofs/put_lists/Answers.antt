use Rattle.std.proofs.Common.{sym, ap, refl, arith}
use Rattle.places.specs.declared.Run.{Run}
use Rattle.merged_lists.specs.Lists.{lists_totals, lists_room, kept_is, lists_runs, lists_wrote}
use Rattle.merged_lists.proofs.put_lists.Goals as goal

pub overflow_add-pairs_to : goal.overflow_add-pairs_to
overflow_add-pairs_to c =
    let t = lists_totals c.requires c.totals-all.ensures in
    let r = lists_room c.requires in omega (arith, r, c.well_formed, t.nodes)

pub overflow_add-containers_to : goal.overflow_add-containers_to
overflow_add-containers_to c =
    let t = lists_totals c.requires c.totals-all.ensures in
    let r = lists_room c.requires in omega (arith, r, c.well_formed, t.nodes, t.pairs)

pub overflow_add-diagnostics_to : goal.overflow_add-diagnostics_to
overflow_add-diagnostics_to c =
    let t = lists_totals c.requires c.totals-all.ensures in
    let r = lists_room c.requires in omega (arith, r, c.well_formed, t.nodes, t.pairs, t.containers)

pub new-requires : goal.new-requires
new-requires c = (lists_runs c.requires).0

pub new-requires-2 : goal.new-requires-2
new-requires-2 c = (lists_runs c.requires).1.0

pub new-requires-3 : goal.new-requires-3
new-requires-3 c = (lists_runs c.requires).1.1

pub new-requires-4 : goal.new-requires-4
new-requires-4 c = (lists_runs c.requires).2.0

pub new-requires-5 : goal.new-requires-5
new-requires-5 c = (lists_runs c.requires).2.1

pub new-requires-6 : goal.new-requires-6
new-requires-6 c = (lists_runs c.requires).3.0

pub new-requires-7 : goal.new-requires-7
new-requires-7 c = (lists_runs c.requires).3.1

pub put_nodes-requires : goal.put_nodes-requires
put_nodes-requires c =
    let r = lists_room c.requires in
    let i = kept_is c.requires in
    let before = rw (sym c.new.ensures.0, sym c.new.ensures.1) at i.nodes_before in
    let behind = rw (sym c.new.ensures.0, sym c.new.ensures.1) at i.nodes_behind in
    record {
      before_value = before;
      reading_in_bounds = omega (arith, r, before, behind);
    }

pub put_list-requires : goal.put_list-requires
put_list-requires c =
    let t = lists_totals c.requires c.totals-all.ensures in
    let r = lists_room c.requires in
    let i = kept_is c.requires in
    let before = rw (sym c.new-2.ensures.0, sym c.new-2.ensures.1) at i.pairs_before in
    let behind = rw (sym c.new-2.ensures.0, sym c.new-2.ensures.1) at i.pairs_behind in
    let count = ap (λ (x : Run). x.count) c.new-3.ensures.1 in
    record {
      before_value = before;
      list_in_bounds = omega (arith, r, before, behind, count, t.nodes, t.pairs, t.containers, t.diagnostics, c.put_nodes.auto.out);
    }

pub put_list-requires-2 : goal.put_list-requires-2
put_list-requires-2 c =
    let t = lists_totals c.requires c.totals-all.ensures in
    let r = lists_room c.requires in
    let i = kept_is c.requires in
    let before = rw (sym c.new-4.ensures.0, sym c.new-4.ensures.1) at i.containers_before in
    let behind = rw (sym c.new-4.ensures.0, sym c.new-4.ensures.1) at i.containers_behind in
    let count = ap (λ (x : Run). x.count) c.new-5.ensures.1 in
    record {
      before_value = before;
      list_in_bounds = omega (arith, r, before, behind, count, t.nodes, t.pairs, t.containers, t.diagnostics, c.put_nodes.auto.out, c.put_list.auto.out);
    }

pub put_diagnostics-requires : goal.put_diagnostics-requires
put_diagnostics-requires c =
    let t = lists_totals c.requires c.totals-all.ensures in
    let r = lists_room c.requires in
    let i = kept_is c.requires in
    let before = rw (sym c.new-6.ensures.0, sym c.new-6.ensures.1) at i.diagnostics_before in
    let behind = rw (sym c.new-6.ensures.0, sym c.new-6.ensures.1) at i.diagnostics_behind in
    let count = ap (λ (x : Run). x.count) c.new-7.ensures.1 in
    record {
      before_value = (before, omega (arith, before, behind, count, t.diagnostics));
      all_in_bounds = omega (arith, r, t.nodes, t.pairs, t.containers, t.diagnostics, c.put_nodes.auto.out, c.put_list.auto.out, c.put_list-2.auto.out);
      count_value = rw (sym c.new-6.ensures.0, sym c.new-6.ensures.1, sym c.new-7.ensures.0, sym c.new-7.ensures.1) at c.requires.diagnostics;
    }

pub overflow_add-diagnostics_to-2 : goal.overflow_add-diagnostics_to-2
overflow_add-diagnostics_to-2 c =
    let t = lists_totals c.requires c.totals-all.ensures in
    let r = lists_room c.requires in
    omega (arith, r, c.well_formed, t.nodes, t.pairs, t.containers, t.diagnostics, c.put_nodes.auto.out, c.put_list.auto.out, c.put_list-2.auto.out, c.put_diagnostics.auto.out)

pub put_u8-requires : goal.put_u8-requires
put_u8-requires c =
    let t = lists_totals c.requires c.totals-all.ensures in
    let r = lists_room c.requires in
    omega (arith, r, c.well_formed, t.nodes, t.pairs, t.containers, t.diagnostics, c.put_nodes.auto.out, c.put_list.auto.out, c.put_list-2.auto.out, c.put_diagnostics.auto.out)

pub returns : goal.returns
returns c =
    let t = lists_totals c.requires c.totals-all.ensures in
    let nodes = rw (c.new.ensures.0, c.new.ensures.1) at c.put_nodes.ensures in
    let pairs = rw (c.new-2.ensures.0, c.new-2.ensures.1, c.new-3.ensures.0, c.new-3.ensures.1) at c.put_list.ensures in
    let containers = rw (c.new-4.ensures.0, c.new-4.ensures.1, c.new-5.ensures.0, c.new-5.ensures.1) at c.put_list-2.ensures in
    let diagnostics = rw (c.new-6.ensures.0, c.new-6.ensures.1, c.new-7.ensures.0, c.new-7.ensures.1) at c.put_diagnostics.ensures in
    lists_wrote c.requires c.args.out.now refl _ _ _ _ (omega (arith, t.nodes)) (omega (arith, t.pairs)) (omega (arith, t.containers)) (omega (arith, t.diagnostics))
    nodes pairs containers diagnostics c.put_u8.ensures
