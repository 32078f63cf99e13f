use Rattle.std.proofs.Common.{refl}
use Rattle.refusal.specs.Refusal.{handed_on, number_bounds}
use Rattle.cuts.specs.Gaps.{nodes_apart}
use Rattle.tape.specs.Held.{held_runs}
use Rattle.region.specs.Stage.{stage_short, stage_nodes, stage_edit, stage_inside, stage_depends, stage_whole, stage_chosen}
use Rattle.region.proofs.chosen_region.Goals as goal

pub check_edit-requires : goal.check_edit-requires
check_edit-requires c =
    stage_short c.args.book.now c.text-text.ensures

pub returns-in_err-check_edit : goal.returns-in_err-check_edit
returns-in_err-check_edit c =
    rw (handed_on _ c.from_residual.ensures.1) (stage_edit c.args.book.now c.text-text.ensures c.args.edit.now c.in_err-check_edit.ensures (number_bounds _).0)

pub returns-then-has_ruby_format_dependency : goal.returns-then-has_ruby_format_dependency
returns-then-has_ruby_format_dependency c =
    stage_depends c.args.book.now c.text-text.ensures c.args.edit.now c.in_ok-check_edit.ensures refl c.has_ruby_format_dependency.ensures c.if-has_ruby_format_dependency.true

pub invariant_of-edited-clause-nodes_inside : goal.invariant_of-edited-clause-nodes_inside
invariant_of-edited-clause-nodes_inside c =
    (held_runs c.args.book.now.held).0

pub invariant_of-edited-clause-pairs_inside : goal.invariant_of-edited-clause-pairs_inside
invariant_of-edited-clause-pairs_inside c =
    (held_runs c.args.book.now.held).1

pub invariant_of-edited-clause-nodes_apart : goal.invariant_of-edited-clause-nodes_apart
invariant_of-edited-clause-nodes_apart c =
    nodes_apart (stage_nodes c.args.book.now c.text-text.ensures)

pub invariant_of-edited-clause-text_small : goal.invariant_of-edited-clause-text_small
invariant_of-edited-clause-text_small c =
    stage_short c.args.book.now c.text-text.ensures

pub invariant_of-edited-2-clause-nodes_in : goal.invariant_of-edited-2-clause-nodes_in
invariant_of-edited-2-clause-nodes_in c =
    stage_nodes c.args.book.now c.text-text.ensures

pub invariant_of-edited-2-clause-start_inside : goal.invariant_of-edited-2-clause-start_inside
invariant_of-edited-2-clause-start_inside c =
    (stage_inside c.args.book.now c.text-text.ensures c.args.edit.now c.in_ok-check_edit.ensures refl).0

pub invariant_of-edited-2-clause-end_inside : goal.invariant_of-edited-2-clause-end_inside
invariant_of-edited-2-clause-end_inside c =
    (stage_inside c.args.book.now c.text-text.ensures c.args.edit.now c.in_ok-check_edit.ensures refl).1

pub returns-then-is_whole : goal.returns-then-is_whole
returns-then-is_whole c =
    stage_whole c.args.book.now c.text-text.ensures c.args.edit.now c.in_ok-check_edit.ensures refl c.has_ruby_format_dependency.ensures c.if-has_ruby_format_dependency.false c.balanced_region-region.ensures c.is_whole.ensures c.if-is_whole.true

pub returns : goal.returns
returns c =
    stage_chosen c.args.book.now c.text-text.ensures c.args.edit.now c.in_ok-check_edit.ensures refl c.has_ruby_format_dependency.ensures c.if-has_ruby_format_dependency.false c.balanced_region-region.ensures c.is_whole.ensures c.if-is_whole.false
