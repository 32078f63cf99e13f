use Rattle.std.proofs.Common.{refl, sym, ◌∙◌}
use native.Mathlib.Omega.{arith}
use Rattle.model.specs.Region.{edit_of}
use Rattle.facts.specs.Truth.{or_left, or_right}
use Rattle.tape.specs.Held.{held_places, held_runs, held_texts_inside}
use Rattle.tape.specs.Placed.{fit_diagnostics}
use Rattle.fitting.specs.Reading.{region_asked, passage_asked, refused_12, refused_13, refused_14, refused_cut}
use Rattle.fitting.proofs.check_fitting.Goals as goal
use Rattle.fitting.proofs.check_fitting.Goals.{then-has_unclosed-via-then-has_unclosed, then-has_unclosed-via-else-has_unclosed+then-mark_at_empty_region}

pub slice_bounds-text-end : goal.slice_bounds-text-end
slice_bounds-text-end c =
    omega (arith, held_texts_inside c.args.book.now.held)

pub slice_bounds-new_text-end : goal.slice_bounds-new_text-end
slice_bounds-new_text-end c =
    omega (arith, held_texts_inside c.args.reading.now.held)

pub overflow_sub-first : goal.overflow_sub-first
unfolding edit_of
overflow_sub-first c =
    omega (arith, region_asked c.requires.region)

pub overflow_sub-last : goal.overflow_sub-last
unfolding edit_of
overflow_sub-last c =
    omega (arith, region_asked c.requires.region)

pub is_region_text-requires : goal.is_region_text-requires
unfolding edit_of
is_region_text-requires c =
    passage_asked c.requires.region c.region_text-old_text.ensures

pub returns-then-not-is_region_text : goal.returns-then-not-is_region_text
unfolding edit_of
returns-then-not-is_region_text c =
    refused_12 c.requires.region c.region_text-old_text.ensures c.args.reading.now c.is_region_text.ensures c.if-not-is_region_text.true

pub balanced_nodes-requires : goal.balanced_nodes-requires
balanced_nodes-requires c =
    (held_runs c.args.reading.now.held).0

pub returns-then-not-balanced_nodes : goal.returns-then-not-balanced_nodes
unfolding edit_of
returns-then-not-balanced_nodes c =
    refused_13 c.requires.region c.region_text-old_text.ensures c.args.reading.now c.is_region_text.ensures c.if-not-is_region_text.false c.balanced_nodes.ensures
    c.if-not-balanced_nodes.true

pub has_unclosed-requires : goal.has_unclosed-requires
has_unclosed-requires c =
    fit_diagnostics (held_places c.args.reading.now.held)

pub mark_at_empty_region-requires : goal.mark_at_empty_region-requires
mark_at_empty_region-requires c =
    fit_diagnostics (held_places c.args.book.now.held)

pub returns-then-has_unclosed : goal.returns-then-has_unclosed
unfolding edit_of
returns-then-has_unclosed c =
    refused_14 c.requires.region c.region_text-old_text.ensures c.args.reading.now c.is_region_text.ensures c.if-not-is_region_text.false c.balanced_nodes.ensures c.if-not-balanced_nodes.false c.has_unclosed.ensures refl
    (elim c.then-has_unclosed.branch [
      | then-has_unclosed-via-then-has_unclosed w ↦ or_left _ _ w.if-has_unclosed.true
      | then-has_unclosed-via-else-has_unclosed+then-mark_at_empty_region w ↦ or_right _ _ (sym w.mark_at_empty_region.ensures ∙ w.if-mark_at_empty_region.true)
    ])

pub check_cuts-requires : goal.check_cuts-requires
check_cuts-requires c =
    c.requires.cuts

pub returns : goal.returns
unfolding edit_of
returns c =
    refused_cut c.requires.region c.region_text-old_text.ensures c.args.reading.now c.is_region_text.ensures c.if-not-is_region_text.false c.balanced_nodes.ensures c.if-not-balanced_nodes.false
    c.has_unclosed.ensures c.mark_at_empty_region.ensures c.if-has_unclosed.false c.if-mark_at_empty_region.false (c.check_cuts.ensures _)
