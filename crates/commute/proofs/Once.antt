-- Wish 5: of an accepted merge nothing is kept twice.
use Rattle.std.specs.Prelude.{◌≡◌, false, length}
use Rattle.std.proofs.Common.{subst}
use Rattle.model.specs.Offset.{Span}
use Rattle.model.specs.Types.{LexOutput, RegionOutput}
use Rattle.model.specs.Region.{Edit}
use Rattle.model.specs.Merge.{window_of, node_located, pair_located, container_located, diagnostic_located, mark_at_empty_region}
use Rattle.model.specs.Once.{KeptOnce, CountedOnce}
use Rattle.facts.specs.Lists.{same_eq}
use Rattle.laws.specs.Checks.{checked_book, checked_reading, chosen_facts, fitted_accepted}
use Rattle.laws.specs.Located.{kept_once, wide_once}
use Rattle.laws.specs.Marks.{unmarked_sides}
use Rattle.commute.specs.Merged.{Fit, region_rises, normal_region_rises, nodes_wide, pairs_wide, containers_wide}
use Rattle.commute.specs.Step.{begun_fit}

old_once : {old : LexOutput} {e : Edit} {reading : RegionOutput} {r : Span} → Fit old e reading r → mark_at_empty_region old.diagnostics r ≡ false → KeptOnce old (window_of old e reading r)
unfolding window_of node_located pair_located container_located
old_once {old} {e} {reading} {r} f unmarked =
    let w = window_of old e reading r in
    let inside = f.old_sound.places in
    record {
      source_nodes = wide_once node_located w (nodes_wide f).wide (region_rises f) old.source_nodes inside.source_spans;
      pairs = wide_once pair_located w (pairs_wide f).wide (region_rises f) old.pairs inside.pairs;
      container_pairs = wide_once container_located w (containers_wide f).wide (normal_region_rises f) old.container_pairs inside.container_pairs;
      diagnostics = kept_once diagnostic_located w old.diagnostics (unmarked_sides w (length old.sanitized) (region_rises f) old.diagnostics unmarked inside.diagnostics);
    }

pub counted_once : CountedOnce
unfolding CountedOnce
counted_once book e reading f q =
    let a = fitted_accepted book e reading f q in
    let fit = begun_fit (record {
      old_formed = (checked_book book.tape book.bytes f.old a.book).1;
      reading_formed = (checked_reading reading.tape reading.bytes f.reading a.read).2;
      chosen = chosen_facts f.old e a.region a.chosen;
      region_text = same_eq _ _ a.passed.region_text;
      balanced = a.passed.balanced;
    }) in
    subst (KeptOnce f.old) a.window (old_once fit a.passed.unmarked)
