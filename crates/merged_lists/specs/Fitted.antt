-- The counts of what is merged: how long the new texts are, how many old elements are kept; no sum is too large.
use Rattle.std.specs.Prelude.{◌≡◌, length}
use Rattle.std.proofs.Common.{arith}
use Rattle.model.specs.Merge.{node_located, pair_located, container_located, diagnostic_located}
use Rattle.laws.specs.Records.{run_length}
use Rattle.splice.specs.Window.{window_value}
use Rattle.model.specs.Tape.{records_at, node_codec, pair_codec, container_codec, diagnostic_codec}
use Rattle.fitting.specs.declared.merging.Merging.{Merging}
use Rattle.fitting.specs.Inside.{lengths_old, lengths_read, limits_old, limits_read}
use Rattle.merged_lists.specs.declared.Kept.{Kept}
use Rattle.merged_lists.specs.declared.Lengths.{Lengths}
use Rattle.merged_lists.specs.declared.counts.Counts.{Counts}
use Rattle.merged_lists.specs.Sizes.{kept_of, lengths_of, Small, few_kept}

abbrev pub lengths_in : Merging → Lengths
lengths_in m =
    lengths_of m.book.places m.reading.places m.edit.start.0 m.edit.end.0 (length m.edit.replacement.now)
    m.window.normalized.start.0 m.window.normalized.end.0 (length m.book.bytes.now)

abbrev pub kept_in : Merging → Kept
kept_in m = kept_of (window_value m.window) m.book.tape.now m.book.places

-- what is counted of it
pub record CountsOf (m : Merging) (c : Counts) : Type 0 where
  pub kept : c.kept ≡ kept_in m
  pub reading : c.reading ≡ m.reading.places

-- no sum is too large
module _ (m : Merging) where
  pub small_in : Small (kept_in m) m.reading.places
  unfolding kept_of
  small_in =
      let t = m.book.tape.now in
      let p = m.book.places in
      let w = window_value m.window in
      let l = lengths_old m.fits in
      let n = lengths_read m.fits in
      let x = limits_old m.fits in
      let y = limits_read m.fits in
      let nodes = run_length node_codec t p.nodes.at p.nodes.count in
      let pairs = run_length pair_codec t p.pairs.at p.pairs.count in
      let containers = run_length container_codec t p.containers.at p.containers.count in
      let diagnostics = run_length diagnostic_codec t p.diagnostics.at p.diagnostics.count in
      record {
        nodes = few_kept node_located w (records_at node_codec t p.nodes.at p.nodes.count) (omega (arith, nodes, l.nodes, x.source_nodes)) (omega (arith, n.nodes, y.source_nodes));
        pairs = few_kept pair_located w (records_at pair_codec t p.pairs.at p.pairs.count) (omega (arith, pairs, l.pairs, x.pairs)) (omega (arith, n.pairs, y.pairs));
        containers =
            few_kept container_located w (records_at container_codec t p.containers.at p.containers.count) (omega (arith, containers, l.containers, x.container_pairs))
            (omega (arith, n.containers, y.container_pairs));
        diagnostics =
            few_kept diagnostic_located w (records_at diagnostic_codec t p.diagnostics.at p.diagnostics.count) (omega (arith, diagnostics, l.diagnostics, x.diagnostics))
            (omega (arith, n.diagnostics, y.diagnostics));
      }
