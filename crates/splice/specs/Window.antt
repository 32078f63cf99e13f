-- The window of a merge as the model has it, and where what lies in each text stands in a part.
use Rattle.std.specs.Prelude.{ℕ, ◌+◌, ◌%◌, pos}
use Rattle.model.specs.Offset.{Span, shifted}
use Rattle.model.specs.Merge.{MergeWindow, moved_offset}
use Rattle.span.specs.Values.{span_of, normalized_span_of}
use Rattle.splice.specs.declared.Window.{Window}
use Rattle.splice.specs.declared.Part.{Part}
use Rattle.splice.specs.declared.Part.TheVariants.{Before, Reading, Behind}

abbrev pub window_value : Window → MergeWindow
window_value w = record {
  source = span_of w.source;
  normalized = normalized_span_of w.normalized;
  source_delta = w.source_delta;
  normalized_delta = w.normalized_delta;
}

unfoldable pub span_in : MergeWindow → Part → Span → Span
span_in w Before s = s
span_in w Reading s = shifted s (pos w.source.start)
span_in w Behind s = shifted s w.source_delta

-- as a word: by its rest where a sum passes 2 to the 32
unfoldable pub normalized_in : MergeWindow → Part → ℕ → ℕ
normalized_in w Before v = v
normalized_in w Reading v = (v + w.normalized.start) % 4294967296
normalized_in w Behind v = moved_offset v w.normalized_delta
