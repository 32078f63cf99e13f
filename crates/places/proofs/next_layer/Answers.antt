use Rattle.model.specs.Tape.{layer_places, count_at, string_codec, content_codec, segment_codec}
use Rattle.places.specs.Ends.{strings_end_lem, contents_end, segments_end}
use mathlib.Core.Path.{refl}
use native.Mathlib.Omega.{arith}
use Rattle.places.proofs.next_layer.Goals as goal

pub overflow_mul-contents_at : goal.overflow_mul-contents_at
overflow_mul-contents_at c =
    omega (arith, strings_end_lem _ _ _ c.requires c.count_at-strings.ensures)

pub overflow_add-contents_at-2 : goal.overflow_add-contents_at-2
overflow_add-contents_at-2 c =
    omega (arith, strings_end_lem _ _ _ c.requires c.count_at-strings.ensures)

pub overflow_mul-segments_at : goal.overflow_mul-segments_at
overflow_mul-segments_at c =
    omega (arith, contents_end _ _ _ c.requires c.count_at-strings.ensures _ c.count_at-contents.ensures)

pub overflow_add-segments_at : goal.overflow_add-segments_at
overflow_add-segments_at c =
    omega (arith, contents_end _ _ _ c.requires c.count_at-strings.ensures _ c.count_at-contents.ensures)

pub overflow_mul-result : goal.overflow_mul-result
overflow_mul-result c =
    omega (arith, segments_end _ _ _ c.requires c.count_at-strings.ensures _ c.count_at-contents.ensures _ c.count_at-segments.ensures)

pub overflow_add-result-2 : goal.overflow_add-result-2
overflow_add-result-2 c =
    omega (arith, segments_end _ _ _ c.requires c.count_at-strings.ensures _ c.count_at-contents.ensures _ c.count_at-segments.ensures)

pub returns : goal.returns
unfolding layer_places count_at string_codec content_codec segment_codec
returns c =
    rw (c.count_at-segments.ensures, c.count_at-contents.ensures, c.count_at-strings.ensures) refl
