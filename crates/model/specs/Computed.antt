-- One name for every definition of the model, so that a proof by computation says `unfolding computed`. Written by
-- tools/computed. It says nothing itself.
use Rattle.std.specs.Prelude.{ℕ}
use mathlib.Core.List.{flatten}
use Rattle.model.specs.Bytes.{word_at, word_bytes}
use Rattle.model.specs.Utf8.{utf8_first, utf8_step, utf8_from, is_between, utf8, is_char_boundary}
use Rattle.model.specs.Offset.{saturating_add, clamp_u32, shift_clamp, shifted, shift_u32}
use Rattle.model.specs.Intern.{rotate_left, fx_step, fx_from, fx_hash, plus_stats, holds, probe, empty_slot, move_slots, grows, table_for, cache_hit, bypass, table_hit, table_alloc, table_call, intern, intern_all}
use Rattle.model.specs.Refusal.{◌>>=◌, refuse◌if◌, number_of}
use Rattle.model.specs.Store.{store_of, string_counts, content_counts, segment_counts, layer_starts, in_one_layer, range_ok, id_ok, resolve_str, resolve_content_range, resolve_seg_range, as_plain, content_range_as_plain, string_span, shown_part}
use Rattle.model.specs.Tape.{operands_at, record_at, operand_bytes, record_bytes, records_at, records_bytes, string_codec, content_codec, segment_codec, node_codec, pair_codec, container_codec, diagnostic_codec, field_table, fields_of, node_fields, tag_counts, unused_zero, body_shape, content_shape, segment_shape, node_shape, pair_shape, diagnostic_shape, layer_shape, book_shape, records_in, count_at, layer_places, layers_from, layers_end, places, framed, string_lengths, pieces, layer_at, layers_at, bytes_needed, book_at, if_shaped, parse, layer_bytes, tape_of, bytes_of}
use Rattle.model.specs.WellFormed.{texts_are_utf8, within_limits, field_ok, content_ok, segment_ok, node_ok, ids_ok, content_segments, field_segments, level_ok, levels_ok, span_ok, ordered, standalone_padding, image_length, span_length, offsets_ok, pair_ok, container_ok, diagnostic_ok, places_ok, images, spans, normalized_length_ok, laid_out, well_formed, check_book, check_reading}
use Rattle.model.specs.Tree.{show_segments, show_contents, show_fields, show_with, show_body, show_node, shown_node, shown_nodes}
use Rattle.model.specs.Graft.{layered, layer_of, graft_str, push_contents, push_segments, graft_node_ref, graft_node_refs, graft_calls, graft_node, graft_fields, graft_contents, graft_segments, tree_calls, fields_calls, contents_calls, segments_calls}
use Rattle.model.specs.Region.{edit_of, edited, behind_edit, edit_ok, depth_behind, depth, nodes_before, nodes_allow_cut, pairs_allow_cut, blank_line_before, safe_cut, region_start, end_cut, region_end, balanced_region, is_whole, region_text, first_plain, is_among, with_plain, depends_from, has_ruby_format_dependency, chosen_region, choose_region}
use Rattle.model.specs.Merge.{output_tape, output_bytes, result_of, new_region_text, balanced_from, balanced_nodes, is_unclosed, is_mark_at, mark_at_empty_region, ruby_bases, introduces_ruby_format_dependency, normalized_offset, change_in_length, window_of, cuts_ok, kept_before, kept_behind, spliced, moved_offset, node_located, shifted_pair, pair_located, container_located, shifted_diagnostic, diagnostic_located, not_behind, insert_diagnostic, sort_diagnostics, merged_normalized, grafted, merged_layers, merged_book, stored_book, answer, fits_room, result_ok, fitting, result_checked, merge_books, merge, fitted, padded, tape_buffer, text_buffer, work_buffer}
use Rattle.model.specs.Once.{on_both_sides, CountedOnce}
use Rattle.model.specs.Estimate.{is_over, length_before, price_of, estimate}
use Rattle.model.specs.Ceiling.{is_short, distinct_short, calls_of, reading_calls}
use Rattle.model.specs.Lookup.{ask_book, diagnostics_allow_incremental, ends_behind, last_of, node_at_source, lookup_str, lookup_str_span, lookup_contents, lookup_segments, copy_book, copy_into, copied_tape, copied_bytes}
use Rattle.model.specs.Runs.{part_lengths, asked, program, digits_before, decimal, line}
use Rattle.model.specs.Demand3.{shown, shown_contents, shown_segments, moved_behind, region_behind, Demand3, cut_behind, cut_moved}
use Rattle.model.specs.Flatten.{flat_graft, flat_book, flat_checked, flatten_book, Flattened}
use Rattle.model.specs.Desk.{desk_ok, charged, merge_for_desk, ledger_after, charges_of, ledger_behind, charges, rereads, own_rereads, DeskTotals}

unfoldable pub computed : ℕ
unfolding flatten word_at word_bytes utf8_first utf8_step utf8_from is_between utf8 is_char_boundary saturating_add clamp_u32 shift_clamp shifted shift_u32 rotate_left fx_step fx_from fx_hash plus_stats holds probe empty_slot move_slots grows table_for cache_hit bypass table_hit table_alloc table_call intern intern_all ◌>>=◌ refuse◌if◌ number_of store_of string_counts content_counts segment_counts layer_starts in_one_layer range_ok id_ok resolve_str resolve_content_range resolve_seg_range as_plain content_range_as_plain string_span shown_part operands_at record_at operand_bytes record_bytes records_at records_bytes string_codec content_codec segment_codec node_codec pair_codec container_codec diagnostic_codec field_table fields_of node_fields tag_counts unused_zero body_shape content_shape segment_shape node_shape pair_shape diagnostic_shape layer_shape book_shape records_in count_at layer_places layers_from layers_end places framed string_lengths pieces layer_at layers_at bytes_needed book_at if_shaped parse layer_bytes tape_of bytes_of texts_are_utf8 within_limits field_ok content_ok segment_ok node_ok ids_ok content_segments field_segments level_ok levels_ok span_ok ordered standalone_padding image_length span_length offsets_ok pair_ok container_ok diagnostic_ok places_ok images spans normalized_length_ok laid_out well_formed check_book check_reading show_segments show_contents show_fields show_with show_body show_node shown_node shown_nodes layered layer_of graft_str push_contents push_segments graft_node_ref graft_node_refs graft_calls graft_node graft_fields graft_contents graft_segments tree_calls fields_calls contents_calls segments_calls edit_of edited behind_edit edit_ok depth_behind depth nodes_before nodes_allow_cut pairs_allow_cut blank_line_before safe_cut region_start end_cut region_end balanced_region is_whole region_text first_plain is_among with_plain depends_from has_ruby_format_dependency chosen_region choose_region output_tape output_bytes result_of new_region_text balanced_from balanced_nodes is_unclosed is_mark_at mark_at_empty_region ruby_bases introduces_ruby_format_dependency normalized_offset change_in_length window_of cuts_ok kept_before kept_behind spliced moved_offset node_located shifted_pair pair_located container_located shifted_diagnostic diagnostic_located not_behind insert_diagnostic sort_diagnostics merged_normalized grafted merged_layers merged_book stored_book answer fits_room result_ok fitting result_checked merge_books merge fitted padded tape_buffer text_buffer work_buffer on_both_sides CountedOnce is_over length_before price_of estimate is_short distinct_short calls_of reading_calls ask_book diagnostics_allow_incremental ends_behind last_of node_at_source lookup_str lookup_str_span lookup_contents lookup_segments copy_book copy_into copied_tape copied_bytes part_lengths asked program digits_before decimal line shown shown_contents shown_segments moved_behind region_behind Demand3 cut_behind cut_moved flat_graft flat_book flat_checked flatten_book Flattened desk_ok charged merge_for_desk ledger_after charges_of ledger_behind charges rereads own_rereads DeskTotals
computed = 0
