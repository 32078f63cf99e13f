-- The traps of document 01, and the sentences that two readers could take differently (docs/DECISIONS.md): each a theorem by
-- computation that tells the right answer from the wrong one. For each there is a must-fail edit of its definition.
use Rattle.std.specs.Prelude.{◌≡◌, refl, ℕ, suc, ◌*◌, true, false, List, [], ◌∷◌, ◌++◌, map, length, set, replicate}
use Rattle.std.proofs.Math.Option.{Option, none, some}
use Rattle.model.specs.Lists.{tabulate, ascii}
use Rattle.model.specs.Limits.{no_string}
use Rattle.model.specs.Offset.{Span}
use Rattle.model.specs.Intern.{InternStats, StrInterner, Interned, fresh_interner, intern, intern_all}
use Rattle.model.specs.Types.{Body, Content, Segment, Layer, SourceNode, PairLink, ContainerPair, Diagnostic, LexOutput, RegionOutput}
use Rattle.model.specs.Refusal.{Checked, Checked.refused, Checked.accepted, ◌>>=◌, number_of}
use Rattle.model.specs.Tape.{parse, tape_of, bytes_of}
use Rattle.model.specs.WellFormed.{check_book, check_reading}
use Rattle.model.specs.Tree.{shown_nodes}
use Rattle.model.specs.Graft.{NewLayer, layered, graft_node_refs, graft_calls}
use Rattle.model.specs.Region.{Edit, choose_region}
use Rattle.model.specs.Merge.{Stored, Room, IncrementalOutput, stored_book, grafted, window_of, merge}
use Rattle.model.specs.Estimate.{Estimate, is_over, price_of, estimate}
use Rattle.model.specs.Ceiling.{distinct_short, reading_calls}
use Rattle.model.specs.Desk.{zero_ledger, merge_for_desk, ledger_after, ledger_behind, charges, rereads, own_rereads, DeskCall, desk_of_call, desk_answer}
use Rattle.model.specs.Flatten.{flatten_book}
use Rattle.model.specs.Lookup.{lookup_str}
use Rattle.model.specs.Runs.{program, program_room}
use Rattle.model.specs.Examples.{marked_book, plain_book, edit, region_in, region, ruby_reading, input}
use Rattle.model.specs.Computed.{computed}

-- ---- small books

abbrev span : ℕ → ℕ → Span
span start end = record { start = start; end = end }

-- a body with no plain words
abbrev body : ℕ → ℕ → List ℕ → Body
body kind tag words = record { kind = kind; tag = tag; plain1 = 0; plain2 = 0; words = words }

-- six words, the first two of them given
abbrev words : ℕ → ℕ → List ℕ
words a b = a ∷ b ∷ 0 ∷ 0 ∷ 0 ∷ 0 ∷ []

abbrev plain_content : ℕ → Content
plain_content id = record { tag = 0; first = id; second = 0 }

abbrev layer_of : List (List ℕ) → List Content → List Segment → Layer
layer_of strings contents segments = record { strings = strings; contents = contents; segments = segments }

-- the text "a" as one Inline node
abbrev one_node : List Layer → Body → LexOutput
one_node layers b = record {
  sanitized = ascii "a";
  normalized = 0xee ∷ 0x80 ∷ 0x81 ∷ [];
  layers = layers;
  source_nodes = record { class = 0; inline = 0; source_span = span 0 1; normalized_offset = 0; body = b } ∷ [];
  pairs = [];
  container_pairs = [];
  diagnostics = [];
}

-- the number of a book, 0 where it is accepted
abbrev number : LexOutput → ℕ
number b = number_of (check_book (tape_of b) (bytes_of b))

-- "aa\n\nbb\n\ncc" with these lists
abbrev three_with : List PairLink → List ContainerPair → List Diagnostic → LexOutput
three_with pairs containers diagnostics = record {
  sanitized = ascii "aa\n\nbb\n\ncc";
  normalized = ascii "aa\n\nbb\n\ncc";
  layers = layer_of [] [] [] ∷ [];
  source_nodes = [];
  pairs = pairs;
  container_pairs = containers;
  diagnostics = diagnostics;
}

-- the reading "xb\n\n" without nodes, with these diagnostics
abbrev plain_reading : List Diagnostic → RegionOutput
plain_reading = marked_book (ascii "xb\n\n")

abbrev read_back : Checked IncrementalOutput → Option LexOutput
read_back (refused n) = none
read_back (accepted m) = parse m.output.tape m.output.bytes

-- the book that P4's edit, 4..5 with "x", makes of a book and a reading, read back from its tape
abbrev merged : LexOutput → RegionOutput → Option LexOutput
merged old reading = read_back (merge (stored_book old) (edit 4 5) (stored_book reading) program_room)

abbrev field : {A : Type 0} → (LexOutput → A) → A → Option LexOutput → A
field f none-answer none = none-answer
field f none-answer (some b) = f b

-- ---- traps

-- 224 entries of one byte
abbrev full : StrInterner
full = intern_all fresh_interner (tabulate 224 (λ i. i ∷ []))

-- slots, resizes, table hits and id of an answer
abbrev numbers : Interned → List ℕ
numbers r = length r.state.table ∷ r.state.stats.resizes ∷ r.state.stats.table_hits ∷ r.id ∷ []

-- Growing only on a miss: growth is tested before probing, even for a string already there. 224 entries, then one older than
-- the last, grows to 512 slots, as one resize.
pub grows_before_probing : (length full.table ≡ 256) × (numbers (intern full (0 ∷ [])) ≡ 512 ∷ 1 ∷ 1 ∷ 0 ∷ [])
unfolding computed
grows_before_probing = (refl, refl)

-- a Gaiji, Unresolved, with hint "h" and mencode "m"
abbrev gaiji : LexOutput
gaiji = one_node (layer_of (ascii "h" ∷ ascii "m" ∷ []) [] [] ∷ []) (body 3 2 (words 0 1))

-- Hint before mencode: mencode is grafted first.
pub mencode_before_hint : (graft_node_refs (shown_nodes gaiji) (layered [])).1.interner.strings ≡ ascii "m" ∷ ascii "h" ∷ []
unfolding computed
mencode_before_hint = refl

-- a Kaeriten with mark "x", which has id 1
abbrev kaeriten : LexOutput
kaeriten = one_node (layer_of (ascii "y" ∷ ascii "x" ∷ []) [] [] ∷ []) (body 12 0 (words 1 0))

-- Looking for strings in older layers: a new layer never finds them. The "x" of the layer below has id 1, the new one 2.
pub older_strings_not_found :
    ((graft_node_refs (shown_nodes kaeriten) (layered kaeriten.layers)).1.interner.strings ≡ ascii "x" ∷ [])
    × (map (λ (n : SourceNode). n.body.words) (graft_node_refs (shown_nodes kaeriten) (layered kaeriten.layers)).0 ≡ words 2 0 ∷ [])
unfolding computed
older_strings_not_found = (refl, refl)

abbrev container : ℕ → ℕ → ContainerPair
container opening closing = record { plain = 7; opening = opening; closing = closing }

-- Taking a container whose close equals the normalized start: it is dropped; one that closes before it is kept, one that opens
-- at the normalized end moves.
pub container_at_the_start_dropped :
    field (λ b. b.container_pairs) [] (merged (three_with [] (container 1 3 ∷ container 1 4 ∷ container 7 9 ∷ container 8 9 ∷ []) []) (plain_reading []))
    ≡ container 1 3 ∷ container 8 9 ∷ []
unfolding computed
container_at_the_start_dropped = refl

-- ---- sentences that could be read twice

-- two layers with one content each
abbrev two_layers : ℕ → ℕ → LexOutput
two_layers start len =
    one_node (layer_of (ascii "s" ∷ []) (plain_content 0 ∷ []) [] ∷ layer_of (ascii "t" ∷ []) (plain_content 1 ∷ []) [] ∷ []) (body 9 0 (words start len))

-- A range of length 0 may start anywhere up to the pool's count, also between layers; one across layers is 4.
pub empty_range_between_layers : (number (two_layers 1 0) ≡ 0) × (number (two_layers 2 0) ≡ 0) × (number (two_layers 3 0) ≡ 4) × (number (two_layers 0 2) ≡ 4) × (number (two_layers 1 1) ≡ 0)
unfolding computed
empty_range_between_layers = (refl, refl, refl, refl, refl)

-- an Illustration: file, number, dimensions, description, no caption
abbrev illustration : ℕ → ℕ → LexOutput
illustration file number = one_node (layer_of (ascii "f" ∷ []) [] [] ∷ []) (body 11 0 (file ∷ number ∷ no_string ∷ no_string ∷ 0 ∷ 0 ∷ []))

-- 0xFFFFFFFF where an id may not be missing is 4.
pub missing_where_it_may_not : (number (illustration 0 no_string) ≡ 0) × (number (illustration no_string 0) ≡ 4)
unfolding computed
missing_where_it_may_not = (refl, refl)

-- a Heading whose one content is one text segment of this level
abbrev text_segment : ℕ → LexOutput
text_segment level =
    one_node (layer_of (ascii "s" ∷ []) (record { tag = 1; first = 0; second = 1 } ∷ []) (record { tag = 0; level = level; body = body 0 0 (words 0 0) } ∷ []) ∷ [])
    (body 9 0 (words 0 1))

-- A level byte of 1 in a text segment is 5, and no fault of the layout.
pub level_of_a_text_segment : (number (text_segment 0) ≡ 0) × (number (text_segment 1) ≡ 5)
unfolding computed
level_of_a_text_segment = (refl, refl)

-- the region of an edit of plain text, with its replacement
abbrev region_over : List ℕ → ℕ → ℕ → List ℕ → Checked Span
region_over text start end replacement = region_in text (record { start = start; end = end; replacement = replacement })

-- The end cut lies behind the edit's end: it is the newline that is at or behind it. The first replacement ends in a blank line, so
-- that the edit's end itself would pass as an end cut.
pub end_behind_the_edit : (region_over (ascii "aa\n\nbb\n\ncc") 4 4 (ascii "x\n\n") ≡ region 4 8) × (region_in (ascii "aa\n\nbb\n\ncc") (edit 10 10) ≡ region 8 10)
unfolding computed
end_behind_the_edit = (refl, refl)

-- the reading "xb\n\n" as one BlockOpen and one BlockClose, both inline
abbrev block_reading : RegionOutput
block_reading = record {
  sanitized = ascii "xb\n\n";
  normalized = 0xee ∷ 0x80 ∷ 0x81 ∷ 0xee ∷ 0x80 ∷ 0x82 ∷ 0x0a ∷ 0x0a ∷ [];
  layers = layer_of [] [] [] ∷ [];
  source_nodes = record { class = 2; inline = 1; source_span = span 0 1; normalized_offset = 0; body = body 0 0 (words 0 0) }
      ∷ record { class = 3; inline = 1; source_span = span 1 2; normalized_offset = 3; body = body 0 0 (words 0 0) } ∷ [];
  pairs = [];
  container_pairs = [];
  diagnostics = [];
}

-- A reading of only BlockOpen and BlockClose adds a layer, an empty one; a reading with no nodes adds none.
pub layer_of_blocks :
    (field (λ b. length b.layers) 0 (merged (three_with [] [] []) block_reading) ≡ 2)
    × (field (λ b. length b.layers) 0 (merged (three_with [] [] []) (plain_reading [])) ≡ 1)
unfolding computed
layer_of_blocks = (refl, refl)

abbrev diagnostic : ℕ → ℕ → ℕ → Diagnostic
diagnostic start end plain = record { kind = 0; code_rank = 3; span = span start end; plain = plain }

-- Equal diagnostic keys keep their order, those of the book and those of the reading; old lists need not be sorted.
pub equal_keys_keep_their_order :
    field (λ b. b.diagnostics) []
    (merged (three_with [] [] (diagnostic 9 10 1 ∷ diagnostic 8 9 2 ∷ diagnostic 0 1 3 ∷ diagnostic 8 9 4 ∷ [])) (plain_reading (diagnostic 0 1 5 ∷ diagnostic 0 1 6 ∷ [])))
    ≡ diagnostic 0 1 3 ∷ diagnostic 4 5 5 ∷ diagnostic 4 5 6 ∷ diagnostic 8 9 2 ∷ diagnostic 8 9 4 ∷ diagnostic 9 10 1 ∷ []
unfolding computed
equal_keys_keep_their_order = refl

-- a pair of one byte each
abbrev pair : ℕ → ℕ → PairLink
pair opening closing = record { kind = 0; opening = span opening (suc opening); closing = span closing (suc closing) }

abbrev region_with : LexOutput → Checked Span
region_with b = choose_region (tape_of b) (bytes_of b) (edit 4 5)

-- A pair that ends exactly at a cut does not lie across it; one byte more does.
pub pair_up_to_the_cut : (region_with (three_with (pair 0 3 ∷ []) [] []) ≡ region 4 8) × (region_with (three_with (pair 0 4 ∷ []) [] []) ≡ region 0 8)
unfolding computed
pair_up_to_the_cut = (refl, refl)

-- "a\n\nb" with a BlockClose on the "a": the depth falls below 0, which counts as 0
abbrev closes_first : LexOutput
closes_first = record {
  sanitized = ascii "a\n\nb";
  normalized = 0xee ∷ 0x80 ∷ 0x81 ∷ 0x0a ∷ 0x0a ∷ 0x62 ∷ [];
  layers = layer_of [] [] [] ∷ [];
  source_nodes = record { class = 3; inline = 1; source_span = span 0 1; normalized_offset = 0; body = body 0 0 (words 0 0) } ∷ [];
  pairs = [];
  container_pairs = [];
  diagnostics = [];
}

pub depth_below_zero : choose_region (tape_of closes_first) (bytes_of closes_first) (edit 3 4) ≡ region 3 4
unfolding computed
depth_below_zero = refl

-- Wish 1. "x" over the first of two newlines leaves one before the moved cut. P7's text has no later cut, which is 11. P7 stays
-- (Examples), since its newline leaves two.
pub blank_line_lost : region_over (ascii "aa\n\nbb") 2 3 (ascii "x") ≡ refused 11
unfolding computed
blank_line_lost = refl

-- Wish 1. Where there is a later cut the search goes on to it: the first of two newlines overwritten or taken away, a letter put between
-- the two, two of three newlines taken away, and one of three at the text's start, where only one byte is left before the first cut.
pub later_cut_taken :
    (region_over (ascii "aa\n\nbb\n\ncc") 2 3 (ascii "x") ≡ region 0 8)
    × (region_over (ascii "aa\n\nbb\n\ncc") 2 3 [] ≡ region 0 8)
    × (region_over (ascii "aa\n\nbb\n\ncc") 3 3 (ascii "x") ≡ region 0 8)
    × (region_over (ascii "a\n\n\nbb\n\nc") 1 3 [] ≡ region 0 8)
    × (region_over (ascii "\n\n\nbb") 0 1 [] ≡ region 0 3)
unfolding computed
later_cut_taken = (refl, refl, refl, refl, refl)

-- Wish 1. A replacement that ends in a newline leaves two before the moved cut; so does one newline of three taken away.
pub blank_line_survives :
    (region_over (ascii "aa\n\nbb\n\ncc") 2 3 (ascii "x\n") ≡ region 0 4)
    × (region_over (ascii "aa\n\nbb\n\ncc") 1 3 (ascii "\n") ≡ region 0 4)
    × (region_over (ascii "a\n\n\nbb\n\nc") 2 3 [] ≡ region 0 4)
unfolding computed
blank_line_survives = (refl, refl, refl)

-- Wish 1. The text's end needs no blank line, neither in the old text nor in the new one.
pub text_end_stays :
    (region_over (ascii "aa\n\nbb\n\n") 6 7 (ascii "x") ≡ region 4 8) × (region_over (ascii "aa\n\nbb\n") 5 6 (ascii "x") ≡ region 4 7)
unfolding computed
text_end_stays = (refl, refl)

-- Wish 1. Passages that a correction joins are read as one: the region is 0..8, and the reading of 0..4 alone is refused with 12.
pub joined_passages :
    (number_of (merge (stored_book (three_with [] [] [])) (edit 2 3) (stored_book (plain_book (ascii "aax\n"))) program_room) ≡ 12)
    × (number_of (merge (stored_book (three_with [] [] [])) (edit 2 3) (stored_book (plain_book (ascii "aax\nbb\n\n"))) program_room) ≡ 0)
unfolding computed
joined_passages = (refl, refl)

-- 16384 work words are asked for also where nothing is grafted.
pub work_words_always :
    (number_of (merge (stored_book (three_with [] [] [])) (edit 4 5) (stored_book (plain_reading [])) (record { tape_bytes = 65536; text_bytes = 65536; work_words = 16384 })) ≡ 0)
    × (number_of (merge (stored_book (three_with [] [] [])) (edit 4 5) (stored_book (plain_reading [])) (record { tape_bytes = 65536; text_bytes = 65536; work_words = 16383 })) ≡ 18)
unfolding computed
work_words_always = (refl, refl)

-- A reading has exactly one layer: another count is 1, where a book of two layers is accepted.
pub reading_of_two_layers : (number (two_layers 0 1) ≡ 0) × (number_of (check_reading (tape_of (two_layers 0 1)) (bytes_of (two_layers 0 1))) ≡ 1)
unfolding computed
reading_of_two_layers = (refl, refl)

-- The program: fewer than seven words are 1; then a part over 65536 bytes is 3; then surplus input is 1.
pub program_input :
    (number_of (program (replicate 27 255)) ≡ 1) × (number_of (program (replicate 28 255)) ≡ 3)
    × (number_of (program (input (plain_book (ascii "aa\n\nbb\n\ncc")) (edit 4 5) ruby_reading ++ (0 ∷ []))) ≡ 1)
unfolding computed
program_input = (refl, refl, refl)

-- ---- wish 2

-- "aa\n\nbb\n\ncc" with these layers and this normalized text, without nodes
abbrev layers_with : List ℕ → List Layer → LexOutput
layers_with normalized layers = record {
  sanitized = ascii "aa\n\nbb\n\ncc";
  normalized = normalized;
  layers = layers;
  source_nodes = [];
  pairs = [];
  container_pairs = [];
  diagnostics = [];
}

-- the estimate of P4's edit
abbrev priced : LexOutput → RegionOutput → Checked Estimate
priced old reading = estimate (stored_book old) (edit 4 5) (stored_book reading)

abbrev price : ℕ → ℕ → ℕ → ℕ → ℕ → Estimate
price nodes calls contents segments bytes = record { reparsed_nodes = nodes; calls = calls; contents = contents; segments = segments; byte_length = bytes }

-- Wish 2. The strings of all old layers are in the byte buffer beside both texts; the reading's strings are the new layer's. Without nodes
-- the four counts are 0.
pub old_strings_priced :
    (priced (layers_with (ascii "aa\n\nbb\n\ncc") (layer_of (ascii "old" ∷ []) [] [] ∷ layer_of (ascii "er" ∷ []) [] [] ∷ [])) ruby_reading ≡ accepted (price 1 2 2 0 26))
    × (priced (three_with [] [] []) (plain_reading []) ≡ accepted (price 0 0 0 0 20))
unfolding computed
old_strings_priced = (refl, refl)

-- Wish 2. 1048575 is not over, for none of the three; one more is, for each.
pub over_by_one_of_three :
    (is_over 1048575 1048575 1048575 ≡ false) × (is_over 1048576 0 0 ≡ true) × (is_over 0 1048576 0 ≡ true) × (is_over 0 0 1048576 ≡ true)
unfolding computed
over_by_one_of_three = (refl, refl, refl, refl)

-- 1048576 calls, two contents, no segment
abbrev many_calls : LexOutput → RegionOutput → Estimate
many_calls old reading =
    let g = (grafted old reading).1 in
    let stats : InternStats = record { calls = 1048576; cache_hits = 0; table_hits = 0; allocs = 0; long_bypass = 0; resizes = 0; probe_steps = 0 } in
    let state : StrInterner = record { strings = []; table = []; occupied = 0; last = 0; stats = stats } in
    let made : NewLayer = record { string_offset = 0; content_offset = 0; segment_offset = 0; interner = state; contents = g.contents; segments = g.segments } in
    price_of old (edit 4 5) reading (window_of old (edit 4 5) reading (span 4 8)) ([], made)

-- Wish 2. Over by one, all three are given as over; nodes and length stay as they are.
pub over_for_all_three : many_calls (three_with [] [] []) ruby_reading ≡ price 1 1048576 1048576 1048576 21
unfolding computed
over_for_all_three = refl

-- the same text, its normalized form with a character across the cut at 4
abbrev bad_cut : List ℕ
bad_cut = ascii "aa\n" ++ (0xee ∷ 0x80 ∷ 0x81 ∷ ascii "\n\ncc")

abbrev layers_of : ℕ → List Layer
layers_of n = replicate n (layer_of [] [] [])

-- Wish 2. 16 and 17 come as the merge gives them, 16 first; a reading without nodes needs no layer.
pub sixteen_before_seventeen :
    (priced (layers_with bad_cut (layers_of 32)) ruby_reading ≡ refused 16)
    × (priced (layers_with (ascii "aa\n\nbb\n\ncc") (layers_of 32)) ruby_reading ≡ refused 17)
    × (priced (layers_with (ascii "aa\n\nbb\n\ncc") (layers_of 32)) (plain_reading []) ≡ accepted (price 0 0 0 0 20))
unfolding computed
sixteen_before_seventeen = (refl, refl, refl)

-- calls, probes and m of a list of calls on a fresh layer
abbrev probed : List (List ℕ) → List ℕ
probed ss =
    let counts = (intern_all fresh_interner ss).stats in
    counts.calls ∷ counts.probe_steps ∷ distinct_short ss ∷ []

-- Wish 7. m counts a string of 64 bytes and none of 65. The first is at its ceiling, and without m there is no probe.
pub ceiling_at_the_limit : (probed (replicate 64 97 ∷ []) ≡ 1 ∷ 1 ∷ 1 ∷ []) × (probed (replicate 65 97 ∷ replicate 65 98 ∷ []) ≡ 2 ∷ 0 ∷ 0 ∷ [])
unfolding computed
ceiling_at_the_limit = (refl, refl)

-- nine strings that share one slot: of zero bytes, whose hash is 0
abbrev one_slot : List (List ℕ)
one_slot = tabulate 9 (λ k. replicate k 0)

-- Wish 7. The k-th of them inspects k slots, the first time with the empty one: the ninth is at the ceiling of a call, m.
pub ceiling_of_one_slot : (probed one_slot ≡ 9 ∷ 45 ∷ 9 ∷ []) × (probed (one_slot ++ one_slot) ≡ 18 ∷ 90 ∷ 9 ∷ [])
unfolding computed
ceiling_of_one_slot = (refl, refl)

-- Wish 7. Growth's moves are not counted: 224 entries of one probe each, then one that is there, found at once in 512 slots.
pub growth_not_counted : probed (tabulate 224 (λ i. i ∷ []) ++ ((0 ∷ []) ∷ [])) ≡ 225 ∷ 225 ∷ 224 ∷ []
unfolding computed
growth_not_counted = refl

-- Wish 7. The list is the one that grafting makes, in its order; what is no reading makes none.
pub calls_in_order :
    (graft_calls (shown_nodes gaiji) ≡ ascii "m" ∷ ascii "h" ∷ [])
    × (reading_calls (stored_book ruby_reading) ≡ ascii "x" ∷ ascii "b" ∷ [])
    × (reading_calls (stored_book (two_layers 0 1)) ≡ [])
unfolding computed
calls_in_order = (refl, refl, refl)

-- P5's correction of a book, merged for a desk: the number, then the ledger behind it
abbrev for_desk : ℕ → List ℕ → Stored → RegionOutput → Room → List ℕ
for_desk desk ledger book reading room =
    let asked = merge_for_desk desk ledger book (record { edit = edit 4 5; reading = stored_book reading }) room in
    number_of asked ∷ ledger_after ledger asked

abbrev p5_book : Stored
p5_book = stored_book (three_with [] [] [])

-- no tape, so number 1
abbrev no_book : Stored
no_book = record { tape = []; bytes = [] }

-- Wish 4. Desks are 0 to 63 and a ledger has exactly 64 totals; 19 before the old book's 1.
pub nineteen_before_one :
    (for_desk 63 zero_ledger no_book ruby_reading program_room ≡ 1 ∷ zero_ledger)
    × (for_desk 64 zero_ledger no_book ruby_reading program_room ≡ 19 ∷ zero_ledger)
    × (for_desk 0 (replicate 63 0) no_book ruby_reading program_room ≡ 19 ∷ replicate 63 0)
    × (for_desk 0 (replicate 65 0) no_book ruby_reading program_room ≡ 19 ∷ replicate 65 0)
unfolding computed
nineteen_before_one = (refl, refl, refl, refl)

-- all totals at 4294967295
abbrev full_ledger : List ℕ
full_ledger = replicate 64 4294967295

-- Wish 4. A total may be 4294967295, and all others stay; one more is 20, and then all stay. A reading without nodes adds 0. 18 goes before 20.
pub full_at_the_limit :
    (for_desk 63 (set full_ledger 63 4294967294) p5_book ruby_reading program_room ≡ 0 ∷ full_ledger)
    × (for_desk 63 full_ledger p5_book ruby_reading program_room ≡ 20 ∷ full_ledger)
    × (for_desk 63 full_ledger p5_book (plain_reading []) program_room ≡ 0 ∷ full_ledger)
    × (for_desk 63 full_ledger p5_book ruby_reading (record { tape_bytes = 5; text_bytes = 65536; work_words = 16384 }) ≡ 18 ∷ full_ledger)
unfolding computed
full_at_the_limit = (refl, refl, refl, refl)

-- a call of P5's correction
abbrev desk_call : ℕ → Stored → DeskCall
desk_call desk book = record { desk = desk; book = book; correction = record { edit = edit 4 5; reading = stored_book ruby_reading }; room = program_room }

-- Wish 4. Each desk has its own rereads, and a refused merge adds to none.
pub invoice_of_two_desks :
    let calls : List DeskCall = desk_call 3 p5_book ∷ desk_call 0 p5_book ∷ desk_call 3 no_book ∷ desk_call 3 p5_book ∷ [] in
    let charged_for = charges desk_of_call desk_answer zero_ledger calls in
    (ledger_behind desk_of_call desk_answer zero_ledger calls ≡ set (set zero_ledger 0 1) 3 2)
    × (own_rereads 3 charged_for ∷ own_rereads 0 charged_for ∷ own_rereads 1 charged_for ∷ rereads charged_for ∷ [] ≡ 2 ∷ 1 ∷ 0 ∷ 3 ∷ [])
unfolding computed
invoice_of_two_desks = (refl, refl)

-- ---- wish 5

abbrev mark : ℕ → ℕ → Diagnostic
mark place plain = diagnostic place place plain

-- "a" behind an Inline node of no width
abbrev empty_node : LexOutput
empty_node = record {
  sanitized = ascii "a";
  normalized = 0xee ∷ 0x80 ∷ 0x81 ∷ ascii "a";
  layers = layer_of (ascii "x" ∷ []) [] [] ∷ [];
  source_nodes = record { class = 0; inline = 0; source_span = span 0 0; normalized_offset = 0; body = body 12 0 (words 0 0) } ∷ [];
  pairs = [];
  container_pairs = [];
  diagnostics = [];
}

-- Wish 5. A mark of no width may lie at 0, at the text's end, and in a text of no bytes; one byte behind the end, or start behind
-- end, is 6. A pair and a node of no width stay 6.
pub marks_well_formed :
    (number (marked_book (ascii "aa\n\nbb") (mark 0 1 ∷ mark 4 2 ∷ mark 6 3 ∷ [])) ≡ 0) × (number (marked_book [] (mark 0 1 ∷ [])) ≡ 0)
    × (number (marked_book (ascii "aa\n\nbb") (mark 7 1 ∷ [])) ≡ 6) × (number (marked_book (ascii "aa\n\nbb") (diagnostic 3 2 1 ∷ [])) ≡ 6)
    × (number (three_with (record { kind = 0; opening = span 1 1; closing = span 2 3 } ∷ []) [] []) ≡ 6) × (number empty_node ≡ 6)
unfolding computed
marks_well_formed = (refl, refl, refl, refl, refl, refl)

-- the merged diagnostics, or the number
abbrev merged_diagnostics : LexOutput → Edit → RegionOutput → Checked (List Diagnostic)
merged_diagnostics old e reading = do
  m ← merge (stored_book old) e (stored_book reading) program_room
  accepted (field (λ b. b.diagnostics) [] (parse m.output.tape m.output.bytes))

-- Wish 5. Region 4..8: a mark at 4 counts as before it, one at 5 is dropped, one at 8 counts as behind. Marks with equal keys meet at
-- both cuts, in the order before, the reading's, behind.
pub marks_at_the_cuts :
    merged_diagnostics (marked_book (ascii "aa\n\nbb\n\ncc") (mark 8 1 ∷ mark 5 2 ∷ mark 4 3 ∷ mark 10 4 ∷ [])) (edit 4 5) (plain_reading (mark 4 5 ∷ mark 0 6 ∷ []))
    ≡ accepted (mark 4 3 ∷ mark 4 6 ∷ mark 8 5 ∷ mark 8 1 ∷ mark 10 4 ∷ [])
unfolding computed
marks_at_the_cuts = refl

-- Wish 5. Marks at 0 and at the text's end are kept, also where the region reaches there: 0..4, and 4..6.
pub marks_at_the_ends :
    (merged_diagnostics (marked_book (ascii "aa\n\nbb") (mark 6 1 ∷ mark 0 2 ∷ [])) (edit 0 0) (plain_book (ascii "xaa\n\n")) ≡ accepted (mark 0 2 ∷ mark 7 1 ∷ []))
    × (merged_diagnostics (marked_book (ascii "aa\n\nbb") (mark 6 1 ∷ mark 0 2 ∷ [])) (edit 6 6) (plain_book (ascii "bbx")) ≡ accepted (mark 0 2 ∷ mark 7 1 ∷ []))
unfolding computed
marks_at_the_ends = (refl, refl)

-- Wish 5. A passage taken away: the marks at both its ends and the reading's meet at one place.
pub marks_meet :
    merged_diagnostics (marked_book (ascii "aa\n\nbb") (mark 6 1 ∷ mark 5 2 ∷ mark 4 3 ∷ [])) (record { start = 4; end = 6; replacement = [] }) (marked_book [] (mark 0 4 ∷ []))
    ≡ accepted (mark 4 3 ∷ mark 4 4 ∷ mark 4 1 ∷ [])
unfolding computed
marks_meet = refl

-- "aa\n" with these diagnostics, the first "a" a Kaeriten, so that the normalized text is longer
abbrev ends_later : List Diagnostic → LexOutput
ends_later diagnostics = record {
  sanitized = ascii "aa\n";
  normalized = 0xee ∷ 0x80 ∷ 0x81 ∷ ascii "a\n";
  layers = kaeriten.layers;
  source_nodes = kaeriten.source_nodes;
  pairs = [];
  container_pairs = [];
  diagnostics = diagnostics;
}

-- Wish 5. A mark of no width at an empty region is 14, of whichever kind, and by its place in the text. A mark elsewhere is none, nor is
-- a diagnostic with a width that ends there.
pub mark_at_an_empty_region :
    (merged_diagnostics (marked_book (ascii "aa\n") (mark 3 1 ∷ [])) (edit 3 3) (plain_book (ascii "x")) ≡ refused 14)
    × (merged_diagnostics (marked_book (ascii "aa\n") (record { kind = 3; code_rank = 0; span = span 3 3; plain = 1 } ∷ [])) (edit 3 3) (plain_book (ascii "x")) ≡ refused 14)
    × (merged_diagnostics (ends_later (mark 3 1 ∷ [])) (edit 3 3) (plain_book (ascii "x")) ≡ refused 14)
    × (merged_diagnostics (marked_book (ascii "aa\n") (mark 2 1 ∷ [])) (edit 3 3) (marked_book (ascii "x") (mark 1 2 ∷ mark 0 3 ∷ [])) ≡ accepted (mark 2 1 ∷ mark 3 3 ∷ mark 4 2 ∷ []))
    × (merged_diagnostics (marked_book (ascii "aa\n") (diagnostic 2 3 1 ∷ [])) (edit 3 3) (plain_book (ascii "x")) ≡ accepted (diagnostic 2 3 1 ∷ []))
unfolding computed
mark_at_an_empty_region = (refl, refl, refl, refl, refl)

-- "aa\n" in 32 layers, with a mark at its end
abbrev full_marked : LexOutput
full_marked = record {
  sanitized = ascii "aa\n";
  normalized = ascii "aa\n";
  layers = layers_of 32;
  source_nodes = [];
  pairs = [];
  container_pairs = [];
  diagnostics = mark 3 1 ∷ [];
}

-- the text "a" as a BlockOpen that nothing closes
abbrev open_reading : RegionOutput
open_reading = record {
  sanitized = ascii "a";
  normalized = 0xee ∷ 0x80 ∷ 0x81 ∷ [];
  layers = layers_of 1;
  source_nodes = record { class = 2; inline = 1; source_span = span 0 1; normalized_offset = 0; body = body 0 0 (words 0 0) } ∷ [];
  pairs = [];
  container_pairs = [];
  diagnostics = [];
}

-- Wish 5. At an empty region with a mark 12 and 13 go before 14, and 17 behind it.
pub fourteen_in_its_place :
    let insert : Edit = record { start = 3; end = 3; replacement = ascii "a" } in
    (merged_diagnostics full_marked insert (plain_book (ascii "y")) ≡ refused 12) × (merged_diagnostics full_marked insert open_reading ≡ refused 13)
    × (merged_diagnostics full_marked insert kaeriten ≡ refused 14)
unfolding computed
fourteen_in_its_place = (refl, refl, refl)

-- ---- wish 6

-- a book, flat, read back from its tape
abbrev flat : LexOutput → Checked LexOutput
flat book = do
  made ← flatten_book (stored_book book) program_room
  check_book made.tape made.bytes

abbrev flat_number : LexOutput → Room → ℕ
flat_number book room = number_of (flatten_book (stored_book book) room)

abbrev kaeriten_at : ℕ → ℕ → SourceNode
kaeriten_at place id = record { class = 0; inline = 0; source_span = span place (suc place); normalized_offset = 3 * place; body = body 12 0 (words id 0) }

-- "abc" as three Kaeriten with these marks
abbrev three_marks : List Layer → ℕ → ℕ → ℕ → LexOutput
three_marks layers a b c = record {
  sanitized = ascii "abc";
  normalized = 0xee ∷ 0x80 ∷ 0x81 ∷ 0xee ∷ 0x80 ∷ 0x81 ∷ 0xee ∷ 0x80 ∷ 0x81 ∷ [];
  layers = layers;
  source_nodes = kaeriten_at 0 a ∷ kaeriten_at 1 b ∷ kaeriten_at 2 c ∷ [];
  pairs = [];
  container_pairs = [];
  diagnostics = [];
}

-- the first's mark, "z", in the upper layer, the second's, "x", in the lower, the third's, "x" again, in the upper
abbrev two_layers_named : LexOutput
two_layers_named = three_marks (layer_of (ascii "y" ∷ ascii "x" ∷ []) (plain_content 0 ∷ []) [] ∷ layer_of (ascii "z" ∷ ascii "x" ∷ []) [] [] ∷ []) 2 1 3

-- Wish 6. Strings stand in the order in which the nodes name them; what no node names is gone, of a book of one layer too; equal strings of at
-- most 64 bytes are one.
pub nothing_unreachable :
    (flat two_layers_named ≡ accepted (three_marks (layer_of (ascii "z" ∷ ascii "x" ∷ []) [] [] ∷ []) 0 1 1))
    × (flat kaeriten ≡ accepted (one_node (layer_of (ascii "x" ∷ []) [] [] ∷ []) (body 12 0 (words 0 0))))
unfolding computed
nothing_unreachable = (refl, refl)

-- a string of n letters, named with another one between
abbrev named_twice : ℕ → LexOutput
named_twice n = three_marks (layer_of (replicate n 97 ∷ ascii "x" ∷ []) [] [] ∷ []) 0 1 0

-- Wish 6. A string of more than 64 bytes is interned anew each time it is named, but right behind itself.
pub long_string_stands_twice :
    (flat (named_twice 64) ≡ accepted (named_twice 64))
    × (flat (named_twice 65) ≡ accepted (three_marks (layer_of (replicate 65 97 ∷ ascii "x" ∷ replicate 65 97 ∷ []) [] [] ∷ []) 0 1 2))
unfolding computed
long_string_stands_twice = (refl, refl)

-- a Ruby whose reading begins at this content; its base is the first
abbrev one_ruby : ℕ → List Content → LexOutput
one_ruby second cs = one_node (layer_of (ascii "x" ∷ []) cs [] ∷ []) (body 1 0 (0 ∷ 1 ∷ second ∷ 1 ∷ 0 ∷ 0 ∷ []))

-- Wish 6. Trees are grafted and not pools: a run that two fields share stands twice.
pub shared_run_stands_twice : flat (one_ruby 0 (plain_content 0 ∷ [])) ≡ accepted (one_ruby 1 (plain_content 0 ∷ plain_content 0 ∷ []))
unfolding computed
shared_run_stands_twice = refl

-- Wish 6. References given out before end with the flattening: of the numbers 0 to 3 one shows another string, and two show none.
pub ids_end :
    let shows : LexOutput → List (Option (List ℕ)) = λ b. map (lookup_str b) (0 ∷ 1 ∷ 2 ∷ 3 ∷ []) in
    (shows two_layers_named ≡ some (ascii "y") ∷ some (ascii "x") ∷ some (ascii "z") ∷ some (ascii "x") ∷ [])
    × (flat two_layers_named >>= (λ b. accepted (shows b)) ≡ accepted (some (ascii "z") ∷ some (ascii "x") ∷ none ∷ none ∷ []))
unfolding computed
ids_end = (refl, refl)

-- Wish 6. A book without nodes keeps one empty layer, and its diagnostics the order in which they stood.
pub one_empty_layer :
    flat (marked_book (ascii "aa\n\nbb") (mark 4 2 ∷ mark 0 1 ∷ [])) ≡ accepted (marked_book (ascii "aa\n\nbb") (mark 4 2 ∷ mark 0 1 ∷ []))
    × (flat (layers_with (ascii "aa\n\nbb\n\ncc") (layer_of (ascii "old" ∷ []) [] [] ∷ layer_of (ascii "er" ∷ []) [] [] ∷ [])) ≡ accepted (three_with [] [] []))
unfolding computed
one_empty_layer = (refl, refl)

-- Wish 6. 1 to 7 before 18; 18 where a buffer is one byte short, and under 16384 work words, also without nodes. The limits, too long to compute
-- here, are those of a merged book, by the same `result_ok`.
pub flat_refused :
    let whole : LexOutput = plain_book (ascii "aa") in
    (number_of (flatten_book no_book (record { tape_bytes = 0; text_bytes = 0; work_words = 0 })) ≡ 1)
    × (flat_number whole (record { tape_bytes = 11; text_bytes = 4; work_words = 16384 }) ≡ 0)
    × (flat_number whole (record { tape_bytes = 10; text_bytes = 4; work_words = 16384 }) ≡ 18)
    × (flat_number whole (record { tape_bytes = 11; text_bytes = 3; work_words = 16384 }) ≡ 18)
    × (flat_number whole (record { tape_bytes = 11; text_bytes = 4; work_words = 16383 }) ≡ 18)
unfolding computed
flat_refused = (refl, refl, refl, refl, refl)

-- Wish 6. A reading with nodes that 32 layers refused is accepted once the book is flat.
pub seventeen_ends :
    let thirty_two : LexOutput = layers_with (ascii "aa\n\nbb\n\ncc") (layers_of 32) in
    let merged_into : Stored → Checked IncrementalOutput = λ s. merge s (edit 4 5) (stored_book ruby_reading) program_room in
    (number_of (merged_into (stored_book thirty_two)) ≡ 17) × (number_of (flatten_book (stored_book thirty_two) program_room >>= merged_into) ≡ 0)
unfolding computed
seventeen_ends = (refl, refl)
