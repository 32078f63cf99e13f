-- Demand 3 is about something: two edits of one book, by computation. All four merges are accepted, the regions are adjacent,
-- both readings add a layer, containers and diagnostics with equal keys stand where the regions meet, three of them marks of no width
-- (wish 5), and the first book has references that no node uses.
use Rattle.std.specs.Prelude.{◌≡◌, refl, ℕ, suc, ◌+◌, List, [], ◌∷◌, ◌++◌, length}
use Rattle.std.proofs.Math.Option.{Option, none, some}
use Rattle.model.specs.Lists.{ascii}
use Rattle.model.specs.Offset.{Span}
use Rattle.model.specs.Types.{SourceNode, PairLink, ContainerPair, Diagnostic, LexOutput, RegionOutput}
use Rattle.model.specs.Refusal.{Checked, Checked.accepted, ◌>>=◌, number_of}
use Rattle.model.specs.WellFormed.{check_book}
use Rattle.model.specs.Tree.{Tree.tree, Fields.done, Fields.text, Fields.contents, Contents, Contents.no_content, Contents.plain, ShownNode}
use Rattle.model.specs.Region.{Edit}
use Rattle.model.specs.Merge.{stored_book, merge}
use Rattle.model.specs.Lookup.{lookup_str}
use Rattle.model.specs.Runs.{program_room}
use Rattle.model.specs.Demand3.{Shown, shown, shown_contents, moved_behind, region_behind}
use Rattle.model.specs.Examples.{marked_book, plain_book, ruby_reading}
use Rattle.model.specs.Computed.{computed}

abbrev span : ℕ → ℕ → Span
span start end = record { start = start; end = end }

abbrev container : ℕ → ℕ → ContainerPair
container opening closing = record { plain = 7; opening = opening; closing = closing }

abbrev diagnostic : ℕ → ℕ → ℕ → Diagnostic
diagnostic start end word = record { kind = 1; code_rank = 2; span = span start end; plain = word }

abbrev pair : ℕ → ℕ → PairLink
pair opening closing = record { kind = 2; opening = span opening (suc opening); closing = span closing (suc closing) }

-- an Inline Kaeriten whose mark has this id
abbrev kaeriten : ℕ → ℕ → ℕ → ℕ → SourceNode
kaeriten start end offset id = record {
  class = 0;
  inline = 0;
  source_span = span start end;
  normalized_offset = offset;
  body = record { kind = 12; tag = 0; plain1 = 0; plain2 = 0; words = id ∷ 0 ∷ 0 ∷ 0 ∷ 0 ∷ 0 ∷ [] };
}

-- the bytes of an image without padding
abbrev image : List ℕ
image = 0xee ∷ 0x80 ∷ 0x81 ∷ []

-- "aa\n\nbb\n\ncc\n\nd", the "d" a Kaeriten; string 1 and content 0 are used by no node
abbrev book : LexOutput
book = record {
  sanitized = ascii "aa\n\nbb\n\ncc\n\nd";
  normalized = ascii "aa\n\nbb\n\ncc\n\n" ++ image;
  layers = record { strings = ascii "d" ∷ ascii "q" ∷ []; contents = record { tag = 0; first = 1; second = 0 } ∷ []; segments = [] } ∷ [];
  source_nodes = kaeriten 12 13 13 0 ∷ [];
  pairs = pair 0 1 ∷ pair 4 5 ∷ pair 8 9 ∷ [];
  container_pairs = container 0 3 ∷ container 0 4 ∷ container 5 8 ∷ container 8 9 ∷ container 8 12 ∷ container 12 14 ∷ [];
  diagnostics = diagnostic 12 13 1 ∷ diagnostic 12 13 2 ∷ diagnostic 0 1 3 ∷ diagnostic 7 9 4 ∷ diagnostic 8 8 9 ∷ [];
}

-- "x" before 4: region 4..8
abbrev earlier : Edit
earlier = record { start = 4; end = 4; replacement = ascii "x" }

-- "xbb\n\n", the "xb" P5's Ruby
abbrev earlier_reading : RegionOutput
earlier_reading = record {
  sanitized = ascii "xbb\n\n";
  normalized = image ++ ascii "b\n\n";
  layers = ruby_reading.layers;
  source_nodes = ruby_reading.source_nodes;
  pairs = pair 0 1 ∷ [];
  container_pairs = container 0 4 ∷ [];
  diagnostics = diagnostic 3 4 5 ∷ diagnostic 3 4 6 ∷ diagnostic 5 5 10 ∷ [];
}

-- "yy" over 8..9: region 8..12
abbrev later : Edit
later = record { start = 8; end = 9; replacement = ascii "yy" }

-- "yyc\n\n", the "yy" a Kaeriten with mark "x", which the other reading interns too
abbrev later_reading : RegionOutput
later_reading = record {
  sanitized = ascii "yyc\n\n";
  normalized = image ++ ascii "c\n\n";
  layers = record { strings = ascii "x" ∷ []; contents = []; segments = [] } ∷ [];
  source_nodes = kaeriten 0 2 0 0 ∷ [];
  pairs = [];
  container_pairs = container 0 5 ∷ [];
  diagnostics = diagnostic 0 1 7 ∷ diagnostic 0 1 8 ∷ diagnostic 0 0 11 ∷ [];
}

-- ---- the two orders

-- what demand 3 speaks of, of one order: the regions of its two merges, the sum of their reread nodes, what the final book
-- shows and how many layers it has, and what string 1 and content 0 of the first book show there
pub record Told : Type 0 where
  pub first_region : Span
  pub second_region : Span
  pub reread_total : ℕ
  pub final : Shown
  pub layers : ℕ
  pub string1 : Option (List ℕ)
  pub content0 : Option Contents
  pub string5 : Option (List ℕ)

-- two merges, one behind the other; the second edit is already moved
abbrev in_turn : Edit → RegionOutput → Edit → RegionOutput → Checked Told
in_turn e reading e' reading' = do
  first ← merge (stored_book book) e (stored_book reading) program_room
  second ← merge first.output e' (stored_book reading') program_room
  final ← check_book second.output.tape second.output.bytes
  accepted (record {
    first_region = first.region;
    second_region = second.region;
    reread_total = first.reparsed_nodes + second.reparsed_nodes;
    final = shown final;
    layers = length final.layers;
    string1 = lookup_str final 1;
    content0 = shown_contents final 0 1;
    string5 = lookup_str final 5;
  })

abbrev shown_kaeriten : ℕ → ℕ → ℕ → List ℕ → ShownNode
shown_kaeriten start end offset mark = record {
  class = 0;
  inline = 0;
  source_span = span start end;
  normalized_offset = offset;
  body = tree 12 0 0 0 (text 0 mark done);
}

-- the final book of both orders, with strings in place of ids
abbrev final : Shown
final = record {
  sanitized = ascii "aa\n\nxbb\n\nyyc\n\nd";
  normalized = ascii "aa\n\n" ++ (image ++ (ascii "b\n\n" ++ (image ++ (ascii "c\n\n" ++ image))));
  source_nodes = record {
    class = 0;
    inline = 0;
    source_span = span 4 6;
    normalized_offset = 4;
    body = tree 1 0 0 0 (contents 0 (plain (ascii "x") no_content) (contents 2 (plain (ascii "b") no_content) done));
  } ∷ shown_kaeriten 9 11 10 (ascii "x") ∷ shown_kaeriten 14 15 17 (ascii "d") ∷ [];
  pairs = pair 0 1 ∷ pair 4 5 ∷ [];
  container_pairs = container 0 3 ∷ container 4 8 ∷ container 10 15 ∷ container 16 18 ∷ [];
  diagnostics =
      diagnostic 0 1 3 ∷ diagnostic 7 8 5 ∷ diagnostic 7 8 6 ∷ diagnostic 9 9 10 ∷ diagnostic 9 9 9 ∷ diagnostic 9 9 11 ∷ diagnostic 9 10 7 ∷ diagnostic 9 10 8 ∷ diagnostic 14 15 1 ∷ diagnostic 14 15 2 ∷ [];
}

abbrev told : Span → Span → Told
told first second = record {
  first_region = first;
  second_region = second;
  reread_total = 2;
  final = final;
  layers = 3;
  string1 = some (ascii "q");
  content0 = some (plain (ascii "q") no_content);
  string5 = none;
}

-- Both orders: the earlier region is 4..8, the later one 8..12, moved by one where it comes second; book, total and references
-- are the same.
pub both_orders :
    (in_turn earlier earlier_reading (moved_behind earlier later) later_reading ≡ accepted (told (span 4 8) (region_behind earlier (span 8 12))))
    × (in_turn later later_reading earlier earlier_reading ≡ accepted (told (span 8 12) (span 4 8)))
unfolding computed shown shown_contents moved_behind region_behind
both_orders = (refl, refl)

-- ---- pairs that are accepted in one order only

-- the number of the second of two merges, the first being accepted
abbrev number_second : LexOutput → Edit → RegionOutput → Edit → RegionOutput → Checked ℕ
number_second old e reading e' reading' = do
  first ← merge (stored_book old) e (stored_book reading) program_room
  accepted (number_of (merge first.output e' (stored_book reading') program_room))

abbrev over : ℕ → ℕ → List ℕ → Edit
over start end replacement = record { start = start; end = end; replacement = replacement }

-- A text's end that was safe only as the end: region 4..7 ends there. Once "x" is put behind it, the region goes on to the new
-- end, and the reading is refused with 12. The other way round both are accepted.
pub end_only_safe_as_the_end :
    let old : LexOutput = plain_book (ascii "aa\n\nbb\n") in
    (number_second old (over 7 7 (ascii "x")) (plain_book (ascii "x")) (over 4 5 (ascii "y")) (plain_book (ascii "yb\n")) ≡ accepted 12)
    × (number_second old (over 4 5 (ascii "y")) (plain_book (ascii "yb\n")) (over 7 7 (ascii "x")) (plain_book (ascii "x")) ≡ accepted 0)
unfolding computed
end_only_safe_as_the_end = (refl, refl)

-- Wish 5. The earlier reading leaves a mark of no width at its end, which is the text's end: there the later region is empty, and its
-- merge is refused with 14. The other way round both are accepted.
pub mark_left_at_the_end :
    let old : LexOutput = plain_book (ascii "aa\n\nbb\n\n") in
    let marked : RegionOutput = marked_book (ascii "yb\n\n") (diagnostic 4 4 1 ∷ []) in
    (number_second old (over 4 5 (ascii "y")) marked (over 8 8 (ascii "x")) (plain_book (ascii "x")) ≡ accepted 14)
    × (number_second old (over 8 8 (ascii "x")) (plain_book (ascii "x")) (over 4 5 (ascii "y")) marked ≡ accepted 0)
unfolding computed
mark_left_at_the_end = (refl, refl)
