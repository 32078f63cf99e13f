-- What a line of `inspect` shows of a record: labels, the fields of each record, the labels of a body's words. FORMAT.md has the places.
use Rattle.std.specs.Prelude.{ℕ, ◌+◌, List, [], ◌∷◌}
use Rattle.model.specs.Lists.{ascii}

-- ---- what a field shows, behind its label; a place counts from the record's command byte

pub data Shows : Type 0 where
  -- nothing more
  label_only : Shows
  -- the record's number: how many records of its command stand before it
  ordinal : Shows
  -- the string of that number
  own_string : Shows
  -- the byte or the word at a place
  byte word : ℕ → Shows
  -- the name of the byte at a place; the first number is the label of the first name
  name : ℕ → ℕ → Shows
  -- the string whose id stands at a place
  string_id : ℕ → Shows
  -- of the body at a place, the word of a number 0 to 5
  body_word : ℕ → ℕ → Shows
  -- the region of the edit
  region_start region_end : Shows
  -- the text before the region, of it, behind it; 3 is the whole text
  text_part : ℕ → Shows

pub record Field : Type 0 where
  pub label : List ℕ
  pub shows : Shows

abbrev field : List ℕ → Shows → Field
field l s = record { label = l; shows = s }

-- ---- names and labels, each kind of name in the order of its bytes

unfoldable pub labels : List (List ℕ)
labels =
    []  -- 0 no label
    ∷ ascii " Text" ∷ ascii " Gaiji" ∷ ascii " Directive" ∷ ascii " Node"  -- a segment's tags, from 1 on
    ∷ ascii " Inline" ∷ ascii " BlockLeaf" ∷ ascii " BlockOpen" ∷ ascii " BlockClose"  -- a node's classes, from 5 on
    ∷ ascii " Bracket" ∷ ascii " Ruby" ∷ ascii " AngleQuote" ∷ ascii " Tortoise" ∷ ascii " Quote"  -- `PairKind`, from 9 on
    ∷ ascii " UnresolvedGaiji" ∷ ascii " NonCanonicalDirective" ∷ ascii " UnclosedBracket" ∷ ascii " UnmatchedClose" ∷ ascii " Other"  -- a diagnostic's kinds, from 14 on
    ∷ ascii " text" ∷ ascii " Ruby" ∷ ascii " Format" ∷ ascii " Gaiji" ∷ ascii " Line" ∷ ascii " PageBreak" ∷ ascii " SectionBreak" ∷ ascii " BodyEnd" ∷ ascii " ForcedBreak" ∷ ascii " Heading" ∷ ascii " HeadingHint" ∷ ascii " Illustration" ∷ ascii " Kaeriten" ∷ ascii " Directive" ∷ ascii " AngleQuote" ∷ ascii " MarginNote"  -- a body's kinds, the `Node` enum, from 19 on
    ∷ []

abbrev pub segment_tags : ℕ
segment_tags = 1

abbrev pub node_classes : ℕ
node_classes = 5

abbrev pub pair_kinds : ℕ
pair_kinds = 9

abbrev pub diagnostic_kinds : ℕ
diagnostic_kinds = 14

abbrev pub body_kinds : ℕ
body_kinds = 19

-- ---- the fields

-- a body at a place: its kind, tag, two plain words, six words
abbrev body_fields : ℕ → List Field
body_fields p =
    field [] (name body_kinds p) ∷ field (ascii " tag ") (byte (p + 1)) ∷ field (ascii " plain ") (word (p + 2)) ∷ field (ascii " ") (word (p + 6))
    ∷ field [] (body_word p 0) ∷ field [] (body_word p 1) ∷ field [] (body_word p 2) ∷ field [] (body_word p 3) ∷ field [] (body_word p 4) ∷ field [] (body_word p 5) ∷ []

-- the fields of each record's line; `row_of` in Listing.antt says which row is a record's
unfoldable pub rows : List (List Field)
rows =
    []  -- no command
    ∷ (field (ascii "text ") (word 1) ∷ field (ascii " normalized ") (word 5) ∷ field (ascii " ") (text_part 3) ∷ [])  -- 1 head
    ∷ (field (ascii "layer ") ordinal ∷ [])  -- 2 layer
    ∷ (field (ascii "string ") own_string ∷ [])  -- 3 string
    ∷ (field (ascii "content ") ordinal ∷ field (ascii " plain ") (string_id 2) ∷ [])  -- 4 content, Plain
    ∷ (field (ascii "segment ") ordinal ∷ field [] (name segment_tags 1) ∷ field (ascii " level ") (byte 2) ∷ body_fields 3)  -- 5 segment
    ∷ (field (ascii "node ") ordinal ∷ field [] (name node_classes 1) ∷ field (ascii " ") (word 3) ∷ field (ascii "..") (word 7) ∷ field (ascii " at ") (word 11) ∷ body_fields 15)  -- 6 node, Inline or BlockLeaf
    ∷ (field (ascii "pair ") ordinal ∷ field [] (name pair_kinds 1) ∷ field (ascii " ") (word 2) ∷ field (ascii "..") (word 6) ∷ field (ascii " ") (word 10) ∷ field (ascii "..") (word 14) ∷ [])  -- 7 pair
    ∷ (field (ascii "container ") ordinal ∷ field (ascii " plain ") (word 1) ∷ field (ascii " open ") (word 5) ∷ field (ascii " close ") (word 9) ∷ [])  -- 8 container
    ∷ (field (ascii "diagnostic ") ordinal ∷ field [] (name diagnostic_kinds 1) ∷ field (ascii " code ") (word 2) ∷ field (ascii " ") (word 6) ∷ field (ascii "..") (word 10) ∷ field (ascii " plain ") (word 14) ∷ [])  -- 9 diagnostic
    ∷ (field (ascii "end") label_only ∷ [])  -- 10 end
    ∷ (field (ascii "text ") (word 1) ∷ field (ascii " normalized ") (word 5) ∷ field (ascii " region ") region_start ∷ field (ascii " ") region_end ∷ field (ascii " ") (text_part 0) ∷ field (ascii " | ") (text_part 1) ∷ field (ascii " | ") (text_part 2) ∷ [])  -- 1 head, with an edit
    ∷ (field (ascii "content ") ordinal ∷ field (ascii " segments ") (word 2) ∷ field (ascii " ") (word 6) ∷ [])  -- 4 content, Segments
    ∷ (field (ascii "node ") ordinal ∷ field [] (name node_classes 1) ∷ field (ascii " inline ") (byte 2) ∷ field (ascii " ") (word 3) ∷ field (ascii "..") (word 7) ∷ field (ascii " at ") (word 11) ∷ field (ascii " plain ") (word 17) ∷ field (ascii " ") (word 21) ∷ [])  -- 6 node, BlockOpen or BlockClose
    ∷ []

-- the labels of a body's words, by its kind; a length has none of its own
unfoldable pub word_labels : List (List (List ℕ))
word_labels =
    (ascii " string " ∷ [] ∷ [] ∷ [] ∷ [] ∷ [] ∷ [])  -- 0 text
    ∷ (ascii " base " ∷ ascii " " ∷ ascii " reading " ∷ ascii " " ∷ [] ∷ [] ∷ [])  -- 1 Ruby
    ∷ (ascii " target " ∷ ascii " " ∷ ascii " payload " ∷ [] ∷ [] ∷ [] ∷ [])  -- 2 Format
    ∷ (ascii " hint " ∷ ascii " mencode " ∷ [] ∷ [] ∷ [] ∷ [] ∷ [])  -- 3 Gaiji
    ∷ ([] ∷ [] ∷ [] ∷ [] ∷ [] ∷ [] ∷ [])  -- 4 Line
    ∷ ([] ∷ [] ∷ [] ∷ [] ∷ [] ∷ [] ∷ [])  -- 5 PageBreak
    ∷ ([] ∷ [] ∷ [] ∷ [] ∷ [] ∷ [] ∷ [])  -- 6 SectionBreak
    ∷ ([] ∷ [] ∷ [] ∷ [] ∷ [] ∷ [] ∷ [])  -- 7 BodyEnd
    ∷ ([] ∷ [] ∷ [] ∷ [] ∷ [] ∷ [] ∷ [])  -- 8 ForcedBreak
    ∷ (ascii " text " ∷ ascii " " ∷ [] ∷ [] ∷ [] ∷ [] ∷ [])  -- 9 Heading
    ∷ (ascii " target " ∷ [] ∷ [] ∷ [] ∷ [] ∷ [] ∷ [])  -- 10 HeadingHint
    ∷ (ascii " file " ∷ ascii " number " ∷ ascii " dimensions " ∷ ascii " description " ∷ ascii " caption " ∷ ascii " " ∷ [])  -- 11 Illustration
    ∷ (ascii " mark " ∷ [] ∷ [] ∷ [] ∷ [] ∷ [] ∷ [])  -- 12 Kaeriten
    ∷ (ascii " raw " ∷ [] ∷ [] ∷ [] ∷ [] ∷ [] ∷ [])  -- 13 Directive
    ∷ (ascii " content " ∷ ascii " " ∷ [] ∷ [] ∷ [] ∷ [] ∷ [])  -- 14 AngleQuote
    ∷ (ascii " base " ∷ ascii " " ∷ ascii " note " ∷ ascii " " ∷ [] ∷ [] ∷ [])  -- 15 MarginNote
    ∷ []

-- how many bytes a record of each command takes; a byte that is no command takes one
unfoldable pub sizes : List ℕ
sizes = 1 ∷ 9 ∷ 1 ∷ 5 ∷ 10 ∷ 37 ∷ 49 ∷ 18 ∷ 13 ∷ 18 ∷ 1 ∷ []
