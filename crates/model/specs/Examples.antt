-- The worked examples P1 to P10 of document 01's 'Runs', proved together by computation. A replacement that is not named is "x".
use Rattle.std.specs.Prelude.{◌≡◌, refl, ℕ, length, negsuc}
use Rattle.std.proofs.Math.Option.{none}
use mathlib.Core.List.{List, [], ◌∷◌, flatten}
use Rattle.model.specs.Lists.{ascii}
use Rattle.model.specs.Bytes.{word_bytes}
use Rattle.model.specs.Offset.{Span, shifted, shift_u32}
use Rattle.model.specs.Intern.{fx_hash, fresh_interner, intern}
use Rattle.model.specs.Types.{Diagnostic, LexOutput, RegionOutput}
use Rattle.model.specs.Refusal.{Checked, Checked.refused, Checked.accepted}
use Rattle.model.specs.Tape.{tape_of, bytes_of}
use Rattle.model.specs.Region.{Edit, choose_region}
use Rattle.model.specs.Runs.{program, line}
use Rattle.model.specs.Computed.{computed}

-- a book of plain text and diagnostics: no other list, and one empty layer
abbrev pub marked_book : List ℕ → List Diagnostic → LexOutput
marked_book t diagnostics = record {
  sanitized = t;
  normalized = t;
  layers = record { strings = []; contents = []; segments = [] } ∷ [];
  source_nodes = [];
  pairs = [];
  container_pairs = [];
  diagnostics = diagnostics;
}

-- the same without diagnostics
abbrev pub plain_book : List ℕ → LexOutput
plain_book t = marked_book t []

-- an edit whose replacement is "x"
abbrev pub edit : ℕ → ℕ → Edit
edit start end = record { start = start; end = end; replacement = ascii "x" }

-- the region that an edit of a book of plain text has
abbrev pub region_in : List ℕ → Edit → Checked Span
region_in t e = choose_region (tape_of (plain_book t)) (bytes_of (plain_book t)) e

abbrev pub region : ℕ → ℕ → Checked Span
region start end = accepted (record { start = start; end = end })

-- P5's reading: "xb\n\n" with a Ruby at 0..2, base "x", reading "b", normalized EE 80 81 0A 0A
abbrev pub ruby_reading : RegionOutput
ruby_reading = record {
  sanitized = ascii "xb\n\n";
  normalized = 0xee ∷ 0x80 ∷ 0x81 ∷ 0x0a ∷ 0x0a ∷ [];
  layers = record {
    strings = ascii "x" ∷ ascii "b" ∷ [];
    contents = record { tag = 0; first = 0; second = 0 } ∷ record { tag = 0; first = 1; second = 0 } ∷ [];
    segments = [];
  } ∷ [];
  source_nodes = record {
    class = 0;
    inline = 0;
    source_span = record { start = 0; end = 2 };
    normalized_offset = 0;
    body = record { kind = 1; tag = 0; plain1 = 0; plain2 = 0; words = 0 ∷ 1 ∷ 1 ∷ 1 ∷ 0 ∷ 0 ∷ [] };
  } ∷ [];
  pairs = [];
  container_pairs = [];
  diagnostics = [];
}

-- the input of the program: seven words and five parts
abbrev pub input : LexOutput → Edit → RegionOutput → List ℕ
input old e reading = flatten (
    word_bytes (length (tape_of old)) ∷ word_bytes (length (bytes_of old)) ∷ word_bytes e.start ∷ word_bytes e.end
    ∷ word_bytes (length e.replacement) ∷ word_bytes (length (tape_of reading)) ∷ word_bytes (length (bytes_of reading))
    ∷ tape_of old ∷ bytes_of old ∷ e.replacement ∷ tape_of reading ∷ bytes_of reading ∷ [])

-- Hash of no bytes 0; of byte 0, 0; of byte 1, the multiplier; of byte 2, 0xa2f9836e4e44152a.
abbrev P1 : Type 0
P1 = (fx_hash [] ≡ 0) × (fx_hash (0 ∷ []) ≡ 0) × (fx_hash (1 ∷ []) ≡ 0x517cc1b727220a95) × (fx_hash (2 ∷ []) ≡ 0xa2f9836e4e44152a)

-- Fresh, "" then one byte 0: three probes.
abbrev P2 : Type 0
P2 = (intern (intern fresh_interner []).state (0 ∷ [])).state.stats.probe_steps ≡ 3

-- Span 0..2 by -1 is 0..1; 0 by -1 has no `shift_u32`.
abbrev P3 : Type 0
P3 = (shifted (record { start = 0; end = 2 }) (negsuc 0) ≡ record { start = 0; end = 1 }) × (shift_u32 0 (negsuc 0) ≡ none)

abbrev P4 : Type 0
P4 = region_in (ascii "aa\n\nbb\n\ncc") (edit 4 5) ≡ region 4 8

-- the program's input bytes and its printed line
abbrev P5 : Type 0
P5 = line (program (input (plain_book (ascii "aa\n\nbb\n\ncc")) (edit 4 5) ruby_reading)) ≡ ascii "region 4 8 reused 0 reread 1 calls 2 probes 2\n"

abbrev P6 : Type 0
P6 = region_in (ascii "aa\n\nbb") (edit 5 5) ≡ region 4 6

abbrev P7 : Type 0
P7 = region_in (ascii "aa\n\nbb") (record { start = 3; end = 3; replacement = ascii "\n" }) ≡ region 0 4

abbrev P8 : Type 0
P8 = region_in (ascii "aa\n") (edit 3 3) ≡ region 3 3

abbrev P9 : Type 0
P9 = region_in [] (record { start = 0; end = 0; replacement = ascii "a" }) ≡ refused 11

abbrev P10 : Type 0
P10 = region_in (ascii "abc") (edit 0 1) ≡ refused 11

pub examples : P1 × P2 × P3 × P4 × P5 × P6 × P7 × P8 × P9 × P10
unfolding computed
examples = ((refl, refl, refl, refl), refl, (refl, refl), refl, refl, refl, refl, refl, refl, refl)
