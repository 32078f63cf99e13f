-- A book whose numbers fit their places on a tape: bytes below 2 ^ 8, words below 2 ^ 32. Such a book can be written and read
-- again (WriteRead), and every book that a tape of bytes holds is one (ReadFits).
use Rattle.std.specs.Prelude.{ℕ, Bool, true, false, not, ◌&&◌, List, [], ◌∷◌, length, ltb}
use Rattle.model.specs.Lists.{all, is_empty}
use Rattle.model.specs.Types.{Layer, LexOutput}
use Rattle.model.specs.Tape.{Operand, Operand.byte, Operand.word, Codec, content_codec, segment_codec, node_codec, pair_codec, container_codec, diagnostic_codec, book_shape}

abbrev pub is_word : ℕ → Bool
is_word n = ltb n 4294967296

abbrev pub operand_fits : Operand → ℕ → Bool
operand_fits byte v = ltb v 256
operand_fits word v = is_word v

-- as many values as operands, each in its range
unfoldable pub operands_fit : List Operand → List ℕ → Bool
operands_fit [] [] = true
operands_fit [] (v ∷ vs) = false
operands_fit (o ∷ os) [] = false
operands_fit (o ∷ os) (v ∷ vs) = operand_fits o v && operands_fit os vs

unfoldable pub record_fits : {A : Type 0} → Codec A → A → Bool
record_fits c a = operands_fit c.operands (c.encode a)

unfoldable pub layer_fits : Layer → Bool
layer_fits l =
    all (λ (s : List ℕ). is_word (length s)) l.strings
    && all (record_fits content_codec) l.contents
    && all (record_fits segment_codec) l.segments

unfoldable pub fits : LexOutput → Bool
fits b =
    is_word (length b.sanitized) && is_word (length b.normalized)
    && not (is_empty b.layers) && all layer_fits b.layers
    && all (record_fits node_codec) b.source_nodes
    && all (record_fits pair_codec) b.pairs
    && all (record_fits container_codec) b.container_pairs
    && all (record_fits diagnostic_codec) b.diagnostics
    && book_shape b
