-- The table's places are those of the model's records: a segment, a pair, a container and a diagnostic show every operand, in order; a node that
-- is Inline or BlockLeaf, all but `inline`, which is 0 there.
use Rattle.std.specs.Prelude.{◌≡◌, refl, ℕ, ◌+◌, ◌*◌, get_or, drop}
use mathlib.Core.List.{List, [], ◌∷◌, map, flatten}
use Rattle.model.specs.Tape.{Operand, Operand.byte, Operand.word, operand_size, record_size, string_codec, content_codec, segment_codec, node_codec, pair_codec, container_codec, diagnostic_codec}
use Rattle.listing.specs.Table.{Shows, Shows.label_only, Shows.ordinal, Shows.own_string, Shows.byte as one_byte, Shows.word as one_word, Shows.name, Shows.string_id, Shows.body_word, Shows.region_start, Shows.region_end, Shows.text_part, Field, rows, sizes}

pub record Place : Type 0 where
  pub operand : Operand
  pub at : ℕ

abbrev place : Operand → ℕ → Place
place o k = record { operand = o; at = k }

-- where the operands of a record stand, the first at k
unfoldable pub operand_places : List Operand → ℕ → List Place
operand_places [] k = []
operand_places (o ∷ os) k = place o k ∷ operand_places os (k + operand_size o)

-- what a field reads of its record
unfoldable pub read_by : Shows → List Place
read_by label_only = []
read_by ordinal = []
read_by own_string = []
read_by (one_byte k) = place byte k ∷ []
read_by (one_word k) = place word k ∷ []
read_by (name first k) = place byte k ∷ []
read_by (string_id k) = place word k ∷ []
read_by (body_word k i) = place word (k + 10 + 4 * i) ∷ []
read_by region_start = []
read_by region_end = []
read_by (text_part k) = []

unfoldable pub read_in : ℕ → List Place
read_in r = flatten (map (λ (f : Field). read_by f.shows) (get_or rows r []))

pub operands_shown : (read_in 5 ≡ operand_places segment_codec.operands 1)
    × (place byte 1 ∷ place byte 2 ∷ drop 1 (read_in 6) ≡ operand_places node_codec.operands 1)
    × (read_in 7 ≡ operand_places pair_codec.operands 1)
    × (read_in 8 ≡ operand_places container_codec.operands 1)
    × (read_in 9 ≡ operand_places diagnostic_codec.operands 1)
unfolding read_in read_by operand_places rows segment_codec node_codec pair_codec container_codec diagnostic_codec flatten
operands_shown = (refl, refl, refl, refl, refl)

-- the sizes are those of the model's records
pub sizes_shown : sizes ≡ 1 ∷ 9 ∷ 1 ∷ record_size string_codec ∷ record_size content_codec ∷ record_size segment_codec ∷ record_size node_codec ∷ record_size pair_codec
    ∷ record_size container_codec ∷ record_size diagnostic_codec ∷ 1 ∷ []
unfolding sizes string_codec content_codec segment_codec node_codec pair_codec container_codec diagnostic_codec
sizes_shown = refl
