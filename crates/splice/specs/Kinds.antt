-- The four kinds, and their sizes.
use Rattle.std.specs.Prelude.{◌≡◌, ℕ, List, length}
use Rattle.std.proofs.Math.Path.{refl}
use Rattle.model.specs.Bytes.{word_bytes}
use Rattle.model.specs.Tape.{record_at, operands_at, record_bytes, operand_bytes, node_codec, pair_codec, container_codec, diagnostic_codec}
use Rattle.model.specs.Merge.{MergeWindow, node_located, pair_located, container_located, diagnostic_located}
use Rattle.splice.specs.Parts.{Kind, as_in}
use Rattle.splice.specs.declared.Part.{Part}
use Rattle.splice.specs.declared.Part.TheVariants.{Before, Reading, Behind}

pub pair_kind : Kind pair_codec pair_located 18
unfolding record_bytes operand_bytes pair_codec word_bytes
pair_kind = record { size = refl; width = λ t q w p. refl }

pub container_kind : Kind container_codec container_located 13
unfolding record_bytes operand_bytes container_codec word_bytes
container_kind = record { size = refl; width = λ t q w p. refl }

pub diagnostic_kind : Kind diagnostic_codec diagnostic_located 18
unfolding record_bytes operand_bytes diagnostic_codec word_bytes
diagnostic_kind = record { size = refl; width = λ t q w p. refl }

node_width : (t : List ℕ) (q : ℕ) (w : MergeWindow) (p : Part) → length (record_bytes node_codec (as_in node_located w p (record_at node_codec t q))) ≡ 49
unfolding record_bytes operand_bytes node_codec word_bytes as_in node_located record_at operands_at
node_width t q w Before = refl
node_width t q w Reading = refl
node_width t q w Behind = refl

pub node_kind : Kind node_codec node_located 49
unfolding node_codec
node_kind = record { size = refl; width = node_width }
