-- How many bytes a record of each kind has.
use Rattle.std.specs.Prelude.{◌≡◌, refl}
use Rattle.model.specs.Tape.{record_size, content_codec, segment_codec, node_codec, pair_codec, container_codec, diagnostic_codec}

pub content_size : record_size content_codec ≡ 10
unfolding content_codec
content_size = refl

pub segment_size : record_size segment_codec ≡ 37
unfolding segment_codec
segment_size = refl

pub node_size : record_size node_codec ≡ 49
unfolding node_codec
node_size = refl

pub pair_size : record_size pair_codec ≡ 18
unfolding pair_codec
pair_size = refl

pub container_size : record_size container_codec ≡ 13
unfolding container_codec
container_size = refl

pub diagnostic_size : record_size diagnostic_codec ≡ 18
unfolding diagnostic_codec
diagnostic_size = refl
