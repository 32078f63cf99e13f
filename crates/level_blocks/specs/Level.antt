-- One segment's level, on a tape.
use Rattle.std.specs.Prelude.{◌≡◌, refl, ℕ, ◌+◌, Bool, List, ltb}
use Rattle.model.specs.Bytes.{byte_at}
use Rattle.model.specs.Types.{Segment}
use Rattle.model.specs.Tape.{record_at, operands_at, segment_codec}

unfoldable pub below : ℕ → Segment → Bool
below level s = ltb s.level level

pub level_read : (t : List ℕ) (p level : ℕ) → ltb (byte_at t (p + 2)) level ≡ below level (record_at segment_codec t p)
unfolding below record_at operands_at segment_codec
level_read t p level = refl
