-- Where the records of a run stand, and room for a part.
use Rattle.std.specs.Prelude.{◌≡◌}
use Rattle.std.proofs.Common.{mul-suc, mul-le-mul_left}
use Prim.Native.Nat.{ℕ, ◌+◌, ◌*◌, ◌≤◌, ◌<◌}
use native.Mathlib.Omega.{arith}
use mathlib.Core.List.{List}
use Rattle.std.proofs.Math.ListN.{length, length-map}
use Rattle.model.specs.Tape.{Codec, records_at}
use Rattle.model.specs.Merge.{MergeWindow, Located, kept_before, kept_behind}
use Rattle.laws.specs.Records.{run_length}
use Rattle.splice.specs.Parts.{part_of, part_before, part_reading, part_behind}
use Rattle.splice.specs.declared.Part.TheVariants.{Before, Reading, Behind}

-- each record of a run lies inside it
pub place_in : (at z i n q : ℕ) → q ≡ at + z * i → i < n → q + z ≤ at + z * n
place_in at z i n q e h = omega (arith, e, mul-suc z i, mul-le-mul_left z h)

-- ---- room for a part

module _ {A : Type 0} (l : Located A) (w : MergeWindow) (xs : List A) (to z n : ℕ) where
  pub before_room : to + z * length (kept_before l w xs) ≤ n → to + z * length (part_of l w Before xs) ≤ n
  before_room h = rw (part_before l w xs) h

  pub behind_room : to + z * length (kept_behind l w xs) ≤ n → to + z * length (part_of l w Behind xs) ≤ n
  behind_room h = rw (part_behind l w xs, length-map (kept_behind l w xs) (l.moved w)) h

pub reading_room : {A : Type 0} (c : Codec A) (l : Located A) (w : MergeWindow) (t : List ℕ) (at count to z n : ℕ)
    → to + z * count ≤ n → to + z * length (part_of l w Reading (records_at c t at count)) ≤ n
reading_room c l w t at count to z n h = rw (part_reading l w (records_at c t at count), length-map (records_at c t at count) (l.placed w), run_length c t at count) h
