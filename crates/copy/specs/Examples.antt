-- The answer on P5's reading, which is a book too, by computation.
use Rattle.std.specs.Prelude.{◌≡◌, refl, ℕ, List, length}
use Rattle.model.specs.Refusal.{Checked.refused, Checked.accepted}
use Rattle.model.specs.Tape.{tape_of, bytes_of}
use Rattle.model.specs.Lookup.{copy_into}
use Rattle.model.specs.Examples.{ruby_reading}
use Rattle.model.specs.Computed.{computed}
use Rattle.copy.specs.Copying.{copied_of}

abbrev t : List ℕ
t = tape_of ruby_reading

abbrev d : List ℕ
d = bytes_of ruby_reading

-- room for the bytes, and one too few
copy : (copied_of (copy_into t d (length t) 11) ≡ accepted (record { tape = length t; bytes = 11 })) × (copied_of (copy_into t d (length t) 10) ≡ refused 18)
unfolding computed copied_of copy_into
copy = (refl, refl)
