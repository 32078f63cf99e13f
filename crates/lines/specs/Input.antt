-- A program's input of which only the first bytes are read.
use Rattle.std.specs.Prelude.{◌≡◌, refl, ℕ, ◌+◌, ◌≤◌, List, take}
use Rattle.std.proofs.Common.{arith, get_or-take}
use Rattle.model.specs.Bytes.{word_at}

-- a word of it
pub same_word : (s : List ℕ) (n p : ℕ) → p + 4 ≤ n → word_at (take n s) p ≡ word_at s p
unfolding word_at
same_word s n p h =
    rw (get_or-take n s p 0 (omega arith), get_or-take n s (p + 1) 0 (omega arith), get_or-take n s (p + 2) 0 (omega arith), get_or-take n s (p + 3) 0 (omega arith)) refl
