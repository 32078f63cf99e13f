-- Small indexes, by computation.
use Rattle.std.specs.Prelude.{◌≡◌, refl, ℕ, List, [], ◌∷◌, replicate}
use Rattle.strings.specs.Index.{step_of, entry_at, string_index, index_in}

-- ten strings of two bytes
abbrev ten : List ℕ
ten = replicate 10 2

-- three words: every third start; no words: nothing; words for all
indexes : (index_in ten (0 ∷ 0 ∷ 0 ∷ []) ≡ 6 ∷ 12 ∷ 18 ∷ [])
    × (index_in ten [] ≡ [])
    × (index_in (3 ∷ 1 ∷ []) (0 ∷ 0 ∷ []) ≡ 3 ∷ 4 ∷ [])
unfolding step_of entry_at string_index
indexes = (refl, refl, refl)

-- a start that is no word's
long_start : index_in (4294967296 ∷ 1 ∷ []) (0 ∷ []) ≡ 4294967295 ∷ []
unfolding step_of entry_at string_index
long_start = refl
