-- Section 4: bytes, and u32 little-endian words among them.
use Rattle.std.specs.Prelude.{ℕ, ◌+◌, ◌*◌, ◌/◌, ◌%◌, ◌<◌, List, [], ◌∷◌, length, get_or, take, drop, replicate}

-- A tape or a buffer, as every `&[u8]` is: each element is below 256.
pub record AreBytes (t : List ℕ) : Type 0 where
  pub byte : (i : ℕ) → i < length t → get_or t i 0 < 256

-- Section 4. The byte at a place; past the end 0, which no command is.
abbrev pub byte_at : List ℕ → ℕ → ℕ
byte_at t p = get_or t p 0

-- Section 4. The u32, little-endian, at a place.
unfoldable pub word_at : List ℕ → ℕ → ℕ
word_at t p = byte_at t p + 256 * byte_at t (p + 1) + 65536 * byte_at t (p + 2) + 16777216 * byte_at t (p + 3)

-- Section 4. A u32 as four bytes, little-endian.
unfoldable pub word_bytes : ℕ → List ℕ
word_bytes n = n % 256 ∷ n / 256 % 256 ∷ n / 65536 % 256 ∷ n / 16777216 % 256 ∷ []

-- The n bytes from place p on.
abbrev pub part : List ℕ → ℕ → ℕ → List ℕ
part b p n = take n (drop p b)

-- so many zeros
abbrev pub zeros : ℕ → List ℕ
zeros n = replicate n 0
