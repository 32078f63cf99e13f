-- A word is four bytes, and its four digits are the number again.
use Rattle.std.specs.Prelude.{◌≡◌, refl, ℕ, ◌+◌, ◌*◌, ◌/◌, ◌%◌, ◌<◌, ◌^◌, length}
use Rattle.std.proofs.Common.{arith}
use Rattle.model.specs.Bytes.{word_bytes}

pub word_length : (n : ℕ) → length (word_bytes n) ≡ 4
unfolding word_bytes
word_length n = refl

pub word_digits : (n : ℕ) → n < 2 ^ 32 → n % 256 + 256 * (n / 256 % 256) + 65536 * (n / 65536 % 256) + 16777216 * (n / 16777216 % 256) ≡ n
word_digits n b =
    let h : n / 16777216 % 256 ≡ n / 16777216 = omega arith in
    let g : n / 65536 ≡ 256 * (n / 16777216) + n / 65536 % 256 = omega arith in
    let f : n / 256 ≡ 256 * (n / 65536) + n / 256 % 256 = omega arith in
    omega (arith, h, g, f)
