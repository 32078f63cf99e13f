-- Which strings are long.
use Rattle.std.specs.Prelude.{ℕ, ◌+◌, ◌/◌, max}

-- from how many bytes on, in a book of n bytes
abbrev pub long_from : ℕ → ℕ
long_from n = max 1024 (n / 4096 + 1)
