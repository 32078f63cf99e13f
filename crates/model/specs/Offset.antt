-- Section 1: a span, and offsets moved by a signed amount. Amounts are `lib.IntN.ℤ`, which is what an `i64` is in a contract.
use Rattle.std.specs.Prelude.{ℕ, ◌-◌, ◌^◌, min, cond, ◌&&◌}
use Rattle.std.proofs.Math.Option.{Option, none, some}
use lib.IntN.{ℤ, pos, negsuc, ◌+ℤ◌}
use Rattle.std.specs.Int.Signed.{le_z}

-- Section 1. `Span`: start and end, in the bytes of a text.
pub record Span : Type 0 where
  pub start : ℕ
  pub end : ℕ

-- The ends of a signed 64-bit number and of a u32.
abbrev pub min_i64 : ℤ
min_i64 = negsuc (2 ^ 63 - 1)

abbrev pub max_i64 : ℤ
max_i64 = pos (2 ^ 63 - 1)

abbrev pub max_u32 : ℕ
max_u32 = 4294967295

-- Section 1. A sum of two 64-bit numbers that stops at that type's ends.
unfoldable pub saturating_add : ℤ → ℤ → ℤ
saturating_add a b = let s = a +ℤ b in cond (le_z s min_i64) min_i64 (cond (le_z max_i64 s) max_i64 s)

-- Section 1. Clamped to 0..4294967295.
unfoldable pub clamp_u32 : ℤ → ℕ
clamp_u32 (pos n) = min n max_u32
clamp_u32 (negsuc n) = 0

-- Section 1. `shift_clamp`: the amount added, stopped at the 64-bit ends, then clamped.
unfoldable pub shift_clamp : ℕ → ℤ → ℕ
shift_clamp endpoint by = clamp_u32 (saturating_add by (pos endpoint))

-- Section 1. `Span::shifted`.
unfoldable pub shifted : Span → ℤ → Span
shifted s by = record { start = shift_clamp s.start by; end = shift_clamp s.end by }

-- Section 1. `shift_u32`: no answer outside 0..4294967295 or where the 64-bit sum overflows.
unfoldable pub shift_u32 : ℕ → ℤ → Option ℕ
shift_u32 value by =
    let s = by +ℤ pos value in
    cond (le_z min_i64 s && le_z s max_i64 && le_z (pos 0) s && le_z s (pos max_u32)) (some (clamp_u32 s)) none
