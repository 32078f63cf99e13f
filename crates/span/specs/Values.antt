-- The model's value of each type of this crate.
use Rattle.std.specs.Prelude.{◌≡◌, ℕ, ◌≤◌, ℤ, pos, negsuc, Option, Some, None, Result, MatchResult}
use Rattle.std.proofs.Math.Option as maybe
use Rattle.model.specs.Offset as model
use Rattle.span.specs.declared.Span.{Span}
use Rattle.span.specs.declared.NormalizedSpan.{NormalizedSpan}
use Rattle.span.specs.declared.Amount.{Amount}
use Rattle.span.specs.declared.Amount.TheVariants.{Forward, Back}
use Rattle.span.specs.declared.PairKind.{PairKind}
use Rattle.span.specs.declared.PairKind.TheVariants.{Bracket, Ruby, AngleQuote, Tortoise, Quote}
use Rattle.span.specs.declared.UnknownPairKind.{UnknownPairKind}

abbrev pub span_of : Span → model.Span
span_of s = record { start = s.start.0; end = s.end.0 }

abbrev pub normalized_span_of : NormalizedSpan → model.Span
normalized_span_of s = record { start = s.start.0; end = s.end.0 }

-- a signed number: `Back n` is -(n + 1), so that each has one form
abbrev pub value_of : Amount → ℤ
value_of (Forward n) = pos n
value_of (Back n) = negsuc n

abbrev pub option_of : Option ℕ → maybe.Option ℕ
option_of (Some n) = maybe.some n
option_of None = maybe.none

-- Section 4, command 7: 0..4 in `PairKind` order
abbrev pub kind_number : PairKind → ℕ
kind_number Bracket = 0
kind_number Ruby = 1
kind_number AngleQuote = 2
kind_number Tortoise = 3
kind_number Quote = 4

-- the kind of a number, or an error where no kind has it
abbrev pub IsKindOf : ℕ → Result PairKind UnknownPairKind → Type 0
IsKindOf n r = MatchResult r (λ k. kind_number k ≡ n) (λ e. 5 ≤ n)
