-- The passage that a region is, as the code takes it out of the book's text.
use Rattle.std.specs.Prelude.{◌≡◌, ℕ, ◌-◌, List}
use Rattle.std.proofs.Common.{ap, ◌∙◌}
use Rattle.model.specs.Bytes.{part}
use Rattle.model.specs.Offset.{Span}
use Rattle.model.specs.Types.{LexOutput}
use Rattle.model.specs.Region.{region_text}

pub region_part : (b : LexOutput) (r : Span) {text passage : List ℕ} → text ≡ b.sanitized → passage ≡ part text r.start (r.end - r.start) → passage ≡ region_text b r
unfolding region_text
region_part b r e q = q ∙ ap (λ (l : List ℕ). part l r.start (r.end - r.start)) e
