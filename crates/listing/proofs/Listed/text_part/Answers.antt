use Rattle.std.proofs.Common.{ap, refl}
use Rattle.model.specs.Offset.{Span}
use Rattle.listing.specs.Listing.{part_of}
use Rattle.listing.proofs.Listed.text_part.Goals as goal

pub returns-in-Before : goal.returns-in-Before
unfolding part_of
returns-in-Before c = rw (c.in-Before.is, ap (λ (r : Span). r.start) c.region-start.ensures) refl

pub returns-in-Region : goal.returns-in-Region
unfolding part_of
returns-in-Region c = rw (c.in-Region.is, ap (λ (r : Span). r.start) c.region-start.ensures, ap (λ (r : Span). r.end) c.region-end.ensures) refl

pub returns-in-Behind : goal.returns-in-Behind
unfolding part_of
returns-in-Behind c = rw (c.in-Behind.is, ap (λ (r : Span). r.end) c.region-end.ensures, c.u32_or_zero-size.ensures) refl

pub returns-in-Whole : goal.returns-in-Whole
unfolding part_of
returns-in-Whole c = rw (c.in-Whole.is, c.u32_or_zero-size.ensures) refl
