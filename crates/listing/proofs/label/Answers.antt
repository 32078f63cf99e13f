use Rattle.std.proofs.Common.{Bor, List, ℕ, sym, refl, [], arith}
use Rattle.std.proofs.Math.ListN.{get_or-eq_default}
use Rattle.listing.specs.Table.{labels}
use Rattle.listing.specs.Coded.{get_map}
use Rattle.listing.proofs.label.Goals as goal

pub returns-then-i-lt35 : goal.returns-then-i-lt35
unfolding labels
returns-then-i-lt35 c = rw (get_map (λ (x : Bor (List ℕ)). x.now)) refl

pub returns-else-i-lt35 : goal.returns-else-i-lt35
unfolding labels
returns-else-i-lt35 c = sym (get_or-eq_default labels [] {n = c.args.i} (omega (arith, c.if-i-lt35.false)))
