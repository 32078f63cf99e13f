use Rattle.model.specs.Utf8.{utf8_first}
use Rattle.chars.specs.Leads.{lead_2}
use Rattle.chars.specs.Chars.{length_if, asks, len_short, two_whole, two_second}
use mathlib.Core.Path.{◌≡◌, sym, ap, ◌∙◌}
use native.Mathlib.Omega.{arith}
use lib.ListN.{get_or}
use Rattle.chars.proofs.two.Goals as goal

pub returns-then-s-at-lt2 : goal.returns-then-s-at-lt2
returns-then-s-at-lt2 c =
    let q : asks (utf8_first (get_or c.args.s.now c.args.at 0)) ≡ 1 = ap asks (lead_2 _ c.requires.1 c.requires.2) in
    ap length_if (len_short _ _ c.requires.0 (omega (arith, q)) (omega (arith, q)))

pub returns-then-not-within : goal.returns-then-not-within
returns-then-not-within c =
    ap length_if (two_second c.args.s.now c.args.at (omega arith) (lead_2 _ c.requires.1 c.requires.2) (sym c.within.ensures ∙ c.if-not-within.true))

pub returns : goal.returns
returns c =
    ap length_if (two_whole c.args.s.now c.args.at (omega arith) (lead_2 _ c.requires.1 c.requires.2) (sym c.within.ensures ∙ c.if-not-within.false))
