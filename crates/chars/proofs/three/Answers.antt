use Rattle.model.specs.Utf8.{utf8_first}
use Rattle.chars.specs.Leads.{asks_3}
use Rattle.chars.specs.Chars.{length_if, asks, len_short, three_second, three_third, three_whole}
use mathlib.Core.Path.{◌≡◌, sym, ap, ◌∙◌}
use native.Mathlib.Omega.{arith}
use lib.ListN.{get_or}
use Rattle.chars.proofs.three.Goals as goal

pub returns-then-s-at-lt3 : goal.returns-then-s-at-lt3
returns-then-s-at-lt3 c =
    let q : asks (utf8_first (get_or c.args.s.now c.args.at 0)) ≡ 2 = asks_3 _ c.requires.1 c.requires.2 in
    ap length_if (len_short _ _ c.requires.0 (omega (arith, q)) (omega (arith, q)))

pub returns-then-not-second_fits : goal.returns-then-not-second_fits
returns-then-not-second_fits c =
    ap length_if (three_second c.args.s.now c.args.at (omega arith) (asks_3 _ c.requires.1 c.requires.2) c.second_fits.result (c.second_fits.ensures.of_three c.requires.2) c.if-not-second_fits.true)

pub returns-then-not-within : goal.returns-then-not-within
returns-then-not-within c =
    ap length_if (three_third c.args.s.now c.args.at (omega arith) (asks_3 _ c.requires.1 c.requires.2) c.second_fits.result (c.second_fits.ensures.of_three c.requires.2) c.if-not-second_fits.false (sym c.within.ensures ∙ c.if-not-within.true))

pub returns : goal.returns
returns c =
    ap length_if (three_whole c.args.s.now c.args.at (omega arith) (asks_3 _ c.requires.1 c.requires.2) c.second_fits.result (c.second_fits.ensures.of_three c.requires.2) c.if-not-second_fits.false (sym c.within.ensures ∙ c.if-not-within.false))
