use Rattle.balanced_region.specs.EndSearch.{tried_start, tried_found, try_rises, tried_more, tried_none}
use mathlib.Core.Path.{refl, sym, ◌∙◌}
use Rattle.std.proofs.Common.{eqb-true}
use Rattle.std.proofs.lemmas.Bool.{eqb-false}
use Rattle.span.specs.Order.{below, at_least}
use native.Mathlib.Omega.{arith}
use Rattle.balanced_region.proofs.first_cut_in.Goals as goal

pub loop-c-init : goal.loop-c-init
loop-c-init c =
    (tried_start _ _, c.requires.window, refl)

pub next_try-next-requires : goal.next_try-next-requires
next_try-next-requires c =
    record {
      inside = omega (arith, c.requires.inside, below c.loop-c.c.0 c.args.hi.0 c.lt.ensures c.loop-c-test.true);
      window = c.loop-c.invariant.1;
    }

pub shape_of-words-then-eq : goal.shape_of-words-then-eq
shape_of-words-then-eq c =
    c.next_try-next.auto.words ∙ c.loop-c.invariant.2

pub returns-then-eq : goal.returns-then-eq
returns-then-eq c =
    record {
      value = tried_found _ _ c.loop-c.invariant.0 _ c.next_try-next.ensures.value _ (below _ _ c.lt.ensures c.loop-c-test.true) (eqb-true _ _ (sym c.eq.ensures ∙ c.if-eq.true));
      window_2 = c.next_try-next.ensures.window_2;
    }

pub loop-c-smaller : goal.loop-c-smaller
loop-c-smaller c =
    omega (arith, below c.loop-c.c.0 c.args.hi.0 c.lt.ensures c.loop-c-test.true, try_rises _ _ _ _ c.next_try-next.ensures.value (eqb-false _ _ (sym c.eq.ensures ∙ c.if-eq.false)))

pub loop-c-preserved : goal.loop-c-preserved
loop-c-preserved c =
    (tried_more _ _ c.loop-c.invariant.0 _ c.next_try-next.ensures.value, c.next_try-next.ensures.window_2, c.next_try-next.auto.words ∙ c.loop-c.invariant.2)

pub shape_of-words : goal.shape_of-words
shape_of-words c =
    c.loop-c.invariant.2

pub returns : goal.returns
returns c =
    record {
      value = tried_none c.loop-c.invariant.0 _ (at_least _ _ c.lt.ensures c.loop-c-test.false);
      window_2 = c.loop-c.invariant.1;
    }
