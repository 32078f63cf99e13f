use Rattle.cuts.specs.Offsets.{last_stop, last_turn, last_done}
use mathlib.Core.Path.{refl, sym, ◌∙◌}
use native.Mathlib.Omega.{arith}
use Rattle.balanced_region.proofs.last_cut_in.Goals as goal

pub loop-c-init : goal.loop-c-init
loop-c-init c =
    (refl, c.requires.window, refl)

pub text_pairs_allow-requires : goal.text_pairs_allow-requires
text_pairs_allow-requires c =
    record {
      inside = omega (arith, c.requires.inside);
      window = c.loop-c.invariant.1;
    }

pub shape_of-words-then-text_pairs_allow : goal.shape_of-words-then-text_pairs_allow
shape_of-words-then-text_pairs_allow c =
    c.text_pairs_allow.auto.words ∙ c.loop-c.invariant.2

pub returns-then-text_pairs_allow : goal.returns-then-text_pairs_allow
returns-then-text_pairs_allow c =
    record {
      value = sym (last_stop _ _ _ _ (omega arith) (sym c.text_pairs_allow.ensures.value ∙ c.if-text_pairs_allow.true)) ∙ c.loop-c.invariant.0;
      window_2 = c.text_pairs_allow.ensures.window_2;
    }

pub loop-c-preserved : goal.loop-c-preserved
loop-c-preserved c = (
  sym (last_turn _ _ _ _ (omega arith) (sym c.text_pairs_allow.ensures.value ∙ c.if-text_pairs_allow.false)) ∙ c.loop-c.invariant.0,
  c.text_pairs_allow.ensures.window_2,
  c.text_pairs_allow.auto.words ∙ c.loop-c.invariant.2,
)

pub shape_of-words : goal.shape_of-words
shape_of-words c =
    c.loop-c.invariant.2

pub returns : goal.returns
returns c =
    record {
      value = sym (last_done _ _ _ _ (omega arith)) ∙ c.loop-c.invariant.0;
      window_2 = c.loop-c.invariant.1;
    }
