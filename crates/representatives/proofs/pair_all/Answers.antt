use Rattle.std.proofs.Common.{refl, ◌∙◌, arith, rules}
use Rattle.representatives.specs.Pairs.{paired_none, paired_next}
use Rattle.representatives.specs.Ordered.{ordered_later, ordered_all}
use Rattle.representatives.proofs.pair_all.Goals as goal

pub loop-i-init : goal.loop-i-init
loop-i-init c = (refl, refl, omega arith, paired_none c.requires.pairs, c.requires.ordered)

pub loop-i-preserved-then-string_length-least : goal.loop-i-preserved-then-string_length-least
loop-i-preserved-then-string_length-least c =
    let inv = c.loop-i.invariant in
    (inv.0, inv.1, inv.2, inv.3, ordered_later inv.4 (omega arith))

pub shape_of-row-then-room-n : goal.shape_of-row-then-room-n
shape_of-row-then-room-n c = c.loop-i.invariant.0

pub shape_of-words-then-room-n : goal.shape_of-words-then-room-n
shape_of-words-then-room-n c = c.loop-i.invariant.1

pub returns-then-room-n : goal.returns-then-room-n
returns-then-room-n c = record { pairs_2 = c.loop-i.invariant.3.pairs; rising = ordered_all c.loop-i.invariant.4 }

pub pair_string-m-requires : goal.pair_string-m-requires
pair_string-m-requires c =
    let inv = c.loop-i.invariant in
    let paired = inv.3 in
    let few = c.requires.row_len in record {
      row = paired.rising;
      m_in_bounds = (omega (arith, inv.0, few, paired.few), c.loop-i-test.true, search rules);
      n_bound = (omega (arith, few), omega (arith, few, inv.1));
      pairs = paired.pairs;
      ordered = inv.4;
    }

pub loop-i-preserved : goal.loop-i-preserved
loop-i-preserved c =
    let inv = c.loop-i.invariant in
    let paired = c.pair_string-m in
    (paired.auto.row ∙ inv.0, paired.auto.words ∙ inv.1, omega arith, paired_next inv.3.few paired.ensures.paired, paired.ensures.ordered_2)

pub shape_of-row : goal.shape_of-row
shape_of-row c = c.loop-i.invariant.0

pub shape_of-words : goal.shape_of-words
shape_of-words c = c.loop-i.invariant.1

pub returns : goal.returns
returns c = record { pairs_2 = c.loop-i.invariant.3.pairs; rising = ordered_all c.loop-i.invariant.4 }
