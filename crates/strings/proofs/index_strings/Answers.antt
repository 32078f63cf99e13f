use Rattle.std.proofs.Common.{length, refl, ◌∙◌, arith}
use Rattle.std.proofs.Math.ListN.{length-set}
use Rattle.strings.specs.Index.{indexing_none, indexing_more, step_some, next_word, index_all}
use Rattle.strings.proofs.index_strings.Goals as goal

pub nonzero_div-j-end : goal.nonzero_div-j-end
nonzero_div-j-end c =
    omega (arith, step_some c.args.st.now.totals.strings (length c.args.words.now), c.step_of-step.ensures)

pub loop-j-init : goal.loop-j-init
loop-j-init c = (refl, indexing_none _ _ _)

pub bounds-words-j : goal.bounds-words-j
bounds-words-j c =
    let w = next_word c.requires.store refl c.loop-j.invariant.1 c.step_of-step.ensures c.loop-j-test.true in omega (arith, w, c.loop-j.invariant.0)

pub loop-j-preserved : goal.loop-j-preserved
loop-j-preserved c =
    let w = next_word c.requires.store refl c.loop-j.invariant.1 c.step_of-step.ensures c.loop-j-test.true in
    (length-set c.loop-j.words _ _ ∙ c.loop-j.invariant.0, indexing_more c.loop-j.invariant.1 refl c.start_from-start.ensures c.entry_of.ensures w)

pub returns : goal.returns
returns c = index_all c.requires.store refl c.loop-j.invariant.1 c.step_of-step.ensures (omega arith)
