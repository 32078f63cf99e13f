use Rattle.model.specs.Bytes.{word_at}
use Rattle.wire.specs.Words.{word_at_past}
use mathlib.Core.Path.{refl, sym, ◌∙◌}
use Rattle.wire.proofs.u32_or_zero.Goals as goal

pub returns-then-s-at : goal.returns-then-s-at
returns-then-s-at c =
    sym (word_at_past _ _ c.if-s-at.true)

pub returns : goal.returns
unfolding word_at
returns c =
    c.word.ensures ∙ rw (c.byte_at.ensures, c.byte_at-2.ensures, c.byte_at-3.ensures) refl
