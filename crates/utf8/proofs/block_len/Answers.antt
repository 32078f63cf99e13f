use borrow.Author.Tests.{le-leb, lt-leb}
use Rattle.utf8.specs.Blocks.{len_of}
use mathlib.Core.Path.{refl}
use Rattle.utf8.proofs.block_len.Goals as goal

pub returns-then-b-ge192 : goal.returns-then-b-ge192
unfolding len_of
returns-then-b-ge192 c =
    rw (le-leb _ _ c.if-b-ge192.true) refl

pub returns-then-a-ge224 : goal.returns-then-a-ge224
unfolding len_of
returns-then-a-ge224 c =
    rw (lt-leb _ _ c.if-b-ge192.false, le-leb _ _ c.if-a-ge224.true) refl

pub returns : goal.returns
unfolding len_of
returns c =
    rw (lt-leb _ _ c.if-b-ge192.false, lt-leb _ _ c.if-a-ge224.false) refl
