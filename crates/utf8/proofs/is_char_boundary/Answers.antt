use Rattle.std.proofs.Common.{refl, le-leb}
use Rattle.std.proofs.lemmas.Bool.{lt-leb}
use Rattle.model.specs.Utf8.{is_char_boundary}
use Rattle.utf8.proofs.is_char_boundary.Goals as goal

pub returns-then-at-s : goal.returns-then-at-s
unfolding is_char_boundary
returns-then-at-s c = rw (le-leb _ _ c.if-at-s.true, c.within.ensures, c.byte_at.ensures) refl

pub returns-else-at-s : goal.returns-else-at-s
unfolding is_char_boundary
returns-else-at-s c = rw (lt-leb _ _ c.if-at-s.false) refl
