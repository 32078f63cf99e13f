use Rattle.std.proofs.Common.{◌+◌, refl, sym, ◌∙◌, arith, le-leb}
use Rattle.std.proofs.lemmas.Bool.{lt-leb, le-ltb}
use Rattle.interner.proofs.StrInterner.has_room.Goals as goal
use Rattle.facts.specs.Truth.{leb_left}

pub returns-then-self-lt-MAX_NEW_STRINGS : goal.returns-then-self-lt-MAX_NEW_STRINGS
returns-then-self-lt-MAX_NEW_STRINGS c =
    leb_left _ _ _ c.requires ∙ sym (rw (le-leb (c.args.self.now.count + 1) 3583 (omega arith)) refl)

pub returns-else-self-lt-MAX_NEW_STRINGS : goal.returns-else-self-lt-MAX_NEW_STRINGS
returns-else-self-lt-MAX_NEW_STRINGS c =
    sym (rw (lt-leb (c.args.self.now.count + 1) 3583 (omega arith), le-ltb c.args.self.now.count 3583 (omega arith)) refl)
