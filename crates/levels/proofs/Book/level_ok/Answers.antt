use Rattle.std.proofs.Common.{refl}
use Rattle.levels.specs.Told.{told, told_as}
use Rattle.levels.specs.Below.{level_text, level_out, level_node}
use Rattle.levels.proofs.Book.level_ok.Goals as goal

pub returns-then-self-at-lt-NODE : goal.returns-then-self-at-lt-NODE
returns-then-self-at-lt-NODE c =
    told (level_text c.args.self.now.tape.now c.args.self.now.st.now c.args.at c.if-self-at-lt-NODE.true)

pub returns-then-not-level_in_range : goal.returns-then-not-level_in_range
returns-then-not-level_in_range c =
    told (level_out c.args.self.now.tape.now c.args.self.now.st.now c.args.at c.if-self-at-lt-NODE.false c.level_in_range.ensures c.if-not-level_in_range.true)

pub returns : goal.returns
returns c =
    told_as c.body_below.ensures (level_node c.args.self.now.tape.now c.args.self.now.st.now c.args.at c.if-self-at-lt-NODE.false c.level_in_range.ensures c.if-not-level_in_range.false _ refl)
