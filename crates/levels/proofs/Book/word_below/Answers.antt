use Rattle.std.proofs.Common.{ap₂, ℕ}
use Rattle.levels.specs.Told.{told_as}
use Rattle.levels.specs.Below.{used_below}
use Rattle.records.specs.Uses.{use_number}
use Rattle.levels.proofs.Book.word_below.Goals as goal

pub returns : goal.returns
returns c =
    let both = ap₂ (λ (w next : ℕ). used_below c.args.self.now.tape.now c.args.self.now.st.now c.args.level (use_number c.args.usage) w next) c.body_word-w.ensures c.next_word-next.ensures in
    told_as c.used_below.ensures both
