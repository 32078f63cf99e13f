use Rattle.std.proofs.Common.{sym, ap, ◌∙◌}
use Rattle.std.proofs.Math.Bool.{not}
use Rattle.ids.specs.Tests.{node_bare, node_answer_lem}
use Rattle.ids.proofs.Pools.node_ids_ok.Goals as goal

pub returns-then-not-has_words : goal.returns-then-not-has_words
returns-then-not-has_words c =
    ap not c.if-not-has_words.true ∙ node_bare _ _ _ (sym c.has_words.ensures ∙ c.if-not-has_words.true)

pub returns-else-not-has_words : goal.returns-else-not-has_words
returns-else-not-has_words c =
    node_answer_lem _ _ _ (sym c.has_words.ensures ∙ c.if-not-has_words.false) c.body_ids_ok.ensures
