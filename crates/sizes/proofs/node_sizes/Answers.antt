use Rattle.std.proofs.Common.{sym, ◌∙◌}
use Rattle.sizes.specs.Answers.{node_bare, node_body_read}
use Rattle.sizes.specs.Plain.{ruby_adds}
use Rattle.sizes.proofs.node_sizes.Goals as goal

pub returns-then-plain_ruby : goal.returns-then-plain_ruby
returns-then-plain_ruby c =
    (ruby_adds _ _ _ _ c.requires.known.1 _ (sym c.plain_ruby.ensures ∙ c.if-plain_ruby.true) c.ruby_sizes.ensures, c.requires.known.0)

pub returns-then-not-has_words : goal.returns-then-not-has_words
returns-then-not-has_words c =
    (node_bare _ _ _ _ (sym c.has_words.ensures ∙ c.if-not-has_words.true), c.requires.known.0)

pub returns : goal.returns
returns c =
    (node_body_read _ _ _ _ (sym c.has_words.ensures ∙ c.if-not-has_words.false) c.body_sizes.ensures.0, c.body_sizes.ensures.1)
