use Rattle.std.proofs.Common.{sym, ◌∙◌}
use Rattle.sizes.specs.Plain.{ruby_class, ruby_other, ruby_base, ruby_told}
use Rattle.sizes.proofs.plain_ruby.Goals as goal

pub returns-then-not-has_words : goal.returns-then-not-has_words
returns-then-not-has_words c =
    ruby_class _ _ _ (sym c.has_words.ensures ∙ c.if-not-has_words.true)

pub returns-then-tape-at-ne-RUBY : goal.returns-then-tape-at-ne-RUBY
returns-then-tape-at-ne-RUBY c =
    ruby_other _ _ _ (sym c.has_words.ensures ∙ c.if-not-has_words.false) c.if-tape-at-ne-RUBY.true

pub returns-then-not-plain_run : goal.returns-then-not-plain_run
returns-then-not-plain_run c =
    ruby_base _ _ _ (sym c.has_words.ensures ∙ c.if-not-has_words.false) c.if-tape-at-ne-RUBY.false c.body_word.ensures c.body_word-2.ensures (sym c.plain_run.ensures ∙ c.if-not-plain_run.true)

pub returns : goal.returns
returns c =
    ruby_told _ _ _ (sym c.has_words.ensures ∙ c.if-not-has_words.false) c.if-tape-at-ne-RUBY.false c.body_word.ensures c.body_word-2.ensures c.body_word-3.ensures c.body_word-4.ensures (sym c.plain_run.ensures ∙ c.if-not-plain_run.false) c.plain_run-2.ensures
