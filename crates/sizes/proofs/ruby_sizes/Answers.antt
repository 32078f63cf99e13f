use Rattle.std.proofs.Common.{◌∙◌}
use Rattle.sizes.specs.Plain.{ruby_over, ruby_read}
use Rattle.sizes.proofs.ruby_sizes.Goals as goal

pub returns-in_err-u : goal.returns-in_err-u
returns-in_err-u c =
    c.from_residual.ensures ∙ ruby_over c.args.left c.body_word-base.result c.body_word-reading.result c.body_word-base.ensures c.body_word-reading.ensures c.in_err-u.ensures

pub returns : goal.returns
returns c =
    ruby_read c.args.left c.body_word-base.result c.body_word-reading.result c.body_word-base.ensures c.body_word-reading.ensures c.in_ok-u.ensures c.less-2.ensures
