use Rattle.std.proofs.Common.{refl, sym, ◌∙◌, rules, tests}
use Rattle.model.specs.Tape.{node_codec}
use Rattle.model.specs.Region.{is_ruby}
use Rattle.wire.proofs.Ranges.{range_any}
use Rattle.records.specs.Runs.{test_at, any-records_at}
use Rattle.ruby_formats.proofs.any_ruby.Goals as goal

pub returns : goal.returns
unfolding test_at node_codec
returns c =
    let t = c.args.tape.now in
    let at = c.args.nodes.at in
    range_any _ _ _ _ (test_at node_codec is_ruby t at) refl (λ x b q k. search (rules, tests)) _ c.any.ensures.ran
    ∙ sym (any-records_at node_codec is_ruby t at c.args.nodes.count)
