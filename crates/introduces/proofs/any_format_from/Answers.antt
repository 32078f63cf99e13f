use Rattle.std.proofs.Common.{refl, sym, ◌∙◌, rules, tests}
use Rattle.model.specs.Tape.{records_at, node_codec}
use Rattle.wire.proofs.Ranges.{range_any}
use Rattle.records.specs.Runs.{test_at, any-records_at}
use Rattle.ruby_formats.specs.Asks.{format_from}
use Rattle.introduces.specs.Linked.{formats_from}
use Rattle.introduces.proofs.any_format_from.Goals as goal

pub returns : goal.returns
unfolding test_at node_codec
returns c =
    let t = c.args.tape.now in
    let nodes = c.args.nodes in
    let from = c.args.from.0 in
    range_any _ _ _ _ (test_at node_codec (format_from from) t nodes.at) refl (λ x b q k. search (rules, tests)) _ c.any.ensures.ran
    ∙ sym (any-records_at node_codec (format_from from) t nodes.at nodes.count)
    ∙ formats_from from (records_at node_codec t nodes.at nodes.count)
