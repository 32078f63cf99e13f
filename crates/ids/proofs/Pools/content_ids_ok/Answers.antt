use Rattle.std.proofs.Common.{sym, ap, ◌∙◌}
use Rattle.ids.specs.Tests.{content_in, content_plain, content_segments_lem}
use Rattle.records.specs.Values.{content_of}
use Rattle.ids.proofs.Pools.content_ids_ok.Goals as goal

pub returns-then-is_plain : goal.returns-then-is_plain
returns-then-is_plain c =
    content_plain _ (content_of c.content_at-c.result) (sym c.is_plain.ensures ∙ c.if-is_plain.true) c.has_string.ensures ∙ ap (content_in _) c.content_at-c.ensures

pub returns : goal.returns
returns c =
    content_segments_lem _ (content_of c.content_at-c.result) (sym c.is_plain.ensures ∙ c.if-is_plain.false) c.has_segments.ensures ∙ ap (content_in _) c.content_at-c.ensures
