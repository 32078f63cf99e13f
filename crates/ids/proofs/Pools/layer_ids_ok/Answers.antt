use Rattle.std.proofs.Common.{◌∙◌}
use Rattle.ids.specs.Whole.{runs_failed, runs_answer}
use Rattle.ids.proofs.Pools.layer_ids_ok.Goals as goal

pub returns-then-contents_ids_ok : goal.returns-then-contents_ids_ok
returns-then-contents_ids_ok c =
    runs_answer c.args.self.now.tape.now c.args.self.now.st.now c.args.l c.contents_ids_ok.ensures c.if-contents_ids_ok.true c.segments_ids_ok.ensures

pub returns-else-contents_ids_ok : goal.returns-else-contents_ids_ok
returns-else-contents_ids_ok c =
    c.if-contents_ids_ok.false ∙ runs_failed c.args.self.now.tape.now c.args.self.now.st.now c.args.l c.contents_ids_ok.ensures c.if-contents_ids_ok.false
