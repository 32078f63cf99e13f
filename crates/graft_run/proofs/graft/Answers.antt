use Rattle.graft_run.specs.Inside.{records_inside}
use Rattle.graft_run.proofs.graft.Goals as goal

pub put_answer-requires : goal.put_answer-requires
put_answer-requires g c = records_inside c.args.source.now.held _ c.graft_layer-r.auto.out c.graft_layer-r.result c.graft_layer-r.ensures
