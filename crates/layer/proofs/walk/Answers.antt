use Rattle.layer.specs.Walked.{begun, walk_ready, walk_low, walk_none, walk_told}
use Rattle.tape.specs.Held.{held_runs}
use Rattle.layer.specs.Source.{source_of, source_nodes_lem}
use Rattle.layer.proofs.walk.Goals as goal

pub index_words-requires : goal.index_words-requires
index_words-requires c = record { min_work_words_in_bounds = c.requires.min_work_words_in_bounds.0 }

pub invariant_of-w : goal.invariant_of-w
invariant_of-w c = record { source = source_of c.args.source.now.held; paired = c.requires.pairs }

pub graft_nodes-requires : goal.graft_nodes-requires
graft_nodes-requires c =
    let held = c.args.source.now.held in
    let h = c.requires.min_work_words_in_bounds in
    let begin = begun held (c.new.ensures c.args.strs.now h.1) c.index_words.ensures in
    record {
      ready = walk_ready begin c.args.plan c.args.nodes_at c.args.out.now c.requires.walk_room;
      count_in_bounds = ((held_runs held).0, source_nodes_lem held);
      count_bound = (walk_low begin c.args.plan c.args.nodes_at c.args.out.now c.requires.walk_room, c.requires.walk_room.records);
    }

pub returns-in_err-graft_nodes : goal.returns-in_err-graft_nodes
returns-in_err-graft_nodes c =
    let h = c.requires.min_work_words_in_bounds in
    let begin = begun c.args.source.now.held (c.new.ensures c.args.strs.now h.1) c.index_words.ensures in
    rw c.from_residual.ensures (walk_none begin c.args.plan c.args.nodes_at c.args.out.now c.in_err-graft_nodes.ensures)

pub returns : goal.returns
returns c =
    let h = c.requires.min_work_words_in_bounds in
    let begin = begun c.args.source.now.held (c.new.ensures c.args.strs.now h.1) c.index_words.ensures in
    walk_told begin c.args.plan c.args.nodes_at c.args.out.now c.in_ok-graft_nodes.ensures
