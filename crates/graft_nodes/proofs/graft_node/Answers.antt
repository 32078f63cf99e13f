use Rattle.std.proofs.Common.{sym, ◌∙◌, arith}
use Rattle.graft_nodes.specs.Nodes.{node_bare, node_ready, node_known, node_told}
use Rattle.graft_nodes.proofs.graft_node.Goals as goal

pub returns-then-not-has_words : goal.returns-then-not-has_words
returns-then-not-has_words c =
    node_bare c.args.w.now.tape.now c.args.w.now.bytes.now c.args.w.now.st.now c.args.at c.requires.ready (sym c.has_words.ensures ∙ c.if-not-has_words.true)

pub graft_body-requires : goal.graft_body-requires
graft_body-requires c =
    record {
      ready = node_ready c.args.w.now.tape.now c.args.w.now.bytes.now c.args.w.now.st.now c.args.at c.requires.ready (sym c.has_words.ensures ∙ c.if-not-has_words.false);
      at_in_bounds = (omega (arith, c.requires.at_in_bounds.0), node_known c.args.w.now.tape.now c.args.w.now.bytes.now c.args.w.now.st.now c.args.at c.requires.ready (sym c.has_words.ensures ∙ c.if-not-has_words.false) c.requires.at_in_bounds.1);
    }

pub returns : goal.returns
returns c =
    node_told c.args.w.now.tape.now c.args.w.now.bytes.now c.args.w.now.st.now c.args.at c.requires.ready (sym c.has_words.ensures ∙ c.if-not-has_words.false) c.graft_body.ensures
