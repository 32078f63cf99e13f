use Rattle.std.proofs.Common.{◌≡◌, ◌+◌, ◌-◌, sym, ap, ◌∙◌, arith}
use Rattle.ruby_formats.specs.Asks.{asks_at, count_to_last, last_here, last_before, last_none}
use Rattle.ruby_formats.proofs.asked_nodes.Goals as goal

pub returns-then-asks_target : goal.returns-then-asks_target
unfolding asks_at
returns-then-asks_target c =
    let n : c.loop-n.n - 1 + 1 ≡ c.loop-n.n = omega arith in
    n ∙ last_here (asks_at c.args.from.0 c.args.tape.now c.args.nodes.at) c.loop-n.n (omega arith) (sym c.asks_target.ensures ∙ c.if-asks_target.true) ∙ c.loop-n.invariant

pub loop-n-preserved : goal.loop-n-preserved
unfolding asks_at
loop-n-preserved c =
    last_before (asks_at c.args.from.0 c.args.tape.now c.args.nodes.at) c.loop-n.n (omega arith) (sym c.asks_target.ensures ∙ c.if-asks_target.false) ∙ c.loop-n.invariant

pub returns : goal.returns
returns c =
    let asks = asks_at c.args.from.0 c.args.tape.now c.args.nodes.at in
    let e : c.loop-n.n ≡ 0 = omega arith in last_none asks ∙ sym (ap (λ m. count_to_last m asks) e) ∙ c.loop-n.invariant
