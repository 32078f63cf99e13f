use Rattle.std.proofs.Common.{◌<◌, ◌≤◌, rules, tests}
use Rattle.std.proofs.lemmas.Iterator.{first_from_Range}
use Rattle.reading.specs.Until.{end_at, until_found}
use Rattle.reading.proofs.nodes_until.Goals as goal

pub returns : goal.returns
returns c =
    let t = c.args.tape.now in
    let at = c.args.nodes.at in
    let o = c.args.offset.0 in
    rw c.unwrap_or.ensures (until_found t at o c.requires.in_order _
    (first_from_Range _ _ _ _ (λ i. o < end_at t at o i) (λ i. end_at t at o i ≤ o) c.find.ensures.ran
    (λ x q k. search (rules, tests))
    (λ x q k. (search rules, search (rules, tests)))))
