use Rattle.std.proofs.Common.{◌≡◌, ◌<◌, length, rules, arith, ap}
use Rattle.cases.specs.Stream.{left, next_on, next_shorter}
use Rattle.cases.proofs.CasesIterator.next.Goals as goal

pub returns-clause-goes : goal.returns-clause-goes
returns-clause-goes c =
    let some : 0 < length (left c.args.self.now) = grind arith in
    let less : length (left c.part-replacement.new.self) < length (left c.args.self.now) =
    (let e : left c.part-replacement.new.self ≡ next_on (left c.args.self.now) = cc in omega (arith, ap length e, next_shorter _ some)) in
    search (rules, less)
