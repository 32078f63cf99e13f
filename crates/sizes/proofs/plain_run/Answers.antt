use Rattle.std.proofs.Common.{arith, refl}
use Rattle.sizes.specs.Plain.{plain_over, plain_told}
use Rattle.sizes.proofs.plain_run.Goals as goal

pub returns-then-own-from : goal.returns-then-own-from
returns-then-own-from c = plain_over c.args.tape.now c.args.own c.args.start c.args.len (omega arith)

pub returns : goal.returns
returns c = plain_told c.args.tape.now c.args.own c.args.start c.args.len _ _ refl refl (omega arith) c.plain_contents.ensures
