use Rattle.std.proofs.Common.{arith}
use Rattle.ruby_formats.proofs.nodes.Nodes.at.Goals as goal

pub overflow_mul-result : goal.overflow_mul-result
overflow_mul-result c = let s = c.args.self.now.sound in omega (arith, s.inside, s.small)

pub overflow_add-result : goal.overflow_add-result
overflow_add-result c = let s = c.args.self.now.sound in omega (arith, s.inside, s.small)
