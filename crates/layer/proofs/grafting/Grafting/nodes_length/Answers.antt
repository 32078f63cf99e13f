use Rattle.std.proofs.Common.{arith}
use Rattle.layer.specs.Source.{source_few}
use Rattle.layer.proofs.grafting.Grafting.nodes_length.Goals as goal

pub overflow_mul-result : goal.overflow_mul-result
overflow_mul-result c = omega (arith, source_few c.args.self.now.source.now.held)
