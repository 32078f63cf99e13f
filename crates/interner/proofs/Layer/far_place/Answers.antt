use native.Mathlib.Omega.{arith}
use Rattle.interner.proofs.Layer.far_place.Goals as goal

pub bounds-self-8191 : goal.bounds-self-8191
bounds-self-8191 c =
    omega (arith, c.args.self.now.good.words.room)

pub far_string-requires : goal.far_string-requires
far_string-requires c =
    (c.requires, omega arith)
