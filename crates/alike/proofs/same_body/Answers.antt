use Rattle.std.proofs.Common.{sym, ◌∙◌}
use Rattle.std.specs.Cmp.Lexicographic.{same_text}
use Rattle.alike.specs.Alike.{same_bodies}
use Rattle.alike.proofs.same_body.Goals as goal

pub returns : goal.returns
returns c =
    λ e. same_bodies c.args.tape.now c.args.a c.args.b (same_text _ _ (sym e ∙ c.eq.ensures))
