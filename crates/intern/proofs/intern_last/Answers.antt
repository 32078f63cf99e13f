use Rattle.std.proofs.Common.{refl, sym}
use Rattle.stats.specs.Ways.{adds_cache_hit}
use Rattle.intern.proofs.Answers.{intern_cached}
use Rattle.intern.proofs.intern_last.Goals as goal

pub returns : goal.returns
returns c =
    λ work strs s g e. intern_cached work strs c.args.st.now g s _ (sym e) _ (adds_cache_hit _ _ c.requires.counted.0 c.cache_hit-stats.ensures) refl _ c.known.ensures.state _ c.known.ensures.id
