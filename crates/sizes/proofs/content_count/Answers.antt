use Rattle.sizes.specs.InPlace.{content_count_in, content_count_out}
use Rattle.sizes.proofs.content_count.Goals as goal

pub returns-then-has_contents : goal.returns-then-has_contents
returns-then-has_contents c = content_count_in c.args.w.now.st.now c.args.start c.args.len c.has_contents.ensures c.if-has_contents.true

pub returns-else-has_contents : goal.returns-else-has_contents
returns-else-has_contents c = content_count_out c.args.w.now.st.now c.args.start c.args.len c.has_contents.ensures c.if-has_contents.false
