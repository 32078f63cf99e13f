use Rattle.sizes.specs.InPlace.{segment_count_in, segment_count_out}
use Rattle.sizes.proofs.segment_count.Goals as goal

pub returns-then-has_segments : goal.returns-then-has_segments
returns-then-has_segments c = segment_count_in c.args.w.now.st.now c.args.start c.args.len c.has_segments.ensures c.if-has_segments.true

pub returns-else-has_segments : goal.returns-else-has_segments
returns-else-has_segments c = segment_count_out c.args.w.now.st.now c.args.start c.args.len c.has_segments.ensures c.if-has_segments.false
