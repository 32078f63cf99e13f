use Rattle.std.proofs.Common.{Bool, sym, ap, is_some, true≢false, arith}
use Rattle.levels.specs.Below.{segments_out, segments_none, segments_read, segments_fit_lem}
use Rattle.levels.specs.Table.{segments_said}
use Rattle.level_blocks.specs.Level.{below}
use Rattle.model.specs.Types.{Segment}
use Rattle.model.specs.Tape.{segment_codec}
use Rattle.records.specs.Runs.{test_at, all-records_at}
use Rattle.levels.specs.Told.{told, told_as, told_quick}
use Rattle.levels.proofs.Book.segments_below.Goals as goal

pub has_segments-requires : goal.has_segments-requires
has_segments-requires c =
    c.args.self.now.of_tape.few

pub returns-then-not-has_segments : goal.returns-then-not-has_segments
returns-then-not-has_segments c =
    told (segments_out c.args.self.now.tape.now c.args.self.now.st.now c.args.level c.args.start c.args.len c.has_segments.ensures c.if-not-has_segments.true)

pub returns-then-len-eq0 : goal.returns-then-len-eq0
returns-then-len-eq0 c =
    told (segments_none c.args.self.now.tape.now c.args.self.now.st.now c.args.level c.args.start c.args.len c.has_segments.ensures c.if-not-has_segments.false c.if-len-eq0.true)

pub segment_place-at-requires : goal.segment_place-at-requires
segment_place-at-requires c =
    c.args.self.now.of_tape.few

pub walk-requires-clause-callable : goal.walk-requires-clause-callable
walk-requires-clause-callable c =
    let fits = segments_fit_lem c.args.self.now.tape.now c.args.self.now.st.now c.args.level c.args.start c.args.len c.args.self.now.of_tape c.has_segments.ensures c.if-not-has_segments.false c.if-len-eq0.false _ c.segment_place-at.ensures in
    λ k h. omega (arith, fits, h)

pub returns-in-Some : goal.returns-in-Some
unfolding test_at segment_codec
returns-in-Some c =
    let said = segments_said c.args.self.now.tape.now c.args.self.now.st.now c.args.level c.args.start c.args.len _ c.args.self.now.of_tape (c.args.self.now.tops_made c.in-Some.tops c.in-Some.is) c.has_segments.ensures c.if-not-has_segments.false c.segment_place-at.ensures in
    let test : Segment → Bool = below c.args.level in
    let answer = c.walk.ensures (is_some c.args.self.now.tops) (test_at segment_codec test c.args.self.now.tape.now c.segment_place-at.result) said (λ k r h e. told e) in
    told_as answer
    (segments_read c.args.self.now.tape.now c.args.self.now.st.now c.args.level c.args.start c.args.len c.has_segments.ensures c.if-not-has_segments.false _ c.segment_place-at.ensures (sym (all-records_at segment_codec test c.args.self.now.tape.now c.segment_place-at.result c.args.len)))

pub returns-then-len-gt-MOST_READ : goal.returns-then-len-gt-MOST_READ
returns-then-len-gt-MOST_READ c =
    told_quick (ap is_some c.in_default.is) (λ y. absurd (true≢false (sym y)))

pub levels_below-requires : goal.levels_below-requires
levels_below-requires c =
    segments_fit_lem c.args.self.now.tape.now c.args.self.now.st.now c.args.level c.args.start c.args.len c.args.self.now.of_tape c.has_segments.ensures c.if-not-has_segments.false c.if-len-eq0.false _ c.segment_place-at.ensures

pub returns : goal.returns
returns c =
    told (segments_read c.args.self.now.tape.now c.args.self.now.st.now c.args.level c.args.start c.args.len c.has_segments.ensures c.if-not-has_segments.false _ c.segment_place-at.ensures c.levels_below.ensures)
