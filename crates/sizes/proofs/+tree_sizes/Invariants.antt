use Rattle.std.specs.Prelude.{◌≡◌, ◌+◌, ◌-◌, ◌*◌, length}
use Rattle.records.specs.Values.{body_at}
use Rattle.sizes.specs.Known.{Known}
use Rattle.sizes.specs.InPlace.{inner_adds, body_adds, place_adds, contents_add, content_from, segments_add, segment_from}
use Rattle.sizes.specs.Capped.{Taking}
use Rattle.sizes.proofs.+tree_sizes.Given as goal

abbrev pub decreases-body_sizes : goal.decreases-body_sizes
decreases-body_sizes l = l.level * 9 + 8

abbrev pub invariant-body_sizes-loop-j : goal.invariant-body_sizes-loop-j
invariant-body_sizes-loop-j l =
    let b = body_at l.w.tape.now l.at in
    Taking l.initial.u (body_adds l.level l.w.tape.now l.w.st.now b) (place_adds (inner_adds l.level l.w.tape.now l.w.st.now) l.w.tape.now l.w.st.now b) 6 l.j l.u
    × Known l.w.tape.now l.w.st.now l.memo × (length l.memo ≡ length l.initial.memo)

abbrev pub decreases-content_run_sizes : goal.decreases-content_run_sizes
decreases-content_run_sizes l = l.level * 9 + 6

abbrev pub decreases-content_sizes : goal.decreases-content_sizes
decreases-content_sizes l = l.level * 9 + 4

abbrev pub decreases-contents_walk : goal.decreases-contents_walk
decreases-contents_walk l = l.level * 9 + 5

abbrev pub invariant-contents_walk-loop-i : goal.invariant-contents_walk-loop-i
invariant-contents_walk-loop-i l =
    let inner = inner_adds l.level l.w.tape.now l.w.st.now in
    Taking l.initial.u (contents_add inner l.w.tape.now l.w.st.now l.run.at l.run.count) (content_from inner l.w.tape.now l.w.st.now l.run.at) l.run.count l.i l.u
    × Known l.w.tape.now l.w.st.now l.memo × (length l.memo ≡ length l.initial.memo)

abbrev pub decreases-contents_walk-loop-i : goal.decreases-contents_walk-loop-i
decreases-contents_walk-loop-i l = l.run.count - l.i

abbrev pub decreases-field_sizes : goal.decreases-field_sizes
decreases-field_sizes l = l.level * 9 + 7

abbrev pub decreases-segment_run_sizes : goal.decreases-segment_run_sizes
decreases-segment_run_sizes l = l.level * 9 + 3

abbrev pub decreases-segment_sizes : goal.decreases-segment_sizes
decreases-segment_sizes l = l.level * 9 + 1

abbrev pub decreases-segment_walk : goal.decreases-segment_walk
decreases-segment_walk l = l.level * 9 + 0

abbrev pub decreases-segments_walk : goal.decreases-segments_walk
decreases-segments_walk l = l.level * 9 + 2

abbrev pub invariant-segments_walk-loop-i : goal.invariant-segments_walk-loop-i
invariant-segments_walk-loop-i l =
    let inner = inner_adds l.level l.w.tape.now l.w.st.now in
    Taking l.initial.u (segments_add inner l.w.tape.now l.run.at l.run.count) (segment_from inner l.w.tape.now l.run.at) l.run.count l.i l.u
    × Known l.w.tape.now l.w.st.now l.memo × (length l.memo ≡ length l.initial.memo)

abbrev pub decreases-segments_walk-loop-i : goal.decreases-segments_walk-loop-i
decreases-segments_walk-loop-i l = l.run.count - l.i
