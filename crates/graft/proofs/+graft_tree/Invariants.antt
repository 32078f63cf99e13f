use Rattle.std.proofs.Common.{◌+◌, ◌*◌}
use Rattle.model.specs.Tape.{content_codec, segment_codec}
use Rattle.records.specs.Values.{body_at}
use Rattle.graft.specs.Fields.{BodySoFar}
use Rattle.graft.specs.Walk.{shown_contents, shown_segments}
use Rattle.graft.specs.Loop.{ItemsUpTo}
use Rattle.graft.proofs.+graft_tree.Given as goal

abbrev pub decreases-graft_body : goal.decreases-graft_body
decreases-graft_body l = l.level * 9 + 8

abbrev pub invariant-graft_body-loop-j : goal.invariant-graft_body-loop-j
invariant-graft_body-loop-j l = BodySoFar l.level l.w.tape.now l.w.bytes.now l.w.plan l.initial.m (body_at l.w.tape.now l.at) l.initial.out l.initial.work l.initial.strs l.out l.work l.strs l.m l.words l.j

abbrev pub decreases-graft_content : goal.decreases-graft_content
decreases-graft_content l = l.level * 9 + 3

abbrev pub decreases-graft_content_run : goal.decreases-graft_content_run
decreases-graft_content_run l = l.level * 9 + 5

abbrev pub decreases-graft_contents : goal.decreases-graft_contents
decreases-graft_contents l = l.level * 9 + 4

abbrev pub invariant-graft_contents-loop-i : goal.invariant-graft_contents-loop-i
invariant-graft_contents-loop-i l =
    let shown = shown_contents l.level l.w.tape.now l.w.bytes.now in
    let to = l.w.plan.contents_at + 10 * l.to in
    ItemsUpTo l.w.tape.now l.w.bytes.now content_codec shown l.w.plan l.initial.m l.run.at to l.initial.out l.initial.work l.initial.strs l.out l.work l.strs l.m l.i

abbrev pub decreases-graft_field : goal.decreases-graft_field
decreases-graft_field l = l.level * 9 + 6

abbrev pub decreases-graft_place : goal.decreases-graft_place
decreases-graft_place l = l.level * 9 + 7

abbrev pub decreases-graft_segment : goal.decreases-graft_segment
decreases-graft_segment l = l.level * 9 + 0

abbrev pub decreases-graft_segment_run : goal.decreases-graft_segment_run
decreases-graft_segment_run l = l.level * 9 + 2

abbrev pub decreases-graft_segments : goal.decreases-graft_segments
decreases-graft_segments l = l.level * 9 + 1

abbrev pub invariant-graft_segments-loop-i : goal.invariant-graft_segments-loop-i
invariant-graft_segments-loop-i l =
    let shown = shown_segments l.level l.w.tape.now l.w.bytes.now in
    let to = l.w.plan.segments_at + 37 * l.to in
    ItemsUpTo l.w.tape.now l.w.bytes.now segment_codec shown l.w.plan l.initial.m l.run.at to l.initial.out l.initial.work l.initial.strs l.out l.work l.strs l.m l.i
