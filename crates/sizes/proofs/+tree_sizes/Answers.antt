use Rattle.std.proofs.Common.{refl, sym, ap, ◌∙◌, arith}
use Rattle.records.specs.Values.{body_at}
use Rattle.memo.specs.Memo.{is_there}
use Rattle.sizes.specs.Lone.{lone_inside, lone_over, lone_then}
use Rattle.sizes.specs.Known.{known_adds, known_note, text_adds}
use Rattle.sizes.specs.Answers.{contents_over, contents_empty, contents_then, segments_over, segments_empty, segments_then, segment_last, segment_below}
use Rattle.sizes.specs.Answers.{body_sum, place_read, content_plain, content_segments_lem}
use Rattle.sizes.specs.InPlace.{inner_adds, content_from, segment_from, contents_from, segments_from, contents_inside, segments_inside}
use Rattle.sizes.specs.Capped.{less, taking_none, taking_more, taking_over, taking_all}
use Rattle.sizes.specs.Again.{taking_again, again_over, contents_same, segments_same}
use Rattle.sizes.proofs.+tree_sizes.Goals as goal

pub body_sizes-loop-j-init : goal.body_sizes-loop-j-init
body_sizes-loop-j-init t c = (taking_none _ _ _ (body_sum c.args.level c.args.w.now.tape.now c.args.w.now.st.now (body_at c.args.w.now.tape.now c.args.at)), c.requires.known, refl)

pub body_sizes-returns-in_err-u : goal.body_sizes-returns-in_err-u
body_sizes-returns-in_err-u t c =
    (c.from_residual.ensures ∙ taking_over c.loop-j.invariant.0 c.loop-j-test.true (place_read _ _ _ _ _ _ _ c.field_at-f.ensures c.in_err-u.ensures.0), c.in_err-u.ensures.1)

pub body_sizes-loop-j-preserved : goal.body_sizes-loop-j-preserved
body_sizes-loop-j-preserved t c =
    (taking_more c.loop-j.invariant.0 c.loop-j-test.true (place_read _ _ _ _ _ _ _ c.field_at-f.ensures c.in_ok-u.ensures.0), c.in_ok-u.ensures.1, c.field_sizes.auto.memo ∙ c.loop-j.invariant.2)

pub body_sizes-returns : goal.body_sizes-returns
body_sizes-returns t c =
    (taking_all c.loop-j.invariant.0 c.loop-j-test.false, c.loop-j.invariant.1)

pub content_run_sizes-returns-in_err-u : goal.content_run_sizes-returns-in_err-u
content_run_sizes-returns-in_err-u t c =
    (c.from_residual.ensures ∙ contents_over _ _ _ _ _ _ _ c.content_count-n.ensures c.in_err-u.ensures, c.requires.known)

pub content_run_sizes-returns-then-n-eq0 : goal.content_run_sizes-returns-then-n-eq0
content_run_sizes-returns-then-n-eq0 t c =
    (contents_empty _ _ _ _ _ _ _ c.content_count-n.ensures c.in_ok-u.ensures c.if-n-eq0.true, c.requires.known)

pub content_run_sizes-contents_walk-requires : goal.content_run_sizes-contents_walk-requires
content_run_sizes-contents_walk-requires t c =
    (omega arith, (c.requires.known, (contents_inside _ _ c.args.w.now.fit _ _ _ _ c.if-n-eq0.false c.content_count-n.ensures c.content_place.ensures)))

pub content_run_sizes-returns : goal.content_run_sizes-returns
content_run_sizes-returns t c =
    (contents_then _ _ _ _ _ _ _ c.content_count-n.ensures c.in_ok-u.ensures _ c.content_place.ensures c.contents_walk.ensures.0, c.contents_walk.ensures.1)

pub content_sizes-returns-then-is_plain : goal.content_sizes-returns-then-is_plain
content_sizes-returns-then-is_plain t c =
    (content_plain _ _ _ _ _ c.content_at-c.ensures (sym c.is_plain.ensures ∙ c.if-is_plain.true) c.less.ensures, c.requires.known)

pub content_sizes-returns-then-c-ne1 : goal.content_sizes-returns-then-c-ne1
content_sizes-returns-then-c-ne1 t c =
    (content_segments_lem _ _ _ _ _ c.content_at-c.ensures (sym c.is_plain.ensures ∙ c.if-is_plain.false) c.segment_run_sizes.ensures.0, c.segment_run_sizes.ensures.1)

pub content_sizes-returns-in_default : goal.content_sizes-returns-in_default
content_sizes-returns-in_default t c =
    (content_segments_lem _ _ _ _ _ c.content_at-c.ensures (sym c.is_plain.ensures ∙ c.if-is_plain.false) c.segment_run_sizes-in_default.ensures.0, c.segment_run_sizes-in_default.ensures.1)

pub content_sizes-returns-in_err-u : goal.content_sizes-returns-in_err-u
content_sizes-returns-in_err-u t c =
    (c.from_residual.ensures ∙ content_segments_lem _ _ _ _ _ c.content_at-c.ensures (sym c.is_plain.ensures ∙ c.if-is_plain.false) (lone_over _ _ _ _ _ _ _ c.if-c-ne1.false (sym c.lone_place.ensures ∙ c.in-Some.is) c.in_err-u.ensures), c.requires.known)

pub content_sizes-segment_sizes-requires : goal.content_sizes-segment_sizes-requires
content_sizes-segment_sizes-requires t c =
    (omega arith, (c.requires.known, (lone_inside c.args.left (inner_adds c.args.level c.args.w.now.tape.now c.args.w.now.st.now) _ _ _ _ _ c.if-c-ne1.false (sym c.lone_place.ensures ∙ c.in-Some.is) c.args.w.now.fit)))

pub content_sizes-returns : goal.content_sizes-returns
content_sizes-returns t c =
    (content_segments_lem _ _ _ _ _ c.content_at-c.ensures (sym c.is_plain.ensures ∙ c.if-is_plain.false) (lone_then _ _ _ _ _ _ _ c.if-c-ne1.false (sym c.lone_place.ensures ∙ c.in-Some.is) c.in_ok-u.ensures c.segment_sizes.ensures.0), c.segment_sizes.ensures.1)

pub contents_walk-loop-i-init : goal.contents_walk-loop-i-init
contents_walk-loop-i-init t c = (taking_none _ _ _ (contents_from c.args.w.now.tape.now c.args.run.at c.args.run.count (inner_adds c.args.level c.args.w.now.tape.now c.args.w.now.st.now) c.args.w.now.st.now), c.requires.known, refl)

pub contents_walk-returns-in_err-next : goal.contents_walk-returns-in_err-next
unfolding content_from
contents_walk-returns-in_err-next t c =
    (c.from_residual.ensures ∙ taking_over c.loop-i.invariant.0 c.loop-i-test.true c.in_err-next.ensures.0, c.in_err-next.ensures.1)

pub contents_walk-returns-in_err-u : goal.contents_walk-returns-in_err-u
unfolding content_from
contents_walk-returns-in_err-u t c = (
  c.from_residual-in_err-u.ensures ∙ again_over c.loop-i.invariant.0 c.loop-i-test.true c.in_ok-next.ensures.0 c.contents_alike-k.ensures.few (contents_same _ _ _ _ _ c.contents_alike-k.ensures)
      (c.in_err-u.ensures _ c.in_ok-next.ensures.0),
  c.in_ok-next.ensures.1,
)

pub contents_walk-loop-i-preserved : goal.contents_walk-loop-i-preserved
unfolding content_from
contents_walk-loop-i-preserved t c = (
  taking_again c.loop-i.invariant.0 c.loop-i-test.true c.in_ok-next.ensures.0 c.contents_alike-k.ensures.few (contents_same _ _ _ _ _ c.contents_alike-k.ensures)
      (c.in_ok-u.ensures _ c.in_ok-next.ensures.0),
  c.in_ok-next.ensures.1,
  c.content_sizes.auto.memo ∙ c.loop-i.invariant.2,
)

pub contents_walk-returns : goal.contents_walk-returns
contents_walk-returns t c =
    (taking_all c.loop-i.invariant.0 c.loop-i-test.false, c.loop-i.invariant.1)

pub segment_run_sizes-returns-in_err-u : goal.segment_run_sizes-returns-in_err-u
segment_run_sizes-returns-in_err-u t c =
    (c.from_residual.ensures ∙ segments_over _ _ _ _ _ _ _ c.segment_count-n.ensures c.in_err-u.ensures, c.requires.known)

pub segment_run_sizes-returns-then-n-eq0 : goal.segment_run_sizes-returns-then-n-eq0
segment_run_sizes-returns-then-n-eq0 t c =
    (segments_empty _ _ _ _ _ _ _ c.segment_count-n.ensures c.in_ok-u.ensures c.if-n-eq0.true, c.requires.known)

pub segment_run_sizes-segments_walk-requires : goal.segment_run_sizes-segments_walk-requires
segment_run_sizes-segments_walk-requires t c =
    (omega arith, (c.requires.known, (segments_inside _ _ c.args.w.now.fit _ _ _ _ c.if-n-eq0.false c.segment_count-n.ensures c.segment_place.ensures)))

pub segment_run_sizes-returns : goal.segment_run_sizes-returns
segment_run_sizes-returns t c =
    (segments_then _ _ _ _ _ _ _ c.segment_count-n.ensures c.in_ok-u.ensures _ c.segment_place.ensures c.segments_walk.ensures.0, c.segments_walk.ensures.1)

pub segment_sizes-returns-then-level-eq0 : goal.segment_sizes-returns-then-level-eq0
segment_sizes-returns-then-level-eq0 t c =
    (segment_last _ _ _ _ _ c.if-level-eq0.true, c.requires.known)

pub segment_sizes-returns-then-w-at-eq-TEXT : goal.segment_sizes-returns-then-w-at-eq-TEXT
segment_sizes-returns-then-w-at-eq-TEXT t c =
    (text_adds _ _ _ _ _ c.if-level-eq0.false c.if-w-at-eq-TEXT.true c.less.ensures, c.requires.known)

pub segment_sizes-with_entry-requires : goal.segment_sizes-with_entry-requires
segment_sizes-with_entry-requires t c =
    is_there c.args.memo.now c.entry_of-e.result c.args.at c.args.level (sym c.is_of.ensures ∙ c.if-is_of.true)

pub segment_sizes-returns-then-is_of : goal.segment_sizes-returns-then-is_of
segment_sizes-returns-then-is_of t c =
    (c.with_entry.ensures ∙ ap (less c.args.left) (known_adds _ c.requires.known _ _ _ (sym c.is_of.ensures ∙ c.if-is_of.true) c.if-level-eq0.false), c.requires.known)

pub segment_walk-returns-in_err-r : goal.segment_walk-returns-in_err-r
segment_walk-returns-in_err-r t c =
    (c.from_residual.ensures ∙ segment_below _ _ _ _ _ (λ q. absurd (omega (arith, c.requires.at_in_bounds.1, q))) c.in_err-r.ensures.0, c.in_err-r.ensures.1)

pub segment_walk-returns : goal.segment_walk-returns
segment_walk-returns t c =
    let e = segment_below _ _ _ _ _ (λ q. absurd (omega (arith, c.requires.at_in_bounds.1, q))) c.in_ok-r.ensures.0 in
    (e, rw c.note.ensures (known_note _ c.in_ok-r.ensures.1 c.args.e c.args.at c.args.level c.args.left c.in_ok-r.r e))

pub segments_walk-loop-i-init : goal.segments_walk-loop-i-init
segments_walk-loop-i-init t c = (taking_none _ _ _ (segments_from c.args.w.now.tape.now c.args.run.at c.args.run.count (inner_adds c.args.level c.args.w.now.tape.now c.args.w.now.st.now)), c.requires.known, refl)

pub segments_walk-returns-in_err-next : goal.segments_walk-returns-in_err-next
unfolding segment_from
segments_walk-returns-in_err-next t c =
    (c.from_residual.ensures ∙ taking_over c.loop-i.invariant.0 c.loop-i-test.true c.in_err-next.ensures.0, c.in_err-next.ensures.1)

pub segments_walk-returns-in_err-u : goal.segments_walk-returns-in_err-u
unfolding segment_from
segments_walk-returns-in_err-u t c = (
  c.from_residual-in_err-u.ensures ∙ again_over c.loop-i.invariant.0 c.loop-i-test.true c.in_ok-next.ensures.0 c.segments_alike-k.ensures.few
      (segments_same (inner_adds c.args.level c.args.w.now.tape.now c.args.w.now.st.now) _ _ _ c.segments_alike-k.ensures)
      (c.in_err-u.ensures _ c.in_ok-next.ensures.0),
  c.in_ok-next.ensures.1,
)

pub segments_walk-loop-i-preserved : goal.segments_walk-loop-i-preserved
unfolding segment_from
segments_walk-loop-i-preserved t c = (
  taking_again c.loop-i.invariant.0 c.loop-i-test.true c.in_ok-next.ensures.0 c.segments_alike-k.ensures.few
      (segments_same (inner_adds c.args.level c.args.w.now.tape.now c.args.w.now.st.now) _ _ _ c.segments_alike-k.ensures)
      (c.in_ok-u.ensures _ c.in_ok-next.ensures.0),
  c.in_ok-next.ensures.1,
  c.segment_sizes.auto.memo ∙ c.loop-i.invariant.2,
)

pub segments_walk-returns : goal.segments_walk-returns
segments_walk-returns t c =
    (taking_all c.loop-i.invariant.0 c.loop-i-test.false, c.loop-i.invariant.1)
