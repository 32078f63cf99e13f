use Rattle.records.specs.Uses.{use_number}
use Rattle.records.specs.UseNumbers.{number_same}
use Rattle.records.specs.declared.Use.{Use}
use Rattle.records.specs.declared.Use.TheVariants.{Segments}
use Rattle.ids.specs.Tests.{used_contents, used_segments}
use Rattle.std.proofs.Common.{◌≡◌, ℕ, ◌+◌, ◌*◌, eqb-true, refl, sym, ap, ◌∙◌, arith}
use borrow.Author.Tests.{eqb-false}
use Rattle.graft.specs.Fields.{string_well, field_contents, field_segments_lem, field_string, field_contents_ready, field_segments_ready, word_is, word_small, place_well, place_ready, place_told, place_refused}
use Rattle.graft.specs.Fields.{body_first, body_ready, body_turn, body_more, body_refused, body_last}
use Rattle.graft.specs.Blocks.{Apart.between, Apart.beyond}
use Rattle.graft.specs.Loop.{items_first, item_ready, item_known, item_low, item_turn, items_more, items_refused, items_last}
use Rattle.graft.specs.Kinds.{content_grafts, segment_grafts}
use Rattle.graft.specs.Inner.{contents_ready, contents_high, contents_numbers, contents_others, contents_within, contents_known, content_run_answer}
use Rattle.graft.specs.Inner.{segments_ready, segments_high, segments_numbers, segments_others, segments_within, segments_known, segment_run_answer}
use Rattle.graft.specs.Items.{plain_known, plain_refused, plain_made, run_known, run_ready, run_refused, run_made, body_known, below_ready, segment_zero, below_refused, below_made}
use Rattle.graft.specs.Answers.{told_none, content_run_empty, content_run_refused, segment_run_empty, segment_run_refused}
use Rattle.graft.proofs.+graft_tree.Goals as goal

pub graft_body-loop-j-init : goal.graft_body-loop-j-init
graft_body-loop-j-init t c =
    body_first _ _ c.args.w.now.source c.requires.ready c.requires.at_in_bounds.1

pub graft_body-graft_place-requires : goal.graft_body-graft_place-requires
graft_body-graft_place-requires t c =
    (omega arith, (body_ready _ _ c.args.w.now.source c.requires.ready c.requires.at_in_bounds.1 c.loop-j.invariant (omega arith), (c.requires.at_in_bounds.0, c.requires.at_in_bounds.1, omega arith)))

pub graft_body-returns-in_err-words : goal.graft_body-returns-in_err-words
graft_body-returns-in_err-words t c =
    let turn = body_turn _ _ c.args.w.now.source c.requires.ready c.requires.at_in_bounds.1 c.loop-j.invariant (omega arith) c.in_err-words.ensures in
    rw c.from_residual.ensures (body_refused _ _ c.args.w.now.source c.requires.ready c.requires.at_in_bounds.1 (c.loop-j.j + 1) (omega arith) turn)

pub graft_body-loop-j-preserved : goal.graft_body-loop-j-preserved
graft_body-loop-j-preserved t c =
    body_more _ _ c.args.w.now.source c.requires.ready c.requires.at_in_bounds.1 c.loop-j.invariant (omega arith) c.in_ok-words.ensures _ refl c.graft_place.auto.out

pub graft_body-returns : goal.graft_body-returns
graft_body-returns t c =
    body_last _ _ c.args.w.now.source c.requires.ready c.requires.at_in_bounds.1 c.loop-j.invariant (omega arith) (omega arith)

pub graft_place-field_word-i-requires : goal.graft_place-field_word-i-requires
graft_place-field_word-i-requires t c =
    c.requires.at_in_bounds.2

pub graft_place-field_at-f-requires : goal.graft_place-field_at-f-requires
graft_place-field_at-f-requires t c =
    (c.requires.at_in_bounds.0, c.requires.at_in_bounds.2)

pub graft_place-graft_field-requires : goal.graft_place-graft_field-requires
graft_place-graft_field-requires t c =
    (omega arith, (place_ready _ _ _ _ _ c.field_at-f.ensures c.requires.ready, (place_well _ _ _ c.requires.at_in_bounds.1 (word_small _ _ _ _ c.field_word-i.ensures.0 c.field_word-i.ensures.1) _ c.field_at-f.ensures)))

pub graft_place-returns-in_err-v : goal.graft_place-returns-in_err-v
graft_place-returns-in_err-v t c =
    let well = place_well _ _ _ c.requires.at_in_bounds.1 (word_small _ _ _ _ c.field_word-i.ensures.0 c.field_word-i.ensures.1) _ c.field_at-f.ensures in
    rw c.from_residual.ensures (place_refused _ _ _ _ c.field_at-f.ensures well _ c.args.w.now.source _ c.in_err-v.ensures)

pub graft_place-with_words-requires : goal.graft_place-with_words-requires
graft_place-with_words-requires t c =
    omega (arith, c.field_word-i.ensures.1, c.requires.at_in_bounds.2)

pub graft_place-returns : goal.graft_place-returns
graft_place-returns t c =
    let well = place_well _ _ _ c.requires.at_in_bounds.1 (word_small _ _ _ _ c.field_word-i.ensures.0 c.field_word-i.ensures.1) _ c.field_at-f.ensures in
    place_told _ _ _ _ c.field_at-f.ensures well _ c.args.w.now.source _ _ (word_is _ _ _ _ c.field_word-i.ensures.0) _ c.in_ok-v.ensures _ c.with_words.ensures

segments_alone : (u : Use) → u ≡ Segments → use_number u ≡ 3 → ⊥
segments_alone u s e = let q : use_number u ≡ 5 = ap use_number s in omega (arith, q, e)

pub graft_field-graft_content_run-requires : goal.graft_field-graft_content_run-requires
graft_field-graft_content_run-requires t c =
    let is = ap use_number c.in-Contents.is in
    (omega arith, (field_contents_ready _ _ _ c.requires.ready is, sym (used_contents _ _ _ _ is) ∙ c.requires.second_value))

pub graft_field-returns-in-Contents : goal.graft_field-returns-in-Contents
graft_field-returns-in-Contents t c =
    field_contents _ _ (ap use_number c.in-Contents.is) c.graft_content_run.ensures

pub graft_field-graft_segment_run-requires : goal.graft_field-graft_segment_run-requires
graft_field-graft_segment_run-requires t c =
    let is = ap use_number c.in-Segments.is in
    (omega arith, (field_segments_ready _ _ _ c.requires.ready (segments_alone _ c.in-Segments.is) is, sym (used_segments _ _ _ _ is) ∙ c.requires.second_value))

pub graft_field-returns-in-Segments : goal.graft_field-returns-in-Segments
graft_field-returns-in-Segments t c =
    field_segments_lem _ _ (segments_alone _ c.in-Segments.is) (ap use_number c.in-Segments.is) c.graft_segment_run.ensures

pub graft_field-graft_string-requires : goal.graft_field-graft_string-requires
graft_field-graft_string-requires t c =
    record {
      indexed = c.requires.ready.index;
      good = (c.requires.ready.good, c.requires.ready.named);
      has_room = c.requires.ready.has;
      id_value = (
        string_well _ _ _ _ c.requires.second_value (λ e. c.in_default.not-Contents (number_same _ _ e)) (λ e. c.in_default.not-Segments (number_same _ _ e)),
        omega (arith, c.requires.ready.space.calls),
        omega (arith, c.requires.ready.space.string_numbers),
      );
    }

pub graft_field-returns-in_err-graft_string-in_default : goal.graft_field-returns-in_err-graft_string-in_default
graft_field-returns-in_err-graft_string-in_default t c =
    rw c.from_residual.ensures (field_string _ _ (λ e. c.in_default.not-Contents (number_same _ _ e)) (λ e. c.in_default.not-Segments (number_same _ _ e))
    (c.in_err-graft_string-in_default.ensures c.args.out.now))

pub graft_field-returns-in_ok-graft_string-in_default : goal.graft_field-returns-in_ok-graft_string-in_default
graft_field-returns-in_ok-graft_string-in_default t c =
    field_string _ _ (λ e. c.in_default.not-Contents (number_same _ _ e)) (λ e. c.in_default.not-Segments (number_same _ _ e))
    (c.in_ok-graft_string-in_default.ensures c.args.out.now)

pub graft_content_run-overflow_add-result : goal.graft_content_run-overflow_add-result
graft_content_run-overflow_add-result t c =
    omega (arith, c.requires.ready.space.content_numbers)

pub graft_content_run-returns-then-len-eq0 : goal.graft_content_run-returns-then-len-eq0
graft_content_run-returns-then-len-eq0 t c =
    content_run_empty _ c.args.w.now.source _ _ c.if-len-eq0.true c.requires.ready

pub graft_content_run-content_place-requires : goal.graft_content_run-content_place-requires
graft_content_run-content_place-requires t c =
    c.args.w.now.source.fit.few

pub graft_content_run-inner_contents-requires : goal.graft_content_run-inner_contents-requires
graft_content_run-inner_contents-requires t c =
    let numbers = contents_numbers _ _ _ c.requires.len_value c.args.w.now.source c.requires.ready _ c.content_place.ensures in
    let others = contents_others _ _ _ c.requires.len_value c.args.w.now.source c.requires.ready _ c.content_place.ensures in
    record {
      count_in_bounds = contents_within _ _ _ c.requires.len_value c.args.w.now.source c.requires.ready _ c.content_place.ensures c.if-len-eq0.false;
      count_bound = (omega (arith, numbers), others);
    }

pub graft_content_run-overflow_add-to : goal.graft_content_run-overflow_add-to
graft_content_run-overflow_add-to t c =
    omega (arith, contents_numbers _ _ _ c.requires.len_value c.args.w.now.source c.requires.ready _ c.content_place.ensures, c.inner_contents.ensures)

pub graft_content_run-graft_contents-requires : goal.graft_content_run-graft_contents-requires
graft_content_run-graft_contents-requires t c =
    let ready = contents_ready _ _ _ c.requires.len_value c.args.w.now.source c.requires.ready _ c.content_place.ensures in
    let within = contents_within _ _ _ c.requires.len_value c.args.w.now.source c.requires.ready _ c.content_place.ensures c.if-len-eq0.false in
    let known = contents_known _ _ _ c.requires.len_value c.args.w.now.source c.requires.ready _ c.content_place.ensures in
    let high = contents_high _ _ _ c.requires.len_value c.args.w.now.source c.requires.ready _ c.content_place.ensures in
    let numbers = contents_numbers _ _ _ c.requires.len_value c.args.w.now.source c.requires.ready _ c.content_place.ensures in
    let is = c.inner_contents.ensures in
    (omega arith, (ready, ((within, known), (omega (arith, is), omega (arith, high, is), omega (arith, numbers, is)))))

pub graft_content_run-returns-in_err-graft_contents : goal.graft_content_run-returns-in_err-graft_contents
graft_content_run-returns-in_err-graft_contents t c =
    rw c.from_residual.ensures (content_run_refused _ c.args.w.now.source _ _ c.requires.len_value _ _ c.content_place.ensures c.in_err-graft_contents.ensures)

pub graft_content_run-overflow_add-m : goal.graft_content_run-overflow_add-m
graft_content_run-overflow_add-m t c =
    omega (arith, contents_numbers _ _ _ c.requires.len_value c.args.w.now.source c.requires.ready _ c.content_place.ensures, c.inner_contents.ensures)

pub graft_content_run-overflow_add-result-2 : goal.graft_content_run-overflow_add-result-2
graft_content_run-overflow_add-result-2 t c =
    omega (arith, contents_numbers _ _ _ c.requires.len_value c.args.w.now.source c.requires.ready _ c.content_place.ensures, c.inner_contents.ensures)

pub graft_content_run-returns : goal.graft_content_run-returns
graft_content_run-returns t c =
    content_run_answer _ _ _ c.requires.len_value c.args.w.now.source c.requires.ready _ c.content_place.ensures _ (ap (λ (n : ℕ). c.args.m.now.contents + n) c.inner_contents.ensures) c.in_ok-graft_contents.ensures

pub graft_segment_run-overflow_add-result : goal.graft_segment_run-overflow_add-result
graft_segment_run-overflow_add-result t c =
    omega (arith, c.requires.ready.space.segment_numbers)

pub graft_segment_run-returns-then-len-eq0 : goal.graft_segment_run-returns-then-len-eq0
graft_segment_run-returns-then-len-eq0 t c =
    segment_run_empty _ c.args.w.now.source _ _ c.if-len-eq0.true c.requires.ready

pub graft_segment_run-segment_place-requires : goal.graft_segment_run-segment_place-requires
graft_segment_run-segment_place-requires t c =
    c.args.w.now.source.fit.few

pub graft_segment_run-inner_segments-requires : goal.graft_segment_run-inner_segments-requires
graft_segment_run-inner_segments-requires t c =
    let numbers = segments_numbers _ _ _ c.requires.len_value c.args.w.now.source c.requires.ready _ c.segment_place.ensures in
    let others = segments_others _ _ _ c.requires.len_value c.args.w.now.source c.requires.ready _ c.segment_place.ensures in
    record {
      count_in_bounds = segments_within _ _ _ c.requires.len_value c.args.w.now.source c.requires.ready _ c.segment_place.ensures c.if-len-eq0.false;
      count_bound = (others, omega (arith, numbers));
    }

pub graft_segment_run-overflow_add-to : goal.graft_segment_run-overflow_add-to
graft_segment_run-overflow_add-to t c =
    omega (arith, segments_numbers _ _ _ c.requires.len_value c.args.w.now.source c.requires.ready _ c.segment_place.ensures, c.inner_segments.ensures)

pub graft_segment_run-graft_segments-requires : goal.graft_segment_run-graft_segments-requires
graft_segment_run-graft_segments-requires t c =
    let ready = segments_ready _ _ _ c.requires.len_value c.args.w.now.source c.requires.ready _ c.segment_place.ensures in
    let within = segments_within _ _ _ c.requires.len_value c.args.w.now.source c.requires.ready _ c.segment_place.ensures c.if-len-eq0.false in
    let known = segments_known _ _ _ c.requires.len_value c.args.w.now.source c.requires.ready _ c.segment_place.ensures in
    let high = segments_high _ _ _ c.requires.len_value c.args.w.now.source c.requires.ready _ c.segment_place.ensures in
    let numbers = segments_numbers _ _ _ c.requires.len_value c.args.w.now.source c.requires.ready _ c.segment_place.ensures in
    let is = c.inner_segments.ensures in
    (omega arith, (ready, ((within, known), (omega (arith, is), omega (arith, high, is), omega (arith, numbers, is)))))

pub graft_segment_run-returns-in_err-graft_segments : goal.graft_segment_run-returns-in_err-graft_segments
graft_segment_run-returns-in_err-graft_segments t c =
    rw c.from_residual.ensures (segment_run_refused _ c.args.w.now.source _ _ c.requires.len_value _ _ c.segment_place.ensures c.in_err-graft_segments.ensures)

pub graft_segment_run-overflow_add-m : goal.graft_segment_run-overflow_add-m
graft_segment_run-overflow_add-m t c =
    omega (arith, segments_numbers _ _ _ c.requires.len_value c.args.w.now.source c.requires.ready _ c.segment_place.ensures, c.inner_segments.ensures)

pub graft_segment_run-overflow_add-result-2 : goal.graft_segment_run-overflow_add-result-2
graft_segment_run-overflow_add-result-2 t c =
    omega (arith, segments_numbers _ _ _ c.requires.len_value c.args.w.now.source c.requires.ready _ c.segment_place.ensures, c.inner_segments.ensures)

pub graft_segment_run-returns : goal.graft_segment_run-returns
graft_segment_run-returns t c =
    segment_run_answer _ _ _ c.requires.len_value c.args.w.now.source c.requires.ready _ c.segment_place.ensures _ (ap (λ (n : ℕ). c.args.m.now.segments + n) c.inner_segments.ensures) c.in_ok-graft_segments.ensures

pub graft_contents-loop-i-init : goal.graft_contents-loop-i-init
graft_contents-loop-i-init t c =
    items_first (content_grafts c.args.w.now.source _) _ _ _ c.requires.ready c.requires.count_in_bounds.1

pub graft_contents-overflow_cast-i : goal.graft_contents-overflow_cast-i
graft_contents-overflow_cast-i t c =
    omega (arith, c.requires.count_bound.2)

pub graft_contents-overflow_add-to : goal.graft_contents-overflow_add-to
graft_contents-overflow_add-to t c =
    omega (arith, c.requires.count_bound.2)

pub graft_contents-graft_content-requires : goal.graft_contents-graft_content-requires
graft_contents-graft_content-requires t c =
    let grafts = content_grafts c.args.w.now.source c.args.level in
    let ready = item_ready grafts _ _ _ c.requires.ready c.requires.count_in_bounds.1 c.loop-i.invariant (omega arith) in
    let known = item_known grafts _ _ (c.args.w.now.plan.contents_at + 10 * c.args.to) c.requires.ready c.requires.count_in_bounds.1 c.loop-i.i (omega arith) in
    let low = item_low grafts _ _ _ c.requires.ready c.requires.count_in_bounds.1 c.loop-i.invariant (omega arith) in
    (omega arith, (ready, ((omega (arith, c.requires.count_in_bounds.0), known), (omega (arith, low.0, c.requires.count_bound.0), omega (arith, c.requires.count_bound.1)))))

pub graft_contents-returns-in_err-graft_content : goal.graft_contents-returns-in_err-graft_content
graft_contents-returns-in_err-graft_content t c =
    let grafts = content_grafts c.args.w.now.source c.args.level in
    rw c.from_residual.ensures (items_refused grafts _ _ _ c.requires.ready c.requires.count_in_bounds.1 (c.loop-i.i + 1) (omega arith)
    (item_turn grafts _ _ _ c.requires.ready c.requires.count_in_bounds.1 c.loop-i.invariant (omega arith)
    (between (omega (arith, c.requires.count_bound.0)) (omega (arith, c.requires.count_bound.1))) _ (omega arith) c.in_err-graft_content.ensures))

pub graft_contents-loop-i-preserved : goal.graft_contents-loop-i-preserved
graft_contents-loop-i-preserved t c =
    items_more (content_grafts c.args.w.now.source c.args.level) _ _ _ c.requires.ready c.requires.count_in_bounds.1 c.loop-i.invariant (omega arith)
    (between (omega (arith, c.requires.count_bound.0)) (omega (arith, c.requires.count_bound.1))) _ (omega arith) c.in_ok-graft_content.ensures c.graft_content.auto.out refl

pub graft_contents-returns : goal.graft_contents-returns
graft_contents-returns t c =
    items_last (content_grafts c.args.w.now.source _) _ _ _ c.requires.ready c.requires.count_in_bounds.1 c.loop-i.invariant (omega arith) (omega arith)

pub graft_segments-loop-i-init : goal.graft_segments-loop-i-init
graft_segments-loop-i-init t c =
    items_first (segment_grafts c.args.w.now.source _) _ _ _ c.requires.ready c.requires.count_in_bounds.1

pub graft_segments-overflow_cast-i : goal.graft_segments-overflow_cast-i
graft_segments-overflow_cast-i t c =
    omega (arith, c.requires.count_bound.2)

pub graft_segments-overflow_add-to : goal.graft_segments-overflow_add-to
graft_segments-overflow_add-to t c =
    omega (arith, c.requires.count_bound.2)

pub graft_segments-graft_segment-requires : goal.graft_segments-graft_segment-requires
graft_segments-graft_segment-requires t c =
    let grafts = segment_grafts c.args.w.now.source c.args.level in
    let ready = item_ready grafts _ _ _ c.requires.ready c.requires.count_in_bounds.1 c.loop-i.invariant (omega arith) in
    let known = item_known grafts _ _ (c.args.w.now.plan.segments_at + 37 * c.args.to) c.requires.ready c.requires.count_in_bounds.1 c.loop-i.i (omega arith) in
    let low = item_low grafts _ _ _ c.requires.ready c.requires.count_in_bounds.1 c.loop-i.invariant (omega arith) in
    (omega arith, (ready, ((omega (arith, c.requires.count_in_bounds.0), known), (omega (arith, low.1, c.requires.count_bound.0), omega (arith, c.requires.count_bound.1)))))

pub graft_segments-returns-in_err-graft_segment : goal.graft_segments-returns-in_err-graft_segment
graft_segments-returns-in_err-graft_segment t c =
    let grafts = segment_grafts c.args.w.now.source c.args.level in
    rw c.from_residual.ensures (items_refused grafts _ _ _ c.requires.ready c.requires.count_in_bounds.1 (c.loop-i.i + 1) (omega arith)
    (item_turn grafts _ _ _ c.requires.ready c.requires.count_in_bounds.1 c.loop-i.invariant (omega arith)
    (beyond (omega (arith, c.requires.count_bound.0)) (omega (arith, c.requires.count_bound.1))) _ (omega arith) c.in_err-graft_segment.ensures))

pub graft_segments-loop-i-preserved : goal.graft_segments-loop-i-preserved
graft_segments-loop-i-preserved t c =
    items_more (segment_grafts c.args.w.now.source c.args.level) _ _ _ c.requires.ready c.requires.count_in_bounds.1 c.loop-i.invariant (omega arith)
    (beyond (omega (arith, c.requires.count_bound.0)) (omega (arith, c.requires.count_bound.1))) _ (omega arith) c.in_ok-graft_segment.ensures c.graft_segment.auto.out refl

pub graft_segments-returns : goal.graft_segments-returns
graft_segments-returns t c =
    items_last (segment_grafts c.args.w.now.source _) _ _ _ c.requires.ready c.requires.count_in_bounds.1 c.loop-i.invariant (omega arith) (omega arith)

pub graft_content-content_at-c-requires : goal.graft_content-content_at-c-requires
graft_content-content_at-c-requires t c =
    c.requires.at_in_bounds.0

pub graft_content-overflow_mul-place : goal.graft_content-overflow_mul-place
graft_content-overflow_mul-place t c =
    omega (arith, c.requires.at_bound.1, c.requires.ready.space.segments)

pub graft_content-overflow_add-place : goal.graft_content-overflow_add-place
graft_content-overflow_add-place t c =
    omega (arith, c.requires.at_bound.1, c.requires.ready.space.segments)

pub graft_content-graft_str-requires : goal.graft_content-graft_str-requires
graft_content-graft_str-requires t c =
    record {
      indexed = c.requires.ready.index;
      good = (c.requires.ready.good, c.requires.ready.named);
      id_lt_strings = (
        plain_known _ _ _ _ c.content_at-c.ensures c.requires.at_in_bounds.1 (eqb-true _ _ (sym c.is_plain.ensures ∙ c.if-is_plain.true)),
        omega (arith, c.requires.ready.space.calls),
        omega (arith, c.requires.ready.space.string_numbers),
      );
    }

pub graft_content-returns-in_err-id : goal.graft_content-returns-in_err-id
graft_content-returns-in_err-id t c =
    rw c.from_residual.ensures (plain_refused _ c.args.w.now.st.now _ _ c.content_at-c.ensures _ _ (eqb-true _ _ (sym c.is_plain.ensures ∙ c.if-is_plain.true)) (c.in_err-id.ensures c.args.out.now))

pub graft_content-put_content-requires : goal.graft_content-put_content-requires
graft_content-put_content-requires t c =
    omega (arith, c.requires.at_bound.1, c.requires.ready.space.segments)

pub graft_content-returns-then-is_plain : goal.graft_content-returns-then-is_plain
graft_content-returns-then-is_plain t c =
    plain_made _ c.args.w.now.st.now _ _ c.content_at-c.ensures _ _ (eqb-true _ _ (sym c.is_plain.ensures ∙ c.if-is_plain.true)) _ (c.in_ok-id.ensures c.args.out.now) c.put_content.ensures

pub graft_content-graft_segment_run-requires : goal.graft_content-graft_segment_run-requires
graft_content-graft_segment_run-requires t c =
    let segmented = eqb-false _ _ (sym c.is_plain.ensures ∙ c.if-is_plain.false) in
    let known = run_known _ _ _ _ c.content_at-c.ensures c.requires.at_in_bounds.1 segmented in
    (omega arith, (run_ready _ _ _ _ c.content_at-c.ensures _ segmented c.requires.ready, known))

pub graft_content-returns-in_err-first : goal.graft_content-returns-in_err-first
graft_content-returns-in_err-first t c =
    let segmented = eqb-false _ _ (sym c.is_plain.ensures ∙ c.if-is_plain.false) in
    let known = run_known _ _ _ _ c.content_at-c.ensures c.requires.at_in_bounds.1 segmented in
    rw c.from_residual-in_err-first.ensures (run_refused _ _ _ _ c.content_at-c.ensures _ _ c.args.w.now.source known segmented c.in_err-first.ensures)

pub graft_content-put_content-requires-2 : goal.graft_content-put_content-requires-2
graft_content-put_content-requires-2 t c =
    omega (arith, c.requires.at_bound.1, c.requires.ready.space.segments, c.graft_segment_run.auto.out)

pub graft_content-returns : goal.graft_content-returns
graft_content-returns t c =
    let segmented = eqb-false _ _ (sym c.is_plain.ensures ∙ c.if-is_plain.false) in
    let known = run_known _ _ _ _ c.content_at-c.ensures c.requires.at_in_bounds.1 segmented in
    run_made _ _ _ _ c.content_at-c.ensures _ _ c.args.w.now.source known segmented _ c.in_ok-first.ensures c.put_content-2.ensures

pub graft_segment-overflow_mul-place : goal.graft_segment-overflow_mul-place
graft_segment-overflow_mul-place t c =
    omega (arith, c.requires.at_bound.1)

pub graft_segment-overflow_add-place : goal.graft_segment-overflow_add-place
graft_segment-overflow_add-place t c =
    omega (arith, c.requires.at_bound.1)

pub graft_segment-put_segment-requires : goal.graft_segment-put_segment-requires
graft_segment-put_segment-requires t c =
    omega (arith, c.requires.at_bound.1)

pub graft_segment-returns-then-level-eq0 : goal.graft_segment-returns-then-level-eq0
graft_segment-returns-then-level-eq0 t c =
    segment_zero _ _ _ _ c.segment_at-s.ensures _ _ c.if-level-eq0.true (told_none c.requires.ready) c.put_segment.ensures

pub graft_segment-graft_body-requires : goal.graft_segment-graft_body-requires
graft_segment-graft_body-requires t c =
    (omega (arith, c.if-level-eq0.false), (below_ready _ _ _ c.if-level-eq0.false c.requires.ready, (omega (arith, c.requires.at_in_bounds.0), body_known _ _ _ c.requires.at_in_bounds.1)))

pub graft_segment-returns-in_err-words : goal.graft_segment-returns-in_err-words
graft_segment-returns-in_err-words t c =
    rw c.from_residual.ensures (below_refused _ _ _ _ c.segment_at-s.ensures _ _ c.if-level-eq0.false c.in_err-words.ensures)

pub graft_segment-put_segment-requires-2 : goal.graft_segment-put_segment-requires-2
graft_segment-put_segment-requires-2 t c =
    omega (arith, c.requires.at_bound.1, c.graft_body.auto.out)

pub graft_segment-returns : goal.graft_segment-returns
graft_segment-returns t c =
    below_made _ _ _ _ c.segment_at-s.ensures _ _ c.if-level-eq0.false _ c.in_ok-words.ensures c.put_segment-2.ensures
