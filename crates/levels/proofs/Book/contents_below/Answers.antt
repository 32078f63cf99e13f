use Rattle.std.proofs.Common.{Bool, refl, sym, ap, is_some, true≢false, arith}
use Rattle.levels.specs.Below.{contents_out, contents_none, contents_read, contents_fit_lem}
use Rattle.levels.specs.Table.{contents_said}
use Rattle.levels.specs.Below.{content_below}
use Rattle.model.specs.Types.{Content}
use Rattle.model.specs.Tape.{content_codec}
use Rattle.records.specs.Runs.{test_at, all-records_at}
use Rattle.levels.specs.Told.{told, told_as, told_less, told_quick, not_both}
use Rattle.levels.proofs.Book.contents_below.Goals as goal

pub has_contents-requires : goal.has_contents-requires
has_contents-requires c =
    c.args.self.now.of_tape.few

pub returns-then-not-has_contents : goal.returns-then-not-has_contents
returns-then-not-has_contents c =
    told (contents_out c.args.self.now.tape.now c.args.self.now.st.now c.args.level c.args.start c.args.len c.has_contents.ensures c.if-not-has_contents.true)

pub returns-then-len-eq0 : goal.returns-then-len-eq0
returns-then-len-eq0 c =
    told (contents_none c.args.self.now.tape.now c.args.self.now.st.now c.args.level c.args.start c.args.len c.has_contents.ensures c.if-not-has_contents.false c.if-len-eq0.true)

pub content_place-at-requires : goal.content_place-at-requires
content_place-at-requires c =
    c.args.self.now.of_tape.few

pub walk-requires-clause-callable : goal.walk-requires-clause-callable
walk-requires-clause-callable c =
    let fits = contents_fit_lem c.args.self.now.tape.now c.args.self.now.st.now c.args.level c.args.start c.args.len c.args.self.now.of_tape c.has_contents.ensures c.if-not-has_contents.false c.if-len-eq0.false _ c.content_place-at.ensures in
    λ k h. (omega (arith, fits, h), omega (arith, fits, h))

pub returns-in-Some : goal.returns-in-Some
unfolding test_at content_codec
returns-in-Some c =
    let said = contents_said c.args.self.now.tape.now c.args.self.now.st.now c.args.level c.args.start c.args.len _ c.args.self.now.of_tape (c.args.self.now.heights_made c.in-Some.heights c.in-Some.is) c.has_contents.ensures c.if-not-has_contents.false c.content_place-at.ensures in
    let test : Content → Bool = content_below c.args.self.now.tape.now c.args.self.now.st.now c.args.level in
    let answer = c.walk.ensures (is_some c.args.self.now.tops) (test_at content_codec test c.args.self.now.tape.now c.content_place-at.result) said (λ k r h e. e) in
    told_as (told_less (is_some c.args.self.now.heights) answer)
    (contents_read c.args.self.now.tape.now c.args.self.now.st.now c.args.level c.args.start c.args.len c.has_contents.ensures c.if-not-has_contents.false _ c.content_place-at.ensures (sym (all-records_at content_codec test c.args.self.now.tape.now c.content_place-at.result c.args.len)))

pub returns-then-len-gt-MOST_READ : goal.returns-then-len-gt-MOST_READ
returns-then-len-gt-MOST_READ c =
    told_quick (not_both (is_some c.args.self.now.tops) (ap is_some c.in_default.is)) (λ y. absurd (true≢false (sym y)))

pub run_below-requires : goal.run_below-requires
run_below-requires c =
    record {
      count_in_bounds = contents_fit_lem c.args.self.now.tape.now c.args.self.now.st.now c.args.level c.args.start c.args.len c.args.self.now.of_tape c.has_contents.ensures c.if-not-has_contents.false c.if-len-eq0.false _ c.content_place-at.ensures;
    }

pub returns : goal.returns
returns c =
    told_as (told_less (is_some c.args.self.now.heights) c.run_below.ensures) (contents_read c.args.self.now.tape.now c.args.self.now.st.now c.args.level c.args.start c.args.len c.has_contents.ensures c.if-not-has_contents.false _ c.content_place-at.ensures refl)
