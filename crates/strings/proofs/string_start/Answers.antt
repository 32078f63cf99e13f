use Rattle.std.proofs.Common.{length, refl, arith}
use Rattle.strings.specs.Starts.{lengths_in}
use Rattle.strings.specs.Index.{step_some, lookup_between, lookup_inside, lookup_start, span_start}
use Rattle.strings.proofs.string_start.Goals as goal

pub nonzero_div-q : goal.nonzero_div-q
nonzero_div-q c =
    omega (arith, step_some c.args.st.now.totals.strings (length c.args.words.now), c.step_of-step.ensures)

pub returns-then-q-eq0 : goal.returns-then-q-eq0
returns-then-q-eq0 c =
    span_start (lengths_in c.args.tape.now) c.args.id.0 c.start_from.ensures

pub offset_bounds-words-q : goal.offset_bounds-words-q
offset_bounds-words-q c =
    let w = lookup_inside c.requires.readable.store refl c.requires.indexed c.requires.id_lt_strings c.step_of-step.ensures c.if-q-eq0.false in omega (arith, w)

pub bounds-words-q : goal.bounds-words-q
bounds-words-q c =
    lookup_inside c.requires.readable.store refl c.requires.indexed c.requires.id_lt_strings c.step_of-step.ensures c.if-q-eq0.false

pub returns-then-start : goal.returns-then-start
returns-then-start c =
    span_start (lengths_in c.args.tape.now) c.args.id.0 c.start_from-then-start.ensures

pub overflow_mul-q : goal.overflow_mul-q
overflow_mul-q c =
    let b = lookup_between c.requires.readable.store refl c.requires.indexed c.requires.id_lt_strings c.step_of-step.ensures in omega (arith, b.order)

pub overflow_cast-q : goal.overflow_cast-q
overflow_cast-q c =
    let b = lookup_between c.requires.readable.store refl c.requires.indexed c.requires.id_lt_strings c.step_of-step.ensures in omega (arith, b.order)

pub start_from-requires-2 : goal.start_from-requires-2
start_from-requires-2 c =
    record {
      readable = c.requires.readable;
      between = lookup_between c.requires.readable.store refl c.requires.indexed c.requires.id_lt_strings c.step_of-step.ensures;
      start_value = lookup_start c.requires.readable.store refl c.requires.indexed c.requires.id_lt_strings c.step_of-step.ensures c.if-q-eq0.false refl c.if-start.false;
    }

pub returns : goal.returns
returns c =
    span_start (lengths_in c.args.tape.now) c.args.id.0 c.start_from-2.ensures
