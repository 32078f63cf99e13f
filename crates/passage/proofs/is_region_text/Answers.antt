use Rattle.passage.specs.Text.{text_length_lem, text_first, text_second, text_third}
use mathlib.Core.Path.{refl}
use native.Mathlib.Omega.{arith}
use Rattle.passage.proofs.is_region_text.Goals as goal

pub returns-then-reading-start : goal.returns-then-reading-start
returns-then-reading-start c =
    let start = c in
    text_length_lem start.args.passage.now _ _ start.args.replacement.now start.requires start.args.reading.now (λ e. omega (arith, e, start.requires, c.if-reading-start.true))

pub returns-then-there-start : goal.returns-then-there-start
returns-then-there-start c =
    let start = c in
    text_length_lem start.args.passage.now _ _ start.args.replacement.now start.requires start.args.reading.now
    (λ e. omega (arith, e, start.requires, c.if-reading-start.false, c.if-there-start.true))

pub returns-then-not-same : goal.returns-then-not-same
returns-then-not-same c =
    let sized = c in
    let start = sized in
    text_first _ _ _ _ start.requires _ (omega (arith, start.requires, sized.if-reading-start.false, sized.if-there-start.false)) _ refl c.same.ensures c.if-not-same.true

pub returns-then-not-same-2 : goal.returns-then-not-same-2
returns-then-not-same-2 c =
    let passed = c in
    let sized = passed in
    let start = sized in
    text_second _ _ _ _ start.requires _ (omega (arith, start.requires, sized.if-reading-start.false, sized.if-there-start.false)) _ refl passed.same.ensures passed.if-not-same.false
    c.same-2.ensures c.if-not-same-2.true

pub returns : goal.returns
returns c =
    let passed2 = c in
    let passed = passed2 in
    let sized = passed in
    let start = sized in
    text_third _ _ _ _ start.requires _ (omega (arith, start.requires, sized.if-reading-start.false, sized.if-there-start.false)) _ refl passed.same.ensures passed.if-not-same.false
    passed2.same-2.ensures passed2.if-not-same-2.false c.same-3.ensures
