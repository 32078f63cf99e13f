use Rattle.std.proofs.Common.{◌≡◌, ◌-◌, ◌<◌, sym, arith}
use Rattle.wire.specs.Loops.{passed_none, all_failed}
use Rattle.levels.specs.Told.{told, told_no}
use Rattle.levels.specs.Table.{walk_known, walk_one, walk_end}
use Rattle.levels.proofs.walk.Goals as goal

pub loop-i-init : goal.loop-i-init
loop-i-init g c =
    (omega arith, omega arith, λ tabled test said gives. let q : c.args.start - c.args.start ≡ 0 = omega arith in rw q (passed_none test))

pub loop-i-preserved-then-i-known : goal.loop-i-preserved-then-i-known
loop-i-preserved-then-i-known g c =
    let inside = c.loop-i.invariant in
    (omega (arith, inside.0, c.if-i-known.true), omega arith, λ tabled test said gives. walk_known _ said (inside.2 tabled test said gives) inside.0 c.known_end-known.ensures (omega arith) (omega arith))

pub overflow_sub-i : goal.overflow_sub-i
overflow_sub-i g c =
    c.loop-i.invariant.0

pub passes-requires : goal.passes-requires
passes-requires g c =
    c.requires.callable _ (omega (arith, c.loop-i.invariant.0, c.loop-i-test.true))

pub loop-i-preserved : goal.loop-i-preserved
loop-i-preserved g c =
    let inside = c.loop-i.invariant in (
      omega (arith, inside.0),
      omega (arith, c.loop-i-test.true),
      λ tabled test said gives. walk_one inside.0 (inside.2 tabled test said gives) ((gives _ _ (omega (arith, inside.0, c.loop-i-test.true)) c.passes.ensures).sure c.if-passes.true),
    )

pub returns-else-passes : goal.returns-else-passes
returns-else-passes g c =
    let near : c.loop-i.i - c.args.start < c.args.len = omega (arith, c.loop-i.invariant.0, c.loop-i-test.true) in
    λ tabled test said gives. told_no (gives _ _ near c.passes.ensures) c.if-passes.false (λ n. sym (all_failed test c.args.len _ near n))

pub returns : goal.returns
returns g c =
    λ tabled test said gives. told (sym (walk_end _ _ (omega (arith, c.loop-i.invariant.1, c.loop-i-test.false)) (c.loop-i.invariant.2 tabled test said gives)))
