use Rattle.std.proofs.Common.{arith, length-set}
use Rattle.memo.specs.Memo.{put_none, put_there}
use Rattle.memo.proofs.put.Goals as goal

pub returns-then-memo-e : goal.returns-then-memo-e
returns-then-memo-e c =
    put_none c.args.memo.now c.args.e _ c.if-memo-e.true

pub bounds-memo-e-2 : goal.bounds-memo-e-2
bounds-memo-e-2 c =
    simp length-set (omega (arith, c.if-memo-e.false))

pub bounds-memo-e-3 : goal.bounds-memo-e-3
bounds-memo-e-3 c =
    simp length-set (omega (arith, c.if-memo-e.false))

pub bounds-memo-e-4 : goal.bounds-memo-e-4
bounds-memo-e-4 c =
    simp length-set (omega (arith, c.if-memo-e.false))

pub bounds-memo-e-5 : goal.bounds-memo-e-5
bounds-memo-e-5 c =
    simp length-set (omega (arith, c.if-memo-e.false))

pub returns : goal.returns
returns c =
    rw c.from.ensures
    (put_there c.args.memo.now c.args.e (record { place = c.args.place; level = c.args.level; contents = c.args.contents; segments = c.args.segments; calls = c.args.calls }) c.if-memo-e.false)
