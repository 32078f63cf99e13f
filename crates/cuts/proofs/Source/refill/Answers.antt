use Rattle.cuts.specs.Window.{window_here, window_fits}
use Prim.Native.Nat.{◌-◌, ◌%◌}
use native.Mathlib.Omega.{arith}
use Rattle.cuts.proofs.Source.refill.Goals as goal

pub nonzero_rem-j : goal.nonzero_rem-j
nonzero_rem-j c =
    let f = window_fits _ _ _ _ c.args.o.0 c.requires c.room_in.ensures c.next_size-n.ensures in f.0

pub overflow_cast-n : goal.overflow_cast-n
overflow_cast-n c =
    let f = window_fits _ _ _ _ c.args.o.0 c.requires c.room_in.ensures c.next_size-n.ensures in omega (arith, f.2)

pub fill-requires : goal.fill-requires
fill-requires c =
    (window_fits _ _ _ _ c.args.o.0 c.requires c.room_in.ensures c.next_size-n.ensures).1

pub bounds-words-j : goal.bounds-words-j
bounds-words-j c =
    let f = window_fits _ _ _ _ c.args.o.0 c.requires c.room_in.ensures
    c.next_size-n.ensures in let o = c.args.o.0 in let n = c.next_size-n.result in (window_here c.fill.ensures.0 o (o - o % n) n (o % n)
    c.fill.ensures.1 c.fill.ensures.2 f.3 (omega (arith, f.4))).0

pub returns : goal.returns
returns c =
    let f = window_fits _ _ _ _ c.args.o.0 c.requires c.room_in.ensures
    c.next_size-n.ensures in let o = c.args.o.0 in let n = c.next_size-n.result in record {
      value = (window_here c.fill.ensures.0 o (o - o % n) n (o % n)
          c.fill.ensures.1 c.fill.ensures.2 f.3 (omega (arith, f.4))).1;
      window = c.fill.ensures.0;
    }
