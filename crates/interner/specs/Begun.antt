-- The interner of a new layer. Assumes nothing.
use Rattle.std.specs.Prelude.{◌≡◌, refl, ℕ, ◌≤◌, length, get_or, take}
use Rattle.std.proofs.Math.Path.{sym}
use Rattle.std.proofs.Common.{◌∙◌, arith}
use mathlib.Core.List.{List, append-nil, flatten}
use Rattle.std.proofs.Math.Dec.{lit≤}
use Rattle.laws.specs.Slots.{taken}
use Rattle.table.specs.Layout.{starts_of, with_start, strings_up_to}
use Rattle.stats.specs.Counts.{no_stats}
use Rattle.interner.specs.declared.StrInterner.{StrInterner as Interner}
use Rattle.interner.specs.State.{Fresh}
use Rattle.table.specs.Sizes.{none}
use Rattle.table.specs.Wide.{starts_number, start_is, length_start, start_put}

module _ (work strs : List ℕ) (base : ℕ) (room : 16384 ≤ length work) (fits : base ≤ length strs) where
  abbrev new : List ℕ
  new = with_start work 0 base

  room_new : 16384 ≤ length new
  room_new = omega (arith, room, length_start work 0 base)

  one_start : length (starts_of 0 new) ≡ 1
  one_start = starts_number new 0 (omega (arith, room_new))

  first_start : get_or (starts_of 0 new) 0 0 ≡ base
  first_start = start_is new 0 (omega (arith, room_new)) 0 (lit≤ tt) ∙ start_put work 0 base (omega (arith, room))

  abbrev none_yet : Interner
  none_yet = record { slots = 0; occupied = 0; count = 0; base = base; used = base; last = 0; stats = no_stats }

  pub begun : {work' : List ℕ} → work' ≡ new → Fresh work strs base work' none_yet
  unfolding taken strings_up_to flatten
  begun e =
      rw e (record {
        good = record {
          words = record { room = room_new; few = lit≤ tt; starts = λ k lt. absurd (omega (arith, lt, one_start)) };
          size = none;
          entries = λ k lt. absurd (omega (arith, lt));
          number = refl;
          most = lit≤ tt;
          known = lit≤ tt;
          end = first_start;
          fits = fits;
          begins = omega arith;
          laid = sym (append-nil (take base strs));
          counts = record { cache_hits = lit≤ tt; table_hits = lit≤ tt; allocs = lit≤ tt; long_bypass = lit≤ tt; resizes = lit≤ tt; probe_steps = lit≤ tt };
          row = λ some. absurd (omega (arith, some));
        };
        state = refl;
        begins = refl;
        words = refl;
      })
