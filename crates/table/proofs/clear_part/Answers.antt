use Rattle.table.specs.Views.{length_part, drop_part}
use mathlib.Core.Path.{◌≡◌, refl}
use mathlib.Core.List.{List, ◌++◌}
use Prim.Native.Nat.{ℕ, ◌-◌, ◌≤◌}
use lib.ListN.{length, take, drop, replicate}
use Rattle.table.proofs.clear_part.Goals as goal

together : (w last : List ℕ) (a e : ℕ) → a ≤ e → e ≤ length w → last ≡ replicate (length (take (e - a) (drop a w))) 0 → take a w ++ (last ++ drop (e - a) (drop a w)) ≡ take a w ++ (replicate (e - a) 0 ++ drop e w)
together w last a e h k q = rw (q, length_part a e w h k, drop_part a e w h) refl

pub returns : goal.returns
returns c =
    together c.args.w.now _ c.args.a c.args.e c.requires.0 c.requires.1 c.zero_words.ensures
