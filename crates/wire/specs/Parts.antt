-- The bytes between two places of any list, for each return of `between`.
use Rattle.std.specs.Prelude.{◌≡◌, refl, List, [], ℕ, ◌-◌, ◌≤◌, ◌<◌, length, drop}
use Rattle.std.proofs.Common.{sym, ◌∙◌, arith, length-drop, drop_of_length-le, take_all}
use Rattle.std.proofs.Math.Seq.{take-nil}
use Rattle.model.specs.Bytes.{part}

module _ (s : List ℕ) (from to : ℕ) where
  pub part_none : to ≤ from → [] ≡ part s from (to - from)
  part_none h = let e : to - from ≡ 0 = omega arith in rw e refl

  pub part_past : length s ≤ from → [] ≡ part s from (to - from)
  part_past h = rw (drop_of_length-le s h) (sym (take-nil (to - from)))

  -- up to the input's end is up to any place behind it
  pub part_over : length s < to → part s from (length s - from) ≡ part s from (to - from)
  part_over h =
      let l = length-drop from s in
      take_all (length s - from) (drop from s) (omega (arith, l)) ∙ sym (take_all (to - from) (drop from s) (omega (arith, l)))
