-- The later edit, moved by the earlier's change in length, as a u32 has room for it.
use Rattle.std.specs.Prelude.{◌≡◌, ℕ, ◌+◌, ◌-◌, ◌<◌, ◌≤◌, List, length, Result, Ok, Err, OkIff}
use Rattle.std.specs.Result.{result_unwrap_or}
use Rattle.std.proofs.Math.Path.{refl}
use Rattle.std.proofs.Common.{arith}
use Rattle.model.specs.Offset.{Span}
use Rattle.model.specs.Types.{LexOutput}
use Rattle.model.specs.Region.{Edit, behind_edit, edit_of}
use Rattle.model.specs.Demand3.{Correction, moved_behind, cut_behind, cut_moved}
use Rattle.laws.specs.Checks.{Chosen}
use Rattle.edit.specs.Same.{edited_length}

-- as the code has it: the largest u32 stands where the offset has no room
pub moved_capped : {E : Type 0} (start end offset : ℕ) (replacement : List ℕ) {removed longer r : ℕ} (told : Result ℕ E)
    → removed ≡ end - start → longer ≡ offset + length replacement - removed → OkIff told (longer < 4294967296) longer → r ≡ result_unwrap_or told 4294967295
    → r ≡ cut_behind (edit_of start end replacement) offset
unfolding cut_behind behind_edit edit_of
moved_capped start end offset replacement (Ok x) e f g h = let fits = g.0 in let same = g.1 in omega (arith, e, f, fits, same, h)
moved_capped start end offset replacement (Err d) e f g h = omega (arith, e, f, g, h)

-- Nothing is cut where both edits are accepted on one book: the moved end is inside the new text, which has at most 16777215 bytes.
module _ (b : LexOutput) (earlier : Edit) (later : Correction) {r s : Span} (p : Chosen b earlier r) (q : Chosen b later.edit s) where
  uncut : (o : ℕ) → o ≤ length b.sanitized → cut_behind earlier o ≡ behind_edit earlier o
  unfolding cut_behind behind_edit
  uncut o h =
      let n = edited_length b.sanitized earlier p.rising p.inside in
      omega (arith, h, n, p.limit, p.rising, p.inside)

  pub moved_exact : cut_moved earlier later ≡ record { edit = moved_behind earlier later.edit; reading = later.reading }
  unfolding cut_moved moved_behind edit_of
  moved_exact =
      rw (uncut later.edit.start (omega (arith, q.rising, q.inside)), uncut later.edit.end q.inside) refl
