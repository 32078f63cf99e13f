-- Number 18 decided and the answer given: what is left of a merge once 12 to 17 have passed.
use Rattle.std.specs.Prelude.{◌≡◌, cond}
use Rattle.std.proofs.Common.{ap}
use Rattle.model.specs.Offset.{Span}
use Rattle.model.specs.Types.{LexOutput, RegionOutput}
use Rattle.model.specs.Refusal.{Checked, Checked.refused, Checked.accepted, ◌>>=◌}
use Rattle.model.specs.Region.{Edit}
use Rattle.model.specs.Merge.{Room, MergeWindow, window_of, grafted, merged_book, stored_book, answer, result_ok, result_checked, merge_books}
use Rattle.laws.specs.Checks.{Passed, passed_fitting}
use Rattle.laws.specs.Result.{result_if}

-- ---- the merge's own end

pub result_cond : (old : LexOutput) (e : Edit) (reading : RegionOutput) (w : MergeWindow) (room : Room)
    → (let g = grafted old reading in let new = merged_book old e reading w g in
    result_checked old e reading w room ≡ cond (result_ok room g new (stored_book new)) (accepted (answer old reading w g new)) (refused 18))
unfolding result_checked answer
result_cond old e reading w room =
    let g = grafted old reading in
    let new = merged_book old e reading w g in
    result_if (result_ok room g new (stored_book new)) (answer old reading w g new)

pub merge_passed : (old : LexOutput) (e : Edit) (r : Span) (reading : RegionOutput) (room : Room) → Passed old e r reading
    → merge_books old e r reading room ≡ result_checked old e reading (window_of old e reading r) room
unfolding merge_books ◌>>=◌
merge_passed old e r reading room p = ap (λ (x : Checked MergeWindow). x >>= λ w. result_checked old e reading w room) (passed_fitting old e r reading p)
