-- A part `&mut out[at..at + k]` that the library wrote, in the words of specs/Overwrite.antt.
use Rattle.std.proofs.Common.{◌≡◌, ℕ, ◌+◌, ◌≤◌, List, length, ap, ◌∙◌}
use borrow.Rule.Slice.PartMut.{put_mid}
use Rattle.wire.specs.Overwrite.{overwrite, wrote_part}

-- `ys` is what the part holds now, known to be `bs`
pub written : (d bs : List ℕ) (at k : ℕ) (ys : List ℕ) → ys ≡ bs → length bs ≡ k → at + k ≤ length d → put_mid at k d ys ≡ overwrite d at bs
written d bs at k ys e l h = ap (λ (x : List ℕ). put_mid at k d x) e ∙ (wrote_part d bs at k l h).is
