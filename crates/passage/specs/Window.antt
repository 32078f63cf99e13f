-- Number 16's cuts, in the normalized text.
use Rattle.std.specs.Prelude.{◌≡◌, ℕ, Bool, ◌&&◌, List}
use Rattle.std.proofs.Math.Path.{refl}
use Rattle.model.specs.Utf8.{is_char_boundary}
use Rattle.model.specs.Types.{LexOutput}
use Rattle.model.specs.Merge.{MergeWindow, cuts_ok}

-- neither end of a part is inside a character
unfoldable pub ends_on_boundaries : List ℕ → ℕ → ℕ → Bool
ends_on_boundaries text start end = is_char_boundary text start && is_char_boundary text end

-- Number 16.
pub cuts_window : (old : LexOutput) (w : MergeWindow) → ends_on_boundaries old.normalized w.normalized.start w.normalized.end ≡ cuts_ok old w
unfolding ends_on_boundaries cuts_ok
cuts_window old w = refl
