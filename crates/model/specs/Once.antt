-- Wish 5: of an accepted merge nothing is kept twice. It is a statement; the proof is `counted_once` in commute/proofs/Once.antt.
use Rattle.std.specs.Prelude.{◌≡◌, List, []}
use Rattle.model.specs.Types.{LexOutput}
use Rattle.model.specs.Refusal.{Checked.accepted}
use Rattle.model.specs.Region.{Edit}
use Rattle.model.specs.Merge.{Stored, MergeWindow, Located, kept_before, kept_behind, node_located, pair_located, container_located, diagnostic_located, Fitted, fitted}

-- what counts as before a region and as behind it too
unfoldable pub on_both_sides : {A : Type 0} → Located A → MergeWindow → List A → List A
on_both_sides l w old = kept_before l w (kept_behind l w old)

-- Wish 5. Nothing of a book counts on both sides. So a mark of no width at or before the region's start counts as before it alone, and
-- the sentence's 'otherwise' is what `spliced` does. Nodes, pairs and containers are not empty, so that of them it is no news.
pub record KeptOnce (old : LexOutput) (w : MergeWindow) : Type 0 where
  pub source_nodes : on_both_sides node_located w old.source_nodes ≡ []
  pub pairs : on_both_sides pair_located w old.pairs ≡ []
  pub container_pairs : on_both_sides container_located w old.container_pairs ≡ []
  pub diagnostics : on_both_sides diagnostic_located w old.diagnostics ≡ []

-- Wish 5. Of all that passes 1 to 17, so of every accepted merge and of every price.
unfoldable pub CountedOnce : Type 0
CountedOnce = (book : Stored) (e : Edit) (reading : Stored) (f : Fitted) → fitted book e reading ≡ accepted f → KeptOnce f.old f.window
