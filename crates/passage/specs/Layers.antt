-- Number 17: a layer for the reading's nodes.
use Rattle.std.specs.Prelude.{◌≡◌, ℕ, Bool, not, ◌&&◌, length, leb, eqb}
use Rattle.std.proofs.Math.Path.{refl}
use Rattle.model.specs.Lists.{is_empty}
use Rattle.model.specs.Limits.{max_layers}
use Rattle.model.specs.Types.{LexOutput, RegionOutput}
use Rattle.facts.specs.Lists.{is_empty_lem}

-- Number 17. Reading has nodes, old book 32 layers.
unfoldable pub layer_missing : LexOutput → RegionOutput → Bool
layer_missing old reading = not (is_empty reading.source_nodes) && leb max_layers (length old.layers)

-- the same, of how many there are of each
unfoldable pub missing_of : ℕ → ℕ → Bool
missing_of nodes layers = not (eqb nodes 0) && leb max_layers layers

pub missing_book : (old : LexOutput) (reading : RegionOutput) {nodes layers : ℕ} → length reading.source_nodes ≡ nodes → length old.layers ≡ layers
    → missing_of nodes layers ≡ layer_missing old reading
unfolding missing_of layer_missing
missing_book old reading e f = rw (← e, ← f, is_empty_lem reading.source_nodes) refl
