-- The layers and strings of a merged book: the old ones as they stood, and the new ones if there is a new layer.
use Rattle.std.specs.Prelude.{◌≡◌, ℕ, ◌+◌, ◌-◌, Bool, cond, drop}
use Rattle.std.proofs.Math.Path.{sym, ap, ap₂}
use Rattle.std.proofs.Common.{◌∙◌}
use native.Mathlib.Omega.{arith}
use Rattle.std.proofs.Math.Bool.{true, false}
use mathlib.Core.List.{List, [], ◌∷◌, ◌++◌, append-nil, map, flatten}
use Rattle.std.proofs.Math.ListN.{length, length-append}
use Rattle.model.specs.Lists.{sum, is_empty}
use Rattle.model.specs.Bytes.{AreBytes, part}
use Rattle.model.specs.Types.{Layer, LexOutput, RegionOutput}
use Rattle.model.specs.Tape.{places, book_at, layer_bytes}
use Rattle.model.specs.Graft.{NewLayer, layer_of}
use Rattle.model.specs.Merge.{merged_layers}
use Rattle.facts.specs.Lists.{flatten_snoc, map_append, sum_append}
use Rattle.laws.specs.Parts.{layers_bytes, strings_bytes, layers_count, layers_stand, strings_stand}
use Rattle.places.specs.declared.Places.{Places}
use Rattle.places.specs.Found.{found}
use Rattle.store.specs.Lengths.{book_lengths}
use Rattle.tape.specs.Accepted.{Accepted}

-- ---- definitions

-- Section 5. A reading with no nodes adds no layer.
unfoldable pub new_layer_bytes : Bool → NewLayer → List ℕ
new_layer_bytes true f = []
new_layer_bytes false f = layer_bytes (layer_of f)

unfoldable pub new_string_bytes : Bool → NewLayer → List ℕ
new_string_bytes true f = []
new_string_bytes false f = flatten f.interner.strings

-- as many, if there is a layer
unfoldable pub if_layer : Bool → ℕ → ℕ
if_layer true n = 0
if_layer false n = n

-- ---- the layers of a merged book

module _ (old : LexOutput) (reading : RegionOutput) (f : NewLayer) where
  pub merged_layers_lem : flatten (map layer_bytes (merged_layers old reading f)) ≡ layers_bytes old ++ new_layer_bytes (is_empty reading.source_nodes) f
  unfolding merged_layers new_layer_bytes
  merged_layers_lem = go (is_empty reading.source_nodes)
    where
      go : (x : Bool) → flatten (map layer_bytes (cond x old.layers (old.layers ++ (layer_of f ∷ [])))) ≡ layers_bytes old ++ new_layer_bytes x f
      go true = sym (append-nil (layers_bytes old))
      go false = ap flatten (map_append layer_bytes old.layers (layer_of f ∷ [])) ∙ flatten_snoc (map layer_bytes old.layers) (layer_bytes (layer_of f))

  pub merged_strings : flatten (map (λ (l : Layer). flatten l.strings) (merged_layers old reading f)) ≡ strings_bytes old ++ new_string_bytes (is_empty reading.source_nodes) f
  unfolding merged_layers new_string_bytes layer_of
  merged_strings = go (is_empty reading.source_nodes)
    where
      go : (x : Bool) → flatten (map (λ (l : Layer). flatten l.strings) (cond x old.layers (old.layers ++ (layer_of f ∷ [])))) ≡ strings_bytes old ++ new_string_bytes x f
      go true = sym (append-nil (strings_bytes old))
      go false =
          ap flatten (map_append (λ (l : Layer). flatten l.strings) old.layers (layer_of f ∷ []))
          ∙ flatten_snoc (map (λ (l : Layer). flatten l.strings) old.layers) (flatten f.interner.strings)

  -- how many of a pool there are then
  pub merged_count : (n : Layer → ℕ) → sum (map n (merged_layers old reading f)) ≡ sum (map n old.layers) + if_layer (is_empty reading.source_nodes) (n (layer_of f))
  unfolding merged_layers if_layer
  merged_count n = go (is_empty reading.source_nodes)
    where
      go : (x : Bool) → sum (map n (cond x old.layers (old.layers ++ (layer_of f ∷ [])))) ≡ sum (map n old.layers) + if_layer x (n (layer_of f))
      go true = omega arith
      go false =
          ap sum (map_append n old.layers (layer_of f ∷ [])) ∙ sum_append (map n old.layers) (n (layer_of f) ∷ [])
          ∙ (let e : sum (n (layer_of f) ∷ []) ≡ n (layer_of f) = omega arith in ap (λ (k : ℕ). sum (map n old.layers) + k) e)

  pub merged_number : length (merged_layers old reading f) ≡ length old.layers + if_layer (is_empty reading.source_nodes) 1
  unfolding merged_layers if_layer
  merged_number = go (is_empty reading.source_nodes)
    where
      go : (x : Bool) → length (cond x old.layers (old.layers ++ (layer_of f ∷ []))) ≡ length old.layers + if_layer x 1
      go true = omega arith
      go false = length-append old.layers (layer_of f ∷ [])

-- ---- the old book's parts where they stand

module _ {t d : List ℕ} (are : AreBytes t) (a : Accepted t d) {p : Places} (e : p ≡ found t) where
  abbrev old : LexOutput
  old = book_at t (places t) d

  nodes_at : p.nodes.at ≡ (places t).nodes_at
  unfolding found
  nodes_at = ap (λ (x : Places). x.nodes.at) e

  pub old_layers_length : length (layers_bytes old) + 9 ≡ p.nodes.at
  old_layers_length = layers_count t d are a.parsed ∙ sym nodes_at

  pub old_layers : part t 9 (p.nodes.at - 9) ≡ layers_bytes old
  old_layers = ap (λ (n : ℕ). part t 9 (n - 9)) nodes_at ∙ layers_stand t d are a.parsed

  pub old_strings_lem : drop (p.text.0 + p.normalized.0) d ≡ strings_bytes old
  old_strings_lem =
      let l = book_lengths t d p a.framing e in
      ap (λ (n : ℕ). drop n d) (ap₂ (λ (n m : ℕ). n + m) (sym l.text) (sym l.normalized)) ∙ strings_stand t d are a.parsed
