-- A graft whose sizes are known: what it answers, and what its steps ask of one another.
use Rattle.std.specs.Prelude.{◌≡◌, ℕ, ◌+◌, ◌-◌, ◌*◌, ◌≤◌, ◌<◌, Option, Some, None, List, [], length}
use Rattle.std.proofs.Common.{refl, sym, subst, arith}
use Rattle.model.specs.Types.{SourceNode}
use Rattle.model.specs.Limits.{max_new_strings}
use Rattle.model.specs.Graft.{With}
use Rattle.sizes.specs.Added.{Added}
use Rattle.graft.specs.declared.Plan.{Plan}
use Rattle.graft.specs.declared.Mark.{Mark}
use Rattle.layer.specs.declared.Grafted.{Grafted}
use Rattle.layer.specs.declared.grafting.Grafting.{Grafting}
use Rattle.layer.specs.Lengths.{Rising}
use Rattle.layer.specs.Layered.{grafted_into, source_adds, plan_of, LayerSizes}
use Rattle.layer.specs.Walked.{offsets_of, WalkRoom, Walked, walked_by, source_sizes}
use Rattle.layer.specs.Answers.{LayerTold, Finished, tape_refused, walk_room, walk_refused, finish_room, layer_told}

-- the source's nodes, grafted
abbrev pub graft_of : Grafting → With (List SourceNode)
graft_of g = grafted_into g.source.now.tape.now g.source.now.bytes.now g.to.below

-- what `graft_layer` answers
abbrev pub GraftingTold : Grafting → List ℕ → List ℕ → List ℕ → List ℕ → Option Grafted → Type 0
GraftingTold g out strs out' strs' r = LayerTold out strs out' strs' g.to.at g.to.base g.to.below r (graft_of g)

-- the bytes of the layer without its strings, and of the source's nodes
abbrev pub layer_length : Grafting → ℕ
layer_length g = 1 + 10 * g.sizes.contents + 37 * g.sizes.segments

abbrev pub nodes_length : Grafting → ℕ
nodes_length g = 49 * g.source.now.places.nodes.count

-- a tape of `size` bytes has room for both, as the code has compared
pub room_for : (g : Grafting) {size len rest : ℕ} → len ≡ layer_length g → rest ≡ nodes_length g → g.to.at ≤ size → len + rest ≤ size - g.to.at
    → g.to.at + layer_length g + nodes_length g ≤ size
room_for g e f h k = omega (arith, e, f, h, k)

-- what is added
abbrev adds : Grafting → Added
adds g = source_adds g.source.now.tape.now g.source.now.bytes.now

sizes : (g : Grafting) → LayerSizes (graft_of g) (adds g) g.source.now.places.nodes.count
sizes g = source_sizes g.source.now.held g.to.below

module _ (g : Grafting) (out strs : List ℕ) where
  -- the tape is too short without the strings' records
  pub grafting_short : length out - g.to.at < layer_length g + nodes_length g → {out' strs' : List ℕ} → GraftingTold g out strs out' strs' None
  grafting_short h = tape_refused out strs g.to.at g.to.base g.to.below g.to.fits (graft_of g) (sizes g) g.exact (layer_length g) (nodes_length g) refl refl h

module _ (g : Grafting) (out : List ℕ) (h : g.to.at + layer_length g + nodes_length g ≤ length out) {p : Plan} (q : p ≡ plan_of g.to.below g.to.at g.sizes.contents) where
  pub grafting_room : WalkRoom p (g.to.at + layer_length g) g.source.now.places.nodes.count (length out) (adds g)
  grafting_room =
      subst (λ (x : Plan). WalkRoom x (g.to.at + layer_length g) g.source.now.places.nodes.count (length out) (adds g)) (sym q)
      (walk_room out [] g.to.at g.to.base g.to.below g.to.fits (graft_of g) (sizes g) g.exact (layer_length g) (nodes_length g) refl refl h g.calls_small)

  module _ {strs out₁ work₁ strs₁ : List ℕ} {r : Option Mark}
      (w : Walked p g.to.base (g.to.at + layer_length g) out strs out₁ work₁ strs₁ r (grafted_into g.source.now.tape.now g.source.now.bytes.now (offsets_of p))) where
    here : Walked (plan_of g.to.below g.to.at g.sizes.contents) g.to.base (g.to.at + layer_length g) out strs out₁ work₁ strs₁ r (graft_of g)
    here = walked_by g.source.now.tape.now g.source.now.bytes.now g.to.below g.to.at g.sizes.contents q w

    -- the strings have no room
    pub grafting_refused : r ≡ None → {out' strs' : List ℕ} → GraftingTold g out strs out' strs' None
    grafting_refused x = walk_refused out strs g.to.at g.to.base g.to.below g.to.fits (graft_of g) (sizes g) (rw x at here.room)

    module _ {m : Mark} (x : r ≡ Some m) (l : length out₁ ≡ length out) where
      -- what `finish` asks
      pub grafting_finish : Rising work₁ m.state.count × (m.state.count ≤ max_new_strings) × (g.to.at + layer_length g + nodes_length g ≤ length out₁)
      grafting_finish = finish_room out strs g.to.at g.to.base g.to.below g.to.fits (graft_of g) (sizes g) g.exact (layer_length g) (nodes_length g) refl refl h (here.made m x) l

      pub grafting_told : {out₂ : List ℕ} {k : Option Grafted} → Finished work₁ g.to.below.strings g.to.at (layer_length g) (nodes_length g) m out₁ out₂ k → GraftingTold g out strs out₂ strs₁ k
      grafting_told k =
          layer_told out strs g.to.at g.to.base g.to.below g.to.fits (graft_of g) (sizes g) g.exact (layer_length g) (nodes_length g) refl refl h (here.made m x) l k (sym (rw x at here.room))
