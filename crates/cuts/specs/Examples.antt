-- Cuts of small texts, by computation. A fall of a depth below 0 and a pair up to a cut stand in crate model (Traps).
use Rattle.std.specs.Prelude.{ℕ, ◌≡◌, refl, true, false, List, [], ◌∷◌}
use Rattle.model.specs.Lists.{ascii}
use Rattle.model.specs.Types.{SourceNode}
use Rattle.model.specs.Region.{depth_behind, depth, nodes_before, nodes_allow_cut, pairs_allow_cut, blank_line_before}
use Rattle.cuts.specs.Safe.{safe_cut_in, cut_allowed}

-- a node of a class with a body's kind and tag
abbrev pub node_of : ℕ → ℕ → ℕ → ℕ → ℕ → SourceNode
node_of class kind tag start end = record {
  class = class;
  inline = 0;
  source_span = record { start = start; end = end };
  normalized_offset = 0;
  body = record { kind = kind; tag = tag; plain1 = 0; plain2 = 0; words = [] };
}

-- one newline is not enough, at the text's beginning either; two are
abbrev pub lines : List ℕ
lines = ascii "\n\na\nb\n\nc\n\nd\n"

newlines : (safe_cut_in lines [] [] 1 ≡ false) × (safe_cut_in lines [] [] 2 ≡ true) × (safe_cut_in lines [] [] 4 ≡ false) × (safe_cut_in lines [] [] 7 ≡ true)
unfolding safe_cut_in cut_allowed blank_line_before nodes_allow_cut nodes_before depth pairs_allow_cut
newlines = (refl, refl, refl, refl)

-- a node may end or start at a cut, and none may lie across it
nodes_at_a_cut : (nodes_allow_cut (node_of 0 1 0 4 7 ∷ node_of 0 1 0 7 9 ∷ []) 7 ≡ true) × (nodes_allow_cut (node_of 0 1 0 4 8 ∷ []) 7 ≡ false)
unfolding nodes_allow_cut nodes_before depth depth_behind
nodes_at_a_cut = (refl, refl)
