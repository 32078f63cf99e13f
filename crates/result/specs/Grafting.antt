-- The reading's nodes grafted behind the old layers: nothing where there are none, else one new layer; and both buffers up to them.
use Rattle.std.specs.Prelude.{◌≡◌, ℕ, ◌+◌, ◌-◌, ◌≤◌, Bool, false, length, Option, Some, None, IfSome}
use Rattle.std.specs.Option.{is_some}
use Rattle.std.proofs.Math.Path.{refl, sym, ap}
use Rattle.std.proofs.Common.{◌∙◌, arith, add-zero, true≢false}
use Rattle.std.proofs.Math.Bool.{true}
use mathlib.Core.List.{List, [], ◌∷◌, ◌++◌, append-nil, map, flatten}
use Rattle.std.proofs.Math.ListN.{take}
use Rattle.model.specs.Lists.{is_empty}
use Rattle.model.specs.Types.{SourceNode}
use Rattle.model.specs.Store.{store_of}
use Rattle.model.specs.Tape.{records_bytes, node_codec}
use Rattle.model.specs.Tree.{shown_node, shown_nodes}
use Rattle.model.specs.Graft.{With, graft_node_refs}
use Rattle.wire.specs.Overwrite.{overwrite, overwrite_nil}
use Rattle.stats.specs.Counts.{stats_of, no_stats}
use Rattle.store.specs.Lengths.{book_lengths}
use Rattle.store.specs.declared.Totals.{Totals}
use Rattle.tape.specs.declared.book.Book.{Book}
use Rattle.tape.specs.StringBytes.{book_of}
use Rattle.layer.specs.declared.Grafted.{Grafted}
use Rattle.layer.specs.Answers.{LayerTold}
use Rattle.layer.specs.Layered.{new_layer, grafted_into, layer_records, layer_ok}
use Rattle.result.specs.declared.Graft.{Graft}
use Rattle.result.specs.Parts.{new_layer_bytes, new_string_bytes}

-- ---- definitions

-- Number 18's part of the new layer, if there is one.
unfoldable pub graft_ok : Bool → ℕ → ℕ → ℕ → ℕ → Totals → With (List SourceNode) → Bool
graft_ok true size room at base o g = true
graft_ok false size room at base o g = layer_ok size room at base o g

-- the layer's records and the nodes behind them, the strings from `base` on
pub record GraftMade (out strs out' strs' : List ℕ) (at base : ℕ) (none : Bool) (r : Graft) (g : With (List SourceNode)) : Type 0 where
  pub wrote : out' ≡ overwrite out at (new_layer_bytes none g.1 ++ records_bytes node_codec g.0)
  pub strings : take (base + length (new_string_bytes none g.1)) strs' ≡ take base strs ++ new_string_bytes none g.1
  pub len : r.len ≡ length (new_layer_bytes none g.1)
  pub bytes : r.bytes ≡ length (new_string_bytes none g.1)
  pub stats : stats_of r.stats ≡ g.1.interner.stats

pub record GraftTold (out strs out' strs' : List ℕ) (at base : ℕ) (o : Totals) (none : Bool) (r : Option Graft) (g : With (List SourceNode)) : Type 0 where
  pub ok : is_some r ≡ graft_ok none (length out) (length strs) at base o g
  pub made : IfSome r (λ x. GraftMade out strs out' strs' at base none x g)

-- ---- whether there are nodes, as the code counts them

module _ (b : Book) where
  node_count : length (book_of b).source_nodes ≡ b.places.nodes.count
  node_count = (book_lengths b.tape.now b.bytes.now b.places b.held.accepted.framing b.held.is).nodes

  zero_nodes : b.places.nodes.count ≡ 0 → is_empty (book_of b).source_nodes ≡ true
  zero_nodes h = go (book_of b).source_nodes (node_count ∙ h)
    where
      go : (ns : List SourceNode) → length ns ≡ 0 → is_empty ns ≡ true
      go [] q = refl
      go (x ∷ ns) q = absurd (omega (arith, q))

  some_nodes : (b.places.nodes.count ≡ 0 → ⊥) → is_empty (book_of b).source_nodes ≡ false
  some_nodes h = go (book_of b).source_nodes node_count
    where
      go : (ns : List SourceNode) → length ns ≡ b.places.nodes.count → is_empty ns ≡ false
      go [] q = absurd (h (sym q))
      go (x ∷ ns) q = refl

-- ---- the graft, or none

abbrev graft_of : Book → Totals → With (List SourceNode)
graft_of b o = grafted_into b.tape.now b.bytes.now o

no_nodes : (b : Book) (o : Totals) → is_empty (book_of b).source_nodes ≡ true → graft_of b o ≡ ([], new_layer o)
unfolding grafted_into shown_nodes graft_node_refs
no_nodes b o e = go (book_of b).source_nodes e
  where
    go : (ns : List SourceNode) → is_empty ns ≡ true → graft_node_refs (map (shown_node (store_of (book_of b).layers)) ns) (new_layer o) ≡ ([], new_layer o)
    go [] q = refl
    go (n ∷ ns) q = absurd (true≢false (sym q))

module _ (b : Book) {o : Totals} where
  -- nothing is written
  pub graft_none : b.places.nodes.count ≡ 0 → {out strs : List ℕ} {at base : ℕ} → base ≤ length strs → {r : Graft} → r.len ≡ 0 → r.bytes ≡ 0 → r.stats ≡ no_stats
      → GraftTold out strs out strs at base o (is_empty (book_of b).source_nodes) (Some r) (graft_of b o)
  unfolding graft_ok new_layer_bytes new_string_bytes new_layer records_bytes flatten
  graft_none z {out} {strs} {at} {base} h len bytes stats =
      let e = zero_nodes b z in
      rw (e, no_nodes b o e) (record {
        ok = refl;
        made = record {
          wrote = overwrite_nil out at;
          strings = ap (λ (k : ℕ). take k strs) (add-zero base) ∙ sym (append-nil (take base strs));
          len = len;
          bytes = bytes;
          stats = ap stats_of stats;
        };
      })

  module _ (z : b.places.nodes.count ≡ 0 → ⊥) {out strs out' strs' : List ℕ} {at base : ℕ} where
    pub graft_refused : LayerTold out strs out' strs' at base o None (graft_of b o)
        → GraftTold out strs out' strs' at base o (is_empty (book_of b).source_nodes) None (graft_of b o)
    unfolding graft_ok
    graft_refused told = rw (some_nodes b z) (record { ok = told.room; made = tt })

    pub graft_some : {l : Grafted} → LayerTold out strs out' strs' at base o (Some l) (graft_of b o)
        → {r : Graft} → r.len ≡ l.len → r.bytes ≡ l.state.used - base → r.stats ≡ l.state.stats
        → GraftTold out strs out' strs' at base o (is_empty (book_of b).source_nodes) (Some r) (graft_of b o)
    unfolding graft_ok new_layer_bytes new_string_bytes layer_records
    graft_some told len bytes stats =
        let m = told.made _ refl in
        rw (some_nodes b z) (record {
          ok = told.room;
          made = record { wrote = m.wrote; strings = m.bytes; len = len ∙ m.len; bytes = omega (arith, bytes, m.used); stats = ap stats_of stats ∙ m.stats };
        })

-- so that the difference is one
pub graft_used : {out strs out' strs' : List ℕ} {at base : ℕ} {o : Totals} {l : Grafted} {g : With (List SourceNode)} → LayerTold out strs out' strs' at base o (Some l) g → base ≤ l.state.used
graft_used told = let m = told.made _ refl in omega (arith, m.used)
