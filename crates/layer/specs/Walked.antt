-- The walk over a source's nodes, from a fresh interner on: what it asks, and what it has done in the terms of the new layer.
use Rattle.std.proofs.lemmas.Option.{none-some, same_Some}
use Rattle.std.specs.Prelude.{◌≡◌, Option, Some, None, is_some, false, refl, ℕ, ◌+◌, ◌-◌, ◌*◌, ◌≤◌, ◌<◌, ◌^◌, true, length, take, drop}
use Rattle.std.proofs.Common.{sym, ap, ◌∙◌, subst, append-nil, length-drop, length-take-le, drop_of_length-le, drop_at}
use native.Mathlib.Omega.{arith}
use mathlib.Core.List.{List, [], ◌++◌}
use Rattle.model.specs.Limits.{min_work_words}
use Rattle.model.specs.Types.{SourceNode}
use Rattle.model.specs.Intern.{StrInterner}
use Rattle.model.specs.Tape.{records_at, records_bytes, content_codec, segment_codec, node_codec}
use Rattle.model.specs.Graft.{With, graft_node_refs}
use Rattle.wire.specs.Overwrite.{overwrite}
use Rattle.places.specs.declared.Places.{Places}
use Rattle.store.specs.declared.Store.{Store}
use Rattle.store.specs.Lengths.{book_lengths}
use Rattle.strings.specs.Starts.{lengths_in}
use Rattle.strings.specs.Index.{Indexed}
use Rattle.table.specs.Layout.{with_start}
use Rattle.table.specs.Wide.{start_high}
use Rattle.interner.specs.declared.StrInterner.{StrInterner as Interner}
use Rattle.interner.specs.State.{state_of, Good, has_room, Fresh}
use Rattle.interner.specs.Room.{room_same}
use Rattle.sizes.specs.Added.{Added}
use Rattle.sizes.specs.InPlace.{nodes_add}
use Rattle.graft.specs.declared.Plan.{Plan}
use Rattle.graft.specs.declared.Mark.{Mark}
use Rattle.graft.specs.Blocks.{blocks}
use Rattle.graft.specs.Grafted.{layer_from}
use Rattle.graft.specs.Walk.{index_words, Ready}
use Rattle.graft.specs.NodeItems.{shown_of, NodesTold, refs_from}
use Rattle.store.specs.declared.Totals.{Totals}
use Rattle.tape.specs.Held.{Held}
use Rattle.sizes.specs.Calls.{held_adds}
use Rattle.layer.specs.Source.{source_shown}
use Rattle.layer.specs.Layered.{new_layer, grafted_into, source_adds, plan_of, LayerSizes, layer_sizes}

abbrev pub offsets_of : Plan → Totals
offsets_of p = record { strings = p.strings; contents = p.contents; segments = p.segments }

-- nothing pushed yet
abbrev pub fresh_mark : Interner → Mark
fresh_mark r = record { contents = 0; segments = 0; state = r; answered = None }

-- ---- the index

-- the words lent for the index, as they come back
pub index_there : (lengths work : List ℕ) → min_work_words ≤ length work → {ys : List ℕ} → Indexed lengths ys
    → Indexed lengths (index_words (take 15360 work ++ (ys ++ drop (length work - 15360) (drop 15360 work))))
index_there lengths work h {ys} i =
    let rest = drop (length work - 15360) (drop 15360 work) in
    let none : rest ≡ [] = drop_of_length-le (drop 15360 work) {i = length work - 15360} (rw length-drop (omega arith)) in
    let is : index_words (take 15360 work ++ (ys ++ rest)) ≡ ys =
    drop_at (take 15360 work) (ys ++ rest) 15360 (length-take-le 15360 work (omega (arith, h))) ∙ ap (λ (l : List ℕ). ys ++ l) none ∙ append-nil ys in
    rw is i

-- a fresh interner writes before it
index_kept : (t work₀ : List ℕ) (base : ℕ) {work : List ℕ} → work ≡ with_start work₀ 0 base → Indexed (lengths_in t) (index_words work₀) → Indexed (lengths_in t) (index_words work)
index_kept t work₀ base e i = rw (ap index_words e ∙ start_high work₀ 0 base 15360 (omega arith)) i

-- ---- the walk

-- Room for all that is added, a, and for the nodes' records behind it in a tape of `size` bytes.
pub record WalkRoom (p : Plan) (nodes_at nodes size : ℕ) (a : Added) : Type 0 where
  pub contents : p.contents_at + 10 * a.contents ≤ p.segments_at
  pub segments : p.segments_at + 37 * a.segments ≤ nodes_at
  pub records : nodes_at + 49 * nodes ≤ size
  pub content_numbers : p.contents + a.contents < 2 ^ 32
  pub segment_numbers : p.segments + a.segments < 2 ^ 32
  pub string_numbers : p.strings + 4096 < 2 ^ 32
  pub calls : a.calls < 2 ^ 32

pub record WalkMade (p : Plan) (base nodes_at : ℕ) (out strs out' work' strs' : List ℕ) (r : Mark) (g : With (List SourceNode)) : Type 0 where
  pub good : Good work' strs' r.state
  pub state : state_of work' strs' r.state ≡ g.1.interner
  pub begins : r.state.base ≡ base
  pub contents : r.contents ≡ length g.1.contents
  pub segments : r.segments ≡ length g.1.segments
  pub wrote : out' ≡ overwrite (blocks out p.contents_at p.segments_at (records_bytes content_codec g.1.contents) (records_bytes segment_codec g.1.segments)) nodes_at (records_bytes node_codec g.0)
  pub kept : take base strs' ≡ take base strs
  pub long : length strs' ≡ length strs

pub record Walked (p : Plan) (base nodes_at : ℕ) (out strs out' work' strs' : List ℕ) (r : Option Mark) (g : With (List SourceNode)) : Type 0 where
  pub room : is_some r ≡ has_room (length strs) base g.1.interner
  pub made : (m : Mark) → r ≡ Some m → WalkMade p base nodes_at out strs out' work' strs' m g

-- a source, an index of its strings, and an interner that has nothing yet
pub record Begun (t d : List ℕ) (q : Places) (st : Store) (work₀ strs work : List ℕ) (base : ℕ) (s : Interner) : Type 0 where
  pub source : Held t d q st
  pub fresh : Fresh work₀ strs base work s
  pub index : Indexed (lengths_in t) (index_words work₀)

pub begun : {t d : List ℕ} {q : Places} {st : Store} → Held t d q st → {work₀ strs work : List ℕ} {base : ℕ} {s : Interner} → Fresh work₀ strs base work s
    → Indexed (lengths_in t) (index_words work₀) → Begun t d q st work₀ strs work base s
begun f b i = record { source = f; fresh = b; index = i }

module _ {t d : List ℕ} {q : Places} {st : Store} {work₀ strs work : List ℕ} {base : ℕ} {s : Interner} (begin : Begun t d q st work₀ strs work base s) (p : Plan) (nodes_at : ℕ) (out : List ℕ) where
  f : Held t d q st
  f = begin.source

  b : Fresh work₀ strs base work s
  b = begin.fresh

  no_calls : s.stats.calls ≡ 0
  no_calls = ap (λ (x : StrInterner). x.stats.calls) b.state

  pub walk_ready : WalkRoom p nodes_at q.nodes.count (length out) (source_adds t d) → Ready t d p (fresh_mark s) out work strs (nodes_add t st q.nodes.at q.nodes.count)
  walk_ready w = rw (held_adds f) (record {
    index = index_kept t work₀ base b.words begin.index;
    good = b.good;
    named = λ m e. absurd (none-some m e);
    has = sym (room_same work strs s b.good);
    space = record {
      contents = omega (arith, w.contents);
      segments = omega (arith, w.segments, w.records);
      content_numbers = omega (arith, w.content_numbers);
      segment_numbers = omega (arith, w.segment_numbers);
      string_numbers = w.string_numbers;
      calls = omega (arith, w.calls, no_calls);
    };
  })

  pub walk_low : WalkRoom p nodes_at q.nodes.count (length out) (source_adds t d) → p.segments_at + 37 * (0 + (nodes_add t st q.nodes.at q.nodes.count).segments) ≤ nodes_at
  walk_low w = rw (held_adds f) (omega (arith, w.segments))

  same_layer : layer_from p work strs (fresh_mark s) ≡ new_layer (offsets_of p)
  unfolding new_layer
  same_layer =
      let x : p.contents + 0 ≡ p.contents = omega arith in
      let y : p.segments + 0 ≡ p.segments = omega arith in
      λ i. record { string_offset = p.strings; content_offset = x i; segment_offset = y i; interner = b.state i; contents = []; segments = [] }

  same_graft : refs_from p work strs (fresh_mark s) (shown_of t d (records_at node_codec t q.nodes.at q.nodes.count)) ≡ grafted_into t d (offsets_of p)
  unfolding grafted_into
  same_graft = λ i. graft_node_refs (sym (source_shown f) i) (same_layer i)

  module _ {out' work' strs' : List ℕ} {r : Mark} where
    refused_here : {g : With (List SourceNode)} → NodesTold t d p (fresh_mark s) nodes_at out work strs out' work' strs' r false g → Walked p base nodes_at out strs out' work' strs' None g
    refused_here {g} k = record { room = k.room ∙ ap (λ (n : ℕ). has_room (length strs) n g.1.interner) b.begins; made = λ m e. absurd (none-some m e) }

    from_here : {g : With (List SourceNode)} → NodesTold t d p (fresh_mark s) nodes_at out work strs out' work' strs' r true g → Walked p base nodes_at out strs out' work' strs' (Some r) g
    from_here {g} k =
        let x : p.contents_at + 10 * 0 ≡ p.contents_at = omega arith in
        let y : p.segments_at + 37 * 0 ≡ p.segments_at = omega arith in
        let m = k.made refl in
        let own : WalkMade p base nodes_at out strs out' work' strs' r g = record {
          good = m.made.good;
          state = m.made.state;
          begins = m.made.base ∙ b.begins;
          contents = omega (arith, m.made.contents);
          segments = omega (arith, m.made.segments);
          wrote = m.wrote ∙ ap (λ (l : List ℕ). overwrite l nodes_at (records_bytes node_codec g.0))
              (m.made.wrote ∙ (λ i. blocks out (x i) (y i) (records_bytes content_codec g.1.contents) (records_bytes segment_codec g.1.segments)));
          kept = subst (λ (n : ℕ). take n strs' ≡ take n strs) b.begins m.made.kept;
          long = m.made.long;
        } in
        record {
          room = k.room ∙ ap (λ (n : ℕ). has_room (length strs) n g.1.interner) b.begins;
          made = λ n e. subst (λ (v : Mark). WalkMade p base nodes_at out strs out' work' strs' v g) (same_Some r n e) own;
        }

    pub walk_none : NodesTold t d p (fresh_mark s) nodes_at out work strs out' work' strs' r false (refs_from p work strs (fresh_mark s) (shown_of t d (records_at node_codec t q.nodes.at q.nodes.count)))
        → Walked p base nodes_at out strs out' work' strs' None (grafted_into t d (offsets_of p))
    walk_none k = refused_here (rw same_graft at k)

    pub walk_told : NodesTold t d p (fresh_mark s) nodes_at out work strs out' work' strs' r true (refs_from p work strs (fresh_mark s) (shown_of t d (records_at node_codec t q.nodes.at q.nodes.count)))
        → Walked p base nodes_at out strs out' work' strs' (Some r) (grafted_into t d (offsets_of p))
    walk_told k = from_here (rw same_graft at k)

-- by the plan of a layer from `at` on
pub walked_by : (t d : List ℕ) (o : Totals) (at contents : ℕ) {p : Plan} {base nodes_at : ℕ} {out strs out' work' strs' : List ℕ} {r : Option Mark} → p ≡ plan_of o at contents
    → Walked p base nodes_at out strs out' work' strs' r (grafted_into t d (offsets_of p)) → Walked (plan_of o at contents) base nodes_at out strs out' work' strs' r (grafted_into t d o)
walked_by t d o at contents {base = base} {nodes_at = n} {out = out} {strs = strs} {out' = out'} {work' = work'} {strs' = strs'} {r = r} e w =
    subst (λ (q : Plan). Walked q base n out strs out' work' strs' r (grafted_into t d (offsets_of q))) e w

pub source_sizes : {t d : List ℕ} {q : Places} {st : Store} → Held t d q st → (o : Totals) → LayerSizes (grafted_into t d o) (source_adds t d) q.nodes.count
source_sizes {t} {d} {q} f o = layer_sizes t d o (book_lengths t d q f.accepted.framing f.is).nodes
