-- Number 4 of a whole tape: its layers, then its nodes; and that for the store of the tape it is the model's.
use Rattle.std.specs.Prelude.{◌≡◌, ℕ, ◌+◌, ◌*◌, ◌≤◌, ◌<◌, Bool, false, ◌&&◌, ◌||◌, List, [], ◌∷◌, length, get_or, drop}
use Rattle.std.proofs.Math.Path.{refl, sym, ap, ap₂}
use Rattle.std.proofs.Common.{◌∙◌, arith, add-one, drop_of_length-le, drop-cons}
use Rattle.std.proofs.Math.Bool.{true, cond}
use Rattle.std.proofs.Math.Dec.{eqb}
use Rattle.model.specs.Lists.{all, sum}
use Rattle.model.specs.Bytes.{word_at}
use Rattle.model.specs.Limits.{no_string}
use Rattle.model.specs.Types.{Body, Content, Segment, SourceNode, Layer}
use Rattle.model.specs.WellFormed.{word_of, field_ok, content_ok, segment_ok, node_ok, ids_ok}
use Rattle.model.specs.Tape.{Field, Field.str, Field.opt_str, Field.content_range, Field.seg_range, fields_of, node_fields, records_at, content_codec, segment_codec, node_codec}
use Rattle.model.specs.Tape.{LayerPlaces, layer_places, places, string_lengths, layer_at, layers_at, book_at}
use Rattle.places.specs.declared.LayerRuns.{LayerRuns}
use Rattle.places.specs.declared.Places.{Places}
use Rattle.places.specs.Found.{layer_runs, found}
use Rattle.places.specs.Walked.{PlacesFit, all_layers}
use Rattle.store.specs.Stored.{store_at, OfTape}
use Rattle.store.specs.Standing.{string_id_ok, content_range_ok, segment_range_ok}
use Rattle.store.specs.declared.Store.{Store}
use Rattle.ids.specs.Tests.{field_in, body_in, content_in, segment_in, node_in}

-- ---- what the code computes

-- the contents and segments of a layer
unfoldable pub runs_in : List ℕ → Store → LayerRuns → Bool
runs_in t st l = all (content_in st) (records_at content_codec t l.contents.at l.contents.count) && all (segment_in st) (records_at segment_codec t l.segments.at l.segments.count)

unfoldable pub layers_in : List ℕ → Store → Bool
layers_in t st = all_layers (runs_in t st) t

unfoldable pub ids_in : List ℕ → Store → Bool
ids_in t st = layers_in t st && all (node_in st) (records_at node_codec t (places t).nodes_at (places t).node_count)

-- ---- that for the tape's store it is number 4

module _ (t : List ℕ) (st : Store) (e : st ≡ store_at t) (d : List ℕ) where
  pub field_ok_lem : (b : Body) (f : Field) → field_in st b f ≡ field_ok (layers_at t (places t).layers d) b f
  unfolding field_in field_ok
  field_ok_lem b (str i) = string_id_ok t st e d (word_of b i)
  field_ok_lem b (opt_str i) = ap (λ (x : Bool). eqb (word_of b i) no_string || x) (string_id_ok t st e d (word_of b i))
  field_ok_lem b (content_range i) = content_range_ok t st e d (word_of b i) (word_of b (i + 1))
  field_ok_lem b (seg_range i) = segment_range_ok t st e d (word_of b i) (word_of b (i + 1))

  -- every field of a body
  pub body_ok : (b : Body) → body_in st b ≡ all (field_ok (layers_at t (places t).layers d) b) (fields_of b)
  unfolding body_in
  body_ok b = λ j. all (λ (f : Field). field_ok_lem b f j) (fields_of b)

  pub content_ok_lem : content_in st ≡ content_ok (layers_at t (places t).layers d)
  unfolding content_in content_ok
  content_ok_lem = λ j c. cond (eqb c.tag 0) (string_id_ok t st e d c.first j) (segment_range_ok t st e d c.first c.second j)

  pub segment_ok_lem : segment_in st ≡ segment_ok (layers_at t (places t).layers d)
  unfolding segment_in segment_ok
  segment_ok_lem = λ j s. body_ok s.body j

  pub node_ok_lem : node_in st ≡ node_ok (layers_at t (places t).layers d)
  unfolding node_in node_ok
  node_ok_lem = λ j n. all (λ (f : Field). field_ok_lem n.body f j) (node_fields n)

layers_ok : (t : List ℕ) (st : Store) (p : Content → Bool) (q : Segment → Bool) → content_in st ≡ p → segment_in st ≡ q → (ls : List LayerPlaces) (d : List ℕ)
    → all (λ (l : LayerPlaces). runs_in t st (layer_runs l)) ls ≡ all (λ (l : Layer). all p l.contents && all q l.segments) (layers_at t ls d)
unfolding runs_in layers_at layer_at
layers_ok t st p q e f [] d = refl
layers_ok t st p q e f (l ∷ ls) d =
    ap₂ (λ (x y : Bool). x && y)
    (ap₂ (λ (g : Content → Bool) (h : Segment → Bool). all g (records_at content_codec t l.contents_at l.content_count) && all h (records_at segment_codec t l.segments_at l.segment_count)) e f)
    (layers_ok t st p q e f ls (drop (sum (string_lengths t l)) d))

pub ids_are : (t : List ℕ) (st : Store) → st ≡ store_at t → (d : List ℕ) → ids_in t st ≡ ids_ok (book_at t (places t) d)
unfolding ids_in layers_in all_layers ids_ok book_at
ids_are t st e d =
    let b = drop (word_at t 1 + word_at t 5) d in
    ap₂ (λ (x y : Bool). x && y)
    (layers_ok t st (content_ok (layers_at t (places t).layers b)) (segment_ok (layers_at t (places t).layers b)) (content_ok_lem t st e b) (segment_ok_lem t st e b) (places t).layers b)
    (ap (λ (g : SourceNode → Bool). all g (records_at node_codec t (places t).nodes_at (places t).node_count)) (node_ok_lem t st e b))

-- ---- the answers of the layers and of the nodes

module _ {t : List ℕ} {st : Store} {p : Places} (f : OfTape t st) (g : PlacesFit t p) where
  pub ids_failed : {r : Bool} → r ≡ all_layers (runs_in t st) t → r ≡ false → (d : List ℕ) → false ≡ ids_ok (book_at t (places t) d)
  unfolding ids_in layers_in
  ids_failed e n d = sym (sym (ids_are t st f.stored d) ∙ rw (sym e ∙ n) refl)

  pub ids_answer : {r q : Bool} → r ≡ all_layers (runs_in t st) t → r ≡ true → q ≡ all (node_in st) (records_at node_codec t p.nodes.at p.nodes.count)
      → (d : List ℕ) → q ≡ ids_ok (book_at t (places t) d)
  unfolding ids_in layers_in found
  ids_answer {r} {q} e n a d =
      let at = ap (λ (x : Places). x.nodes.at) g.is in
      let count = ap (λ (x : Places). x.nodes.count) g.is in
      let b : q ≡ all (node_in st) (records_at node_codec t (places t).nodes_at (places t).node_count) = a ∙ ap₂ (λ (x y : ℕ). all (node_in st) (records_at node_codec t x y)) at count in
      let y : all_layers (runs_in t st) t ≡ true = sym e ∙ n in
      b ∙ sym (ap (λ (x : Bool). x && all (node_in st) (records_at node_codec t (places t).nodes_at (places t).node_count)) y) ∙ ids_are t st f.stored d

-- the contents and the segments of a layer
module _ (t : List ℕ) (st : Store) (l : LayerRuns) where
  pub runs_failed : {r : Bool} → r ≡ all (content_in st) (records_at content_codec t l.contents.at l.contents.count) → r ≡ false → false ≡ runs_in t st l
  unfolding runs_in
  runs_failed e n = rw (sym e ∙ n) refl

  pub runs_answer : {r q : Bool} → r ≡ all (content_in st) (records_at content_codec t l.contents.at l.contents.count) → r ≡ true
      → q ≡ all (segment_in st) (records_at segment_codec t l.segments.at l.segments.count) → q ≡ runs_in t st l
  unfolding runs_in
  runs_answer e n a = rw (sym e ∙ n) a
