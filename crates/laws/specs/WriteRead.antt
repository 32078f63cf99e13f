-- A book whose numbers fit is parsed back from its own tape and bytes.
use Rattle.std.specs.Prelude.{◌≡◌, refl, ℕ, zero, suc, ◌+◌, ◌≤◌, ◌<◌, Bool, true, false, cond, not, ◌&&◌, length, take, drop, eqb}
use Rattle.std.proofs.Common.{sym, ap, ap₂, ◌∙◌, arith, le_of_suc-le-suc, not-suc-le-zero, length-append, length-drop, drop-drop, take_at, drop_at, eq-eqb, ne_eqb, ltb-true}
use Rattle.std.proofs.Math.Path.{subst⁻¹}
use Rattle.std.proofs.Math.Option.{Option, none, some}
use mathlib.Core.List.{List, [], ◌∷◌, ◌++◌, append_assoc, append-nil, map, flatten}
use Rattle.model.specs.Lists.{all, sum, is_empty}
use Rattle.model.specs.Bytes.{byte_at, word_at, word_bytes}
use Rattle.model.specs.Types.{Layer, LexOutput}
use Rattle.model.specs.Tape.{records_at, records_bytes, string_codec, content_codec, segment_codec, node_codec, pair_codec, container_codec, diagnostic_codec}
use Rattle.model.specs.Tape.{LayerPlaces, layer_places, layers_from, layers_end, places, framed, string_lengths, pieces, layer_at, layers_at, bytes_needed, book_at, book_shape, if_shaped, parse, layer_bytes, tape_of, bytes_of}
use Rattle.facts.specs.Truth.{both, join}
use Rattle.facts.specs.Words.{word_length}
use Rattle.laws.specs.Words.{Stands, stands_behind, byte_stands, word_stands}
use Rattle.laws.specs.Fits.{is_word, operands_fit, record_fits, layer_fits, fits}
use Rattle.laws.specs.Records.{run_stands, not_head, string_lawful, content_lawful, segment_lawful, node_lawful, pair_lawful, container_lawful, diagnostic_lawful}
use Rattle.laws.specs.RoundTrip.{string_bytes}

-- ---- what fits, part by part

pub record LayerFits (l : Layer) : Type 0 where
  pub strings : all (λ (s : List ℕ). is_word (length s)) l.strings ≡ true
  pub contents : all (record_fits content_codec) l.contents ≡ true
  pub segments : all (record_fits segment_codec) l.segments ≡ true

pub layer_fits_lem : (l : Layer) → layer_fits l ≡ true → LayerFits l
unfolding layer_fits
layer_fits_lem l e =
    let u = both _ (all (record_fits segment_codec) l.segments) e in
    let v = both (all (λ (s : List ℕ). is_word (length s)) l.strings) (all (record_fits content_codec) l.contents) u.0 in
    record { strings = v.0; contents = v.1; segments = u.1 }

pub record BookFits (b : LexOutput) : Type 0 where
  pub sanitized : is_word (length b.sanitized) ≡ true
  pub normalized : is_word (length b.normalized) ≡ true
  pub layered : not (is_empty b.layers) ≡ true
  pub layers : all layer_fits b.layers ≡ true
  pub source_nodes : all (record_fits node_codec) b.source_nodes ≡ true
  pub pairs : all (record_fits pair_codec) b.pairs ≡ true
  pub container_pairs : all (record_fits container_codec) b.container_pairs ≡ true
  pub diagnostics : all (record_fits diagnostic_codec) b.diagnostics ≡ true
  pub shape : book_shape b ≡ true

pub book_fits : (b : LexOutput) → fits b ≡ true → BookFits b
unfolding fits
book_fits b e =
    let u₉ = both _ (book_shape b) e in
    let u₈ = both _ (all (record_fits diagnostic_codec) b.diagnostics) u₉.0 in
    let u₇ = both _ (all (record_fits container_codec) b.container_pairs) u₈.0 in
    let u₆ = both _ (all (record_fits pair_codec) b.pairs) u₇.0 in
    let u₅ = both _ (all (record_fits node_codec) b.source_nodes) u₆.0 in
    let u₄ = both _ (all layer_fits b.layers) u₅.0 in
    let u₃ = both _ (not (is_empty b.layers)) u₄.0 in
    let u₂ = both (is_word (length b.sanitized)) (is_word (length b.normalized)) u₃.0 in
    record { sanitized = u₂.0; normalized = u₂.1; layered = u₃.1; layers = u₄.1; source_nodes = u₅.1; pairs = u₆.1; container_pairs = u₇.1; diagnostics = u₈.1; shape = u₉.1 }

-- and together again
pub fits_book : (b : LexOutput) → BookFits b → fits b ≡ true
unfolding fits
fits_book b f = rw (f.sanitized, f.normalized, f.layered, f.layers, f.source_nodes, f.pairs, f.container_pairs, f.diagnostics, f.shape)

-- ---- a layer

-- lists cut by their own lengths
pieces_back : (ss : List (List ℕ)) (d : List ℕ) → pieces (map length ss) (flatten ss ++ d) ≡ ss
unfolding pieces flatten
pieces_back [] d = refl
pieces_back (s ∷ ss) d =
    let e : (s ++ flatten ss) ++ d ≡ s ++ (flatten ss ++ d) = append_assoc s (flatten ss) d in
    ap₂ (λ (x : List ℕ) (xs : List (List ℕ)). x ∷ xs)
    (ap (λ (k : List ℕ). take (length s) k) e ∙ take_at s (flatten ss ++ d) (length s) refl)
    (ap (λ (k : List ℕ). pieces (map length ss) (drop (length s) k)) e
    ∙ ap (λ (k : List ℕ). pieces (map length ss) k) (drop_at s (flatten ss ++ d) (length s) refl)
    ∙ pieces_back ss d)

sum_lengths : (ss : List (List ℕ)) → sum (map length ss) ≡ length (flatten ss)
unfolding flatten
sum_lengths [] = refl
sum_lengths (s ∷ ss) = ap (λ (k : ℕ). length s + k) (sum_lengths ss) ∙ sym (length-append s (flatten ss))

lengths_fit : (ss : List (List ℕ)) → all (λ (s : List ℕ). is_word (length s)) ss ≡ true → all (record_fits string_codec) (map length ss) ≡ true
unfolding record_fits string_codec operands_fit
lengths_fit [] ok = refl
lengths_fit (s ∷ ss) ok =
    let f = both (is_word (length s)) (all (λ (x : List ℕ). is_word (length x)) ss) ok in
    join (is_word (length s) && true) _ (join (is_word (length s)) true f.0 refl) (lengths_fit ss f.1)

-- a layer is read where it stands
record LayerStands (t : List ℕ) (p : ℕ) (l : Layer) (r : List ℕ) : Type 0 where
  pub two : byte_at t p ≡ 2
  pub lengths : string_lengths t (layer_places t p) ≡ map length l.strings
  pub contents : records_at content_codec t (layer_places t p).contents_at (layer_places t p).content_count ≡ l.contents
  pub segments : records_at segment_codec t (layer_places t p).segments_at (layer_places t p).segment_count ≡ l.segments
  pub rest : Stands t (layer_places t p).end_at r

layer_stands : (t : List ℕ) (l : Layer) → LayerFits l → (p : ℕ) (r : List ℕ) → ((k : ℕ) → 2 < k → k < 6 → byte_at r 0 ≡ k → ⊥)
    → Stands t p (layer_bytes l ++ r) → LayerStands t p l r
unfolding layer_places layer_bytes string_lengths string_codec content_codec segment_codec
layer_stands t l f p r other h =
    let gs = records_bytes segment_codec l.segments in
    let cs = records_bytes content_codec l.contents in
    let ss = records_bytes string_codec (map length l.strings) in
    let behind_contents : (k : ℕ) → 2 < k → k < 5 → byte_at (gs ++ r) 0 ≡ k → ⊥ = λ k lo hi. not_head segment_codec t k (λ e. omega arith) l.segments r (other k lo (omega arith)) in
    let behind_strings : byte_at (cs ++ (gs ++ r)) 0 ≡ 3 → ⊥ = not_head content_codec t 3 (λ e. omega arith) l.contents (gs ++ r) (behind_contents 3 (omega arith) (omega arith)) in
    let start : Stands t (p + 1) (ss ++ (cs ++ (gs ++ r))) =
    stands_behind t p 1 (2 ∷ []) ((ss ++ (cs ++ gs)) ++ r) refl h ∙ append_assoc ss (cs ++ gs) r ∙ ap (λ (k : List ℕ). ss ++ k) (append_assoc cs gs r) in
    let strings = run_stands string_codec string_lawful t (map length l.strings) (lengths_fit l.strings f.strings) (p + 1) (cs ++ (gs ++ r)) behind_strings start in
    let contents = run_stands content_codec content_lawful t l.contents f.contents _ (gs ++ r) (behind_contents 4 (omega arith) (omega arith)) strings.rest in
    let segments = run_stands segment_codec segment_lawful t l.segments f.segments _ r (other 5 (omega arith) (omega arith)) contents.rest in
    record {
      two = byte_stands t p _ h;
      lengths = strings.records;
      contents = contents.records;
      segments = segments.records;
      rest = segments.rest;
    }

layer_again : (t : List ℕ) (p : ℕ) (l : Layer) (r d : List ℕ) → LayerStands t p l r → layer_at t (layer_places t p) (flatten l.strings ++ d) ≡ l
unfolding layer_at
layer_again t p l r d s =
    let e₀ : pieces (string_lengths t (layer_places t p)) (flatten l.strings ++ d) ≡ l.strings =
    ap (λ (k : List ℕ). pieces k (flatten l.strings ++ d)) s.lengths ∙ pieces_back l.strings d in
    let e₁ = s.contents in
    let e₂ = s.segments in
    λ i. record { strings = e₀ i; contents = e₁ i; segments = e₂ i }

-- ---- layers

abbrev strings_of : List Layer → List ℕ
strings_of ls = flatten (map (λ (l : Layer). flatten l.strings) ls)

-- what begins with layers, and goes on with another command than k, begins with another command than k
layers_head : (k : ℕ) → 2 < k → (ls : List Layer) (r : List ℕ) → (byte_at r 0 ≡ k → ⊥) → byte_at (flatten (map layer_bytes ls) ++ r) 0 ≡ k → ⊥
unfolding layer_bytes flatten
layers_head k lo [] r ne e = ne e
layers_head k lo (l ∷ ls) r ne e = let two : 2 ≡ k = e in omega arith

-- there are at least as many bytes as layers
layers_long : (ls : List Layer) → length ls ≤ length (flatten (map layer_bytes ls))
unfolding layer_bytes flatten
layers_long [] = omega arith
layers_long (l ∷ ls) =
    let m = layers_long ls in
    let body = records_bytes string_codec (map length l.strings) ++ (records_bytes content_codec l.contents ++ records_bytes segment_codec l.segments) in
    let e = length-append body (flatten (map layer_bytes ls)) in
    omega arith

-- the layers are read where they stand
record LayersStand (t : List ℕ) (p : ℕ) (ps : List LayerPlaces) (ls : List Layer) (r d : List ℕ) : Type 0 where
  pub layers : layers_at t ps (strings_of ls ++ d) ≡ ls
  pub bytes : string_bytes t ps ≡ length (strings_of ls)
  pub rest : Stands t (layers_end p ps) r
  pub count : length ps ≡ length ls

layers_stand : (t : List ℕ) (r : List ℕ) → ((k : ℕ) → 1 < k → k < 6 → byte_at r 0 ≡ k → ⊥)
    → (ls : List Layer) → all layer_fits ls ≡ true → (n p : ℕ) (d : List ℕ) → length ls ≤ n
    → Stands t p (flatten (map layer_bytes ls) ++ r) → LayersStand t p (layers_from n t p) ls r d
unfolding layers_from layers_at layers_end flatten
layers_stand t r other [] ok zero p d h stands = record { layers = refl; bytes = refl; rest = stands; count = refl }
layers_stand t r other [] ok (suc n) p d h stands =
    let e : eqb (byte_at t p) 2 ≡ false = ne_eqb (byte_at t p) 2 (λ q. other 2 (omega arith) (omega arith) (sym (byte_stands t p r stands) ∙ q)) in
    subst⁻¹ (λ (x : Bool). LayersStand t p (cond x (layer_places t p ∷ layers_from n t (layer_places t p).end_at) []) [] r d) e
    (record { layers = refl; bytes = refl; rest = stands; count = refl })
layers_stand t r other (l ∷ ls) ok zero p d h stands = absurd (not-suc-le-zero h)
layers_stand t r other (l ∷ ls) ok (suc n) p d h stands =
    let f = both (layer_fits l) (all layer_fits ls) ok in
    let behind = flatten (map layer_bytes ls) ++ r in
    let here : Stands t p (layer_bytes l ++ behind) = stands ∙ append_assoc (layer_bytes l) (flatten (map layer_bytes ls)) r in
    let one = layer_stands t l (layer_fits_lem l f.0) p behind (λ k lo hi. layers_head k lo ls r (other k (omega arith) hi)) here in
    let more = layers_stand t r other ls f.1 n (layer_places t p).end_at d (le_of_suc-le-suc h) one.rest in
    let lengths : sum (string_lengths t (layer_places t p)) ≡ length (flatten l.strings) = ap sum one.lengths ∙ sum_lengths l.strings in
    let e : eqb (byte_at t p) 2 ≡ true = eq-eqb (byte_at t p) 2 one.two in
    let split : strings_of (l ∷ ls) ++ d ≡ flatten l.strings ++ (strings_of ls ++ d) = append_assoc (flatten l.strings) (strings_of ls) d in
    let first : layer_at t (layer_places t p) (strings_of (l ∷ ls) ++ d) ≡ l =
    ap (λ (k : List ℕ). layer_at t (layer_places t p) k) split ∙ layer_again t p l behind (strings_of ls ++ d) one in
    let dropped : drop (sum (string_lengths t (layer_places t p))) (strings_of (l ∷ ls) ++ d) ≡ strings_of ls ++ d =
    ap₂ (λ (k : ℕ) (y : List ℕ). drop k y) lengths split ∙ drop_at (flatten l.strings) (strings_of ls ++ d) (length (flatten l.strings)) refl in
    subst⁻¹ (λ (x : Bool). LayersStand t p (cond x (layer_places t p ∷ layers_from n t (layer_places t p).end_at) []) (l ∷ ls) r d) e
    (record {
      layers = ap₂ (λ (x : Layer) (xs : List Layer). x ∷ xs) first
          (ap (λ (k : List ℕ). layers_at t (layers_from n t (layer_places t p).end_at) k) dropped ∙ more.layers);
      bytes = ap₂ (λ (x y : ℕ). x + y) lengths more.bytes ∙ sym (length-append (flatten l.strings) (strings_of ls));
      rest = more.rest;
      count = ap suc more.count;
    })

-- ---- the book

-- what stands on the tape from the diagnostics, the containers, the pairs and the nodes on
abbrev from_diagnostics : LexOutput → List ℕ
from_diagnostics b = records_bytes diagnostic_codec b.diagnostics ++ (10 ∷ [])

abbrev from_containers : LexOutput → List ℕ
from_containers b = records_bytes container_codec b.container_pairs ++ from_diagnostics b

abbrev from_pairs : LexOutput → List ℕ
from_pairs b = records_bytes pair_codec b.pairs ++ from_containers b

abbrev from_nodes : LexOutput → List ℕ
from_nodes b = records_bytes node_codec b.source_nodes ++ from_pairs b

-- none of them begins with the command of an earlier list
module _ (t : List ℕ) (b : LexOutput) (k : ℕ) where
  diagnostics_head : k < 9 → byte_at (from_diagnostics b) 0 ≡ k → ⊥
  unfolding diagnostic_codec
  diagnostics_head h = not_head diagnostic_codec t k (λ e. omega arith) b.diagnostics (10 ∷ []) (λ e. let ten : 10 ≡ k = e in omega arith)

  containers_head : k < 8 → byte_at (from_containers b) 0 ≡ k → ⊥
  unfolding container_codec
  containers_head h = not_head container_codec t k (λ e. omega arith) b.container_pairs (from_diagnostics b) (diagnostics_head (omega arith))

  pairs_head : k < 7 → byte_at (from_pairs b) 0 ≡ k → ⊥
  unfolding pair_codec
  pairs_head h = not_head pair_codec t k (λ e. omega arith) b.pairs (from_containers b) (containers_head (omega arith))

  nodes_head : k < 6 → byte_at (from_nodes b) 0 ≡ k → ⊥
  unfolding node_codec
  nodes_head h = not_head node_codec t k (λ e. omega arith) b.source_nodes (from_pairs b) (pairs_head (omega arith))

-- the parts of a tape, and what is read from them
record BookStands (t : List ℕ) (b : LexOutput) : Type 0 where
  pub text_length : word_at t 1 ≡ length b.sanitized
  pub normalized_length : word_at t 5 ≡ length b.normalized
  pub layers : LayersStand t 9 (places t).layers b.layers (from_nodes b) []
  pub source_nodes : records_at node_codec t (places t).nodes_at (places t).node_count ≡ b.source_nodes
  pub pairs : records_at pair_codec t (places t).pairs_at (places t).pair_count ≡ b.pairs
  pub container_pairs : records_at container_codec t (places t).containers_at (places t).container_count ≡ b.container_pairs
  pub diagnostics : records_at diagnostic_codec t (places t).diagnostics_at (places t).diagnostic_count ≡ b.diagnostics
  pub end : Stands t (places t).end_at (10 ∷ [])

book_stands : (t : List ℕ) (b : LexOutput) → BookFits b
    → Stands t 1 (word_bytes (length b.sanitized) ++ (word_bytes (length b.normalized) ++ (flatten (map layer_bytes b.layers) ++ from_nodes b)))
    → BookStands t b
unfolding places node_codec pair_codec container_codec diagnostic_codec
book_stands t b f h₁ =
    let ls = flatten (map layer_bytes b.layers) in
    let h₅ : Stands t 5 (word_bytes (length b.normalized) ++ (ls ++ from_nodes b)) = stands_behind t 1 4 (word_bytes (length b.sanitized)) _ (word_length (length b.sanitized)) h₁ in
    let h₉ : Stands t 9 (ls ++ from_nodes b) = stands_behind t 5 4 (word_bytes (length b.normalized)) _ (word_length (length b.normalized)) h₅ in
    let room : length (ls ++ from_nodes b) ≤ length t = omega (arith, ap length h₉, length-drop 9 t) in
    let enough : length b.layers ≤ length t = omega (arith, layers_long b.layers, length-append ls (from_nodes b)) in
    let store = layers_stand t (from_nodes b) (λ k lo hi. nodes_head t b k hi) b.layers f.layers (length t) 9 [] enough h₉ in
    let nodes = run_stands node_codec node_lawful t b.source_nodes f.source_nodes _ (from_pairs b) (pairs_head t b 6 (omega arith)) store.rest in
    let pairs = run_stands pair_codec pair_lawful t b.pairs f.pairs _ (from_containers b) (containers_head t b 7 (omega arith)) nodes.rest in
    let containers = run_stands container_codec container_lawful t b.container_pairs f.container_pairs _ (from_diagnostics b) (diagnostics_head t b 8 (omega arith)) pairs.rest in
    let diagnostics = run_stands diagnostic_codec diagnostic_lawful t b.diagnostics f.diagnostics _ (10 ∷ []) (omega arith) containers.rest in
    record {
      text_length = word_stands t 1 (length b.sanitized) _ (ltb-true (length b.sanitized) 4294967296 f.sanitized) h₁;
      normalized_length = word_stands t 5 (length b.normalized) _ (ltb-true (length b.normalized) 4294967296 f.normalized) h₅;
      layers = store;
      source_nodes = nodes.records;
      pairs = pairs.records;
      container_pairs = containers.records;
      diagnostics = diagnostics.records;
      end = diagnostics.rest;
    }

-- the book is what is read
book_again : (t : List ℕ) (b : LexOutput) → BookStands t b → book_at t (places t) (bytes_of b) ≡ b
unfolding book_at bytes_of
book_again t b s =
    let strings = strings_of b.layers in
    let all = b.sanitized ++ (b.normalized ++ strings) in
    let e₀ : take (word_at t 1) all ≡ b.sanitized = take_at b.sanitized (b.normalized ++ strings) (word_at t 1) (sym s.text_length) in
    let d₁ : drop (word_at t 1) all ≡ b.normalized ++ strings = drop_at b.sanitized (b.normalized ++ strings) (word_at t 1) (sym s.text_length) in
    let e₁ : take (word_at t 5) (drop (word_at t 1) all) ≡ b.normalized =
    ap (λ (k : List ℕ). take (word_at t 5) k) d₁ ∙ take_at b.normalized strings (word_at t 5) (sym s.normalized_length) in
    let d₂ : drop (word_at t 1 + word_at t 5) all ≡ strings ++ [] =
    sym (drop-drop (word_at t 5) (word_at t 1) all)
    ∙ ap (λ (k : List ℕ). drop (word_at t 5) k) d₁
    ∙ drop_at b.normalized strings (word_at t 5) (sym s.normalized_length)
    ∙ sym (append-nil strings) in
    let e₂ : layers_at t (places t).layers (drop (word_at t 1 + word_at t 5) all) ≡ b.layers =
    ap (λ (k : List ℕ). layers_at t (places t).layers k) d₂ ∙ s.layers.layers in
    let e₃ = s.source_nodes in
    let e₄ = s.pairs in
    let e₅ = s.container_pairs in
    let e₆ = s.diagnostics in
    λ i. record { sanitized = e₀ i; normalized = e₁ i; layers = e₂ i; source_nodes = e₃ i; pairs = e₄ i; container_pairs = e₅ i; diagnostics = e₆ i }

-- the test of `parse`
passes : (t d : List ℕ) (b : LexOutput) → byte_at t 0 ≡ 1 → BookStands t b → not (is_empty b.layers) ≡ true → d ≡ bytes_of b
    → framed t (places t) && not (is_empty (places t).layers) && eqb (length d) (bytes_needed t (places t)) ≡ true
unfolding framed bytes_needed bytes_of
passes t d b one s layered same =
    let size : length t ≡ (places t).end_at + 1 = omega (arith, ap length s.end, length-drop (places t).end_at t) in
    let need : length d ≡ word_at t 1 + word_at t 5 + string_bytes t (places t).layers =
    omega (arith, ap length same, length-append b.sanitized (b.normalized ++ strings_of b.layers), length-append b.normalized (strings_of b.layers), s.text_length, s.normalized_length, s.layers.bytes) in
    let c₀ = eq-eqb (byte_at t 0) 1 one in
    let c₁ = eq-eqb (byte_at t (places t).end_at) 10 (byte_stands t (places t).end_at (10 ∷ []) s.end) in
    let c₂ = eq-eqb (length t) ((places t).end_at + 1) size in
    let c₃ = some_layer (places t).layers b.layers s.layers.count layered in
    let c₄ = eq-eqb (length d) (word_at t 1 + word_at t 5 + string_bytes t (places t).layers) need in
    rw (c₀, c₁, c₂, c₃, c₄)
  where
    some_layer : (ps : List LayerPlaces) (ls : List Layer) → length ps ≡ length ls → not (is_empty ls) ≡ true → not (is_empty ps) ≡ true
    some_layer [] [] e n = n
    some_layer [] (l ∷ ls) e n = absurd (omega arith)
    some_layer (p ∷ ps) ls e n = refl

-- A book whose numbers fit, written and read again, is the same book.
pub write_read : (b : LexOutput) → fits b ≡ true → parse (tape_of b) (bytes_of b) ≡ some b
unfolding parse if_shaped tape_of flatten
write_read b ok =
    let f = book_fits b ok in
    let t = tape_of b in
    let s = book_stands t b f refl in
    let shaped : if_shaped (book_at t (places t) (bytes_of b)) ≡ some b =
    ap if_shaped (book_again t b s) ∙ ap (λ (x : Bool). cond x (some b) none) f.shape in
    ap₂ (λ (x : Bool) (o : Option LexOutput). cond x o none) (passes t (bytes_of b) b refl s f.layered refl) shaped
