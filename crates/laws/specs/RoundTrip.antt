-- Demand 2: a tape that was read and is written again is the same bytes.
use Rattle.std.specs.Prelude.{◌≡◌, refl, ℕ, zero, suc, ◌+◌, ◌-◌, ◌*◌, ◌≤◌, Bool, true, false, cond, not, ◌&&◌, length, take, drop, eqb}
use Rattle.std.proofs.Common.{sym, ap, ap₂, ◌∙◌, subst, arith, add-zero, add_assoc, length-drop, take-append-drop, drop_of_length-le, drop-cons, drop-drop, length-take-le, eqb-true}
use Rattle.std.proofs.Math.Option.{Option, none, some, none-ne-some, some-injective}
use mathlib.Core.List.{List, [], ◌∷◌, ◌++◌, append_assoc, append-nil, map, flatten}
use Rattle.model.specs.Lists.{sum, is_empty}
use Rattle.model.specs.Bytes.{AreBytes, byte_at, word_at, word_bytes, part}
use Rattle.model.specs.Types.{Layer, LexOutput}
use Rattle.model.specs.Tape.{records_at, records_bytes, count_at, string_codec, content_codec, segment_codec, node_codec, pair_codec, container_codec, diagnostic_codec}
use Rattle.model.specs.Tape.{LayerPlaces, layer_places, layers_from, layers_end, places, framed, string_lengths, pieces, layer_at, layers_at, bytes_needed, book_at, book_shape, if_shaped, parse, layer_bytes, tape_of, bytes_of}
use Rattle.facts.specs.Truth.{both}
use Rattle.facts.specs.Lists.{part_cons, part_add}
use Rattle.laws.specs.Words.{word_read}
use Rattle.laws.specs.Records.{records_read, string_lawful, content_lawful, segment_lawful, node_lawful, pair_lawful, container_lawful, diagnostic_lawful}

-- ---- what `parse` tests

-- a test that lets a value through
cond_some : {A : Type 0} (x : Bool) (o : Option A) (a : A) → cond x o none ≡ some a → (x ≡ true) × (o ≡ some a)
cond_some true o a e = (refl, e)
cond_some false o a e = absurd (none-ne-some a e)

pub record LaidOut (t d : List ℕ) : Type 0 where
  pub begins : byte_at t 0 ≡ 1
  pub ends : byte_at t (places t).end_at ≡ 10
  pub size : length t ≡ (places t).end_at + 1
  pub layered : not (is_empty (places t).layers) ≡ true
  pub bytes : length d ≡ bytes_needed t (places t)
  pub shape : book_shape (book_at t (places t) d) ≡ true

pub parse_laid_out : (t d : List ℕ) (b : LexOutput) → parse t d ≡ some b → LaidOut t d × (book_at t (places t) d ≡ b)
unfolding parse framed if_shaped
parse_laid_out t d b e =
    let p = places t in
    let c = cond_some (framed t p && not (is_empty p.layers) && eqb (length d) (bytes_needed t p)) (if_shaped (book_at t p d)) b e in
    let s = cond_some (book_shape (book_at t p d)) (some (book_at t p d)) b c.1 in
    let c₁ = both _ (eqb (length d) (bytes_needed t p)) c.0 in
    let c₂ = both (framed t p) (not (is_empty p.layers)) c₁.0 in
    let c₃ = both _ (eqb (length t) (p.end_at + 1)) c₂.0 in
    let c₄ = both (eqb (byte_at t 0) 1) (eqb (byte_at t p.end_at) 10) c₃.0 in (
      record {
        begins = eqb-true (byte_at t 0) 1 c₄.0;
        ends = eqb-true (byte_at t p.end_at) 10 c₄.1;
        size = eqb-true (length t) (p.end_at + 1) c₃.1;
        layered = c₂.1;
        bytes = eqb-true (length d) (bytes_needed t p) c₁.1;
        shape = s.0;
      },
      some-injective (book_at t p d) b s.1,
    )

-- ---- strings

-- the pieces have the lengths that they were cut by
pub pieces_lengths : (ns b : List ℕ) → sum ns ≤ length b → map length (pieces ns b) ≡ ns
unfolding pieces
pieces_lengths [] b h = refl
pieces_lengths (n ∷ ns) b h =
    ap₂ (λ (x : ℕ) (l : List ℕ). x ∷ l) (length-take-le n b (omega arith))
    (pieces_lengths ns (drop n b) (subst (λ (k : ℕ). sum ns ≤ k) (sym (length-drop n b)) (omega arith)))

-- and together they are what was cut
pieces_all : (ns b : List ℕ) → flatten (pieces ns b) ++ drop (sum ns) b ≡ b
unfolding pieces flatten
pieces_all [] b = refl
pieces_all (n ∷ ns) b =
    append_assoc (take n b) (flatten (pieces ns (drop n b))) (drop (n + sum ns) b)
    ∙ ap (λ (l : List ℕ). take n b ++ (flatten (pieces ns (drop n b)) ++ l)) (sym (drop-drop (sum ns) n b))
    ∙ ap (λ (l : List ℕ). take n b ++ l) (pieces_all ns (drop n b))
    ∙ take-append-drop n b

-- ---- layers

-- a layer's bytes on the tape
abbrev layer_size : List ℕ → ℕ → ℕ
layer_size t p =
    let l = layer_places t p in
    1 + (5 * l.string_count + (10 * l.content_count + 37 * l.segment_count))

pub layer_end : (t : List ℕ) (p : ℕ) → (layer_places t p).end_at ≡ p + layer_size t p
unfolding layer_places string_codec content_codec segment_codec
layer_end t p = omega arith

layer_read : (t : List ℕ) (p : ℕ) (d : List ℕ) → AreBytes t → byte_at t p ≡ 2 → (layer_places t p).end_at ≤ length t
    → sum (string_lengths t (layer_places t p)) ≤ length d
    → layer_bytes (layer_at t (layer_places t p) d) ≡ part t p (layer_size t p)
unfolding layer_places layer_bytes layer_at string_lengths string_codec content_codec segment_codec
layer_read t p d b e inside enough =
    let s = count_at string_codec t (p + 1) in
    let contents_at = p + 1 + 5 * s in
    let c = count_at content_codec t contents_at in
    let segments_at = contents_at + 10 * c in
    let g = count_at segment_codec t segments_at in
    let strings : records_bytes string_codec (map length (pieces (records_at string_codec t (p + 1) s) d)) ≡ part t (p + 1) (5 * s) =
    ap (records_bytes string_codec) (pieces_lengths (records_at string_codec t (p + 1) s) d enough) ∙ records_read string_codec string_lawful t b (p + 1) (omega arith) in
    let contents = records_read content_codec content_lawful t b contents_at (omega arith) in
    let segments = records_read segment_codec segment_lawful t b segments_at inside in
    ap₂ (λ (x : ℕ) (l : List ℕ). x ∷ l) (sym e)
    (ap₂ (λ (x y : List ℕ). x ++ y) strings
    (ap₂ (λ (x y : List ℕ). x ++ y) contents segments ∙ sym (part_add t contents_at (10 * c) (37 * g)))
    ∙ sym (part_add t (p + 1) (5 * s) (10 * c + 37 * g)))
    ∙ sym (part_add t p 1 (5 * s + (10 * c + 37 * g)) ∙ ap (λ (l : List ℕ). l ++ part t (p + 1) (5 * s + (10 * c + 37 * g))) (part_cons t p 0 (omega arith)))

pub layers_rise : (t : List ℕ) (n p : ℕ) → p ≤ layers_end p (layers_from n t p)
unfolding layers_end layers_from
layers_rise t zero p = omega arith
layers_rise t (suc n) p = go (layers_rise t n (layer_places t p).end_at) (eqb (byte_at t p) 2)
  where
    go : (layer_places t p).end_at ≤ layers_end (layer_places t p).end_at (layers_from n t (layer_places t p).end_at)
        → (x : Bool) → p ≤ layers_end p (cond x (layer_places t p ∷ layers_from n t (layer_places t p).end_at) [])
    go m true = let e = layer_end t p in omega arith
    go m false = omega arith

-- the string bytes that layers need
abbrev pub string_bytes : List ℕ → List LayerPlaces → ℕ
string_bytes t ls = sum (map (λ l. sum (string_lengths t l)) ls)

-- layers from place p on end at p + k and write those k bytes
abbrev LayersRead : List ℕ → ℕ → List ℕ → List LayerPlaces → Type 0
LayersRead t p d ls =
    layers_end p ls ≤ length t → string_bytes t ls ≤ length d
    → (k : ℕ) × (layers_end p ls ≡ p + k) × (flatten (map layer_bytes (layers_at t ls d)) ≡ part t p k)

layers_read : (t : List ℕ) → AreBytes t → (n p : ℕ) (d : List ℕ) → LayersRead t p d (layers_from n t p)
unfolding layers_end layers_from layers_at flatten
layers_read t b zero p d = λ inside enough. (0, sym (add-zero p), refl)
layers_read t b (suc n) p d = go (layers_read t b n (layer_places t p).end_at (drop (sum (string_lengths t (layer_places t p))) d)) (eqb (byte_at t p) 2) refl
  where
    go : LayersRead t (layer_places t p).end_at (drop (sum (string_lengths t (layer_places t p))) d) (layers_from n t (layer_places t p).end_at)
        → (x : Bool) → eqb (byte_at t p) 2 ≡ x → LayersRead t p d (cond x (layer_places t p ∷ layers_from n t (layer_places t p).end_at) [])
    go more false e inside enough = (0, sym (add-zero p), refl)
    go more true e inside enough =
        let here = layer_end t p in
        let m = layers_rise t n (layer_places t p).end_at in
        let rest = more inside (subst (λ (k : ℕ). string_bytes t (layers_from n t (layer_places t p).end_at) ≤ k) (sym (length-drop (sum (string_lengths t (layer_places t p))) d)) (omega arith)) in (
          layer_size t p + rest.0,
          rest.1 ∙ ap (λ (k : ℕ). k + rest.0) here ∙ add_assoc p (layer_size t p) rest.0,
          ap₂ (λ (x y : List ℕ). x ++ y) (layer_read t p d b (eqb-true (byte_at t p) 2 e) (omega arith) (omega arith)) (rest.2 ∙ ap (λ (k : ℕ). part t k rest.0) here)
              ∙ sym (part_add t p (layer_size t p) rest.0),
        )

-- the strings of the layers, and what is left of the bytes
strings_read : (t : List ℕ) (ls : List LayerPlaces) (d : List ℕ)
    → flatten (map (λ (l : Layer). flatten l.strings) (layers_at t ls d)) ++ drop (string_bytes t ls) d ≡ d
unfolding layers_at layer_at flatten
strings_read t [] d = refl
strings_read t (l ∷ ls) d =
    let lengths = string_lengths t l in
    let later = layers_at t ls (drop (sum lengths) d) in
    append_assoc (flatten (pieces lengths d)) (flatten (map (λ (k : Layer). flatten k.strings) later)) (drop (sum lengths + string_bytes t ls) d)
    ∙ ap (λ (x : List ℕ). flatten (pieces lengths d) ++ (flatten (map (λ (k : Layer). flatten k.strings) later) ++ x)) (sym (drop-drop (string_bytes t ls) (sum lengths) d))
    ∙ ap (λ (x : List ℕ). flatten (pieces lengths d) ++ x) (strings_read t ls (drop (sum lengths) d))
    ∙ pieces_all lengths d

-- ---- the whole tape

-- what stands from a place on: n bytes, and then what stands behind them
suffix : (t : List ℕ) (p n : ℕ) → part t p n ++ drop (p + n) t ≡ drop p t
suffix t p n = ap (λ (l : List ℕ). part t p n ++ l) (sym (drop-drop n p t)) ∙ take-append-drop n (drop p t)

-- the same, before something that is known to stand there
joined : (t : List ℕ) (p n : ℕ) (a r : List ℕ) → a ≡ part t p n → r ≡ drop (p + n) t → a ++ r ≡ drop p t
joined t p n a r e f = ap₂ (λ (x y : List ℕ). x ++ y) e f ∙ suffix t p n

last_byte : (t : List ℕ) (p : ℕ) → length t ≡ p + 1 → drop p t ≡ byte_at t p ∷ []
last_byte t p e = drop-cons t p 0 (omega arith) ∙ ap (λ (l : List ℕ). byte_at t p ∷ l) (drop_of_length-le t {i = suc p} (omega arith))

tape_again : (t d : List ℕ) → AreBytes t → LaidOut t d → tape_of (book_at t (places t) d) ≡ t
unfolding tape_of book_at places bytes_needed flatten node_codec pair_codec container_codec diagnostic_codec
tape_again t d b laid =
    let layers = layers_from (length t) t 9 in
    let nodes_at = layers_end 9 layers in
    let n = count_at node_codec t nodes_at in
    let pairs_at = nodes_at + 49 * n in
    let m = count_at pair_codec t pairs_at in
    let containers_at = pairs_at + 18 * m in
    let c = count_at container_codec t containers_at in
    let diagnostics_at = containers_at + 13 * c in
    let g = count_at diagnostic_codec t diagnostics_at in
    let end_at = diagnostics_at + 18 * g in
    let size : length t ≡ end_at + 1 = laid.size in
    let room : length d ≡ word_at t 1 + word_at t 5 + string_bytes t layers = laid.bytes in
    let low : 9 ≤ nodes_at = layers_rise t (length t) 9 in
    let left : length (drop (word_at t 1) d) ≡ length d - word_at t 1 = length-drop (word_at t 1) d in
    let behind : length (drop (word_at t 1 + word_at t 5) d) ≡ length d - (word_at t 1 + word_at t 5) = length-drop (word_at t 1 + word_at t 5) d in
    let text : word_bytes (length (take (word_at t 1) d)) ≡ part t 1 4 =
    ap word_bytes (length-take-le (word_at t 1) d (omega arith)) ∙ word_read t 1 b (omega arith) in
    let normalized : word_bytes (length (take (word_at t 5) (drop (word_at t 1) d))) ≡ part t 5 4 =
    ap word_bytes (length-take-le (word_at t 5) (drop (word_at t 1) d) (omega arith)) ∙ word_read t 5 b (omega arith) in
    let store = layers_read t b (length t) 9 (drop (word_at t 1 + word_at t 5) d) (omega arith) (omega arith) in
    let at_end : (10 ∷ []) ++ [] ≡ drop end_at t = sym (last_byte t end_at size ∙ ap (λ (x : ℕ). x ∷ []) laid.ends) in
    let s₅ = joined t diagnostics_at (18 * g) _ _ (records_read diagnostic_codec diagnostic_lawful t b diagnostics_at (omega arith)) at_end in
    let s₄ = joined t containers_at (13 * c) _ _ (records_read container_codec container_lawful t b containers_at (omega arith)) s₅ in
    let s₃ = joined t pairs_at (18 * m) _ _ (records_read pair_codec pair_lawful t b pairs_at (omega arith)) s₄ in
    let s₂ = joined t nodes_at (49 * n) _ _ (records_read node_codec node_lawful t b nodes_at (omega arith)) s₃ in
    let s₁ = joined t 9 store.0 _ _ store.2 (s₂ ∙ ap (λ (p : ℕ). drop p t) store.1) in
    ap₂ (λ (x : ℕ) (l : List ℕ). x ∷ l) (sym laid.begins) (joined t 1 4 _ _ text (joined t 5 4 _ _ normalized s₁))
    ∙ sym (drop-cons t 0 0 (omega arith))

bytes_again : (t d : List ℕ) → LaidOut t d → bytes_of (book_at t (places t) d) ≡ d
unfolding bytes_of book_at bytes_needed
bytes_again t d laid =
    let layers = (places t).layers in
    let room : length d ≡ word_at t 1 + word_at t 5 + string_bytes t layers = laid.bytes in
    let rest = drop (word_at t 1 + word_at t 5) d in
    let behind : length rest ≡ length d - (word_at t 1 + word_at t 5) = length-drop (word_at t 1 + word_at t 5) d in
    let strings : flatten (map (λ (l : Layer). flatten l.strings) (layers_at t layers rest)) ≡ rest =
    sym (append-nil _)
    ∙ ap (λ (l : List ℕ). flatten (map (λ (k : Layer). flatten k.strings) (layers_at t layers rest)) ++ l) (sym (drop_of_length-le rest {i = string_bytes t layers} (omega arith)))
    ∙ strings_read t layers rest in
    ap (λ (l : List ℕ). take (word_at t 1) d ++ l)
    (ap (λ (l : List ℕ). take (word_at t 5) (drop (word_at t 1) d) ++ l) strings ∙ suffix d (word_at t 1) (word_at t 5))
    ∙ take-append-drop (word_at t 1) d

-- A tape read and written again is the same bytes.
pub read_write : (t d : List ℕ) (b : LexOutput) → AreBytes t → parse t d ≡ some b → (tape_of b ≡ t) × (bytes_of b ≡ d)
read_write t d b bytes e =
    let r = parse_laid_out t d b e in
    (subst (λ (k : LexOutput). tape_of k ≡ t) r.1 (tape_again t d bytes r.0), subst (λ (k : LexOutput). bytes_of k ≡ d) r.1 (bytes_again t d r.0))
