-- Where number 4 holds, what the code computes for the store of the tape is the model's number 5.
use Rattle.std.specs.Prelude.{◌≡◌, ℕ, ◌+◌, Bool, ◌&&◌, drop, eqb}
use Rattle.std.proofs.Math.Path.{refl, sym, ap}
use Rattle.std.proofs.Common.{ap₂, ◌∙◌}
use Rattle.std.proofs.Math.Bool.{true, cond}
use mathlib.Core.List.{List, [], ◌∷◌, map, flatten}
use Rattle.std.proofs.Math.ListN.{take}
use Rattle.std.proofs.Math.Dec.{leb, ltb}
use Rattle.model.specs.Lists.{all, sum}
use Rattle.model.specs.Bytes.{word_at}
use Rattle.model.specs.Limits.{max_level}
use Rattle.model.specs.Types.{Body, Content, Segment}
use Rattle.model.specs.Store.{store_of, resolve_content_range, resolve_seg_range}
use Rattle.model.specs.WellFormed.{word_of, content_segments, field_segments, level_ok, levels_ok}
use Rattle.model.specs.Tape.{Field, Field.str, Field.opt_str, Field.content_range, Field.seg_range, fields_of, records_at, content_codec, segment_codec}
use Rattle.model.specs.Tape.{LayerPlaces, places, string_lengths, layer_at, layers_at, book_at}
use Rattle.facts.specs.Truth.{both, by_bool}
use Rattle.facts.specs.Keep.{all_append_is, all_take, all_drop, all_map}
use Rattle.places.specs.Found.{layer_runs}
use Rattle.places.specs.Walked.{all_layers}
use Rattle.store.specs.Stored.{store_at}
use Rattle.store.specs.Standing.{content_place, content_range_lem, segment_range}
use Rattle.store.specs.declared.Store.{Store}
use Rattle.ids.specs.Tests.{contents_in, segments_in, field_in, body_in, content_in, segment_in}
use Rattle.ids.specs.Whole.{runs_in, layers_in, ids_in}
use Rattle.level_blocks.specs.Level.{below}
use Rattle.levels.specs.Below.{segments_below, content_below, contents_below, field_below, body_below, level_in}
use Rattle.levels.specs.Whole.{run_levels, levels_in}

-- ---- lists

all_joined : {A B : Type 0} (p : B → Bool) (f : A → List B) (xs : List A) → all p (flatten (map f xs)) ≡ all (λ (x : A). all p (f x)) xs
unfolding flatten
all_joined p f [] = refl
all_joined p f (x ∷ xs) = all_append_is p (f x) (flatten (map f xs)) ∙ ap (λ (b : Bool). all p (f x) && b) (all_joined p f xs)

all_agree : {A : Type 0} (q p r : A → Bool) (xs : List A) → all q xs ≡ true → ((x : A) → q x ≡ true → p x ≡ r x) → all p xs ≡ all r xs
all_agree q p r [] h e = refl
all_agree q p r (x ∷ xs) h e = let b = both (q x) (all q xs) h in ap₂ (λ (u v : Bool). u && v) (e x b.0) (all_agree q p r xs b.1 e)

-- ---- the pools, layer by layer

segments_flat : (t : List ℕ) (p : Segment → Bool) (ls : List LayerPlaces) (d : List ℕ)
    → all p (store_of (layers_at t ls d)).segments ≡ all (λ (l : LayerPlaces). all p (records_at segment_codec t l.segments_at l.segment_count)) ls
unfolding store_of layers_at layer_at flatten
segments_flat t p [] d = refl
segments_flat t p (l ∷ ls) d =
    all_append_is p (records_at segment_codec t l.segments_at l.segment_count) (store_of (layers_at t ls (drop (sum (string_lengths t l)) d))).segments
    ∙ ap (λ (b : Bool). all p (records_at segment_codec t l.segments_at l.segment_count) && b) (segments_flat t p ls (drop (sum (string_lengths t l)) d))

contents_flat : (t : List ℕ) (p : Content → Bool) (ls : List LayerPlaces) (d : List ℕ)
    → all p (store_of (layers_at t ls d)).contents ≡ all (λ (l : LayerPlaces). all p (records_at content_codec t l.contents_at l.content_count)) ls
unfolding store_of layers_at layer_at flatten
contents_flat t p [] d = refl
contents_flat t p (l ∷ ls) d =
    all_append_is p (records_at content_codec t l.contents_at l.content_count) (store_of (layers_at t ls (drop (sum (string_lengths t l)) d))).contents
    ∙ ap (λ (b : Bool). all p (records_at content_codec t l.contents_at l.content_count) && b) (contents_flat t p ls (drop (sum (string_lengths t l)) d))

layer_parts : (t : List ℕ) (st : Store) (l : LayerPlaces) → runs_in t st (layer_runs l) ≡ true
    → (all (content_in st) (records_at content_codec t l.contents_at l.content_count) ≡ true) × (all (segment_in st) (records_at segment_codec t l.segments_at l.segment_count) ≡ true)
unfolding runs_in
layer_parts t st l h = both (all (content_in st) (records_at content_codec t l.contents_at l.content_count)) (all (segment_in st) (records_at segment_codec t l.segments_at l.segment_count)) h

-- ---- fields, contents, segments that number 4 lets pass

module _ (t : List ℕ) (st : Store) (e : st ≡ store_at t) (d : List ℕ) (level : ℕ) where
  range_agrees : (start len : ℕ) → segments_in st start len ≡ true
      → segments_below t st level start len ≡ all (below level) (resolve_seg_range (store_of (layers_at t (places t).layers d)) start len)
  unfolding segments_below
  range_agrees start len h = rw h (ap (all (below level)) (sym (segment_range t st e d start len h)))

  content_agrees : (c : Content) → content_in st c ≡ true → content_below t st level c ≡ all (below level) (content_segments (store_of (layers_at t (places t).layers d)) c)
  unfolding content_in content_below content_segments
  content_agrees c h =
      by_bool (eqb c.tag 0)
      (λ x. rw x refl)
      (λ x. let g : segments_in st c.first c.second ≡ true = rw x at h in rw x (range_agrees c.first c.second g))

  module _ (pool : all (content_in st) (store_of (layers_at t (places t).layers d)).contents ≡ true) where
    contents_agree : (start len : ℕ) → contents_in st start len ≡ true
        → contents_below t st level start len
        ≡ all (below level) (flatten (map (content_segments (store_of (layers_at t (places t).layers d))) (resolve_content_range (store_of (layers_at t (places t).layers d)) start len)))
    unfolding contents_below resolve_content_range
    contents_agree start len h =
        let s = store_of (layers_at t (places t).layers d) in
        let run = take len (drop start s.contents) in
        let is : run ≡ records_at content_codec t (content_place st start) len = content_range_lem t st e d start len h in
        rw h (ap (all (content_below t st level)) (sym is)
        ∙ all_agree (content_in st) (content_below t st level) (λ (c : Content). all (below level) (content_segments s c)) run (all_take (content_in st) len (drop start s.contents) (all_drop (content_in st) start s.contents pool)) content_agrees
        ∙ sym (all_joined (below level) (content_segments s) run))

    field_agrees : (b : Body) (f : Field) → field_in st b f ≡ true → field_below t st level b f ≡ all (below level) (field_segments (store_of (layers_at t (places t).layers d)) b f)
    unfolding field_in field_below field_segments
    field_agrees b (str i) h = refl
    field_agrees b (opt_str i) h = refl
    field_agrees b (content_range i) h = contents_agree (word_of b i) (word_of b (i + 1)) h
    field_agrees b (seg_range i) h = range_agrees (word_of b i) (word_of b (i + 1)) h

module _ (t : List ℕ) (st : Store) (e : st ≡ store_at t) (d : List ℕ) (pool : all (content_in st) (store_of (layers_at t (places t).layers d)).contents ≡ true) where
  segment_agrees : (s : Segment) → segment_in st s ≡ true → level_in t st s ≡ level_ok (store_of (layers_at t (places t).layers d)) s
  unfolding segment_in body_in level_in level_ok body_below below
  segment_agrees s h =
      ap (λ (x : Bool). cond (ltb s.tag 3) (eqb s.level 0) (leb 1 s.level && leb s.level max_level && x))
      (all_agree (field_in st s.body) (field_below t st s.level s.body) (λ (f : Field). all (λ (inner : Segment). ltb inner.level s.level) (field_segments (store_of (layers_at t (places t).layers d)) s.body f)) (fields_of s.body) h
      (field_agrees t st e d s.level pool s.body))

-- ---- the whole tape

walked_agrees : (t : List ℕ) (st : Store) → st ≡ store_at t → layers_in t st ≡ true → (d : List ℕ)
    → levels_in t st ≡ all (level_ok (store_of (layers_at t (places t).layers d))) (store_of (layers_at t (places t).layers d)).segments
unfolding layers_in all_layers run_levels
walked_agrees t st e h d =
    let ls = (places t).layers in
    let s = store_of (layers_at t ls d) in
    let pool : all (content_in st) s.contents ≡ true =
    contents_flat t (content_in st) ls d ∙ all_map (λ (l : LayerPlaces). runs_in t st (layer_runs l)) (λ (l : LayerPlaces). all (content_in st) (records_at content_codec t l.contents_at l.content_count)) (λ l x. (layer_parts t st l x).0) ls h in
    all_agree (λ (l : LayerPlaces). runs_in t st (layer_runs l)) (λ (l : LayerPlaces). all (level_in t st) (records_at segment_codec t l.segments_at l.segment_count))
    (λ (l : LayerPlaces). all (level_ok s) (records_at segment_codec t l.segments_at l.segment_count)) ls h
    (λ l x. all_agree (segment_in st) (level_in t st) (level_ok s) (records_at segment_codec t l.segments_at l.segment_count) (layer_parts t st l x).1 (segment_agrees t st e d pool))
    ∙ sym (segments_flat t (level_ok s) ls d)

-- Number 5, where number 4 holds.
pub levels_are : (t : List ℕ) (st : Store) → st ≡ store_at t → ids_in t st ≡ true → (d : List ℕ) → levels_in t st ≡ levels_ok (book_at t (places t) d)
unfolding ids_in levels_ok book_at
levels_are t st e h d = walked_agrees t st e (both (layers_in t st) _ h).0 (drop (word_at t 1 + word_at t 5) d)
