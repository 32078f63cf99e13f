-- Segments and bodies: one segment by its body, a body by the fields at six places.
use Rattle.std.specs.Prelude.{◌≡◌, length, drop, replicate, eqb}
use Rattle.std.proofs.Math.Path.{refl, ap}
use Rattle.std.proofs.Common.{sym, ◌∙◌}
use Prim.Native.Nat.{ℕ, zero, suc, ◌+◌, ◌-◌}
use native.Mathlib.Omega.{arith}
use Rattle.std.proofs.Math.Bool.{true}
use mathlib.Core.List.{List, [], ◌∷◌, ◌++◌, append-nil, append_assoc}
use Rattle.std.proofs.Math.ListN.{set}
use borrow.Author.Tests.{ne_eqb}
use borrow.Author.Tests.{eqb-true}
use Rattle.model.specs.Limits.{no_string}
use Rattle.model.specs.Bytes.{word_at}
use Rattle.model.specs.Types.{Body, Segment}
use Rattle.model.specs.WellFormed.{word_of}
use Rattle.model.specs.Store.{NodeStore, resolve_content_range, resolve_seg_range}
use Rattle.model.specs.Tape.{Field, fields_of, content_codec, segment_codec}
use Rattle.model.specs.Tree.{show_segments, show_contents, show_fields, show_with, show_body}
use Rattle.model.specs.Graft.{NewLayer, graft_node, graft_fields, graft_segments, push_contents, push_segments}
use Rattle.facts.specs.Truth.{by_bool}
use Rattle.laws.specs.Records.{run_length}
use Rattle.store.specs.Standing.{segment_range, content_range_lem, segment_place, content_place}
use Rattle.store.specs.declared.Store.{Store}
use Rattle.records.specs.Uses.{word_use}
use Rattle.ids.specs.Tests.{contents_in, segments_in, used_well}
use Rattle.sizes.specs.Order.{field_word, place_field, place_fields, fields_in_order}
use Rattle.sizes.specs.Order.{field_from as field_at_word}
use Rattle.sizes.specs.InPlace.{field_words}
use Rattle.sizes.specs.Trees.{length_segments, length_contents}
use Rattle.sizes.specs.Shown.{show_inner, segments_shown, contents_shown}
use Rattle.sizes.specs.Words.{UsedWords}
use Rattle.graft.specs.Grafted.{layer_from}
use Rattle.graft.specs.Named.{source_store}
use Rattle.graft.specs.Walk.{Source, shown_contents, shown_segments, body_from, place_from, content_run_from, segment_run_from, field_from, id_from, words_with}
use Rattle.graft.specs.declared.Plan.{Plan}
use Rattle.graft.specs.declared.Mark.{Mark}

-- ---- one segment

abbrev pub zero_body : Body
zero_body = record { kind = 0; tag = 0; plain1 = 0; plain2 = 0; words = replicate 6 0 }

module _ (t d : List ℕ) (x : Segment) (f : NewLayer) where
  pub one_zero : (l : ℕ) → l ≡ 0 → shown_segments l t d (x ∷ []) f ≡ (record { tag = x.tag; level = x.level; body = zero_body } ∷ [], f)
  unfolding show_segments graft_segments show_inner graft_node graft_fields
  one_zero l z = rw z refl

  pub one_body : (l : ℕ) → (l ≡ 0 → ⊥) → shown_segments l t d (x ∷ []) f
      ≡ (let b = graft_node (show_body (l - 1) (source_store t d) x.body) f in (record { tag = x.tag; level = x.level; body = b.0 } ∷ [], b.1))
  unfolding show_segments graft_segments show_inner
  one_body zero z = absurd (z refl)
  one_body (suc l) z = let e : l ≡ suc l - 1 = omega arith in
      ap (λ (k : ℕ). let b = graft_node (show_body k (source_store t d) x.body) f in (record { tag = x.tag; level = x.level; body = b.0 } ∷ [], b.1)) e

-- ---- a body

inner_shown : (l : ℕ) (s : NodeStore) (b : Body) → show_body l s b ≡ show_with (show_inner l s) s (fields_of b) b
unfolding show_body show_inner
inner_shown zero s b = refl
inner_shown (suc l) s b = refl

pub body_from_lem : (l : ℕ) (t d : List ℕ) (p : Plan) (work strs : List ℕ) (m : Mark) (b : Body)
    → graft_node (show_body l (source_store t d) b) (layer_from p work strs m)
    ≡ (let r = body_from l t d p work strs m b 6 in (record { kind = b.kind; tag = b.tag; plain1 = b.plain1; plain2 = b.plain2; words = r.0 }, r.1))
unfolding show_with graft_node body_from fields_of
body_from_lem l t d p work strs m b =
    ap (λ x. graft_node x (layer_from p work strs m)) (inner_shown l (source_store t d) b)
    ∙ ap (λ (fs : List Field). let r = graft_fields (show_fields (show_inner l (source_store t d)) (source_store t d) b fs) (replicate 6 0) (layer_from p work strs m) in
    (record { kind = b.kind; tag = b.tag; plain1 = b.plain1; plain2 = b.plain2; words = r.0 }, r.1)) (sym (fields_in_order b.kind b.tag))

-- the places one by one, the last at the end
pub places_last : (k t n j : ℕ) → place_fields k t (suc n) j ≡ place_fields k t n j ++ place_field k t (j + n)
unfolding place_fields
places_last k t zero j = append-nil (place_field k t j) ∙ ap (place_field k t) (let e : j ≡ j + 0 = omega arith in e)
places_last k t (suc n) j =
    ap (λ (l : List Field). place_field k t j ++ l) (places_last k t n (j + 1)) ∙ sym (append_assoc (place_field k t j) (place_fields k t n (j + 1)) (place_field k t (j + 1 + n)))
    ∙ ap (λ (i : ℕ). place_field k t j ++ place_fields k t n (j + 1) ++ place_field k t i) (let e : j + 1 + n ≡ j + suc n = omega arith in e)

-- ---- the field at a place

module _ (l : ℕ) (t d : List ℕ) (st : Store) (source : Source t d st) where
  contents_long : (start len : ℕ) (f : NewLayer) → contents_in st start len ≡ true → length (shown_contents l t d (resolve_content_range (source_store t d) start len) f).0 ≡ len
  contents_long start len f h =
      let run = resolve_content_range (source_store t d) start len in
      length_contents (show_contents (show_inner l (source_store t d)) (source_store t d) run) f ∙ contents_shown (show_inner l (source_store t d)) (source_store t d) run
      ∙ ap length (content_range_lem t st source.fit.stored (drop (word_at t 1 + word_at t 5) d) start len h) ∙ run_length content_codec t (content_place st start) len

  segments_long : (start len : ℕ) (f : NewLayer) → segments_in st start len ≡ true → length (shown_segments l t d (resolve_seg_range (source_store t d) start len) f).0 ≡ len
  segments_long start len f h =
      let run = resolve_seg_range (source_store t d) start len in
      length_segments (show_segments (show_inner l (source_store t d)) run) f ∙ segments_shown (show_inner l (source_store t d)) run
      ∙ ap length (segment_range t st source.fit.stored (drop (word_at t 1 + word_at t 5) d) start len h) ∙ run_length segment_codec t (segment_place st start) len

  module _ (b : Body) (i : ℕ) (ws : List ℕ) (f : NewLayer) where
    abbrev field_of : ℕ → UsedWords
    field_of u = record { usage = u; first = word_of b i; second = word_of b (i + 1) }

    word_from : (u : ℕ) → used_well st u (word_of b i) (word_of b (i + 1)) ≡ true
        → graft_fields (show_fields (show_inner l (source_store t d)) (source_store t d) b (field_at_word u i)) ws f
        ≡ (words_with ws i (field_of u) (field_from l t d (field_of u) f).0, (field_from l t d (field_of u) f).1)
    unfolding field_at_word show_fields graft_fields words_with field_from id_from used_well content_run_from segment_run_from
    word_from u h =
        by_bool (eqb u 1) (λ e. let q : u ≡ 1 = eqb-true u 1 e in rw q refl)
        (λ e. by_bool (eqb u 2)
        (λ g. let q : u ≡ 2 = eqb-true u 2 g in rw q (by_bool (eqb (word_of b i) no_string) (λ z. rw z refl) (λ z. rw z refl)))
        (λ g. by_bool (eqb u 3)
        (λ x.
        let q : u ≡ 3 = eqb-true u 3 x in
        let c : contents_in st (word_of b i) (word_of b (i + 1)) ≡ true = rw q at h in
        let r = shown_contents l t d (resolve_content_range (source_store t d) (word_of b i) (word_of b (i + 1))) f in
        let at = push_contents r.0 r.1 in
        rw q (ap (λ (n : ℕ). (set (set ws i at.0) (i + 1) n, at.1)) (contents_long (word_of b i) (word_of b (i + 1)) f c)))
        (λ x. by_bool (eqb u 5)
        (λ y.
        let q : u ≡ 5 = eqb-true u 5 y in
        let c : segments_in st (word_of b i) (word_of b (i + 1)) ≡ true = rw q at h in
        let r = shown_segments l t d (resolve_seg_range (source_store t d) (word_of b i) (word_of b (i + 1))) f in
        let at = push_segments r.0 r.1 in
        rw q (ap (λ (n : ℕ). (set (set ws i at.0) (i + 1) n, at.1)) (segments_long (word_of b i) (word_of b (i + 1)) f c)))
        (λ y. rw (e, g, x, y) refl))))

  pub place_from_lem : (b : Body) (j : ℕ) (ws : List ℕ) (f : NewLayer) → used_well st (field_words b j).usage (field_words b j).first (field_words b j).second ≡ true
      → place_from l t d b j ws f ≡ (words_with ws (field_word b.kind j) (field_words b j) (field_from l t d (field_words b j) f).0, (field_from l t d (field_words b j) f).1)
  unfolding place_from place_field
  place_from_lem b j ws f h = word_from b (field_word b.kind j) ws f (word_use b.kind b.tag (field_word b.kind j)) h

-- ---- the words that a field sets

module _ (ws : List ℕ) (i : ℕ) (f : UsedWords) (v : ℕ) where
  pub words_string : f.usage ≡ 1 → {r : List ℕ} → r ≡ set ws i v → r ≡ words_with ws i f v
  unfolding words_with
  words_string e q = rw e q

  pub words_optional : f.usage ≡ 2 → {r : List ℕ} → r ≡ set ws i v → r ≡ words_with ws i f v
  unfolding words_with
  words_optional e q = rw e q

  pub words_contents : f.usage ≡ 3 → {w r : List ℕ} → w ≡ set ws i v → r ≡ set w (i + 1) f.second → r ≡ words_with ws i f v
  unfolding words_with
  words_contents e a q = rw e (q ∙ ap (λ (l : List ℕ). set l (i + 1) f.second) a)

  pub words_segments : f.usage ≡ 5 → {w r : List ℕ} → w ≡ set ws i v → r ≡ set w (i + 1) f.second → r ≡ words_with ws i f v
  unfolding words_with
  words_segments e a q = rw e (q ∙ ap (λ (l : List ℕ). set l (i + 1) f.second) a)

  pub words_none : (f.usage ≡ 1 → ⊥) → (f.usage ≡ 2 → ⊥) → (f.usage ≡ 3 → ⊥) → (f.usage ≡ 5 → ⊥) → ws ≡ words_with ws i f v
  unfolding words_with
  words_none a b g h = rw (ne_eqb f.usage 1 a, ne_eqb f.usage 2 b, ne_eqb f.usage 3 g, ne_eqb f.usage 5 h) refl
