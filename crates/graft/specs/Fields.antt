-- The fields of a body, one after the other: strings, a field by its use, the field at a place, and the places so far.
use Rattle.std.specs.Prelude.{◌≡◌, Option, Some, None, ℕ, zero, suc, ◌+◌, ◌≤◌, ◌<◌, true, length, replicate}
use Rattle.std.proofs.Math.Path.{refl, sym, ap, ap₂}
use Rattle.std.proofs.Common.{◌∙◌, arith, true≢false}
use Rattle.std.proofs.lemmas.Option.{none-some, same_Some}
use mathlib.Core.List.{List, ◌++◌, append_assoc}
use borrow.Author.Tests.{eq-eqb, ne_eqb, ltb-true}
use Rattle.model.specs.Lists.{all}
use Rattle.model.specs.Bytes.{byte_at}
use Rattle.model.specs.Limits.{no_string}
use Rattle.model.specs.Types.{Body}
use Rattle.model.specs.Store.{resolve_str}
use Rattle.model.specs.Tape.{Field, fields_of}
use Rattle.model.specs.Tree.{show_fields}
use Rattle.model.specs.Graft.{NewLayer, graft_str, graft_fields}
use Rattle.facts.specs.Truth.{by_bool}
use Rattle.store.specs.declared.Store.{Store}
use Rattle.records.specs.Values.{body_at}
use Rattle.records.specs.Uses.{word_use}
use Rattle.ids.specs.Tests.{body_in, field_in, word_in, used_well, used_string, used_optional, body_failed}
use Rattle.sizes.specs.Order.{field_word, place_field, place_fields, fields_in_order}
use Rattle.sizes.specs.Added.{Added, add, all_append}
use Rattle.sizes.specs.InPlace.{inner_adds, body_adds, place_adds, used_adds, field_adds, fields_add, field_words, content_run_adds, segment_run_adds, from_adds}
use Rattle.sizes.specs.Shown.{show_inner}
use Rattle.sizes.specs.Words.{UsedWords}
use Rattle.graft.specs.Rebased.{rebased, behind, steps_fields}
use Rattle.graft.specs.Grafted.{layer_from, Told, Sized, Roomy, empty_sized, next_layer, told_then, refused_then}
use Rattle.graft.specs.Widths.{fields_sized}
use Rattle.graft.specs.Parts.{fields_then}
use Rattle.graft.specs.Named.{source_store}
use Rattle.graft.specs.Walk.{Source, Ready, StartTold, WordsTold, body_from, place_from, content_run_from, segment_run_from, field_from, id_from, words_with}
use Rattle.graft.specs.Rooms.{ready_item, space_left, roomy, fields_add_lem}
use Rattle.graft.specs.Answers.{told_none}
use Rattle.graft.specs.Bodies.{places_last, place_from_lem}
use Rattle.graft.specs.declared.Plan.{Plan}
use Rattle.graft.specs.declared.Mark.{Mark}
use Rattle.put_records.specs.Runs.{Parts, all_first}

-- ---- places in parts

places_parts : (k t i n j : ℕ) → i ≤ n → Parts (place_fields k t i j) (place_fields k t n j)
unfolding place_fields
places_parts k t zero n j h = record { rest = place_fields k t n j; is = refl }
places_parts k t (suc i) zero j h = absurd (omega arith)
places_parts k t (suc i) (suc n) j h =
    let r = places_parts k t i n (j + 1) (omega arith) in
    record { rest = r.rest; is = ap (λ (l : List Field). place_field k t j ++ l) r.is ∙ sym (append_assoc (place_field k t j) (place_fields k t i (j + 1)) r.rest) }

places_more : (k t n : ℕ) → place_fields k t (n + 1) 0 ≡ place_fields k t n 0 ++ place_field k t n
places_more k t n =
    let a : n + 1 ≡ suc n = omega arith in
    let b : 0 + n ≡ n = omega arith in
    ap (λ (i : ℕ). place_fields k t i 0) a ∙ places_last k t n 0 ∙ ap (λ (i : ℕ). place_fields k t n 0 ++ place_field k t i) b

-- ---- strings

module _ (st : Store) (u w next : ℕ) (h : used_well st u w next ≡ true) where
  pub string_known : u ≡ 1 → w < st.totals.strings
  string_known e = ltb-true w st.totals.strings (sym (used_string st u w next e) ∙ h)

  pub optional_known : u ≡ 2 → (w ≡ no_string → ⊥) → w < st.totals.strings
  optional_known e n = ltb-true w st.totals.strings (sym (used_optional st u w next e n) ∙ h)

  -- the second word is asked of ranges only
  pub string_well : (u ≡ 3 → ⊥) → (u ≡ 5 → ⊥) → used_well st u w 0 ≡ true
  unfolding used_well
  string_well a b = rw (ne_eqb u 3 a, ne_eqb u 5 b) (rw (ne_eqb u 3 a, ne_eqb u 5 b) at h)

module _ {t d : List ℕ} {p : Plan} {m : Mark} {out work strs : List ℕ} (u w : ℕ) where
  pub id_string : u ≡ 1 → {out' work' strs' : List ℕ} {r : Mark} {x : Option ℕ} → StartTold t d p m out work strs out' work' strs' r x (graft_str (resolve_str (source_store t d) w) (layer_from p work strs m))
      → StartTold t d p m out work strs out' work' strs' r x (id_from t d u w (layer_from p work strs m))
  unfolding id_from
  id_string e y = rw e y

  pub id_optional : u ≡ 2 → (w ≡ no_string → ⊥) → {out' work' strs' : List ℕ} {r : Mark} {x : Option ℕ} → StartTold t d p m out work strs out' work' strs' r x (graft_str (resolve_str (source_store t d) w) (layer_from p work strs m))
      → StartTold t d p m out work strs out' work' strs' r x (id_from t d u w (layer_from p work strs m))
  unfolding id_from
  id_optional e n y = rw (e, ne_eqb w no_string n) y

  module _ (k : Told t d p m out work strs out work strs m true (layer_from p work strs m)) where
    pub id_missing : u ≡ 2 → w ≡ no_string → StartTold t d p m out work strs out work strs m (Some 4294967295) (id_from t d u w (layer_from p work strs m))
    unfolding id_from
    id_missing e n = rw (e, eq-eqb w no_string n) (record { told = k; start = λ at o. sym (same_Some 4294967295 at o) })

    pub id_none : (u ≡ 1 → ⊥) → (u ≡ 2 → ⊥) → StartTold t d p m out work strs out work strs m (Some 0) (id_from t d u w (layer_from p work strs m))
    unfolding id_from
    id_none a b = rw (ne_eqb u 1 a, ne_eqb u 2 b) (record { told = k; start = λ at o. sym (same_Some 0 at o) })

-- ---- a field by its use

module _ (l : ℕ) {t d : List ℕ} {p : Plan} {m : Mark} {out work strs : List ℕ} (f : UsedWords) where
  module _ {out' work' strs' : List ℕ} {r : Mark} {x : Option ℕ} where
    pub field_contents : f.usage ≡ 3 → StartTold t d p m out work strs out' work' strs' r x (content_run_from l t d f.first f.second (layer_from p work strs m))
        → StartTold t d p m out work strs out' work' strs' r x (field_from l t d f (layer_from p work strs m))
    unfolding field_from
    field_contents e y = rw (eq-eqb f.usage 3 e) y

    pub field_segments_lem : (f.usage ≡ 3 → ⊥) → f.usage ≡ 5 → StartTold t d p m out work strs out' work' strs' r x (segment_run_from l t d f.first f.second (layer_from p work strs m))
        → StartTold t d p m out work strs out' work' strs' r x (field_from l t d f (layer_from p work strs m))
    unfolding field_from
    field_segments_lem n e y = rw (ne_eqb f.usage 3 n, eq-eqb f.usage 5 e) y

    pub field_string : (f.usage ≡ 3 → ⊥) → (f.usage ≡ 5 → ⊥) → StartTold t d p m out work strs out' work' strs' r x (id_from t d f.usage f.first (layer_from p work strs m))
        → StartTold t d p m out work strs out' work' strs' r x (field_from l t d f (layer_from p work strs m))
    unfolding field_from
    field_string a b y = rw (ne_eqb f.usage 3 a, ne_eqb f.usage 5 b) y

module _ {t d : List ℕ} {p : Plan} {m : Mark} {out work strs : List ℕ} (f : UsedWords) (st : Store) (inner : Body → Added) (y : Ready t d p m out work strs (used_adds inner t st f)) where
  pub field_contents_ready : f.usage ≡ 3 → Ready t d p m out work strs (content_run_adds inner t st f.first f.second)
  unfolding used_adds
  field_contents_ready e = rw (eq-eqb f.usage 3 e) at y

  pub field_segments_ready : (f.usage ≡ 3 → ⊥) → f.usage ≡ 5 → Ready t d p m out work strs (segment_run_adds inner t st f.first f.second)
  unfolding used_adds
  field_segments_ready n e = rw (ne_eqb f.usage 3 n, eq-eqb f.usage 5 e) at y

-- ---- the field at a place

module _ (t : List ℕ) (at j r : ℕ) (e : r ≡ field_word (byte_at t at) j) where
  pub word_is : r ≡ field_word (body_at t at).kind j
  unfolding body_at
  word_is = e

  pub word_small : r < 6 → field_word (body_at t at).kind j < 6
  unfolding body_at
  word_small h = omega (arith, e, h)

module _ (st : Store) (b : Body) (j : ℕ) where
  pub place_well : body_in st b ≡ true → field_word b.kind j < 6 → (f : UsedWords) → f ≡ field_words b j → used_well st f.usage f.first f.second ≡ true
  unfolding word_in
  place_well h k f e =
      rw e (by_bool (word_in st b (field_word b.kind j)) (λ x. x) (λ x. absurd (true≢false (sym h ∙ sym (body_failed st b (field_word b.kind j) k x)))))

  pub place_ready : {t d : List ℕ} {p : Plan} {m : Mark} {out work strs : List ℕ} (inner : Body → Added) (f : UsedWords) → f ≡ field_words b j
      → Ready t d p m out work strs (place_adds inner t st b j) → Ready t d p m out work strs (used_adds inner t st f)
  unfolding place_adds
  place_ready inner f e y = rw e y

  module _ (f : UsedWords) (q : f ≡ field_words b j) (h : used_well st f.usage f.first f.second ≡ true) where
    known_well : used_well st (field_words b j).usage (field_words b j).first (field_words b j).second ≡ true
    known_well = rw q at h

    pub place_refused : (l : ℕ) {t d : List ℕ} (source : Source t d st) (ws : List ℕ) {p : Plan} {m : Mark} {out work strs out' work' strs' : List ℕ} {r : Mark} → StartTold t d p m out work strs out' work' strs' r None (field_from l t d f (layer_from p work strs m))
        → WordsTold t d p m out work strs out' work' strs' r None (place_from l t d b j ws (layer_from p work strs m))
    place_refused l {t} {d} source ws {p} {m} {out} {work} {strs} {out'} {work'} {strs'} {r} x =
        let y : StartTold t d p m out work strs out' work' strs' r None (field_from l t d (field_words b j) (layer_from p work strs m)) = rw q at x in
        rw (place_from_lem l t d st source b j ws (layer_from p work strs m) known_well) (record { told = y.told; words = λ own o. absurd (none-some own o) })

    pub place_told : (l : ℕ) {t d : List ℕ} (source : Source t d st) (ws : List ℕ) {p : Plan} {m : Mark} {out work strs out' work' strs' : List ℕ} {r : Mark} (i : ℕ) → i ≡ field_word b.kind j → (v : ℕ) → StartTold t d p m out work strs out' work' strs' r (Some v) (field_from l t d f (layer_from p work strs m))
        → (own : List ℕ) → own ≡ words_with ws i f v → WordsTold t d p m out work strs out' work' strs' r (Some own) (place_from l t d b j ws (layer_from p work strs m))
    place_told l {t} {d} source ws {p} {m} {out} {work} {strs} {out'} {work'} {strs'} {r} i e v x own z =
        let y : StartTold t d p m out work strs out' work' strs' r (Some v) (field_from l t d (field_words b j) (layer_from p work strs m)) = rw q at x in
        let k : own ≡ words_with ws (field_word b.kind j) (field_words b j) v = z ∙ ap₂ (λ (n : ℕ) (g : UsedWords). words_with ws n g v) e q in
        rw (place_from_lem l t d st source b j ws (layer_from p work strs m) known_well) (record {
          told = y.told;
          words = λ xs o. sym (same_Some own xs o) ∙ k ∙ ap (words_with ws (field_word b.kind j) (field_words b j)) (y.start v refl);
        })

-- ---- the places so far

-- the fields at the first j places are grafted
pub record BodySoFar (l : ℕ) (t d : List ℕ) (p : Plan) (m : Mark) (b : Body) (out work strs out' work' strs' : List ℕ) (u : Mark) (ws : List ℕ) (j : ℕ) : Type 0 where
  pub long : length out' ≡ length out
  pub told : WordsTold t d p m out work strs out' work' strs' u (Some ws) (body_from l t d p work strs m b j)

abbrev fields_up_to : Body → ℕ → List Field
fields_up_to b n = place_fields b.kind b.tag n 0

body_fields_lem : (b : Body) (i : ℕ) → i ≤ 6 → Parts (fields_up_to b i) (fields_of b)
unfolding fields_of
body_fields_lem b i h = let r = places_parts b.kind b.tag i 6 0 h in record { rest = r.rest; is = sym (fields_in_order b.kind b.tag) ∙ r.is }

module _ {t d : List ℕ} {st : Store} {p : Plan} {m : Mark} {out work strs : List ℕ} (l : ℕ) (b : Body) (source : Source t d st) (y : Ready t d p m out work strs (body_adds l t st b))
    (h : body_in st b ≡ true) where
  abbrev inner : Body → Added
  inner = inner_adds l t st

  first_in_lem : (i : ℕ) → i ≤ 6 → all (field_in st b) (fields_up_to b i) ≡ true
  unfolding body_in
  first_in_lem i k = all_first (field_in st b) (body_fields_lem b i k) h

  first_adds : (i : ℕ) (k : i ≤ 6) → body_adds l t st b ≡ add (fields_add inner t st b (fields_up_to b i)) (fields_add inner t st b (body_fields_lem b i k).rest)
  unfolding body_adds fields_add
  first_adds i k = ap (fields_add inner t st b) (body_fields_lem b i k).is ∙ all_append (field_adds inner t st b) (fields_up_to b i) (body_fields_lem b i k).rest

  place_adds_lem : (j : ℕ) → fields_add inner t st b (fields_up_to b (j + 1)) ≡ add (fields_add inner t st b (fields_up_to b j)) (place_adds inner t st b j)
  unfolding fields_add place_field place_adds
  place_adds_lem j =
      ap (fields_add inner t st b) (places_more b.kind b.tag j)
      ∙ all_append (field_adds inner t st b) (fields_up_to b j) (place_field b.kind b.tag j)
      ∙ ap (add (fields_add inner t st b (fields_up_to b j))) (from_adds inner t st b (word_use b.kind b.tag (field_word b.kind j)) (field_word b.kind j))

  first_grows : (i : ℕ) → i ≤ 6 → Roomy p m out (body_from l t d p work strs m b i).1
  unfolding body_from
  first_grows i k =
      roomy out work strs (space_left (fields_add inner t st b (fields_up_to b i)) (fields_add inner t st b (body_fields_lem b i k).rest) (rw (first_adds i k) at y.space))
      (fields_add_lem t d st source l b (fields_up_to b i) (replicate 6 0) (layer_from p work strs m) (first_in_lem i k))

  pub body_first : BodySoFar l t d p m b out work strs out work strs m (replicate 6 0) 0
  unfolding body_from place_fields show_fields graft_fields
  body_first = record { long = refl; told = record { told = told_none y; words = λ ws o. sym (same_Some (replicate 6 0) ws o) } }

  -- what was grafted so far is refused: so is the whole
  pub body_refused : {out' work' strs' : List ℕ} {u : Mark} (i : ℕ) → i ≤ 6 → WordsTold t d p m out work strs out' work' strs' u None (body_from l t d p work strs m b i)
      → WordsTold t d p m out work strs out' work' strs' u None (body_from l t d p work strs m b 6)
  unfolding body_from
  body_refused i k a =
      let show = show_inner l (source_store t d) in
      let s = source_store t d in
      let f = layer_from p work strs m in
      let r = places_parts b.kind b.tag i 6 0 k in
      let g = graft_fields (show_fields show s b (fields_up_to b i)) (replicate 6 0) f in
      let q : graft_fields (show_fields show s b (fields_up_to b 6)) (replicate 6 0) f ≡ graft_fields (show_fields show s b r.rest) g.0 g.1
      = ap (λ (fs : List Field). graft_fields (show_fields show s b fs) (replicate 6 0) f) r.is ∙ fields_then show s b (fields_up_to b i) r.rest (replicate 6 0) f in
      record {
        told = refused_then p m out work strs a.told (graft_fields (show_fields show s b (fields_up_to b 6)) (replicate 6 0) f).1
            (λ size base x. (steps_fields (show_fields show s b r.rest) g.0).room size base g.1 (rw q at x));
        words = λ ws o. absurd (none-some ws o);
      }

  module _ {out' work' strs' : List ℕ} {u : Mark} {ws : List ℕ} {j : ℕ} (a : BodySoFar l t d p m b out work strs out' work' strs' u ws j) where
    pub body_last : 6 ≤ j → j ≤ 6 → WordsTold t d p m out work strs out' work' strs' u (Some ws) (body_from l t d p work strs m b 6)
    body_last x z = let e : j ≡ 6 = omega arith in rw e at a.told

    pub body_ready : j < 6 → Ready t d p u out' work' strs' (place_adds inner t st b j)
    unfolding body_from
    body_ready k =
        let q : body_adds l t st b ≡ add (add (fields_add inner t st b (fields_up_to b j)) (place_adds inner t st b j)) (fields_add inner t st b (body_fields_lem b (j + 1) (omega arith)).rest)
        = first_adds (j + 1) (omega arith) ∙ ap (λ (x : Added). add x (fields_add inner t st b (body_fields_lem b (j + 1) (omega arith)).rest)) (place_adds_lem j) in
        ready_item p m out work strs (a.told.told.made refl) (fields_add inner t st b (fields_up_to b j))
        (fields_add_lem t d st source l b (fields_up_to b j) (replicate 6 0) (layer_from p work strs m) (first_in_lem j (omega arith)))
        (place_adds inner t st b j) (fields_add inner t st b (body_fields_lem b (j + 1) (omega arith)).rest) a.told.told.room a.long (rw q at y)

    body_joined : body_from l t d p work strs m b (j + 1) ≡ (let x = place_from l t d b j ws (layer_from p work' strs' u) in (x.0, behind (body_from l t d p work strs m b j).1 x.1))
    unfolding body_from place_from
    body_joined =
        let show = show_inner l (source_store t d) in
        let s = source_store t d in
        let f = layer_from p work strs m in
        let g = graft_fields (show_fields show s b (fields_up_to b j)) (replicate 6 0) f in
        let fs = show_fields show s b (place_field b.kind b.tag j) in
        let e : rebased g.1 ≡ layer_from p work' strs' u = sym (next_layer p m out work strs (a.told.told.made refl) ((steps_fields (show_fields show s b (fields_up_to b j)) (replicate 6 0)).offsets f)) in
        let w : g.0 ≡ ws = sym (a.told.words ws refl) in
        let x : (graft_fields fs g.0 g.1).0 ≡ (graft_fields fs ws (layer_from p work' strs' u)).0
        = (steps_fields fs g.0).answer g.1 ∙ ap₂ (λ (vs : List ℕ) (k : NewLayer). (graft_fields fs vs k).0) w e in
        let z : (graft_fields fs g.0 g.1).1 ≡ behind g.1 (graft_fields fs ws (layer_from p work' strs' u)).1
        = (steps_fields fs g.0).layer g.1 ∙ ap₂ (λ (vs : List ℕ) (k : NewLayer). behind g.1 (graft_fields fs vs k).1) w e in
        ap (λ (k : List Field). graft_fields (show_fields show s b k) (replicate 6 0) f) (places_more b.kind b.tag j)
        ∙ fields_then show s b (fields_up_to b j) (place_field b.kind b.tag j) (replicate 6 0) f ∙ (λ i. (x i, z i))

    module _ {out'' work'' strs'' : List ℕ} {r : Mark} {next : Option (List ℕ)} (k : j < 6) (x : WordsTold t d p u out' work' strs' out'' work'' strs'' r next (place_from l t d b j ws (layer_from p work' strs' u))) where
      sized_first : Sized (body_from l t d p work strs m b j).1
      unfolding body_from
      sized_first = fields_sized (show_fields (show_inner l (source_store t d)) (source_store t d) b (fields_up_to b j)) (replicate 6 0) (layer_from p work strs m) (empty_sized p work strs m)

      sized_next : Sized (place_from l t d b j ws (layer_from p work' strs' u)).1
      unfolding place_from
      sized_next = fields_sized (show_fields (show_inner l (source_store t d)) (source_store t d) b (place_field b.kind b.tag j)) ws (layer_from p work' strs' u) (empty_sized p work' strs' u)

      pub body_turn : WordsTold t d p m out work strs out'' work'' strs'' r next (body_from l t d p work strs m b (j + 1))
      body_turn =
          let n = place_from l t d b j ws (layer_from p work' strs' u) in
          let g = body_from l t d p work strs m b j in
          let room : Roomy p m out (behind g.1 n.1) = rw body_joined at (first_grows (j + 1) (omega arith)) in
          rw body_joined (record {
            told = told_then p m out work strs (a.told.told.made refl) sized_first sized_next room x.told;
            words = x.words;
          })

      pub body_more : (ws' : List ℕ) → next ≡ Some ws' → length out'' ≡ length out' → BodySoFar l t d p m b out work strs out'' work'' strs'' r ws' (j + 1)
      body_more ws' o e = record { long = e ∙ a.long; told = rw o at body_turn }
