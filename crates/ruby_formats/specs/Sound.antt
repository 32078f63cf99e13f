-- What the code asks of a store and its nodes, and what number 4 then says of them: the base of a Ruby and the target of a Format are
-- ranges of contents, and a Plain content has the id of a string.
use Rattle.std.specs.Prelude.{Option, Some, None, ◌≡◌, ℕ, ◌+◌, ◌*◌, ◌^◌, ◌≤◌, ◌<◌, Bool, true, false, cond, ◌&&◌, ◌||◌, List, [], ◌∷◌, ◌++◌, length, drop}
use Rattle.std.proofs.Math.Path.{ap₂}
use Rattle.std.proofs.Common.{sym, ap, ◌∙◌, arith}
use Rattle.std.proofs.Math.ListN.{get_or}
use Rattle.std.proofs.Math.Dec.{ltb, eqb}
use Rattle.std.proofs.lemmas.Option.{none-some, same_Some}
use borrow.Author.Tests.{eqb-true, ltb-true}
use Rattle.model.specs.Lists.{all}
use Rattle.model.specs.Types.{Body, Content, Layer, SourceNode}
use Rattle.model.specs.Store.{string_counts, content_counts, segment_counts, range_ok, id_ok, resolve_content_range}
use Rattle.model.specs.Tape.{Field.content_range, record_at, records_at, node_codec, places, layers_at, field_table, fields_of, node_fields}
use Rattle.model.specs.WellFormed.{word_of, field_ok, content_ok, node_ok}
use Rattle.model.specs.Region.{is_ruby, is_referenced_format, first_plain}
use Rattle.facts.specs.Truth.{both, by_bool}
use Rattle.facts.specs.Keep.{all_take, all_drop}
use Rattle.records.specs.Runs.{run_at, run_before}
use Rattle.records.specs.Values.{body_at, node_body}
use Rattle.span.specs.declared.StrId.{StrId}
use Rattle.store.specs.declared.Store.{Store}
use Rattle.store.specs.Pools.{range_in}
use Rattle.store.specs.Standing.{string_id_ok, content_range_ok}
use Rattle.strings.specs.Starts.{store_in}
use Rattle.strings.specs.declared.lent.Strings.{Strings}
use Rattle.strings.specs.Lent.{lent_store}
use Rattle.strings.specs.PlainContent.{plain_of, plain_string, plain_string_lem}
use Rattle.ruby_formats.specs.Asks.{names_one}

-- the layers of a tape with these string bytes
abbrev pub layers_in : List ℕ → List ℕ → List Layer
layers_in t b = layers_at t (places t).layers b

-- the layers that have these strings
abbrev pub layers_of : Strings → List Layer
layers_of ss = layers_in ss.tape.now (ss.old.now ++ ss.new.now)

-- a run of nodes over these strings that passed number 4
pub record Sound (ss : Strings) (at count : ℕ) : Type 0 where
  pub contents : all (content_ok (layers_of ss)) (lent_store ss).contents ≡ true
  pub nodes : all (node_ok (layers_of ss)) (records_at node_codec ss.tape.now at count) ≡ true
  pub inside : at + 49 * count ≤ length ss.tape.now
  pub small : length ss.tape.now < 2 ^ 63

-- one of these nodes
pub record SoundNode (ss : Strings) (p : ℕ) : Type 0 where
  pub contents : all (content_ok (layers_of ss)) (lent_store ss).contents ≡ true
  pub node : node_ok (layers_of ss) (record_at node_codec ss.tape.now p) ≡ true
  pub inside : p + 49 ≤ length ss.tape.now

pub sound_node : {ss : Strings} {at count i : ℕ} → Sound ss at count → i < count → SoundNode ss (at + 49 * i)
unfolding node_codec
sound_node {ss} {at} {count} {i} s h = record {
  contents = s.contents;
  node = run_at node_codec (node_ok (layers_of ss)) ss.tape.now at count i s.nodes h;
  inside = omega (arith, s.inside, h);
}

-- the first nodes of a run
pub sound_before : {ss : Strings} {at count i : ℕ} → Sound ss at count → i ≤ count → Sound ss at i
sound_before {ss} {at} {count} {i} s h = record {
  contents = s.contents;
  nodes = run_before node_codec (node_ok (layers_of ss)) ss.tape.now at count i s.nodes h;
  inside = omega (arith, s.inside, h);
  small = s.small;
}

-- ---- the first range of a Ruby or a Format

-- the first field is a range of contents
first_range : (ls : List Layer) (n : SourceNode) (class : ltb n.class 2 ≡ true) {fs : List _} → fields_of n.body ≡ content_range 0 ∷ fs → node_ok ls n ≡ true
    → range_ok (content_counts ls) (word_of n.body 0) (word_of n.body 1) ≡ true
unfolding node_ok node_fields field_ok
first_range ls n c {fs} e h =
    (both (range_ok (content_counts ls) (word_of n.body 0) (word_of n.body 1)) (all (field_ok ls n.body) fs)
    (sym (ap (all (field_ok ls n.body)) (ap (λ (x : Bool). cond x (fields_of n.body) []) c ∙ e)) ∙ h)).0

module _ (ls : List Layer) (n : SourceNode) (h : node_ok ls n ≡ true) where
  pub ruby_range : is_ruby n ≡ true → range_ok (content_counts ls) (word_of n.body 0) (word_of n.body 1) ≡ true
  unfolding fields_of field_table
  ruby_range e =
      let b = both (eqb n.class 0) (eqb n.body.kind 1) e in
      let k = eqb-true n.body.kind 1 b.1 in
      first_range ls n (ap (λ (c : ℕ). ltb c 2) (eqb-true n.class 0 b.0)) (ap (λ (x : ℕ). get_or (field_table n.body.tag) x []) k) h

  pub format_range : is_referenced_format n ≡ true → range_ok (content_counts ls) (word_of n.body 0) (word_of n.body 1) ≡ true
  unfolding fields_of field_table
  format_range e =
      let a = both (eqb n.class 0 && eqb n.body.kind 2) _ e in
      let b = both (eqb n.class 0) (eqb n.body.kind 2) a.0 in
      let k = eqb-true n.body.kind 2 b.1 in
      first_range ls n (ap (λ (c : ℕ). ltb c 2) (eqb-true n.class 0 b.0)) (ap (λ (x : ℕ). get_or (field_table n.body.tag) x []) k) h

-- ---- the id of a Plain content

plain_ok : (ls : List Layer) (cs : List Content) (id : StrId) → all (content_ok ls) cs ≡ true → Some id ≡ plain_of cs → id_ok (string_counts ls) id.0 ≡ true
unfolding plain_of content_ok
plain_ok ls [] id h e = absurd (none-some id (sym e))
plain_ok ls (c ∷ []) id h e = go (eqb c.tag 0) (range_ok (segment_counts ls) c.first c.second) (both (content_ok ls c) true h).0 e
  where
    go : (x y : Bool) → cond x (id_ok (string_counts ls) c.first) y ≡ true → Some id ≡ cond x (Some (record { 0 = c.first })) None → id_ok (string_counts ls) id.0 ≡ true
    go true y a b = ap (λ (i : StrId). id_ok (string_counts ls) i.0) (same_Some id (record { 0 = c.first }) b) ∙ a
    go false y a b = absurd (none-some id (sym b))
plain_ok ls (c ∷ d ∷ cs) id h e = absurd (none-some id (sym e))

-- ---- what the code knows of one node

-- its first two words are a range of contents
pub record FirstRange (t : List ℕ) (st : Store) (p : ℕ) : Type 0 where
  pub is : range_in st.contents st.layers st.totals.contents (word_of (record_at node_codec t p).body 0) (word_of (record_at node_codec t p).body 1) ≡ true

-- an answer's id is one of the store's
pub record PlainIn (st : Store) (r : Option StrId) : Type 0 where
  pub inside : (id : StrId) → r ≡ Some id → id.0 < st.totals.strings

-- the contents of the range, of any store over these string bytes
unfoldable pub first_contents : List ℕ → ℕ → List ℕ → List Content
first_contents t p b = resolve_content_range (store_in t b) (word_of (record_at node_codec t p).body 0) (word_of (record_at node_codec t p).body 1)

module _ {ss : Strings} {p : ℕ} (s : SoundNode ss p) where
  abbrev node : SourceNode
  node = record_at node_codec ss.tape.now p

  range_in_lem : range_ok (content_counts (layers_of ss)) (word_of node.body 0) (word_of node.body 1) ≡ true → FirstRange ss.tape.now ss.store.now p
  range_in_lem e = record {
    is = content_range_ok ss.tape.now ss.store.now ss.resolvable.sides.store.stored (ss.old.now ++ ss.new.now) (word_of node.body 0) (word_of node.body 1) ∙ e;
  }

  -- a node that names a string has a first range
  pub names_first : names_one node ≡ true → FirstRange ss.tape.now ss.store.now p
  unfolding names_one
  names_first h =
      by_bool (is_ruby node)
      (λ e. range_in_lem (ruby_range (layers_of ss) node s.node e))
      (λ e. range_in_lem (format_range (layers_of ss) node s.node (sym (ap (λ (x : Bool). x || is_referenced_format node) e) ∙ h)))

  module _ {r : Option StrId} (e : (b : List ℕ) → r ≡ plain_of (first_contents ss.tape.now p b)) where
    pub plain_inside : PlainIn ss.store.now r
    unfolding first_contents resolve_content_range id_ok
    plain_inside = record {
      inside = λ id q.
          let st = lent_store ss in
          let from = word_of node.body 0 in
          let n = word_of node.body 1 in
          let ok = all_take (content_ok (layers_of ss)) n (drop from st.contents) (all_drop (content_ok (layers_of ss)) from st.contents s.contents) in
          let i = plain_ok (layers_of ss) (first_contents ss.tape.now p (ss.old.now ++ ss.new.now)) id ok (sym q ∙ e (ss.old.now ++ ss.new.now)) in
          ltb-true id.0 ss.store.now.totals.strings (string_id_ok ss.tape.now ss.store.now ss.resolvable.sides.store.stored (ss.old.now ++ ss.new.now) id.0 ∙ i);
    }

-- what it names, as a string
pub plain_first : (ss : Strings) (p : ℕ) {r : Option StrId} → ((b : List ℕ) → r ≡ plain_of (first_contents ss.tape.now p b))
    → first_plain (lent_store ss) (record_at node_codec ss.tape.now p) ≡ plain_string (lent_store ss) r
unfolding first_plain first_contents
plain_first ss p e =
    let node = record_at node_codec ss.tape.now p in
    plain_string_lem (lent_store ss) (word_of node.body 0) (word_of node.body 1) (e (ss.old.now ++ ss.new.now))

-- the two words that the code reads
module _ (t : List ℕ) (p : ℕ) {start len : ℕ} (e : start ≡ word_of (body_at t (p + 15)) 0) (f : len ≡ word_of (body_at t (p + 15)) 1) where
  first_start : start ≡ word_of (record_at node_codec t p).body 0
  first_start = e ∙ ap (λ (b : Body). word_of b 0) (node_body t p)

  first_length : len ≡ word_of (record_at node_codec t p).body 1
  first_length = f ∙ ap (λ (b : Body). word_of b 1) (node_body t p)

  pub words_range : {st : Store} → FirstRange t st p → range_in st.contents st.layers st.totals.contents start len ≡ true
  words_range {st} r = ap₂ (λ (x y : ℕ). range_in st.contents st.layers st.totals.contents x y) first_start first_length ∙ r.is

  pub words_plain : {r : Option StrId} → ((b : List ℕ) → r ≡ plain_of (resolve_content_range (store_in t b) start len)) → (b : List ℕ) → r ≡ plain_of (first_contents t p b)
  unfolding first_contents
  words_plain q b = q b ∙ ap₂ (λ (x y : ℕ). plain_of (resolve_content_range (store_in t b) x y)) first_start first_length
