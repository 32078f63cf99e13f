-- A layer on top changes nothing below: ids and ranges of the layers below stay right and show what they showed. And how the
-- layers number what a new one holds.
use Rattle.std.specs.Prelude.{◌≡◌, Bool, ◌&&◌, ◌||◌, drop, eqb, leb}
use Rattle.std.proofs.Math.Path.{refl, sym, ap, ap₂}
use Rattle.std.proofs.Common.{◌∙◌, subst, arith}
use Prim.Native.Nat.{ℕ, zero, suc, ◌+◌, ◌≤◌, ◌<◌}
use Rattle.std.proofs.Math.Bool.{true, false, cond}
use Rattle.std.proofs.lemmas.Bool.{false≢true}
use Rattle.std.proofs.Math.Option.{some}
use mathlib.Core.List.{List, [], ◌∷◌, ◌++◌, map, flatten}
use Rattle.std.proofs.Math.ListN.{length, get_or, take, length-append, length-drop, get_or-append}
use Rattle.std.proofs.lemmas.List.{drop-append-le}
use Rattle.std.proofs.Math.Seq.{take-append-le}
use borrow.Author.Tests.{leb-true, ltb-true, le-leb, lt-ltb}
use Rattle.facts.specs.Truth.{both, join, or_right}
use Rattle.facts.specs.Lists.{item_in, flatten_append, flatten_snoc, map_append}
use Rattle.facts.specs.Keep.{all_append_is, all_take, all_drop, all_map}
use Rattle.facts.specs.Prefix.{Prefix}
use Rattle.laws.specs.Checks.{id_facts}
use Rattle.model.specs.Lists.{all, sum}
use Rattle.model.specs.Types.{Body, Content, Segment, Layer, SourceNode, LexOutput}
use Rattle.model.specs.Limits.{no_string, max_level}
use Rattle.model.specs.Tape.{Field, Field.str, Field.opt_str, Field.content_range, Field.seg_range, fields_of, node_fields}
use Rattle.model.specs.Store.{NodeStore, store_of, string_counts, content_counts, segment_counts, in_one_layer, range_ok, id_ok, resolve_str, resolve_content_range, resolve_seg_range}
use Rattle.model.specs.WellFormed.{word_of, field_ok, content_ok, segment_ok, node_ok, ids_ok}
use Rattle.model.specs.Tree.{Tree, Tree.tree, Fields, Fields.done, Fields.text, Fields.absent, Fields.contents, Fields.segments}
use Rattle.model.specs.Tree.{Contents, Contents.plain, Contents.segmented, Segments, Segments.segment}
use Rattle.model.specs.Tree.{show_segments, show_contents, show_fields, show_with, show_body, show_node}
use Rattle.model.specs.Lookup.{lookup_str, lookup_contents, lookup_segments}
use Rattle.model.specs.Demand3.{shown_contents, shown_segments}
use Rattle.model.specs.Graft.{NewLayer, layered, layer_of}
use Rattle.laws.specs.Intern.{fresh_sound}
use Rattle.laws.specs.Graft.{with_layer, Above, Numbered}

-- st' has st's pools with more behind them
pub record More (st st' : NodeStore) : Type 0 where
  pub strings : Prefix st.strings st'.strings
  pub contents : Prefix st.contents st'.contents
  pub segments : Prefix st.segments st'.segments

-- ---- a pool runs through the layers

module _ {A : Type 0} (f : Layer → List A) where
  count_is : (ls : List Layer) → sum (map (λ (l : Layer). length (f l)) ls) ≡ length (flatten (map f ls))
  unfolding flatten
  count_is [] = refl
  count_is (l ∷ ls) = ap (λ (k : ℕ). length (f l) + k) (count_is ls) ∙ sym (length-append (f l) (flatten (map f ls)))

  pool_append : (ls more : List Layer) → flatten (map f (ls ++ more)) ≡ flatten (map f ls) ++ flatten (map f more)
  pool_append ls more = ap flatten (map_append f ls more) ∙ flatten_append (map f ls) (map f more)

  pub pool_all : (t : A → Bool) (ls : List Layer) → all t (flatten (map f ls)) ≡ all (λ (l : Layer). all t (f l)) ls
  unfolding flatten
  pool_all t [] = refl
  pool_all t (l ∷ ls) = all_append_is t (f l) (flatten (map f ls)) ∙ ap (λ (x : Bool). all t (f l) && x) (pool_all t ls)

-- so the counts of the layers are the lengths of the pools
pub string_count_lem : (ls : List Layer) → sum (string_counts ls) ≡ length (store_of ls).strings
unfolding string_counts store_of
string_count_lem = count_is (λ (l : Layer). l.strings)

pub content_count_lem : (ls : List Layer) → sum (content_counts ls) ≡ length (store_of ls).contents
unfolding content_counts store_of
content_count_lem = count_is (λ (l : Layer). l.contents)

pub segment_count_lem : (ls : List Layer) → sum (segment_counts ls) ≡ length (store_of ls).segments
unfolding segment_counts store_of
segment_count_lem = count_is (λ (l : Layer). l.segments)

-- ---- ids and ranges inside the pools show the same

module _ (ls : List Layer) (st' : NodeStore) (m : More (store_of ls) st') where
  str_same : (id : ℕ) → id_ok (string_counts ls) id ≡ true → resolve_str st' id ≡ resolve_str (store_of ls) id
  unfolding resolve_str id_ok
  str_same id h =
      ap (λ (l : List (List ℕ)). get_or l id []) m.strings.grown
      ∙ get_or-append (store_of ls).strings m.strings.more [] id (omega (arith, ltb-true id (sum (string_counts ls)) h, string_count_lem ls))

  run_same : {A : Type 0} (counts : List ℕ) (start len : ℕ) (l l' : List A) → range_ok counts start len ≡ true → sum counts ≡ length l → Prefix l l' → take len (drop start l') ≡ take len (drop start l)
  unfolding range_ok
  run_same counts start len l l' h n e =
      let i = leb-true (start + len) (sum counts) (both (leb (start + len) (sum counts)) _ h).0 in
      let d = length-drop start l in
      ap (λ x. take len (drop start x)) e.grown ∙ ap (take len) (drop-append-le start l e.more (omega arith)) ∙ take-append-le len (drop start l) e.more (omega arith)

  contents_same : (start len : ℕ) → range_ok (content_counts ls) start len ≡ true → resolve_content_range st' start len ≡ resolve_content_range (store_of ls) start len
  unfolding resolve_content_range
  contents_same start len h = run_same (content_counts ls) start len (store_of ls).contents st'.contents h (content_count_lem ls) m.contents

  segments_same : (start len : ℕ) → range_ok (segment_counts ls) start len ≡ true → resolve_seg_range st' start len ≡ resolve_seg_range (store_of ls) start len
  unfolding resolve_seg_range
  segments_same start len h = run_same (segment_counts ls) start len (store_of ls).segments st'.segments h (segment_count_lem ls) m.segments

  -- the pools' own ids and ranges are right: number 4, list by list
  module _ (contents_ok : all (content_ok ls) (store_of ls).contents ≡ true) (segments_ok : all (segment_ok ls) (store_of ls).segments ≡ true) where
    run_contents_ok : (start len : ℕ) → all (content_ok ls) (resolve_content_range (store_of ls) start len) ≡ true
    unfolding resolve_content_range
    run_contents_ok start len = all_take (content_ok ls) len (drop start (store_of ls).contents) (all_drop (content_ok ls) start (store_of ls).contents contents_ok)

    run_segments_ok : (start len : ℕ) → all (segment_ok ls) (resolve_seg_range (store_of ls) start len) ≡ true
    unfolding resolve_seg_range
    run_segments_ok start len = all_take (segment_ok ls) len (drop start (store_of ls).segments) (all_drop (segment_ok ls) start (store_of ls).segments segments_ok)

    -- two ways to show bodies that agree on bodies whose ids are right
    module _ (f g : Body → Tree) (agree : (b : Body) → all (field_ok ls b) (fields_of b) ≡ true → f b ≡ g b) where
      show_segments_same : (ss : List Segment) → all (segment_ok ls) ss ≡ true → show_segments f ss ≡ show_segments g ss
      unfolding show_segments segment_ok
      show_segments_same [] e = refl
      show_segments_same (s ∷ ss) e =
          let k = both (segment_ok ls s) (all (segment_ok ls) ss) e in
          ap₂ (λ (x : Tree) (y : Segments). segment s.tag s.level x y) (agree s.body k.0) (show_segments_same ss k.1)

      show_run_same : (start len : ℕ) → range_ok (segment_counts ls) start len ≡ true
          → show_segments f (resolve_seg_range st' start len) ≡ show_segments g (resolve_seg_range (store_of ls) start len)
      show_run_same start len h = ap (show_segments f) (segments_same start len h) ∙ show_segments_same (resolve_seg_range (store_of ls) start len) (run_segments_ok start len)

      show_contents_same : (cs : List Content) → all (content_ok ls) cs ≡ true → show_contents f st' cs ≡ show_contents g (store_of ls) cs
      unfolding show_contents content_ok
      show_contents_same [] e = refl
      show_contents_same (c ∷ cs) e = pick (show_contents_same cs k.1) (eqb c.tag 0) refl
        where
          k : (content_ok ls c ≡ true) × (all (content_ok ls) cs ≡ true)
          k = both (content_ok ls c) (all (content_ok ls) cs) e

          ok : (x : Bool) → eqb c.tag 0 ≡ x → cond x (id_ok (string_counts ls) c.first) (range_ok (segment_counts ls) c.first c.second) ≡ true
          ok x q = ap (λ (y : Bool). cond y (id_ok (string_counts ls) c.first) (range_ok (segment_counts ls) c.first c.second)) (sym q) ∙ k.0

          pick : show_contents f st' cs ≡ show_contents g (store_of ls) cs → (x : Bool) → eqb c.tag 0 ≡ x
              → cond x (plain (resolve_str st' c.first) (show_contents f st' cs)) (segmented (show_segments f (resolve_seg_range st' c.first c.second)) (show_contents f st' cs))
              ≡ cond x (plain (resolve_str (store_of ls) c.first) (show_contents g (store_of ls) cs)) (segmented (show_segments g (resolve_seg_range (store_of ls) c.first c.second)) (show_contents g (store_of ls) cs))
          pick rest true q = ap₂ (λ (x : List ℕ) (y : Contents). plain x y) (str_same c.first (ok true q)) rest
          pick rest false q = ap₂ (λ (x : Segments) (y : Contents). segmented x y) (show_run_same c.first c.second (ok false q)) rest

      show_fields_same : (b : Body) (xs : List Field) → all (field_ok ls b) xs ≡ true → show_fields f st' b xs ≡ show_fields g (store_of ls) b xs
      unfolding show_fields field_ok
      show_fields_same b [] e = refl
      show_fields_same b (str i ∷ xs) e =
          let k = both (field_ok ls b (str i)) (all (field_ok ls b) xs) e in
          ap₂ (λ (x : List ℕ) (y : Fields). text i x y) (str_same (word_of b i) k.0) (show_fields_same b xs k.1)
      show_fields_same b (opt_str i ∷ xs) e = pick (show_fields_same b xs k.1) (eqb (word_of b i) no_string) refl
        where
          k : (field_ok ls b (opt_str i) ≡ true) × (all (field_ok ls b) xs ≡ true)
          k = both (field_ok ls b (opt_str i)) (all (field_ok ls b) xs) e

          ok : (x : Bool) → eqb (word_of b i) no_string ≡ x → x || id_ok (string_counts ls) (word_of b i) ≡ true
          ok x q = ap (λ (y : Bool). y || id_ok (string_counts ls) (word_of b i)) (sym q) ∙ k.0

          pick : show_fields f st' b xs ≡ show_fields g (store_of ls) b xs → (x : Bool) → eqb (word_of b i) no_string ≡ x
              → cond x (absent i (show_fields f st' b xs)) (text i (resolve_str st' (word_of b i)) (show_fields f st' b xs))
              ≡ cond x (absent i (show_fields g (store_of ls) b xs)) (text i (resolve_str (store_of ls) (word_of b i)) (show_fields g (store_of ls) b xs))
          pick rest true q = ap (λ (y : Fields). absent i y) rest
          pick rest false q = ap₂ (λ (x : List ℕ) (y : Fields). text i x y) (str_same (word_of b i) (ok false q)) rest
      show_fields_same b (content_range i ∷ xs) e =
          let k = both (field_ok ls b (content_range i)) (all (field_ok ls b) xs) e in
          ap₂ (λ (x : Contents) (y : Fields). contents i x y)
          (ap (show_contents f st') (contents_same (word_of b i) (word_of b (i + 1)) k.0)
          ∙ show_contents_same (resolve_content_range (store_of ls) (word_of b i) (word_of b (i + 1))) (run_contents_ok (word_of b i) (word_of b (i + 1))))
          (show_fields_same b xs k.1)
      show_fields_same b (seg_range i ∷ xs) e =
          let k = both (field_ok ls b (seg_range i)) (all (field_ok ls b) xs) e in
          ap₂ (λ (x : Segments) (y : Fields). segments i x y) (show_run_same (word_of b i) (word_of b (i + 1)) k.0) (show_fields_same b xs k.1)

    -- a body whose ids are right shows the same tree
    pub show_same : (l : ℕ) (b : Body) → all (field_ok ls b) (fields_of b) ≡ true → show_body l st' b ≡ show_body l (store_of ls) b
    unfolding show_body show_with
    show_same zero b e =
        ap (λ (x : Fields). tree b.kind b.tag b.plain1 b.plain2 x)
        (show_fields_same (λ x. tree 0 0 0 0 done) (λ x. tree 0 0 0 0 done) (λ x h. refl) b (fields_of b) e)
    show_same (suc l) b e =
        ap (λ (x : Fields). tree b.kind b.tag b.plain1 b.plain2 x)
        (show_fields_same (λ x. show_body l st' x) (λ x. show_body l (store_of ls) x) (λ x h. show_same l x h) b (fields_of b) e)

    -- and so does a node
    pub show_node_same : (n : SourceNode) → node_ok ls n ≡ true → show_node st' n ≡ show_node (store_of ls) n
    unfolding show_node show_with node_ok
    show_node_same n e =
        ap (λ (x : Fields). tree n.body.kind n.body.tag n.body.plain1 n.body.plain2 x)
        (show_fields_same (λ x. show_body max_level st' x) (λ x. show_body max_level (store_of ls) x) (λ x h. show_same max_level x h) n.body (node_fields n) e)

-- ---- a book with more layers keeps every reference

pub more_layers : (ls more : List Layer) → More (store_of ls) (store_of (ls ++ more))
unfolding store_of
more_layers ls more = record {
  strings = record { more = (store_of more).strings; grown = pool_append (λ (l : Layer). l.strings) ls more };
  contents = record { more = (store_of more).contents; grown = pool_append (λ (l : Layer). l.contents) ls more };
  segments = record { more = (store_of more).segments; grown = pool_append (λ (l : Layer). l.segments) ls more };
}

-- number 4's test, of the pools
pub pool_ids : (ls : List Layer) → all (λ (l : Layer). all (content_ok ls) l.contents && all (segment_ok ls) l.segments) ls ≡ true
    → (all (content_ok ls) (store_of ls).contents ≡ true) × (all (segment_ok ls) (store_of ls).segments ≡ true)
unfolding store_of
pool_ids ls i =
    let layer : Layer → Bool = λ l. all (content_ok ls) l.contents && all (segment_ok ls) l.segments in (
      pool_all (λ (l : Layer). l.contents) (content_ok ls) ls ∙ all_map layer (λ (l : Layer). all (content_ok ls) l.contents) (λ l h. (both (all (content_ok ls) l.contents) (all (segment_ok ls) l.segments) h).0) ls i,
      pool_all (λ (l : Layer). l.segments) (segment_ok ls) ls ∙ all_map layer (λ (l : Layer). all (segment_ok ls) l.segments) (λ l h. (both (all (content_ok ls) l.contents) (all (segment_ok ls) l.segments) h).1) ls i,
    )

-- the same, of a book that passes it
pub ids_pools : (b : LexOutput) → ids_ok b ≡ true → (all (content_ok b.layers) (store_of b.layers).contents ≡ true) × (all (segment_ok b.layers) (store_of b.layers).segments ≡ true)
ids_pools b e = pool_ids b.layers (id_facts b e).pools

-- ---- ids and ranges of fewer layers are right

sum_more : (a b : List ℕ) → sum a ≤ sum (a ++ b)
sum_more [] b = omega arith
sum_more (x ∷ a) b = let r = sum_more a b in omega arith

id_more : (a b : List ℕ) (id : ℕ) → id_ok a id ≡ true → id_ok (a ++ b) id ≡ true
unfolding id_ok
id_more a b id e = let l = ltb-true id (sum a) e in let m = sum_more a b in lt-ltb id (sum (a ++ b)) (omega arith)

or_more : (t x y : Bool) → (x ≡ true → y ≡ true) → t || x ≡ true → t || y ≡ true
or_more true x y h e = refl
or_more false x y h e = h e

in_more : (from : ℕ) (a b : List ℕ) (s n : ℕ) → in_one_layer from a s n ≡ true → in_one_layer from (a ++ b) s n ≡ true
unfolding in_one_layer
in_more from [] b s n e = absurd (false≢true e)
in_more from (x ∷ a) b s n e = or_more (leb from s && leb (s + n) (from + x)) (in_one_layer (from + x) a s n) (in_one_layer (from + x) (a ++ b) s n) (in_more (from + x) a b s n) e

range_more : (a b : List ℕ) (s n : ℕ) → range_ok a s n ≡ true → range_ok (a ++ b) s n ≡ true
unfolding range_ok
range_more a b s n e =
    let u = both (leb (s + n) (sum a)) (eqb n 0 || in_one_layer 0 a s n) e in
    let l = leb-true (s + n) (sum a) u.0 in
    let m = sum_more a b in
    join (leb (s + n) (sum (a ++ b))) (eqb n 0 || in_one_layer 0 (a ++ b) s n) (le-leb (s + n) (sum (a ++ b)) (omega arith)) (or_more (eqb n 0) (in_one_layer 0 a s n) (in_one_layer 0 (a ++ b) s n) (in_more 0 a b s n) u.1)

module _ (ls more : List Layer) where
  string_more : (id : ℕ) → id_ok (string_counts ls) id ≡ true → id_ok (string_counts (ls ++ more)) id ≡ true
  unfolding string_counts
  string_more id e = rw (map_append (λ (l : Layer). length l.strings) ls more) (id_more (string_counts ls) (string_counts more) id e)

  contents_more : (s n : ℕ) → range_ok (content_counts ls) s n ≡ true → range_ok (content_counts (ls ++ more)) s n ≡ true
  unfolding content_counts
  contents_more s n e = rw (map_append (λ (l : Layer). length l.contents) ls more) (range_more (content_counts ls) (content_counts more) s n e)

  segments_more : (s n : ℕ) → range_ok (segment_counts ls) s n ≡ true → range_ok (segment_counts (ls ++ more)) s n ≡ true
  unfolding segment_counts
  segments_more s n e = rw (map_append (λ (l : Layer). length l.segments) ls more) (range_more (segment_counts ls) (segment_counts more) s n e)

  field_more : (b : Body) (f : Field) → field_ok ls b f ≡ true → field_ok (ls ++ more) b f ≡ true
  unfolding field_ok
  field_more b (str i) e = string_more (word_of b i) e
  field_more b (opt_str i) e = or_more (eqb (word_of b i) no_string) (id_ok (string_counts ls) (word_of b i)) (id_ok (string_counts (ls ++ more)) (word_of b i)) (string_more (word_of b i)) e
  field_more b (content_range i) e = contents_more (word_of b i) (word_of b (i + 1)) e
  field_more b (seg_range i) e = segments_more (word_of b i) (word_of b (i + 1)) e

  pub content_more : (c : Content) → content_ok ls c ≡ true → content_ok (ls ++ more) c ≡ true
  unfolding content_ok
  content_more c e = go (eqb c.tag 0) e
    where
      go : (t : Bool) → cond t (id_ok (string_counts ls) c.first) (range_ok (segment_counts ls) c.first c.second) ≡ true
          → cond t (id_ok (string_counts (ls ++ more)) c.first) (range_ok (segment_counts (ls ++ more)) c.first c.second) ≡ true
      go true q = string_more c.first q
      go false q = segments_more c.first c.second q

  pub segment_more : (s : Segment) → segment_ok ls s ≡ true → segment_ok (ls ++ more) s ≡ true
  unfolding segment_ok
  segment_more s e = all_map (field_ok ls s.body) (field_ok (ls ++ more) s.body) (field_more s.body) (fields_of s.body) e

  pub node_more : (n : SourceNode) → node_ok ls n ≡ true → node_ok (ls ++ more) n ≡ true
  unfolding node_ok
  node_more n e = all_map (field_ok ls n.body) (field_ok (ls ++ more) n.body) (field_more n.body) (node_fields n) e

-- ---- kept references

module _ (first later : LexOutput) (more : List Layer) (e : later.layers ≡ first.layers ++ more) (ids : ids_ok first ≡ true) where
  abbrev ls : List Layer
  ls = first.layers

  abbrev st : NodeStore
  st = store_of later.layers

  grown : More (store_of ls) st
  grown = subst (λ (k : List Layer). More (store_of ls) (store_of k)) (sym e) (more_layers ls more)

  shown_body : (b : Body) → all (field_ok ls b) (fields_of b) ≡ true → show_body max_level st b ≡ show_body max_level (store_of ls) b
  shown_body b h = show_same ls st grown (ids_pools first ids).0 (ids_pools first ids).1 max_level b h

  pub string_kept : (id : ℕ) → id < sum (string_counts ls) → lookup_str later id ≡ lookup_str first id
  unfolding lookup_str resolve_str id_ok
  string_kept id h =
      let n = string_count_lem ls in
      let m = grown.strings in
      let l = ap length m.grown ∙ length-append (store_of ls).strings m.more in
      item_in st.strings id [] (omega (arith, h, n, l))
      ∙ ap (λ (s : List ℕ). some s) (str_same ls st grown id (lt-ltb id (sum (string_counts ls)) h))
      ∙ sym (item_in (store_of ls).strings id [] (omega (arith, h, n)))

  pub contents_kept : (start len : ℕ) → range_ok (content_counts ls) start len ≡ true → shown_contents later start len ≡ shown_contents first start len
  unfolding shown_contents lookup_contents
  contents_kept start len h =
      let k : range_ok (content_counts later.layers) start len ≡ true = ap (λ (l : List Layer). range_ok (content_counts l) start len) e ∙ contents_more ls more start len h in
      let i = ids_pools first ids in
      rw (h, k)
      (ap (λ (cs : Contents). some cs)
      (ap (show_contents (λ x. show_body max_level st x) st) (contents_same ls st grown start len h)
      ∙ show_contents_same ls st grown i.0 i.1 (λ x. show_body max_level st x) (λ x. show_body max_level (store_of ls) x) shown_body
      (resolve_content_range (store_of ls) start len) (run_contents_ok ls st grown i.0 i.1 start len)))

  pub segments_kept : (start len : ℕ) → range_ok (segment_counts ls) start len ≡ true → shown_segments later start len ≡ shown_segments first start len
  unfolding shown_segments lookup_segments
  segments_kept start len h =
      let k : range_ok (segment_counts later.layers) start len ≡ true = ap (λ (l : List Layer). range_ok (segment_counts l) start len) e ∙ segments_more ls more start len h in
      let i = ids_pools first ids in
      rw (h, k)
      (ap (λ (ss : Segments). some ss)
      (show_run_same ls st grown i.0 i.1 (λ x. show_body max_level st x) (λ x. show_body max_level (store_of ls) x) shown_body start len h))

-- ---- a new layer above

pub fresh_above : (ls : List Layer) → Above (store_of ls) (layered ls)
unfolding layered
fresh_above ls = record { strings = string_count_lem ls; contents = content_count_lem ls; segments = segment_count_lem ls; sound = fresh_sound }

-- the store of the old layers and the new one
pub store_with : (ls : List Layer) (f : NewLayer) → store_of (ls ++ (layer_of f ∷ [])) ≡ with_layer (store_of ls) f
unfolding store_of layer_of
store_with ls f =
    let e₀ = ap flatten (map_append (λ (l : Layer). l.strings) ls (layer_of f ∷ [])) ∙ flatten_snoc (map (λ (l : Layer). l.strings) ls) f.interner.strings in
    let e₁ = ap flatten (map_append (λ (l : Layer). l.contents) ls (layer_of f ∷ [])) ∙ flatten_snoc (map (λ (l : Layer). l.contents) ls) f.contents in
    let e₂ = ap flatten (map_append (λ (l : Layer). l.segments) ls (layer_of f ∷ [])) ∙ flatten_snoc (map (λ (l : Layer). l.segments) ls) f.segments in
    λ i. record { strings = e₀ i; contents = e₁ i; segments = e₂ i }

in_last : (from : ℕ) (cs : List ℕ) (m a n : ℕ) → a + n ≤ m → in_one_layer from (cs ++ (m ∷ [])) (from + sum cs + a) n ≡ true
unfolding in_one_layer
in_last from [] m a n h = rw (le-leb from (from + 0 + a) (omega arith), le-leb (from + 0 + a + n) (from + m) (omega arith))
in_last from (c ∷ cs) m a n h =
    let e : from + (c + sum cs) + a ≡ from + c + sum cs + a = omega arith in
    rw e (or_right (leb from (from + c + sum cs + a) && leb (from + c + sum cs + a + n) (from + c)) (in_one_layer (from + c) (cs ++ (m ∷ [])) (from + c + sum cs + a) n) (in_last (from + c) cs m a n h))

-- a range of the last layer
range_last : (cs : List ℕ) (m size a n : ℕ) (counts : List ℕ) → counts ≡ cs ++ (m ∷ []) → sum cs ≡ size → sum counts ≡ size + m → a + n ≤ m → range_ok counts (size + a) n ≡ true
unfolding range_ok
range_last cs m size a n counts e q s h =
    let z : 0 + sum cs + a ≡ size + a = omega arith in
    let y : in_one_layer 0 counts (size + a) n ≡ true = ap₂ (λ (k : List ℕ) (o : ℕ). in_one_layer 0 k o n) e (sym z) ∙ in_last 0 cs m a n h in
    rw (y, le-leb (size + a + n) (sum counts) (omega arith)) (or_true (eqb n 0))
  where
    or_true : (x : Bool) → x || true ≡ true
    or_true true = refl
    or_true false = refl

-- the layers with the new one number it, where a word can
pub numbered_with : (ls : List Layer) (g : NewLayer) → sum (string_counts (ls ++ (layer_of g ∷ []))) ≤ no_string → sum (content_counts (ls ++ (layer_of g ∷ []))) ≤ no_string → sum (segment_counts (ls ++ (layer_of g ∷ []))) ≤ no_string
    → Numbered (store_of ls) g (ls ++ (layer_of g ∷ []))
unfolding id_ok content_counts segment_counts layer_of
numbered_with ls g h₁ h₂ h₃ =
    let new = ls ++ (layer_of g ∷ []) in
    let st = store_with ls g in
    let a₁ = string_count_lem new ∙ ap (λ (s : NodeStore). length s.strings) st ∙ length-append (store_of ls).strings g.interner.strings in
    let a₂ = content_count_lem new ∙ ap (λ (s : NodeStore). length s.contents) st ∙ length-append (store_of ls).contents g.contents in
    let a₃ = segment_count_lem new ∙ ap (λ (s : NodeStore). length s.segments) st ∙ length-append (store_of ls).segments g.segments in
    record {
      string = λ id h. lt-ltb id (sum (string_counts new)) (omega arith);
      content = λ a n h. range_last (content_counts ls) (length g.contents) (length (store_of ls).contents) a n (content_counts new) (map_append (λ (l : Layer). length l.contents) ls (layer_of g ∷ [])) (content_count_lem ls) a₂ h;
      segment = λ a n h. range_last (segment_counts ls) (length g.segments) (length (store_of ls).segments) a n (segment_counts new) (map_append (λ (l : Layer). length l.segments) ls (layer_of g ∷ [])) (segment_count_lem ls) a₃ h;
      strings = omega arith;
      contents = omega arith;
      segments = omega arith;
    }
