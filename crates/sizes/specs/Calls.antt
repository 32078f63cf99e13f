-- How often `intern` can be called: at most six times for a body, so that below number 3's limits no count of calls is cut.
use Rattle.std.specs.Prelude.{◌≡◌, refl, Bool, true, false, cond, List, [], ◌∷◌, length, ltb, eqb, ℕ, zero, suc, ◌+◌, ◌*◌, ◌-◌, ◌≤◌, Some, None}
use Rattle.std.proofs.Common.{ap, ◌∙◌, arith}
use Rattle.model.specs.Limits.{no_string, max_pool, max_list}
use Rattle.model.specs.Types.{Body, Content, Segment, SourceNode}
use Rattle.model.specs.Tape.{fields_of, node_fields, records_at, content_codec, segment_codec, node_codec, places, book_at}
use Rattle.model.specs.Tree.{shown_nodes}
use Rattle.facts.specs.Truth.{by_bool}
use Rattle.laws.specs.Records.{run_length}
use Rattle.places.specs.declared.Places.{Places}
use Rattle.places.specs.Found.{found}
use Rattle.store.specs.Standing.{content_place, segment_place}
use Rattle.store.specs.declared.Store.{Store}
use Rattle.ids.specs.Whole.{ids_in, ids_are}
use Rattle.tape.specs.Held.{Held}
use Rattle.sizes.specs.Added.{Added, nothing, one_call, new_contents, new_segments, add, add_all}
use Rattle.sizes.specs.Trees.{nodes_size}
use Rattle.sizes.specs.Capped.{sizes_in, fits_room_lem, less, less_some, less_none, add_from}
use Rattle.sizes.specs.InPlace.{content_count, segment_count, segments_add, segment_run_adds, content_adds, contents_add, content_run_adds, fields_add, inner_adds, node_adds, nodes_add}
use Rattle.sizes.specs.InPlace.{field_words, string_adds, used_adds, place_adds, body_places}
use Rattle.sizes.specs.Again.{taken}
use Rattle.sizes.specs.Shown.{shown_nodes_add}
use Rattle.sizes.specs.declared.Room.{Room}
use Rattle.sizes.specs.declared.Left.{Left}
use Rattle.sizes.specs.Words.{UsedWords}

-- k calls, and six more for each item
record Few (k : ℕ) (a : Added) : Type 0 where
  calls : a.calls ≤ k + 6 * (a.contents + a.segments)

few_none : Few 0 nothing
few_none = record { calls = omega arith }

few_call : Few 1 one_call
few_call = record { calls = omega arith }

few_more : {k n : ℕ} {a : Added} → k ≤ n → Few k a → Few n a
few_more h f = record { calls = omega (arith, h, f.calls) }

few_add : {k n : ℕ} {a b : Added} → Few k a → Few n b → Few (k + n) (add a b)
unfolding add
few_add f g = record { calls = omega (arith, f.calls, g.calls) }

few_cond : {k : ℕ} (x : Bool) {a b : Added} → Few k a → Few k b → Few k (cond x a b)
few_cond true f g = f
few_cond false f g = g

few_items : {A : Type 0} (f : A → Added) → ((x : A) → Few 6 (f x)) → (xs : List A) → Few (6 * length xs) (add_all f xs)
unfolding add_all
few_items f h [] = few_none
few_items f h (x ∷ xs) = few_more (omega arith) (few_add (h x) (few_items f h xs))

few_from : (g : ℕ → Added) → ((i : ℕ) → Few 1 (g i)) → (n i : ℕ) → Few n (add_from g n i)
unfolding add_from
few_from g h zero i = few_none
few_from g h (suc n) i = few_more (omega arith) (few_add (h i) (few_from g h n (i + 1)))

-- a run: its own items stand for the calls below them
few_contents : (n : ℕ) {a : Added} → Few (6 * n) a → Few 0 (add (new_contents n) a)
unfolding add
few_contents n f = record { calls = omega (arith, f.calls) }

few_segments : (n : ℕ) {a : Added} → Few (6 * n) a → Few 0 (add (new_segments n) a)
unfolding add
few_segments n f = record { calls = omega (arith, f.calls) }

-- ---- in place

module _ (inner : Body → Added) (h : (b : Body) → Few 6 (inner b)) (t : List ℕ) (st : Store) where
  segment_run_few : (start len : ℕ) → Few 0 (segment_run_adds inner t st start len)
  unfolding segment_run_adds segments_add
  segment_run_few start len =
      let n = segment_count st start len in
      few_segments n (rw (run_length segment_codec t (segment_place st start) n) at
      (few_items (λ (s : Segment). inner s.body) (λ s. h s.body) (records_at segment_codec t (segment_place st start) n)))

  content_few : (c : Content) → Few 6 (content_adds inner t st c)
  unfolding content_adds
  content_few c = few_cond (eqb c.tag 0) (few_more (omega arith) few_call) (few_more (omega arith) (segment_run_few c.first c.second))

  content_run_few : (start len : ℕ) → Few 0 (content_run_adds inner t st start len)
  unfolding content_run_adds contents_add
  content_run_few start len =
      let n = content_count st start len in
      few_contents n (rw (run_length content_codec t (content_place st start) n) at
      (few_items (content_adds inner t st) content_few (records_at content_codec t (content_place st start) n)))

  used_few : (f : UsedWords) → Few 1 (used_adds inner t st f)
  unfolding used_adds string_adds
  used_few f =
      few_cond (eqb f.usage 3) (few_more (omega arith) (content_run_few f.first f.second))
      (few_cond (eqb f.usage 5) (few_more (omega arith) (segment_run_few f.first f.second))
      (few_cond (eqb f.usage 1) few_call
      (few_cond (eqb f.usage 2) (few_cond (eqb f.first no_string) (few_more (omega arith) few_none) few_call) (few_more (omega arith) few_none))))

  body_few : (b : Body) → Few 6 (fields_add inner t st b (fields_of b))
  unfolding place_adds
  body_few b = rw (body_places inner t st b) (few_from (place_adds inner t st b) (λ j. used_few (field_words b j)) 6 0)

module _ (t : List ℕ) (st : Store) where
  inner_few : (l : ℕ) (b : Body) → Few 6 (inner_adds l t st b)
  unfolding inner_adds
  inner_few zero b = few_more (omega arith) few_none
  inner_few (suc l) b = body_few (inner_adds l t st) (inner_few l) t st b

  node_few : (n : SourceNode) → Few 6 (node_adds t st n)
  unfolding node_adds node_fields fields_add add_all
  node_few n =
      by_bool (ltb n.class 2)
      (λ e. rw e (body_few (inner_adds 33 t st) (inner_few 33) t st n.body))
      (λ e. rw e (few_more (omega arith) few_none))

  nodes_few : (at n : ℕ) → Few (6 * n) (nodes_add t st at n)
  unfolding nodes_add
  nodes_few at n = rw (run_length node_codec t at n) at (few_items (node_adds t st) node_few (records_at node_codec t at n))

-- ---- the count of calls is not cut

-- Number 3's limits of pools and of nodes
pub record Limited (m : Room) (nodes : ℕ) : Type 0 where
  pub contents : m.contents ≤ max_pool
  pub segments : m.segments ≤ max_pool
  pub few : nodes ≤ max_list

-- all that may be added
abbrev pub all_left : Room → Left
all_left m = record { contents = m.contents; segments = m.segments; calls = 4294967295 }

module _ (m : Room) (k : ℕ) (a : Added) where
  none_in : None ≡ less (all_left m) a → None ≡ sizes_in m a
  unfolding sizes_in
  none_in e = rw (less_none (all_left m) a e) refl

  -- the count of calls is not cut
  some_in : Limited m k → Few (6 * k) a → {u : Left} → Some u ≡ less (all_left m) a → Some (taken (all_left m) u) ≡ sizes_in m a
  unfolding sizes_in
  some_in l f {u} e =
      let w = less_some (all_left m) a e in
      let h = fits_room_lem m a w.0 in
      let few : a.calls ≤ 4294967295 = omega (arith, h.0, h.1, l.contents, l.segments, l.few, f.calls) in
      let x : m.contents - u.contents ≡ a.contents = omega (arith, ap (λ (v : Left). v.contents) w.1, h.0) in
      let y : m.segments - u.segments ≡ a.segments = omega (arith, ap (λ (v : Left). v.segments) w.1, h.1) in
      let z : 4294967295 - u.calls ≡ a.calls = omega (arith, ap (λ (v : Left). v.calls) w.1, few) in
      rw w.0 (λ i. Some (record { contents = x i; segments = y i; calls = z i }))

-- ---- an opened book

module _ {t d : List ℕ} {p : Places} {st : Store} (f : Held t d p st) where
  -- what its nodes add
  abbrev own : Added
  own = nodes_add t st p.nodes.at p.nodes.count

  pub held_ids : ids_in t st ≡ true
  held_ids = ids_are t st f.stored d ∙ f.accepted.ids

  pub held_adds : own ≡ nodes_size (shown_nodes (book_at t (places t) d))
  unfolding found
  held_adds =
      let at = ap (λ (x : Places). x.nodes.at) f.is in
      let count = ap (λ (x : Places). x.nodes.count) f.is in
      (λ i. nodes_add t st (at i) (count i)) ∙ shown_nodes_add t st f.stored held_ids d

  -- the returns of `reading_sizes`
  module _ (m : Room) where
    pub reading_over : None ≡ less (all_left m) own → None ≡ sizes_in m (nodes_size (shown_nodes (book_at t (places t) d)))
    reading_over e = none_in m p.nodes.count own e ∙ ap (sizes_in m) held_adds

    pub reading_answer : Limited m p.nodes.count → {u : Left} → Some u ≡ less (all_left m) own → Some (taken (all_left m) u) ≡ sizes_in m (nodes_size (shown_nodes (book_at t (places t) d)))
    reading_answer l e = some_in m p.nodes.count own l (nodes_few t st p.nodes.at p.nodes.count) e ∙ ap (sizes_in m) held_adds
