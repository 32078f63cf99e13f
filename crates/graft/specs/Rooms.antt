-- Room for a walk, part by part, and how much each graft of the source adds.
use Rattle.std.specs.Prelude.{◌≡◌, ℕ, ◌+◌, true, List, length, drop}
use Rattle.std.proofs.Common.{sym, ap, ◌∙◌, arith}
use Rattle.model.specs.Lists.{all}
use Rattle.model.specs.Bytes.{word_at}
use Rattle.model.specs.Types.{Body, Content, Segment}
use Rattle.model.specs.Intern.{StrInterner}
use Rattle.model.specs.Store.{resolve_content_range, resolve_seg_range}
use Rattle.model.specs.Tape.{Field}
use Rattle.model.specs.Tree.{show_contents, show_segments, show_fields}
use Rattle.model.specs.Graft.{NewLayer, graft_fields}
use Rattle.interner.specs.State.{has_room}
use Rattle.store.specs.declared.Store.{Store}
use Rattle.ids.specs.Tests.{field_in, content_in, segment_in, contents_in, segments_in}
use Rattle.sizes.specs.Added.{Added, add, add_all, add_assoc}
use Rattle.sizes.specs.Trees.{Grew, contents_grow, segments_grow, fields_grow, content_run_grows, segment_run_grows}
use Rattle.sizes.specs.InPlace.{inner_adds, content_adds, content_run_adds, segment_run_adds, fields_add}
use Rattle.sizes.specs.Shown.{show_inner, segments_agree, contents_agree, fields_agree, segment_run_agrees, content_run_agrees, inner_agrees}
use Rattle.graft.specs.Grafted.{layer_from, Roomy, Made}
use Rattle.graft.specs.Named.{source_store}
use Rattle.graft.specs.Walk.{Source, shown_contents, shown_segments, Space, Ready, content_run_from, segment_run_from}
use Rattle.graft.specs.declared.Plan.{Plan}
use Rattle.graft.specs.declared.Mark.{Mark}

-- ---- parts of a sum

pub space_left : {p : Plan} {m : Mark} {size : ℕ} (a b : Added) → Space p m size (add a b) → Space p m size a
unfolding add
space_left a b s = record {
  contents = omega (arith, s.contents);
  segments = omega (arith, s.segments);
  content_numbers = omega (arith, s.content_numbers);
  segment_numbers = omega (arith, s.segment_numbers);
  string_numbers = s.string_numbers;
  calls = omega (arith, s.calls);
}

pub ready_left : {t d : List ℕ} {p : Plan} {m : Mark} {out work strs : List ℕ} (a b : Added) → Ready t d p m out work strs (add a b) → Ready t d p m out work strs a
ready_left a b r = record { index = r.index; good = r.good; named = r.named; has = r.has; space = space_left a b r.space }

module _ {t d : List ℕ} (p : Plan) (m : Mark) (out work strs : List ℕ) {out' work' strs' : List ℕ} {r : Mark} {g : NewLayer} (x : Made t d p m out work strs out' work' strs' r g) (a : Added) (k : Grew (layer_from p work strs m) g a) where
  calls_on : r.state.stats.calls ≡ m.state.stats.calls + a.calls
  calls_on = ap (λ (t : StrInterner). t.stats.calls) x.state ∙ k.calls

  -- behind the first part
  pub space_next : {size : ℕ} (b : Added) → Space p m size (add a b) → Space p r size b
  unfolding add
  space_next b s = record {
    contents = omega (arith, s.contents, x.contents, k.contents);
    segments = omega (arith, s.segments, x.segments, k.segments);
    content_numbers = omega (arith, s.content_numbers, x.contents, k.contents);
    segment_numbers = omega (arith, s.segment_numbers, x.segments, k.segments);
    string_numbers = s.string_numbers;
    calls = omega (arith, s.calls, calls_on);
  }

  pub ready_next : {tape : List ℕ} (b : Added) → true ≡ has_room (length strs) m.state.base g.interner → length tape ≡ length out
      → Ready t d p m out work strs (add a b) → Ready t d p r tape work' strs' b
  ready_next {tape} b o l y = record {
    index = rw x.free y.index;
    good = x.good;
    named = x.named;
    has = (λ i. has_room (x.long i) (x.base i) (x.state i)) ∙ sym o;
    space = rw l (space_next b y.space);
  }

  -- room for the item behind the first part, whatever follows it
  pub ready_item : {tape : List ℕ} (b rest : Added) → true ≡ has_room (length strs) m.state.base g.interner → length tape ≡ length out
      → Ready t d p m out work strs (add (add a b) rest) → Ready t d p r tape work' strs' b
  ready_item b rest o l y = ready_left b rest (ready_next (add b rest) o l (rw (add_assoc a b rest) at y))

pub roomy : {p : Plan} {m : Mark} (out work strs : List ℕ) {g : NewLayer} {a : Added} → Space p m (length out) a → Grew (layer_from p work strs m) g a → Roomy p m out g
roomy out work strs s k = record { contents = omega (arith, s.contents, k.contents); segments = omega (arith, s.segments, k.segments) }

-- ---- how much the source's items add

module _ (t d : List ℕ) (st : Store) (s : Source t d st) (l : ℕ) where
  abbrev rest : List ℕ
  rest = drop (word_at t 1 + word_at t 5) d

  pub shown_contents_grow : (cs : List Content) (f : NewLayer) → all (content_in st) cs ≡ true → Grew f (shown_contents l t d cs f).1 (add_all (content_adds (inner_adds l t st) t st) cs)
  shown_contents_grow cs f h =
      rw (sym (contents_agree t st s.fit.stored rest (show_inner l (source_store t d)) (inner_adds l t st) (inner_agrees t st s.fit.stored rest s.segments s.contents l) s.segments cs h))
      (contents_grow (show_contents (show_inner l (source_store t d)) (source_store t d) cs) f)

  pub shown_segments_grow : (ss : List Segment) (f : NewLayer) → all (segment_in st) ss ≡ true → Grew f (shown_segments l t d ss f).1 (add_all (λ (x : Segment). inner_adds l t st x.body) ss)
  shown_segments_grow ss f h =
      rw (sym (segments_agree t st s.fit.stored rest (show_inner l (source_store t d)) (inner_adds l t st) (inner_agrees t st s.fit.stored rest s.segments s.contents l) ss h))
      (segments_grow (show_segments (show_inner l (source_store t d)) ss) f)

  pub content_run_adds_lem : (start len : ℕ) (f : NewLayer) → contents_in st start len ≡ true → Grew f (content_run_from l t d start len f).1 (content_run_adds (inner_adds l t st) t st start len)
  unfolding content_run_from
  content_run_adds_lem start len f h =
      rw (sym (content_run_agrees t st s.fit.stored rest (show_inner l (source_store t d)) (inner_adds l t st) (inner_agrees t st s.fit.stored rest s.segments s.contents l) s.segments s.contents start len h))
      (content_run_grows (show_contents (show_inner l (source_store t d)) (source_store t d) (resolve_content_range (source_store t d) start len)) f)

  pub segment_run_adds_lem : (start len : ℕ) (f : NewLayer) → segments_in st start len ≡ true → Grew f (segment_run_from l t d start len f).1 (segment_run_adds (inner_adds l t st) t st start len)
  unfolding segment_run_from
  segment_run_adds_lem start len f h =
      rw (sym (segment_run_agrees t st s.fit.stored rest (show_inner l (source_store t d)) (inner_adds l t st) (inner_agrees t st s.fit.stored rest s.segments s.contents l) s.segments start len h))
      (segment_run_grows (show_segments (show_inner l (source_store t d)) (resolve_seg_range (source_store t d) start len)) f)

  pub fields_add_lem : (b : Body) (fs : List Field) (ws : List ℕ) (f : NewLayer) → all (field_in st b) fs ≡ true
      → Grew f (graft_fields (show_fields (show_inner l (source_store t d)) (source_store t d) b fs) ws f).1 (fields_add (inner_adds l t st) t st b fs)
  fields_add_lem b fs ws f h =
      rw (sym (fields_agree t st s.fit.stored rest (show_inner l (source_store t d)) (inner_adds l t st) (inner_agrees t st s.fit.stored rest s.segments s.contents l) s.segments s.contents b fs h))
      (fields_grow (show_fields (show_inner l (source_store t d)) (source_store t d) b fs) ws f)
