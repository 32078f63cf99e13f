-- What each function of the writing walk is told of its source and its room, and what it answers.
use Rattle.std.specs.Prelude.{◌≡◌, Bool, Option, Some, None, is_some, ℕ, ◌+◌, ◌*◌, ◌≤◌, ◌<◌, ◌^◌, true, cond, List, length, take, drop, set, replicate, eqb}
use Rattle.model.specs.Lists.{all, sum}
use Rattle.model.specs.Limits.{no_string}
use Rattle.model.specs.Bytes.{word_at}
use Rattle.model.specs.Types.{Body, Content, Segment}
use Rattle.model.specs.Store.{resolve_str, resolve_content_range, resolve_seg_range}
use Rattle.model.specs.Tape.{places, content_codec, segment_codec}
use Rattle.model.specs.Tree.{show_segments, show_contents, show_fields}
use Rattle.model.specs.Graft.{NewLayer, With, graft_str, push_contents, push_segments, graft_fields, graft_contents, graft_segments}
use Rattle.places.specs.Again.{Frame}
use Rattle.span.specs.declared.StrId.{StrId}
use Rattle.store.specs.Standing.{all_lengths}
use Rattle.store.specs.declared.Store.{Store}
use Rattle.strings.specs.Starts.{lengths_in}
use Rattle.strings.specs.Index.{Indexed}
use Rattle.ids.specs.Tests.{content_in, segment_in}
use Rattle.store.specs.Stored.{OfTape}
use Rattle.interner.specs.State.{has_room, Good, state_of}
use Rattle.sizes.specs.Shown.{show_inner}
use Rattle.sizes.specs.Order.{place_field, place_fields}
use Rattle.sizes.specs.Words.{UsedWords}
use Rattle.sizes.specs.Added.{Added}
use Rattle.graft.specs.Grafted.{layer_from, Told}
use Rattle.graft.specs.Named.{source_store, Named}
use Rattle.graft.specs.Runs.{ItemsTold}
use Rattle.graft.specs.declared.Plan.{Plan}
use Rattle.graft.specs.declared.Mark.{Mark}

-- ---- the source

-- numbers 1 and 4 of the source, and the store of it
pub record Source (t d : List ℕ) (st : Store) : Type 0 where
  pub fit : OfTape t st
  pub framing : Frame t d
  pub contents : all (content_in st) (source_store t d).contents ≡ true
  pub segments : all (segment_in st) (source_store t d).segments ≡ true

-- where the bytes of a string begin: behind both texts and the strings before it
abbrev pub string_from : List ℕ → ℕ → ℕ
string_from t id = word_at t 1 + word_at t 5 + sum (take id (all_lengths t (places t).layers))

-- the work words behind the interner's, as many as are lent: the index of the source's strings
abbrev pub index_words : List ℕ → List ℕ
index_words work = drop 15360 work

-- the trees of the contents, or segments, that stand from `at` on
abbrev pub shown_contents : ℕ → List ℕ → List ℕ → List Content → NewLayer → With (List Content)
shown_contents l t d cs = graft_contents (show_contents (show_inner l (source_store t d)) (source_store t d) cs)

abbrev pub shown_segments : ℕ → List ℕ → List ℕ → List Segment → NewLayer → With (List Segment)
shown_segments l t d ss = graft_segments (show_segments (show_inner l (source_store t d)) ss)

-- ---- room

-- Numbers 3 and 18 of what is added: places in the tape, numbers and calls. `size` is the length of the tape.
pub record Space (p : Plan) (m : Mark) (size : ℕ) (a : Added) : Type 0 where
  pub contents : p.contents_at + 10 * (m.contents + a.contents) ≤ p.segments_at
  pub segments : p.segments_at + 37 * (m.segments + a.segments) ≤ size
  pub content_numbers : p.contents + m.contents + a.contents < 2 ^ 32
  pub segment_numbers : p.segments + m.segments + a.segments < 2 ^ 32
  pub string_numbers : p.strings + 4096 < 2 ^ 32
  pub calls : m.state.stats.calls + a.calls < 2 ^ 32

-- ---- answers

-- an id as a word of the tape
abbrev pub id_word : Option StrId → Option ℕ
id_word (Some id) = Some id.0
id_word None = None

-- a string's id, or a run's start, beside the walk's own answer
pub record StartTold (t d : List ℕ) (p : Plan) (m : Mark) (out work strs out' work' strs' : List ℕ) (r : Mark) (x : Option ℕ) (a : With ℕ) : Type 0 where
  pub told : Told t d p m out work strs out' work' strs' r (is_some x) a.1
  pub start : (at : ℕ) → x ≡ Some at → at ≡ a.0

-- the words of a body, or those set so far
pub record WordsTold (t d : List ℕ) (p : Plan) (m : Mark) (out work strs out' work' strs' : List ℕ) (r : Mark) (x : Option (List ℕ)) (a : With (List ℕ)) : Type 0 where
  pub told : Told t d p m out work strs out' work' strs' r (is_some x) a.1
  pub words : (ws : List ℕ) → x ≡ Some ws → ws ≡ a.0

-- a run's items at their final places, the first at number `to`
abbrev pub ContentsTold : List ℕ → List ℕ → Plan → Mark → ℕ → List ℕ → List ℕ → List ℕ → List ℕ → List ℕ → List ℕ → Mark → Bool → With (List Content) → Type 0
ContentsTold t d p m to = ItemsTold t d content_codec p m (p.contents_at + 10 * to)

abbrev pub SegmentsTold : List ℕ → List ℕ → Plan → Mark → ℕ → List ℕ → List ℕ → List ℕ → List ℕ → List ℕ → List ℕ → Mark → Bool → With (List Segment) → Type 0
SegmentsTold t d p m to = ItemsTold t d segment_codec p m (p.segments_at + 37 * to)

-- ---- what the functions of the walk graft

-- what a function of the walk is given
pub record Ready (t d : List ℕ) (p : Plan) (m : Mark) (out work strs : List ℕ) (a : Added) : Type 0 where
  pub index : Indexed (lengths_in t) (index_words work)
  pub good : Good work strs m.state
  pub named : Named t d work strs m
  pub has : has_room (length strs) m.state.base (state_of work strs m.state) ≡ true
  pub space : Space p m (length out) a

-- the fields at the first n places of a body, its words beginning as zeros
unfoldable pub body_from : ℕ → List ℕ → List ℕ → Plan → List ℕ → List ℕ → Mark → Body → ℕ → With (List ℕ)
body_from l t d p work strs m b n =
    graft_fields (show_fields (show_inner l (source_store t d)) (source_store t d) b (place_fields b.kind b.tag n 0)) (replicate 6 0) (layer_from p work strs m)

-- the field at place j, its words set among ws
unfoldable pub place_from : ℕ → List ℕ → List ℕ → Body → ℕ → List ℕ → NewLayer → With (List ℕ)
place_from l t d b j ws f = graft_fields (show_fields (show_inner l (source_store t d)) (source_store t d) b (place_field b.kind b.tag j)) ws f

-- a run: its start
unfoldable pub content_run_from : ℕ → List ℕ → List ℕ → ℕ → ℕ → NewLayer → With ℕ
content_run_from l t d start len f = let r = shown_contents l t d (resolve_content_range (source_store t d) start len) f in push_contents r.0 r.1

unfoldable pub segment_run_from : ℕ → List ℕ → List ℕ → ℕ → ℕ → NewLayer → With ℕ
segment_run_from l t d start len f = let r = shown_segments l t d (resolve_seg_range (source_store t d) start len) f in push_segments r.0 r.1

-- a string that may be missing: its id, or no_string; 0 where there is none
unfoldable pub id_from : List ℕ → List ℕ → ℕ → ℕ → NewLayer → With ℕ
id_from t d u w g =
    cond (eqb u 1) (graft_str (resolve_str (source_store t d) w) g)
    (cond (eqb u 2) (cond (eqb w no_string) (no_string, g) (graft_str (resolve_str (source_store t d) w) g)) (0, g))

-- a field by its use: its id, no_string, its run's start, or 0 where none begins
unfoldable pub field_from : ℕ → List ℕ → List ℕ → UsedWords → NewLayer → With ℕ
field_from l t d f g =
    cond (eqb f.usage 3) (content_run_from l t d f.first f.second g)
    (cond (eqb f.usage 5) (segment_run_from l t d f.first f.second g) (id_from t d f.usage f.first g))

-- the words with a field's own at i
unfoldable pub words_with : List ℕ → ℕ → UsedWords → ℕ → List ℕ
words_with ws i f v =
    cond (eqb f.usage 1) (set ws i v) (cond (eqb f.usage 2) (set ws i v)
    (cond (eqb f.usage 3) (set (set ws i v) (i + 1) f.second) (cond (eqb f.usage 5) (set (set ws i v) (i + 1) f.second) ws)))
