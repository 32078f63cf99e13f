-- A run at its place: what its items push is known from their sizes, and there is room for both.
use Rattle.std.specs.Prelude.{◌≡◌, ℕ, ◌+◌, ◌*◌, ◌≤◌, ◌<◌, ◌^◌, true, List, length, drop, Some}
use Rattle.std.proofs.Math.Path.{refl, sym, ap}
use Rattle.std.proofs.Common.{◌∙◌, arith}
use Rattle.model.specs.Lists.{all}
use Rattle.model.specs.Bytes.{word_at}
use Rattle.model.specs.Store.{resolve_content_range, resolve_seg_range}
use Rattle.model.specs.Tape.{records_at, content_codec, segment_codec}
use Rattle.model.specs.Graft.{push_contents, push_segments}
use Rattle.facts.specs.Keep.{all_take, all_drop}
use Rattle.store.specs.Standing.{content_place, segment_place, content_range_lem, segment_range}
use Rattle.store.specs.declared.Store.{Store}
use Rattle.ids.specs.Tests.{content_in, segment_in, contents_in, segments_in}
use Rattle.sizes.specs.Added.{Added, add, add_comm, new_contents, new_segments}
use Rattle.sizes.specs.InPlace.{inner_adds, content_count, segment_count, contents_add, content_run_adds, segments_add, segment_run_adds, contents_inside, segments_inside}
use Rattle.graft.specs.Grafted.{layer_from, Roomy}
use Rattle.graft.specs.Runs.{with_contents, with_segments}
use Rattle.graft.specs.Named.{source_store}
use Rattle.graft.specs.Walk.{Source, shown_contents, shown_segments, Ready, StartTold, ContentsTold, SegmentsTold, content_run_from, segment_run_from}
use Rattle.graft.specs.Rooms.{ready_left, roomy, content_run_adds_lem, segment_run_adds_lem, shown_contents_grow, shown_segments_grow}
use Rattle.graft.specs.Answers.{content_run_told, segment_run_told}
use Rattle.graft.specs.declared.Plan.{Plan}
use Rattle.graft.specs.declared.Mark.{Mark}

-- ---- a run of contents

module _ {t d : List ℕ} {st : Store} {p : Plan} {m : Mark} {out work strs : List ℕ} (l start len : ℕ) (h : contents_in st start len ≡ true)
    (source : Source t d st) (y : Ready t d p m out work strs (content_run_adds (inner_adds l t st) t st start len)) (at : ℕ) (e : at ≡ content_place st start) where
  abbrev own : Added
  own = contents_add (inner_adds l t st) t st at len

  whole : content_run_adds (inner_adds l t st) t st start len ≡ add (new_contents len) own
  unfolding content_run_adds content_count
  whole = rw (h, e) refl

  pub contents_ready : Ready t d p m out work strs own
  contents_ready = ready_left own (new_contents len) (rw (whole ∙ add_comm (new_contents len) own) at y)

  pub contents_high : p.contents_at + 10 * (m.contents + own.contents + len) ≤ p.segments_at
  unfolding add
  contents_high = let s = rw whole at y.space in omega (arith, s.contents)

  pub contents_numbers : p.contents + m.contents + own.contents + len < 2 ^ 32
  unfolding add
  contents_numbers = let s = rw whole at y.space in omega (arith, s.content_numbers)

  pub contents_others : own.segments < 2 ^ 32
  unfolding add
  contents_others = let s = rw whole at y.space in omega (arith, s.segment_numbers)

  pub contents_within : (len ≡ 0 → ⊥) → at + 10 * len ≤ length t
  unfolding content_count
  contents_within z = contents_inside t st source.fit start len len at z (rw h refl) e

  pub contents_known : all (content_in st) (records_at content_codec t at len) ≡ true
  unfolding resolve_content_range
  contents_known =
      let is = content_range_lem t st source.fit.stored (drop (word_at t 1 + word_at t 5) d) start len h in
      rw (e, ← is) (all_take (content_in st) len (drop start (source_store t d).contents) (all_drop (content_in st) start (source_store t d).contents source.contents))

  pub content_run_answer : (to : ℕ) → to ≡ m.contents + own.contents → {out' work' strs' : List ℕ} {r : Mark}
      → ContentsTold t d p m to out work strs out' work' strs' r true (shown_contents l t d (records_at content_codec t at len) (layer_from p work strs m))
      → StartTold t d p m out work strs out' work' strs' (with_contents r (to + len)) (Some (p.contents + to)) (content_run_from l t d start len (layer_from p work strs m))
  unfolding content_run_from contents_add
  content_run_answer to z b =
      let f = layer_from p work strs m in
      let is : records_at content_codec t at len ≡ resolve_content_range (source_store t d) start len =
      ap (λ (n : ℕ). records_at content_codec t n len) e ∙ sym (content_range_lem t st source.fit.stored (drop (word_at t 1 + word_at t 5) d) start len h) in
      let w = shown_contents l t d (records_at content_codec t at len) f in
      let room : Roomy p m out (push_contents w.0 w.1).1 = rw is (roomy out work strs y.space (content_run_adds_lem t d st source l start len f h)) in
      let g = shown_contents_grow t d st source l (records_at content_codec t at len) f contents_known in
      content_run_told l source start len h at to e (omega (arith, z, g.contents)) room b

-- ---- a run of segments

module _ {t d : List ℕ} {st : Store} {p : Plan} {m : Mark} {out work strs : List ℕ} (l start len : ℕ) (h : segments_in st start len ≡ true)
    (source : Source t d st) (y : Ready t d p m out work strs (segment_run_adds (inner_adds l t st) t st start len)) (at : ℕ) (e : at ≡ segment_place st start) where
  abbrev theirs : Added
  theirs = segments_add (inner_adds l t st) t at len

  all_theirs : segment_run_adds (inner_adds l t st) t st start len ≡ add (new_segments len) theirs
  unfolding segment_run_adds segment_count
  all_theirs = rw (h, e) refl

  pub segments_ready : Ready t d p m out work strs theirs
  segments_ready = ready_left theirs (new_segments len) (rw (all_theirs ∙ add_comm (new_segments len) theirs) at y)

  pub segments_high : p.segments_at + 37 * (m.segments + theirs.segments + len) ≤ length out
  unfolding add
  segments_high = let s = rw all_theirs at y.space in omega (arith, s.segments)

  pub segments_numbers : p.segments + m.segments + theirs.segments + len < 2 ^ 32
  unfolding add
  segments_numbers = let s = rw all_theirs at y.space in omega (arith, s.segment_numbers)

  pub segments_others : theirs.contents < 2 ^ 32
  unfolding add
  segments_others = let s = rw all_theirs at y.space in omega (arith, s.content_numbers)

  pub segments_within : (len ≡ 0 → ⊥) → at + 37 * len ≤ length t
  unfolding segment_count
  segments_within z = segments_inside t st source.fit start len len at z (rw h refl) e

  pub segments_known : all (segment_in st) (records_at segment_codec t at len) ≡ true
  unfolding resolve_seg_range
  segments_known =
      let is = segment_range t st source.fit.stored (drop (word_at t 1 + word_at t 5) d) start len h in
      rw (e, ← is) (all_take (segment_in st) len (drop start (source_store t d).segments) (all_drop (segment_in st) start (source_store t d).segments source.segments))

  pub segment_run_answer : (to : ℕ) → to ≡ m.segments + theirs.segments → {out' work' strs' : List ℕ} {r : Mark}
      → SegmentsTold t d p m to out work strs out' work' strs' r true (shown_segments l t d (records_at segment_codec t at len) (layer_from p work strs m))
      → StartTold t d p m out work strs out' work' strs' (with_segments r (to + len)) (Some (p.segments + to)) (segment_run_from l t d start len (layer_from p work strs m))
  unfolding segment_run_from segments_add
  segment_run_answer to z b =
      let f = layer_from p work strs m in
      let is : records_at segment_codec t at len ≡ resolve_seg_range (source_store t d) start len =
      ap (λ (n : ℕ). records_at segment_codec t n len) e ∙ sym (segment_range t st source.fit.stored (drop (word_at t 1 + word_at t 5) d) start len h) in
      let w = shown_segments l t d (records_at segment_codec t at len) f in
      let room : Roomy p m out (push_segments w.0 w.1).1 = rw is (roomy out work strs y.space (segment_run_adds_lem t d st source l start len f h)) in
      let g = shown_segments_grow t d st source l (records_at segment_codec t at len) f segments_known in
      segment_run_told l source start len h at to e (omega (arith, z, g.segments)) room b
