-- The walk's answers: what each function has read, grafted and written, against the model's graft of what the source shows.
use Rattle.std.specs.Prelude.{◌≡◌, Bool, Some, None, ℕ, ◌+◌, true, false, drop}
use Rattle.std.proofs.lemmas.Option.{none-some, same_Some}
use Rattle.std.proofs.Math.Path.{refl, sym, ap}
use Rattle.std.proofs.Common.{◌∙◌, true≢false, eq-eqb, ne_eqb}
use native.Mathlib.Omega.{arith}
use mathlib.Core.List.{List, [], ◌∷◌, append-nil, flatten}
use Rattle.std.proofs.Math.ListN.{length}
use Rattle.model.specs.Bytes.{word_at}
use Rattle.model.specs.Types.{Content}
use Rattle.model.specs.Store.{resolve_str, resolve_content_range, resolve_seg_range}
use Rattle.model.specs.Tape.{Codec, records_at, record_bytes, records_bytes, content_codec, segment_codec}
use Rattle.model.specs.Tree.{show_contents, show_segments}
use Rattle.model.specs.Graft.{NewLayer, With, graft_str, graft_contents, graft_segments, push_contents, push_segments}
use Rattle.laws.specs.Records.{run_length}
use Rattle.wire.specs.Overwrite.{overwrite}
use Rattle.interner.specs.State.{Good, state_of, has_room}
use Rattle.store.specs.declared.Store.{Store}
use Rattle.store.specs.Standing.{segment_range, content_range_lem, segment_place, content_place}
use Rattle.ids.specs.Tests.{contents_in, segments_in}
use Rattle.sizes.specs.Added.{Added}
use Rattle.sizes.specs.Trees.{length_segments, length_contents}
use Rattle.sizes.specs.Shown.{show_inner, segments_shown, contents_shown}
use Rattle.graft.specs.Rebased.{steps_each, steps_every}
use Rattle.graft.specs.Blocks.{blocks_none}
use Rattle.graft.specs.Grafted.{layer_from, content_at, segment_at, Told, Roomy, empty_sized}
use Rattle.graft.specs.Named.{Named, source_store}
use Rattle.graft.specs.Widths.{contents_width, segments_width, contents_sized, segments_sized}
use Rattle.graft.specs.Runs.{ItemsTold, with_contents, with_segments, contents_pushed, segments_pushed}
use Rattle.graft.specs.Walk.{Source, shown_contents, shown_segments, Ready, StartTold, ContentsTold, SegmentsTold, content_run_from, segment_run_from}
use Rattle.graft.specs.declared.Plan.{Plan}
use Rattle.graft.specs.declared.Mark.{Mark}

-- ---- nothing is grafted

module _ {t d : List ℕ} {p : Plan} {m : Mark} {work strs : List ℕ} (good : Good work strs m.state) (named : Named t d work strs m) (has : has_room (length strs) m.state.base (state_of work strs m.state) ≡ true) where
  pub told_nothing : (out : List ℕ) → Told t d p m out work strs out work strs m true (layer_from p work strs m)
  unfolding records_bytes flatten
  told_nothing out = record {
    room = sym has;
    made = λ e. record {
      good = good;
      state = refl;
      contents = omega arith;
      segments = omega arith;
      wrote = blocks_none out (content_at p m) (segment_at p m);
      base = refl;
      kept = refl;
      free = refl;
      long = refl;
      named = named;
    };
  }

pub told_none : {t d : List ℕ} {p : Plan} {m : Mark} {out work strs : List ℕ} {a : Added} → Ready t d p m out work strs a → Told t d p m out work strs out work strs m true (layer_from p work strs m)
told_none {t} {d} {p} {m} {out} {work} {strs} r = told_nothing r.good r.named r.has out

-- ---- one content

module _ (l : ℕ) (t d : List ℕ) (x : Content) (f : NewLayer) where
  pub one_plain : x.tag ≡ 0 → shown_contents l t d (x ∷ []) f ≡ (let r = graft_str (resolve_str (source_store t d) x.first) f in (record { tag = 0; first = r.0; second = 0 } ∷ [], r.1))
  unfolding show_contents graft_contents
  one_plain e = rw (eq-eqb x.tag 0 e) refl

  pub one_segments : (st : Store) → Source t d st → segments_in st x.first x.second ≡ true → (x.tag ≡ 0 → ⊥)
      → shown_contents l t d (x ∷ []) f ≡ (let at = segment_run_from l t d x.first x.second f in (record { tag = 1; first = at.0; second = x.second } ∷ [], at.1))
  unfolding show_contents graft_contents segment_run_from
  one_segments st s h n =
      let run = resolve_seg_range (source_store t d) x.first x.second in
      let ss = show_segments (show_inner l (source_store t d)) run in
      let r = graft_segments ss f in
      let at = push_segments r.0 r.1 in
      let k : length r.0 ≡ x.second = length_segments ss f ∙ segments_shown (show_inner l (source_store t d)) run
      ∙ ap length (segment_range t st s.fit.stored (drop (word_at t 1 + word_at t 5) d) x.first x.second h) ∙ run_length segment_codec t (segment_place st x.first) x.second in
      rw (ne_eqb x.tag 0 n) (λ i. (record { tag = 1; first = at.0; second = k i } ∷ [], at.1))

-- ---- one item, whatever its kind

module _ {A : Type 0} {t d : List ℕ} (k : Codec A) (p : Plan) (m : Mark) (place : ℕ) (out work strs : List ℕ) {out₁ work₁ strs₁ : List ℕ} {r : Mark} {ok : Bool} {g : NewLayer} (a : Told t d p m out work strs out₁ work₁ strs₁ r ok g)
    {whole : With (List A)} {one : A} (q : whole ≡ (one ∷ [], g)) where
  pub item_refused : ok ≡ false → ItemsTold t d k p m place out work strs out₁ work₁ strs₁ r ok whole
  item_refused e = rw q (record { room = a.room; made = λ o. absurd (true≢false (sym o ∙ e)) })

  -- its walk was made, and its record written
  pub item_made : (x : A) → x ≡ one → {out₂ : List ℕ} → out₂ ≡ overwrite out₁ place (record_bytes k x) → ItemsTold t d k p m place out work strs out₂ work₁ strs₁ r ok whole
  unfolding records_bytes flatten
  item_made x z e =
      rw q (record {
        room = a.room;
        made = λ y. record { under = out₁; made = a.made y; wrote = e ∙ ap (λ (v : A). overwrite out₁ place (record_bytes k v)) z ∙ ap (overwrite out₁ place) (sym (append-nil (record_bytes k one))) };
      })

-- ---- runs

module _ (l : ℕ) {t d : List ℕ} {st : Store} (source : Source t d st) {p : Plan} {m : Mark} {out work strs : List ℕ} (start len : ℕ) where
  pub content_run_empty : len ≡ 0 → {a : Added} → Ready t d p m out work strs a → StartTold t d p m out work strs out work strs m (Some (p.contents + m.contents)) (content_run_from l t d start len (layer_from p work strs m))
  unfolding content_run_from resolve_content_range graft_contents show_contents push_contents
  content_run_empty z r = rw z (record { told = told_none r; start = λ at o. let q = same_Some (p.contents + m.contents) at o in omega (arith, q) })

  pub content_run_told : contents_in st start len ≡ true → (at to : ℕ) → at ≡ content_place st start → {out' work' strs' : List ℕ} {r : Mark}
      → (let w = shown_contents l t d (records_at content_codec t at len) (layer_from p work strs m) in
      to ≡ m.contents + length w.1.contents → Roomy p m out (push_contents w.0 w.1).1 → ContentsTold t d p m to out work strs out' work' strs' r true w
      → StartTold t d p m out work strs out' work' strs' (with_contents r (to + len)) (Some (p.contents + to)) (content_run_from l t d start len (layer_from p work strs m)))
  unfolding content_run_from push_contents
  content_run_told h at to e {out'} {work'} {strs'} {r} z room b =
      let f = layer_from p work strs m in
      let show = show_inner l (source_store t d) in
      let is : records_at content_codec t at len ≡ resolve_content_range (source_store t d) start len =
      ap (λ (n : ℕ). records_at content_codec t n len) e ∙ sym (content_range_lem t st source.fit.stored (drop (word_at t 1 + word_at t 5) d) start len h) in
      let w = shown_contents l t d (records_at content_codec t at len) f in
      let n : length w.0 ≡ len = length_contents (show_contents show (source_store t d) (records_at content_codec t at len)) f ∙ contents_shown show (source_store t d) (records_at content_codec t at len) ∙ run_length content_codec t at len in
      rw (← is) (record {
        told = record {
          room = b.room;
          made = λ o. contents_pushed p m to out work strs (contents_sized (show_contents show (source_store t d) (records_at content_codec t at len)) f (empty_sized p work strs m)) z (contents_width w.0) room (b.made o) (to + len) (omega (arith, n));
        };
        start = λ k o. let q = same_Some (p.contents + to) k o in omega (arith, q, z, ((steps_each (show_contents show (source_store t d) (records_at content_codec t at len))).offsets f).contents);
      })

  pub content_run_refused : contents_in st start len ≡ true → (at to : ℕ) → at ≡ content_place st start → {out' work' strs' : List ℕ} {r : Mark}
      → ContentsTold t d p m to out work strs out' work' strs' r false (shown_contents l t d (records_at content_codec t at len) (layer_from p work strs m))
      → StartTold t d p m out work strs out' work' strs' r None (content_run_from l t d start len (layer_from p work strs m))
  unfolding content_run_from push_contents
  content_run_refused h at to e b =
      let is : records_at content_codec t at len ≡ resolve_content_range (source_store t d) start len =
      ap (λ (n : ℕ). records_at content_codec t n len) e ∙ sym (content_range_lem t st source.fit.stored (drop (word_at t 1 + word_at t 5) d) start len h) in
      rw (← is) (record { told = record { room = b.room; made = λ o. absurd (true≢false (sym o)) }; start = λ k o. absurd (none-some k o) })

  pub segment_run_empty : len ≡ 0 → {a : Added} → Ready t d p m out work strs a → StartTold t d p m out work strs out work strs m (Some (p.segments + m.segments)) (segment_run_from l t d start len (layer_from p work strs m))
  unfolding segment_run_from resolve_seg_range graft_segments show_segments push_segments
  segment_run_empty z r = rw z (record { told = told_none r; start = λ at o. let q = same_Some (p.segments + m.segments) at o in omega (arith, q) })

  pub segment_run_told : segments_in st start len ≡ true → (at to : ℕ) → at ≡ segment_place st start → {out' work' strs' : List ℕ} {r : Mark}
      → (let w = shown_segments l t d (records_at segment_codec t at len) (layer_from p work strs m) in
      to ≡ m.segments + length w.1.segments → Roomy p m out (push_segments w.0 w.1).1 → SegmentsTold t d p m to out work strs out' work' strs' r true w
      → StartTold t d p m out work strs out' work' strs' (with_segments r (to + len)) (Some (p.segments + to)) (segment_run_from l t d start len (layer_from p work strs m)))
  unfolding segment_run_from push_segments
  segment_run_told h at to e {out'} {work'} {strs'} {r} z room b =
      let f = layer_from p work strs m in
      let show = show_inner l (source_store t d) in
      let is : records_at segment_codec t at len ≡ resolve_seg_range (source_store t d) start len =
      ap (λ (n : ℕ). records_at segment_codec t n len) e ∙ sym (segment_range t st source.fit.stored (drop (word_at t 1 + word_at t 5) d) start len h) in
      let w = shown_segments l t d (records_at segment_codec t at len) f in
      let n : length w.0 ≡ len = length_segments (show_segments show (records_at segment_codec t at len)) f ∙ segments_shown show (records_at segment_codec t at len) ∙ run_length segment_codec t at len in
      rw (← is) (record {
        told = record {
          room = b.room;
          made = λ o. segments_pushed p m to out work strs (segments_sized (show_segments show (records_at segment_codec t at len)) f (empty_sized p work strs m)) z (segments_width (show_segments show (records_at segment_codec t at len)) f) room (b.made o) (to + len) (omega (arith, n));
        };
        start = λ k o. let q = same_Some (p.segments + to) k o in omega (arith, q, z, ((steps_every (show_segments show (records_at segment_codec t at len))).offsets f).segments);
      })

  pub segment_run_refused : segments_in st start len ≡ true → (at to : ℕ) → at ≡ segment_place st start → {out' work' strs' : List ℕ} {r : Mark}
      → SegmentsTold t d p m to out work strs out' work' strs' r false (shown_segments l t d (records_at segment_codec t at len) (layer_from p work strs m))
      → StartTold t d p m out work strs out' work' strs' r None (segment_run_from l t d start len (layer_from p work strs m))
  unfolding segment_run_from push_segments
  segment_run_refused h at to e b =
      let is : records_at segment_codec t at len ≡ resolve_seg_range (source_store t d) start len =
      ap (λ (n : ℕ). records_at segment_codec t n len) e ∙ sym (segment_range t st source.fit.stored (drop (word_at t 1 + word_at t 5) d) start len h) in
      rw (← is) (record { told = record { room = b.room; made = λ o. absurd (true≢false (sym o)) }; start = λ k o. absurd (none-some k o) })
