-- Items while they are walked, those of a run or the nodes: their records stand at their final places, behind all that the inner
-- runs push. What the items so far and the inner runs so far have written, more items, and the end, where a run is pushed.
use Rattle.std.specs.Prelude.{◌≡◌, refl, Bool, ℕ, ◌+◌, ◌*◌, ◌≤◌, true, length}
use Rattle.std.proofs.Common.{sym, ap₂, ◌∙◌, arith}
use Rattle.std.proofs.Math.Path.{ap}
use mathlib.Core.List.{List, ◌++◌}
use Rattle.std.proofs.Math.ListN.{length-append}
use Rattle.model.specs.Types.{Content, Segment}
use Rattle.model.specs.Tape.{Codec, records_bytes, content_codec, segment_codec}
use Rattle.model.specs.Graft.{NewLayer, With, push_contents, push_segments}
use Rattle.laws.specs.Parts.{bytes_append}
use Rattle.wire.specs.Overwrite.{overwrite, overwrite_next}
use Rattle.interner.specs.State.{has_room}
use Rattle.graft.specs.Rebased.{behind}
use Rattle.graft.specs.Blocks.{blocks, length_blocks, Apart, apart_less, apart_inside, items_apart, push_first, push_second}
use Rattle.graft.specs.Grafted.{content_at, segment_at, laid, Sized, Roomy, Made, made_then}
use Rattle.graft.specs.declared.Plan.{Plan}
use Rattle.graft.specs.declared.Mark.{Mark}

-- the items so far, their records from the byte `place` on; `made` is the walk without the items, on the tape `under` them
pub record ItemsSoFar {A : Type 0} (t d : List ℕ) (k : Codec A) (p : Plan) (m : Mark) (place : ℕ) (out work strs out' work' strs' : List ℕ) (r : Mark) (items : List A) (g : NewLayer) : Type 0 where
  pub under : List ℕ
  pub made : Made t d p m out work strs under work' strs' r g
  pub wrote : out' ≡ overwrite under place (records_bytes k items)

-- there is an answer (`ok`) exactly where the defined strings have room
pub record ItemsTold {A : Type 0} (t d : List ℕ) (k : Codec A) (p : Plan) (m : Mark) (place : ℕ) (out work strs out' work' strs' : List ℕ) (r : Mark) (ok : Bool) (a : With (List A)) : Type 0 where
  pub room : ok ≡ has_room (length strs) m.state.base a.1.interner
  pub made : ok ≡ true → ItemsSoFar t d k p m place out work strs out' work' strs' r a.0 a.1

-- n bytes from `place` on meet neither the new contents nor the new segments, so many of each
abbrev pub Clear : Plan → Mark → ℕ → ℕ → ℕ → ℕ → ℕ → Type 0
Clear p m size contents segments place n = Apart (p.contents_at + 10 * (m.contents + contents)) p.segments_at (p.segments_at + 37 * (m.segments + segments)) size place n

-- a step below pending items
under_step : {t d : List ℕ} {p : Plan} {m : Mark} {out work strs out' work' strs' : List ℕ} {r : Mark} {g : NewLayer} (under : List ℕ) → Made t d p m out work strs out' work' strs' r g → Made t d p m under work strs (laid p m under g) work' strs' r g
under_step under a = record { good = a.good; state = a.state; contents = a.contents; segments = a.segments; wrote = refl; base = a.base; kept = a.kept; free = a.free; long = a.long; named = a.named }

module _ {A : Type 0} {t d : List ℕ} (k : Codec A) (p : Plan) (m : Mark) (place : ℕ) (out work strs : List ℕ) {out₁ work₁ strs₁ out₂ work₂ strs₂ : List ℕ} {r₁ r : Mark} {items more : List A} {g h : NewLayer}
    (sg : Sized g) (sh : Sized h) (room : Roomy p m out (behind g h)) where
  -- items behind items: the second step begins at the byte `n` behind the first items
  pub items_then : (n : ℕ) → n ≡ place + length (records_bytes k items)
      → Clear p m (length out) (length (behind g h).contents) (length (behind g h).segments) place (length (records_bytes k (items ++ more)))
      → ItemsSoFar t d k p m place out work strs out₁ work₁ strs₁ r₁ items g → ItemsSoFar t d k p r₁ n out₁ work₁ strs₁ out₂ work₂ strs₂ r more h
      → ItemsSoFar t d k p m place out work strs out₂ work₂ strs₂ r (items ++ more) (behind g h)
  items_then n e clear a b =
      let x = length-append g.contents h.contents in
      let y = length-append g.segments h.segments in
      let bytes = records_bytes k items in
      let next = records_bytes k more in
      let first = records_bytes content_codec h.contents in
      let second = records_bytes segment_codec h.segments in
      let mid = laid p r₁ a.under h in
      let z : length (records_bytes k (items ++ more)) ≡ length bytes + length next = ap length (bytes_append k items more) ∙ length-append bytes next in
      let l : length a.under ≡ length out = ap length a.made.wrote
      ∙ length_blocks out (content_at p m) (segment_at p m) (records_bytes content_codec g.contents) (records_bytes segment_codec g.segments) (omega (arith, sg.contents, x, room.contents)) (omega (arith, sg.segments, y, room.segments)) in
      let u : content_at p r₁ + length first ≤ segment_at p r₁ = omega (arith, sh.contents, x, a.made.contents, a.made.segments, room.contents) in
      let v : segment_at p r₁ + length second ≤ length a.under = omega (arith, l, sh.segments, y, a.made.segments, room.segments) in
      let j : length mid ≡ length out = length_blocks a.under (content_at p r₁) (segment_at p r₁) first second u v ∙ l in
      let inside : place + (length bytes + length next) ≤ length out = let w = apart_inside (omega (arith, room.segments)) clear in omega (arith, w, z) in
      let apart : Apart (content_at p r₁ + length first) (segment_at p r₁) (segment_at p r₁ + length second) (length a.under) place (length bytes) =
      apart_less (omega (arith, sh.contents, a.made.contents, x)) (omega arith) (omega (arith, sh.segments, a.made.segments, y)) (omega (arith, l)) (omega (arith, z)) clear in
      record {
        under = mid;
        made = made_then p m out work strs a.made sg sh room (under_step a.under b.made);
        wrote =
            b.wrote ∙ ap₂ (λ (d : List ℕ) (i : ℕ). overwrite d i next) (b.made.wrote ∙ ap (λ (d : List ℕ). laid p r₁ d h) a.wrote) e
            ∙ ap (λ (d : List ℕ). overwrite d (place + length bytes) next) (items_apart a.under (content_at p r₁) (segment_at p r₁) first second place bytes apart u v)
            ∙ overwrite_next mid place bytes (omega (arith, j, inside)) (place + length bytes) next refl (omega (arith, j, inside))
            ∙ ap (overwrite mid place) (sym (bytes_append k items more));
      }

-- ---- the end: the run is pushed

abbrev pub with_contents : Mark → ℕ → Mark
with_contents r n = record { contents = n; segments = r.segments; state = r.state; answered = r.answered }

abbrev pub with_segments : Mark → ℕ → Mark
with_segments r n = record { contents = r.contents; segments = n; state = r.state; answered = r.answered }

module _ {t d : List ℕ} (p : Plan) (m : Mark) (to : ℕ) (out work strs : List ℕ) {out' work' strs' : List ℕ} {r : Mark} {g : NewLayer} (sg : Sized g) where
  pub contents_pushed : {items : List Content} → to ≡ m.contents + length g.contents → length (records_bytes content_codec items) ≡ 10 * length items
      → Roomy p m out (push_contents items g).1 → ItemsSoFar t d content_codec p m (p.contents_at + 10 * to) out work strs out' work' strs' r items g
      → (n : ℕ) → n ≡ to + length items → Made t d p m out work strs out' work' strs' (with_contents r n) (push_contents items g).1
  unfolding push_contents
  contents_pushed {items} e si room a n f =
      let x = length-append g.contents items in
      let bytes = records_bytes content_codec items in
      record {
        good = a.made.good;
        state = a.made.state;
        contents = omega (arith, e, f, x);
        segments = a.made.segments;
        wrote =
            a.wrote ∙ ap (λ (d : List ℕ). overwrite d (p.contents_at + 10 * to) bytes) a.made.wrote
            ∙ push_first out (content_at p m) (segment_at p m) (records_bytes content_codec g.contents) (records_bytes segment_codec g.segments) (p.contents_at + 10 * to) bytes
            (omega (arith, e, sg.contents)) (omega (arith, e, si, x, room.contents)) (omega (arith, sg.segments, room.segments))
            ∙ ap (λ (l : List ℕ). blocks out (content_at p m) (segment_at p m) l (records_bytes segment_codec g.segments)) (sym (bytes_append content_codec g.contents items));
        base = a.made.base;
        kept = a.made.kept;
        free = a.made.free;
        long = a.made.long;
        named = a.made.named;
      }

  pub segments_pushed : {items : List Segment} → to ≡ m.segments + length g.segments → length (records_bytes segment_codec items) ≡ 37 * length items
      → Roomy p m out (push_segments items g).1 → ItemsSoFar t d segment_codec p m (p.segments_at + 37 * to) out work strs out' work' strs' r items g
      → (n : ℕ) → n ≡ to + length items → Made t d p m out work strs out' work' strs' (with_segments r n) (push_segments items g).1
  unfolding push_segments
  segments_pushed {items} e si room a n f =
      let x = length-append g.segments items in
      let bytes = records_bytes segment_codec items in
      record {
        good = a.made.good;
        state = a.made.state;
        contents = a.made.contents;
        segments = omega (arith, e, f, x);
        wrote =
            a.wrote ∙ ap (λ (d : List ℕ). overwrite d (p.segments_at + 37 * to) bytes) a.made.wrote
            ∙ push_second out (content_at p m) (segment_at p m) (records_bytes content_codec g.contents) (records_bytes segment_codec g.segments) (p.segments_at + 37 * to) bytes
            (omega (arith, sg.contents, room.contents)) (omega (arith, e, sg.segments)) (omega (arith, e, si, x, room.segments))
            ∙ ap (blocks out (content_at p m) (segment_at p m) (records_bytes content_codec g.contents)) (sym (bytes_append segment_codec g.segments items));
        base = a.made.base;
        kept = a.made.kept;
        free = a.made.free;
        long = a.made.long;
        named = a.made.named;
      }
