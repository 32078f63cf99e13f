-- What a step of the writing walk does: the defined layer's new items stand in the tape where the step began, the interner is the
-- defined one; and that steps can follow each other.
use Rattle.std.specs.Prelude.{◌≡◌, refl, ℕ, ◌+◌, ◌*◌, ◌≤◌, Bool, true, false, length, take, drop}
use Rattle.std.proofs.Common.{sym, ap, ap₂, ◌∙◌, arith, true≢false, length-append}
use mathlib.Core.List.{List, [], flatten}
use Rattle.model.specs.Tape.{records_bytes, content_codec, segment_codec}
use Rattle.model.specs.Graft.{NewLayer}
use Rattle.facts.specs.Truth.{by_bool}
use Rattle.laws.specs.Parts.{bytes_append}
use Rattle.interner.specs.State.{state_of, Good, has_room}
use Rattle.graft.specs.Rebased.{rebased, behind, SameOffsets}
use Rattle.graft.specs.Blocks.{blocks, blocks_then}
use Rattle.graft.specs.Named.{Named}
use Rattle.graft.specs.declared.Plan.{Plan}
use Rattle.graft.specs.declared.Mark.{Mark}

-- the layer so far, by the code's numbers: its numbers begin behind what was pushed
abbrev pub layer_from : Plan → List ℕ → List ℕ → Mark → NewLayer
layer_from p work strs m = record {
  string_offset = p.strings;
  content_offset = p.contents + m.contents;
  segment_offset = p.segments + m.segments;
  interner = state_of work strs m.state;
  contents = [];
  segments = [];
}

-- where the next content and the next segment are written
abbrev pub content_at : Plan → Mark → ℕ
content_at p m = p.contents_at + 10 * m.contents

abbrev pub segment_at : Plan → Mark → ℕ
segment_at p m = p.segments_at + 37 * m.segments

-- the items that the layer g has, written from there on
abbrev pub laid : Plan → Mark → List ℕ → NewLayer → List ℕ
laid p m out g = blocks out (content_at p m) (segment_at p m) (records_bytes content_codec g.contents) (records_bytes segment_codec g.segments)

-- the records have their sizes, and there is room for them
pub record Sized (g : NewLayer) : Type 0 where
  pub contents : length (records_bytes content_codec g.contents) ≡ 10 * length g.contents
  pub segments : length (records_bytes segment_codec g.segments) ≡ 37 * length g.segments

pub record Roomy (p : Plan) (m : Mark) (out : List ℕ) (g : NewLayer) : Type 0 where
  pub contents : p.contents_at + 10 * (m.contents + length g.contents) ≤ p.segments_at
  pub segments : p.segments_at + 37 * (m.segments + length g.segments) ≤ length out

pub empty_sized : (p : Plan) (work strs : List ℕ) (m : Mark) → Sized (layer_from p work strs m)
unfolding records_bytes flatten
empty_sized p work strs m = record { contents = refl; segments = refl }

-- a step that was made: from the layer by m to the layer g, pools and all
pub record Made (t d : List ℕ) (p : Plan) (m : Mark) (out work strs out' work' strs' : List ℕ) (r : Mark) (g : NewLayer) : Type 0 where
  pub good : Good work' strs' r.state
  pub state : state_of work' strs' r.state ≡ g.interner
  pub contents : r.contents ≡ m.contents + length g.contents
  pub segments : r.segments ≡ m.segments + length g.segments
  pub wrote : out' ≡ laid p m out g
  pub base : r.state.base ≡ m.state.base
  pub kept : take m.state.base strs' ≡ take m.state.base strs
  pub free : drop 15360 work' ≡ drop 15360 work
  pub long : length strs' ≡ length strs
  pub named : Named t d work' strs' r

-- every answer: there is one (`ok`) exactly where the defined strings have room
pub record Told (t d : List ℕ) (p : Plan) (m : Mark) (out work strs out' work' strs' : List ℕ) (r : Mark) (ok : Bool) (g : NewLayer) : Type 0 where
  pub room : ok ≡ has_room (length strs) m.state.base g.interner
  pub made : ok ≡ true → Made t d p m out work strs out' work' strs' r g

-- ---- bytes of two runs

-- ---- a step, and the next

module _ {t d : List ℕ} (p : Plan) (m : Mark) (out work strs : List ℕ) {out₁ work₁ strs₁ : List ℕ} {r₁ : Mark} {g : NewLayer} where
  module _ (a : Made t d p m out work strs out₁ work₁ strs₁ r₁ g) where
    -- the next step begins where this one ended
    pub next_layer : SameOffsets (layer_from p work strs m) g → layer_from p work₁ strs₁ r₁ ≡ rebased g
    next_layer o =
        let x : p.contents + r₁.contents ≡ g.content_offset + length g.contents = omega (arith, a.contents, o.contents) in
        let y : p.segments + r₁.segments ≡ g.segment_offset + length g.segments = omega (arith, a.segments, o.segments) in
        λ i. record { string_offset = sym o.strings i; content_offset = x i; segment_offset = y i; interner = a.state i; contents = []; segments = [] }

    module _ {out₂ work₂ strs₂ : List ℕ} {r : Mark} {h : NewLayer} (sg : Sized g) (sh : Sized h) (room : Roomy p m out (behind g h)) where
      pub made_then : Made t d p r₁ out₁ work₁ strs₁ out₂ work₂ strs₂ r h → Made t d p m out work strs out₂ work₂ strs₂ r (behind g h)
      made_then b =
          let n = length-append g.contents h.contents in
          let k = length-append g.segments h.segments in
          record {
            good = b.good;
            state = b.state;
            contents = omega (arith, a.contents, b.contents, n);
            segments = omega (arith, a.segments, b.segments, k);
            wrote =
                b.wrote ∙ ap (λ (l : List ℕ). laid p r₁ l h) a.wrote
                ∙ blocks_then out (content_at p m) (segment_at p m) (records_bytes content_codec g.contents) (records_bytes segment_codec g.segments)
                (records_bytes content_codec h.contents) (records_bytes segment_codec h.segments) (content_at p r₁) (segment_at p r₁)
                (omega (arith, sg.contents, a.contents)) (omega (arith, sg.segments, a.segments))
                (omega (arith, sg.contents, sh.contents, a.contents, n, room.contents)) (omega (arith, sg.segments, sh.segments, a.segments, k, room.segments))
                ∙ ap₂ (λ (u v : List ℕ). blocks out (content_at p m) (segment_at p m) u v) (sym (bytes_append content_codec g.contents h.contents)) (sym (bytes_append segment_codec g.segments h.segments));
            base = b.base ∙ a.base;
            kept = ap (λ (n : ℕ). take n strs₂) (sym a.base) ∙ b.kept ∙ ap (λ (n : ℕ). take n strs₁) a.base ∙ a.kept;
            free = b.free ∙ a.free;
            long = b.long ∙ a.long;
            named = b.named;
          }

      pub told_then : {ok : Bool} → Told t d p r₁ out₁ work₁ strs₁ out₂ work₂ strs₂ r ok h → Told t d p m out work strs out₂ work₂ strs₂ r ok (behind g h)
      told_then b = record {
        room = b.room ∙ ap₂ (λ (n k : ℕ). has_room n k h.interner) a.long a.base;
        made = λ e. made_then (b.made e);
      }

  -- a step that is refused is a refusal of all that follows
  pub refused_then : Told t d p m out work strs out₁ work₁ strs₁ r₁ false g → (final : NewLayer)
      → ((size base : ℕ) → has_room size base final.interner ≡ true → has_room size base g.interner ≡ true) → Told t d p m out work strs out₁ work₁ strs₁ r₁ false final
  refused_then a final before = record {
    room = by_bool (has_room (length strs) m.state.base final.interner)
        (λ x. absurd (true≢false (sym (before (length strs) m.state.base x) ∙ sym a.room)))
        (λ x. sym x);
    made = λ x. absurd (true≢false (sym x));
  }
