-- The structs of this crate as the records of crate model, and where a body's values stand.
use Rattle.std.specs.Prelude.{ℕ, zero, suc, ◌+◌, ◌*◌, ◌<◌, ◌≡◌, refl, List, [], ◌∷◌}
use Rattle.std.proofs.Common.{arith, add_assoc, ap, ◌∙◌}
use Rattle.model.specs.Bytes.{byte_at, word_at}
use Rattle.model.specs.Offset.{Span}
use Rattle.model.specs.Types.{Body, Content, Segment, SourceNode, PairLink, ContainerPair, Diagnostic}
use Rattle.model.specs.WellFormed.{word_of}
use Rattle.model.specs.Tape.{record_at, operands_at, segment_codec, node_codec, pair_codec, diagnostic_codec}
use Rattle.span.specs.Values.{span_of}
use Rattle.records.specs.declared.Body.{Body as BodyRead}
use Rattle.records.specs.declared.Content.{Content as ContentRead}
use Rattle.records.specs.declared.Segment.{Segment as SegmentRead}
use Rattle.records.specs.declared.SourceNode.{SourceNode as SourceNodeRead}
use Rattle.records.specs.declared.PairLink.{PairLink as PairLinkRead}
use Rattle.records.specs.declared.ContainerPair.{ContainerPair as ContainerPairRead}
use Rattle.records.specs.declared.Diagnostic.{Diagnostic as DiagnosticRead}

abbrev pub body_of : BodyRead → Body
body_of b = record { kind = b.kind; tag = b.tag; plain1 = b.plain1; plain2 = b.plain2; words = b.words }

abbrev pub content_of : ContentRead → Content
content_of c = record { tag = c.tag; first = c.first; second = c.second }

abbrev pub segment_of : SegmentRead → Segment
segment_of s = record { tag = s.tag; level = s.level; body = body_of s.body }

abbrev pub source_node_of : SourceNodeRead → SourceNode
source_node_of n = record {
  class = n.class;
  inline = n.inline;
  source_span = span_of n.source_span;
  normalized_offset = n.normalized_offset.0;
  body = body_of n.body;
}

abbrev pub pair_link_of : PairLinkRead → PairLink
pair_link_of p = record { kind = p.kind; opening = span_of p.opening; closing = span_of p.closing }

abbrev pub container_pair_of : ContainerPairRead → ContainerPair
container_pair_of c = record { plain = c.plain; opening = c.opening.0; closing = c.closing.0 }

abbrev pub diagnostic_of : DiagnosticRead → Diagnostic
diagnostic_of d = record { kind = d.kind; code_rank = d.rank; span = span_of d.span; plain = d.plain }

-- Section 4. The span whose words stand at p.
abbrev pub span_at : List ℕ → ℕ → Span
span_at t p = record { start = word_at t p; end = word_at t (p + 4) }

-- Section 4. The body whose first byte stands at p.
unfoldable pub body_at : List ℕ → ℕ → Body
body_at t p = record {
  kind = byte_at t p;
  tag = byte_at t (p + 1);
  plain1 = word_at t (p + 2);
  plain2 = word_at t (p + 6);
  words = word_at t (p + 10) ∷ word_at t (p + 14) ∷ word_at t (p + 18) ∷ word_at t (p + 22) ∷ word_at t (p + 26) ∷ word_at t (p + 30) ∷ [];
}

same_place : (p m n : ℕ) → 10 + m ≡ n → p + 10 + m ≡ p + n
same_place p m n e = omega (arith, e)

-- where its words stand
pub word_place : (t : List ℕ) (p i : ℕ) → i < 6 → word_at t (p + 10 + 4 * i) ≡ word_of (body_at t p) i
unfolding body_at
word_place t p zero h = ap (word_at t) (same_place p 0 10 refl)
word_place t p (suc zero) h = ap (word_at t) (same_place p 4 14 refl)
word_place t p (suc (suc zero)) h = ap (word_at t) (same_place p 8 18 refl)
word_place t p (suc (suc (suc zero))) h = ap (word_at t) (same_place p 12 22 refl)
word_place t p (suc (suc (suc (suc zero)))) h = ap (word_at t) (same_place p 16 26 refl)
word_place t p (suc (suc (suc (suc (suc zero))))) h = ap (word_at t) (same_place p 20 30 refl)
word_place t p (suc (suc (suc (suc (suc (suc i)))))) h = absurd (omega arith)

-- where the spans of records stand
pub node_span : (t : List ℕ) (p : ℕ) → span_at t (p + 3) ≡ (record_at node_codec t p).source_span
unfolding record_at operands_at node_codec
node_span t p = simp add_assoc

pub opening_span : (t : List ℕ) (p : ℕ) → span_at t (p + 2) ≡ (record_at pair_codec t p).opening
unfolding record_at operands_at pair_codec
opening_span t p = simp add_assoc

pub closing_span : (t : List ℕ) (p : ℕ) → span_at t (p + 10) ≡ (record_at pair_codec t p).closing
unfolding record_at operands_at pair_codec
closing_span t p = simp add_assoc

pub diagnostic_span : (t : List ℕ) (p : ℕ) → span_at t (p + 6) ≡ (record_at diagnostic_codec t p).span
unfolding record_at operands_at diagnostic_codec
diagnostic_span t p = simp add_assoc

pub segment_body : (t : List ℕ) (p : ℕ) → body_at t (p + 3) ≡ (record_at segment_codec t p).body
unfolding body_at record_at operands_at segment_codec
segment_body t p = simp add_assoc

pub node_body : (t : List ℕ) (p : ℕ) → body_at t (p + 15) ≡ (record_at node_codec t p).body
unfolding body_at record_at operands_at node_codec
node_body t p = simp add_assoc

-- a record whose body was read
pub segment_read : (t : List ℕ) (p : ℕ) (b : Body) → b ≡ body_at t (p + 3)
    → record { tag = byte_at t (p + 1); level = byte_at t (p + 2); body = b } ≡ record_at segment_codec t p
unfolding record_at operands_at segment_codec
segment_read t p b e = let s : b ≡ (record_at segment_codec t p).body = e ∙ segment_body t p in λ i. record { tag = byte_at t (p + 1); level = byte_at t (p + 2); body = s i }

pub node_read : (t : List ℕ) (p o : ℕ) (s : Span) (b : Body) → s ≡ span_at t (p + 3) → o ≡ (record_at node_codec t p).normalized_offset → b ≡ body_at t (p + 15)
    → record {
      class = byte_at t (p + 1);
      inline = byte_at t (p + 2);
      source_span = s;
      normalized_offset = o;
      body = b;
    } ≡ record_at node_codec t p
unfolding record_at operands_at node_codec
node_read t p o s b q r e =
    let n = record_at node_codec t p in
    let q₁ : s ≡ n.source_span = q ∙ node_span t p in
    let e₁ : b ≡ n.body = e ∙ node_body t p in
    λ i. record {
      class = byte_at t (p + 1);
      inline = byte_at t (p + 2);
      source_span = q₁ i;
      normalized_offset = r i;
      body = e₁ i;
    }
