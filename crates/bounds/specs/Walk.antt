-- The walk over the nodes, as the code goes, and that it is numbers 6 and 7 of the list.
use Prim.Native.Nat.{ℕ, suc, ◌+◌, ◌-◌, ◌*◌, ◌≤◌, ◌<◌}
use native.Mathlib.Omega.{arith}
use Rattle.std.proofs.Common.{add-zero, add_assoc, zero-add, sym, ◌∙◌}
use Rattle.std.specs.Prelude.{◌≡◌, Option, Some, None, Bool, false, cond, ◌&&◌, ltb, eqb}
use Rattle.std.proofs.Math.Path.{refl, ap, ap₂}
use Rattle.std.proofs.Math.Bool.{true, and-false}
use mathlib.Core.List.{List, [], ◌∷◌}
use Rattle.std.proofs.Math.Dec.{leb}
use borrow.Author.Tests.{leb-true, ltb-true}
use Rattle.model.specs.Lists.{all}
use Rattle.model.specs.Types.{SourceNode}
use Rattle.model.specs.Tape.{record_at, records_at, node_codec}
use Rattle.model.specs.WellFormed.{span_ok, ordered, standalone_padding, image_length, span_length, offsets_ok, images, spans}
use Rattle.facts.specs.Truth.{both, by_bool}
use Rattle.records.specs.Runs.{run_cons, run_none}
use Rattle.bounds.specs.declared.Sums.{Sums}

-- ---- one node

-- Section 4. `standalone_padding` by class and inline
unfoldable pub padding_of : ℕ → ℕ → ℕ
padding_of class inline = cond (eqb class 0) 0 (cond (eqb class 1) 2 (cond (eqb inline 0) 2 0))

pub image_of : (n : SourceNode) → 3 + 2 * padding_of n.class n.inline ≡ image_length n
unfolding padding_of image_length standalone_padding
image_of n = refl

pub padding_small : (class inline : ℕ) → padding_of class inline ≤ 2
unfolding padding_of
padding_small class inline =
    by_bool (eqb class 0) (λ e. rw e (omega arith))
    (λ e. rw e (by_bool (eqb class 1) (λ f. rw f (omega arith)) (λ f. rw f (by_bool (eqb inline 0) (λ g. rw g (omega arith)) (λ g. rw g (omega arith))))))

pub image_small : (n : SourceNode) → image_length n ≤ 7
image_small n = let e = image_of n in let h = padding_small n.class n.inline in omega arith

-- Section 4. A node's normalized offset lies in its image.
unfoldable pub in_image : ℕ → ℕ → ℕ → ℕ → ℕ → Bool
in_image start offset image images spans = leb (start + images) (offset + spans) && ltb (offset + spans) (start + images + image)

-- Number 6 of one node, behind nodes that end at `from`
unfoldable pub node_placed : ℕ → ℕ → ℕ → ℕ → SourceNode → Bool
node_placed size from images spans n =
    span_ok size n.source_span && leb from n.source_span.start && in_image n.source_span.start n.normalized_offset (image_length n) images spans

-- its three tests in the code's order
pub placed_parts : (size from im sp : ℕ) (n : SourceNode)
    → node_placed size from im sp n
    ≡ (leb from n.source_span.start
    && (span_ok size n.source_span && in_image n.source_span.start n.normalized_offset (image_length n) im sp))
unfolding node_placed
placed_parts size from im sp n =
    and_swap (span_ok size n.source_span) (leb from n.source_span.start) (in_image n.source_span.start n.normalized_offset (image_length n) im sp)
  where
    and_swap : (a b c : Bool) → a && b && c ≡ b && (a && c)
    and_swap true b c = refl
    and_swap false b c = sym (and-false b)

-- what a node in place tells of its span
pub placed_facts : (size from im sp : ℕ) (n : SourceNode) → node_placed size from im sp n ≡ true
    → (n.source_span.start < n.source_span.end) × (from ≤ n.source_span.start) × (span_length n ≡ n.source_span.end - n.source_span.start) × (n.source_span.end ≤ size)
unfolding node_placed span_ok span_length
placed_facts size from im sp n e =
    let start = n.source_span.start in
    let end = n.source_span.end in
    let a = both (span_ok size n.source_span && leb from start) (in_image start n.normalized_offset (image_length n) im sp) e in
    let b = both (span_ok size n.source_span) (leb from start) a.0 in
    let d = both (ltb start end) (leb end size) b.0 in
    (ltb-true start end d.0, leb-true from start b.1, refl, leb-true end size d.1)

-- ---- the walk

abbrev pub node_inside : ℕ → SourceNode → Bool
node_inside size n = span_ok size n.source_span

-- Number 6 of the nodes
abbrev pub nodes_in_place : ℕ → List SourceNode → Bool
nodes_in_place size ns = all (node_inside size) ns && ordered 0 ns && offsets_ok 0 0 ns

-- the sums that the walk answers
abbrev pub placed : ℕ → ℕ → Option Sums
placed images spans = Some (record { images = images; spans = spans })

-- what the walk answers
unfoldable pub sums_if_placed : ℕ → List SourceNode → Option Sums
sums_if_placed size ns = cond (nodes_in_place size ns) (placed (images ns) (spans ns)) None

-- the walk from a node on
unfoldable pub walk : ℕ → ℕ → ℕ → ℕ → List SourceNode → Option Sums
walk size from images spans [] = placed images spans
walk size from images spans (n ∷ ns) =
    let more = walk size n.source_span.end (images + image_length n) (spans + span_length n) ns in
    cond (node_placed size from images spans n) more None

-- past a node in place
walk_on : (size from im sp : ℕ) (n : SourceNode) (ns : List SourceNode) {d : Option Sums} → node_placed size from im sp n ≡ true → walk size from im sp (n ∷ ns) ≡ d
    → walk size n.source_span.end (im + image_length n) (sp + span_length n) ns ≡ d
unfolding walk
walk_on size from im sp n ns e h = rw e at h

cond_and : (a b : Bool) (x : Option Sums) → cond (a && b) x None ≡ cond a (cond b x None) None
cond_and true b x = refl
cond_and false b x = refl

shuffle : (a b c d x y z : Bool) → ((a && x) && (b && y) && (c && d && z)) ≡ ((a && b && (c && d)) && (x && y && z))
shuffle false b c d x y z = refl
shuffle true false c d x y z = rw (and-false x) refl
shuffle true true false d x y z = and-false (x && y)
shuffle true true true false x y z = and-false (x && y)
shuffle true true true true x y z = refl

-- the walk's answer from a node on, by the three tests of what is left
walk_is : (size from im sp : ℕ) (ns : List SourceNode)
    → walk size from im sp ns ≡ cond (all (node_inside size) ns && ordered from ns && offsets_ok im sp ns) (placed (im + images ns) (sp + spans ns)) None
unfolding walk ordered offsets_ok images spans node_placed in_image
walk_is size from im sp [] = rw (add-zero, add-zero) refl
walk_is size from im sp (n ∷ ns) =
    let start = n.source_span.start in
    let end = n.source_span.end in
    let low : Bool = leb (start + im) (n.normalized_offset + sp) in
    let high : Bool = ltb (n.normalized_offset + sp) (start + im + image_length n) in
    let x : Bool = all (node_inside size) ns in
    let y : Bool = ordered end ns in
    let z : Bool = offsets_ok (im + image_length n) (sp + span_length n) ns in
    let sums : placed (im + image_length n + images ns) (sp + span_length n + spans ns) ≡ placed (im + (image_length n + images ns)) (sp + (span_length n + spans ns))
    = ap₂ (λ (a b : ℕ). placed a b) (add_assoc im (image_length n) (images ns)) (add_assoc sp (span_length n) (spans ns)) in
    let whole : Option Sums = placed (im + (image_length n + images ns)) (sp + (span_length n + spans ns)) in
    ap (λ (w : Option Sums). cond (node_placed size from im sp n) w None)
    (walk_is size end (im + image_length n) (sp + span_length n) ns ∙ ap (λ (w : Option Sums). cond (x && y && z) w None) sums)
    ∙ sym (cond_and (node_placed size from im sp n) (x && y && z) whole)
    ∙ ap (λ (b : Bool). cond b whole None) (sym (shuffle (node_inside size n) (leb from start) low high x y z))

walk_whole : (size : ℕ) (ns : List SourceNode) → walk size 0 0 0 ns ≡ sums_if_placed size ns
unfolding sums_if_placed
walk_whole size ns = walk_is size 0 0 0 ns ∙ rw (zero-add, zero-add) refl

-- ---- the loop: i nodes are passed, and what is left answers as the whole

pub record Walked (t : List ℕ) (at count size i from im sp : ℕ) : Type 0 where
  pub images_small : im ≤ 7 * i
  pub spans_small : sp ≤ from
  pub from_small : from < 4294967296
  pub rest : walk size from im sp (records_at node_codec t (at + 49 * i) (count - i)) ≡ sums_if_placed size (records_at node_codec t at count)

module _ (t : List ℕ) (at count size : ℕ) where
  pub walked_none : Walked t at count size 0 0 0 0
  walked_none =
      let e₁ : at + 49 * 0 ≡ at = omega arith in
      let e₂ : count - 0 ≡ count = omega arith in
      record {
        images_small = omega arith;
        spans_small = omega arith;
        from_small = omega arith;
        rest = rw (e₁, e₂) (walk_whole size (records_at node_codec t at count));
      }

  -- the next node
  nodes_cons : (i : ℕ) → i < count
      → records_at node_codec t (at + 49 * i) (count - i) ≡ (record_at node_codec t (at + 49 * i) ∷ records_at node_codec t (at + 49 * (i + 1)) (count - (i + 1)))
  unfolding node_codec
  nodes_cons i h =
      let e : count - i ≡ suc (count - (i + 1)) = omega arith in
      ap (λ (k : ℕ). records_at node_codec t (at + 49 * i) k) e ∙ run_cons node_codec t (count - (i + 1)) (at + 49 * i) (at + 49 * (i + 1)) (omega arith)

module _ {t : List ℕ} {at count size i from im sp : ℕ} (w : Walked t at count size i from im sp) where
  pub walked_done : i ≡ count → placed im sp ≡ sums_if_placed size (records_at node_codec t at count)
  unfolding walk
  walked_done e =
      let z : count - i ≡ 0 = omega arith in
      let none : records_at node_codec t (at + 49 * i) (count - i) ≡ [] = ap (λ (k : ℕ). records_at node_codec t (at + 49 * i) k) z ∙ run_none node_codec t (at + 49 * i) in
      ap (walk size from im sp) (sym none) ∙ w.rest

  module _ (h : i < count) where
    walk_next : walk size from im sp (record_at node_codec t (at + 49 * i) ∷ records_at node_codec t (at + 49 * (i + 1)) (count - (i + 1))) ≡ sums_if_placed size (records_at node_codec t at count)
    walk_next = ap (walk size from im sp) (sym (nodes_cons t at count size i h)) ∙ w.rest

    pub walked_fails : node_placed size from im sp (record_at node_codec t (at + 49 * i)) ≡ false → None ≡ sums_if_placed size (records_at node_codec t at count)
    unfolding walk
    walked_fails e = rw e at walk_next

    pub walked_more : (end image span : ℕ) → node_placed size from im sp (record_at node_codec t (at + 49 * i)) ≡ true
        → end ≡ (record_at node_codec t (at + 49 * i)).source_span.end → image ≡ image_length (record_at node_codec t (at + 49 * i)) → span ≡ span_length (record_at node_codec t (at + 49 * i))
        → end < 4294967296 → Walked t at count size (i + 1) end (im + image) (sp + span)
    walked_more end image span e q₁ q₂ q₃ b =
        let n = record_at node_codec t (at + 49 * i) in
        let f = placed_facts size from im sp n e in
        record {
          images_small = omega (arith, image_small n, w.images_small);
          spans_small = omega (arith, f.0, f.1, f.2, w.spans_small);
          from_small = b;
          rest = rw (q₁, q₂, q₃) (walk_on size from im sp n _ e walk_next);
        }

-- `Span::len` by the code's two numbers
module _ (n : SourceNode) (start end : ℕ) (q : start ≡ n.source_span.start) (q₁ : end ≡ n.source_span.end) where
  pub span_length_lem : end - start ≡ span_length n
  unfolding span_length
  span_length_lem = ap₂ (λ (a b : ℕ). a - b) q₁ q
