-- The shapes of records in the parts that the code tests, in its order.
use Rattle.std.specs.Prelude.{ℕ, ◌≡◌, Bool, true, false, cond, ◌&&◌, ◌||◌, leb, ltb, eqb}
use Rattle.std.proofs.Math.Path.{refl}
use Rattle.std.proofs.Math.Bool.{or-false}
use borrow.Author.Tests.{eqb-true, ltb-true, ltb-false, le-leb, lt-leb}
use Rattle.model.specs.Types.{Segment, SourceNode}
use Rattle.model.specs.Tape.{fields_of, node_fields, body_shape, segment_shape, node_shape}
use Rattle.facts.specs.Truth.{by_bool}
use Rattle.records.specs.Uses.{fields_for}

-- ---- segments

-- Section 4. Segment tags 0, 1 and 2 carry kinds 0, 3 and 13; tag 3 carries 1..15.
unfoldable pub segment_head : ℕ → ℕ → Bool
segment_head tag kind =
    cond (eqb tag 0) (eqb kind 0) (cond (eqb tag 1) (eqb kind 3) (cond (eqb tag 2) (eqb kind 13) (cond (eqb tag 3) (leb 1 kind) false)))

segment_head_lem : (tag kind : ℕ)
    → ((eqb tag 0 && eqb kind 0) || (eqb tag 1 && eqb kind 3) || (eqb tag 2 && eqb kind 13) || (eqb tag 3 && leb 1 kind)) ≡ segment_head tag kind
unfolding segment_head
segment_head_lem tag kind =
    by_bool (eqb tag 0) (λ e. let q = eqb-true tag 0 e in rw (q, or-false, or-false, or-false) refl)
    (λ a. rw a (by_bool (eqb tag 1) (λ e. let q = eqb-true tag 1 e in rw (q, or-false, or-false) refl)
    (λ b. rw b (by_bool (eqb tag 2) (λ e. let q = eqb-true tag 2 e in rw (q, or-false) refl)
    (λ d. rw d (by_bool (eqb tag 3) (λ e. rw e refl) (λ e. rw e refl)))))))

module _ (s : Segment) where
  pub segment_parts : segment_shape s ≡ (segment_head s.tag s.body.kind && body_shape (fields_for true s.body.kind s.body.tag) s.body)
  unfolding segment_shape fields_of fields_for
  segment_parts = rw (segment_head_lem s.tag s.body.kind) refl

-- ---- nodes

-- Section 4. Classes 0 and 1 carry 1..15 and inline 0; classes 2 and 3 carry 0, and inline is 0 or 1.
unfoldable pub node_head : ℕ → ℕ → ℕ → Bool
node_head class inline kind =
    cond (ltb class 2) (cond (ltb kind 1) false (eqb inline 0)) (cond (leb 4 class) false (cond (eqb kind 0) (ltb inline 2) false))

node_head_lem : (class inline kind : ℕ)
    → ((ltb class 2 && leb 1 kind && eqb inline 0) || (leb 2 class && ltb class 4 && eqb kind 0 && ltb inline 2)) ≡ node_head class inline kind
unfolding node_head
node_head_lem class inline kind =
    by_bool (ltb class 2) (λ e. rw (e, lt-leb 2 class (ltb-true class 2 e), or-false) (by_bool (ltb kind 1) (λ f. rw (f, lt-leb 1 kind (ltb-true kind 1 f)) refl) (λ f. rw (f, le-leb 1 kind (ltb-false kind 1 f)) refl)))
    (λ e. rw (e, le-leb 2 class (ltb-false class 2 e))
    (by_bool (ltb class 4) (λ f. rw (f, lt-leb 4 class (ltb-true class 4 f)) (by_bool (eqb kind 0) (λ g. rw g refl) (λ g. rw g refl))) (λ f. rw (f, le-leb 4 class (ltb-false class 4 f)) refl)))

module _ (n : SourceNode) where
  pub node_parts : node_shape n ≡ (node_head n.class n.inline n.body.kind && body_shape (fields_for (ltb n.class 2) n.body.kind n.body.tag) n.body)
  unfolding node_shape node_fields fields_of fields_for
  node_parts = rw (node_head_lem n.class n.inline n.body.kind) refl
