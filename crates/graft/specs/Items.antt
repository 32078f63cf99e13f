-- One content and one segment: what its function asks of the others, and its returns.
use Rattle.std.specs.Prelude.{◌≡◌, ℕ, zero, suc, ◌+◌, ◌-◌, ◌*◌, ◌<◌, Option, Some, None, false, List, [], ◌∷◌}
use Rattle.std.proofs.Math.Path.{refl, sym}
use Rattle.std.proofs.Common.{ap, ◌∙◌, subst}
use native.Mathlib.Omega.{arith}
use Rattle.std.proofs.Math.Bool.{true}
use borrow.Author.Tests.{eq-eqb, ne_eqb, ltb-true}
use Rattle.model.specs.Types.{Body, Content, Segment}
use Rattle.model.specs.Store.{resolve_str}
use Rattle.model.specs.Tape.{record_at, record_bytes, content_codec, segment_codec}
use Rattle.model.specs.Graft.{With, graft_str}
use Rattle.wire.specs.Overwrite.{overwrite}
use Rattle.records.specs.Values.{body_at, body_of, content_of, segment_of, segment_body}
use Rattle.records.specs.declared.Content.{Content as ContentRead}
use Rattle.records.specs.declared.Segment.{Segment as SegmentRead}
use Rattle.store.specs.declared.Store.{Store}
use Rattle.ids.specs.Tests.{body_in, content_in, segment_in, segments_in}
use Rattle.sizes.specs.Added.{Added}
use Rattle.sizes.specs.InPlace.{inner_adds, body_adds, content_adds, segment_run_adds}
use Rattle.graft.specs.Grafted.{layer_from, Told}
use Rattle.graft.specs.Named.{source_store}
use Rattle.graft.specs.Walk.{Source, shown_contents, shown_segments, Ready, StartTold, WordsTold, ContentsTold, SegmentsTold, segment_run_from, body_from}
use Rattle.graft.specs.Answers.{one_plain, one_segments, item_refused, item_made}
use Rattle.graft.specs.Bodies.{zero_body, one_zero, one_body, body_from_lem}
use Rattle.graft.specs.declared.Plan.{Plan}
use Rattle.graft.specs.declared.Mark.{Mark}

-- ---- a content

abbrev content_with : ℕ → ℕ → ℕ → Content
content_with tag second first = record { tag = tag; first = first; second = second }

module _ (t : List ℕ) (st : Store) (at : ℕ) (c : ContentRead) (e : content_of c ≡ record_at content_codec t at) where
  module _ (h : content_in st (record_at content_codec t at) ≡ true) where
    pub plain_known : c.tag ≡ 0 → c.first < st.totals.strings
    unfolding content_in
    plain_known z = let g : content_in st (content_of c) ≡ true = subst (λ (x : Content). content_in st x ≡ true) (sym e) h in ltb-true c.first st.totals.strings (rw (eq-eqb c.tag 0 z) at g)

    pub run_known : (c.tag ≡ 0 → ⊥) → segments_in st c.first c.second ≡ true
    unfolding content_in
    run_known z = let g : content_in st (content_of c) ≡ true = subst (λ (x : Content). content_in st x ≡ true) (sym e) h in rw (ne_eqb c.tag 0 z) at g

  pub run_ready : {d : List ℕ} {p : Plan} {m : Mark} {out work strs : List ℕ} (inner : Body → Added) → (c.tag ≡ 0 → ⊥)
      → Ready t d p m out work strs (content_adds inner t st (record_at content_codec t at)) → Ready t d p m out work strs (segment_run_adds inner t st c.first c.second)
  unfolding content_adds
  run_ready {d} {p} {m} {out} {work} {strs} inner z y =
      let g : Ready t d p m out work strs (content_adds inner t st (content_of c)) =
      subst (λ (x : Content). Ready t d p m out work strs (content_adds inner t st x)) (sym e) y in
      rw (ne_eqb c.tag 0 z) at g

  module _ (l to : ℕ) {d : List ℕ} {p : Plan} {m : Mark} {out work strs out₁ work₁ strs₁ : List ℕ} {r : Mark} where
    module _ (z : c.tag ≡ 0) where
      pub plain_refused : StartTold t d p m out work strs out₁ work₁ strs₁ r None (graft_str (resolve_str (source_store t d) c.first) (layer_from p work strs m))
          → ContentsTold t d p m to out work strs out₁ work₁ strs₁ r false (shown_contents l t d (record_at content_codec t at ∷ []) (layer_from p work strs m))
      plain_refused x = rw (← e) (item_refused content_codec p m (p.contents_at + 10 * to) out work strs x.told (one_plain l t d (content_of c) (layer_from p work strs m) z) refl)

      pub plain_made : (id : ℕ) → StartTold t d p m out work strs out₁ work₁ strs₁ r (Some id) (graft_str (resolve_str (source_store t d) c.first) (layer_from p work strs m))
          → {out₂ : List ℕ} → out₂ ≡ overwrite out₁ (p.contents_at + 10 * to) (record_bytes content_codec (record { tag = c.tag; first = id; second = 0 }))
          → ContentsTold t d p m to out work strs out₂ work₁ strs₁ r true (shown_contents l t d (record_at content_codec t at ∷ []) (layer_from p work strs m))
      plain_made id x w = rw (← e) (item_made content_codec p m (p.contents_at + 10 * to) out work strs x.told (one_plain l t d (content_of c) (layer_from p work strs m) z) (content_with 0 0 id) (ap (content_with 0 0) (x.start id refl)) (rw z at w))

    module _ (source : Source t d st) (h : segments_in st c.first c.second ≡ true) (z : c.tag ≡ 0 → ⊥) where
      pub run_refused : StartTold t d p m out work strs out₁ work₁ strs₁ r None (segment_run_from l t d c.first c.second (layer_from p work strs m))
          → ContentsTold t d p m to out work strs out₁ work₁ strs₁ r false (shown_contents l t d (record_at content_codec t at ∷ []) (layer_from p work strs m))
      run_refused x = rw (← e) (item_refused content_codec p m (p.contents_at + 10 * to) out work strs x.told (one_segments l t d (content_of c) (layer_from p work strs m) st source h z) refl)

      pub run_made : (start : ℕ) → StartTold t d p m out work strs out₁ work₁ strs₁ r (Some start) (segment_run_from l t d c.first c.second (layer_from p work strs m))
          → {out₂ : List ℕ} → out₂ ≡ overwrite out₁ (p.contents_at + 10 * to) (record_bytes content_codec (record { tag = 1; first = start; second = c.second }))
          → ContentsTold t d p m to out work strs out₂ work₁ strs₁ r true (shown_contents l t d (record_at content_codec t at ∷ []) (layer_from p work strs m))
      run_made start x w = rw (← e) (item_made content_codec p m (p.contents_at + 10 * to) out work strs x.told (one_segments l t d (content_of c) (layer_from p work strs m) st source h z) (content_with 1 c.second start) (ap (content_with 1 c.second) (x.start start refl)) w)

-- ---- a segment

pub body_known : (st : Store) (t : List ℕ) (at : ℕ) → segment_in st (record_at segment_codec t at) ≡ true → body_in st (body_at t (at + 3)) ≡ true
unfolding segment_in
body_known st t at h = ap (body_in st) (segment_body t at) ∙ h

pub below_ready : {t d : List ℕ} (st : Store) {p : Plan} {m : Mark} {out work strs : List ℕ} (l at : ℕ) → (l ≡ 0 → ⊥)
    → Ready t d p m out work strs (inner_adds l t st (record_at segment_codec t at).body) → Ready t d p m out work strs (body_adds (l - 1) t st (body_at t (at + 3)))
unfolding inner_adds body_adds
below_ready st zero at z y = absurd (z refl)
below_ready {t} {d} st {p} {m} {out} {work} {strs} (suc l) at z y =
    let e : suc l - 1 ≡ l = omega arith in
    let b : Ready t d p m out work strs (body_adds l t st (body_at t (at + 3))) = rw (segment_body t at) y in
    rw e b

-- a segment as it was read
module _ (t d : List ℕ) (at : ℕ) (s : SegmentRead) (e : segment_of s ≡ record_at segment_codec t at) where
  body_is : body_of s.body ≡ body_at t (at + 3)
  body_is = ap (λ (x : Segment). x.body) e ∙ sym (segment_body t at)

  -- with another body
  abbrev with_body : Body → Segment
  with_body b = record { tag = s.tag; level = s.level; body = b }

  -- with other words
  abbrev with_own : List ℕ → Segment
  with_own ws = with_body (record { kind = s.body.kind; tag = s.body.tag; plain1 = s.body.plain1; plain2 = s.body.plain2; words = ws })

  below : (p : Plan) (m : Mark) (work strs : List ℕ) (l : ℕ) → (l ≡ 0 → ⊥) → shown_segments l t d (segment_of s ∷ []) (layer_from p work strs m)
      ≡ (with_own (body_from (l - 1) t d p work strs m (body_of s.body) 6).0 ∷ [], (body_from (l - 1) t d p work strs m (body_of s.body) 6).1)
  below p m work strs l z =
      one_body t d (segment_of s) (layer_from p work strs m) l z
      ∙ ap (λ (b : With Body). (with_body b.0 ∷ [], b.1)) (body_from_lem (l - 1) t d p work strs m (body_of s.body))

  module _ (to : ℕ) {p : Plan} {m : Mark} {out work strs : List ℕ} where
    pub segment_zero : (l : ℕ) → l ≡ 0 → Told t d p m out work strs out work strs m true (layer_from p work strs m) → {out₂ : List ℕ}
        → out₂ ≡ overwrite out (p.segments_at + 37 * to) (record_bytes segment_codec (with_body zero_body))
        → SegmentsTold t d p m to out work strs out₂ work strs m true (shown_segments l t d (record_at segment_codec t at ∷ []) (layer_from p work strs m))
    segment_zero l z k w =
        rw (← e) (item_made segment_codec p m (p.segments_at + 37 * to) out work strs k (one_zero t d (segment_of s) (layer_from p work strs m) l z) (with_body zero_body) refl w)

    module _ (l : ℕ) (z : l ≡ 0 → ⊥) where
      module _ {out₁ work₁ strs₁ : List ℕ} {r : Mark} where
        told_here : {x : Option (List ℕ)} → WordsTold t d p m out work strs out₁ work₁ strs₁ r x (body_from (l - 1) t d p work strs m (body_at t (at + 3)) 6)
            → WordsTold t d p m out work strs out₁ work₁ strs₁ r x (body_from (l - 1) t d p work strs m (body_of s.body) 6)
        told_here {x} y = subst (λ (b : Body). WordsTold t d p m out work strs out₁ work₁ strs₁ r x (body_from (l - 1) t d p work strs m b 6)) (sym body_is) y

        pub below_refused : WordsTold t d p m out work strs out₁ work₁ strs₁ r None (body_from (l - 1) t d p work strs m (body_at t (at + 3)) 6)
            → SegmentsTold t d p m to out work strs out₁ work₁ strs₁ r false (shown_segments l t d (record_at segment_codec t at ∷ []) (layer_from p work strs m))
        below_refused x = rw (← e) (item_refused segment_codec p m (p.segments_at + 37 * to) out work strs (told_here x).told (below p m work strs l z) refl)

        pub below_made : (own : List ℕ) → WordsTold t d p m out work strs out₁ work₁ strs₁ r (Some own) (body_from (l - 1) t d p work strs m (body_at t (at + 3)) 6) → {out₂ : List ℕ}
            → out₂ ≡ overwrite out₁ (p.segments_at + 37 * to) (record_bytes segment_codec (with_own own))
            → SegmentsTold t d p m to out work strs out₂ work₁ strs₁ r true (shown_segments l t d (record_at segment_codec t at ∷ []) (layer_from p work strs m))
        below_made own x w =
            let y = told_here x in
            rw (← e) (item_made segment_codec p m (p.segments_at + 37 * to) out work strs y.told (below p m work strs l z) (with_own own) (ap with_own (y.words own refl)) w)
