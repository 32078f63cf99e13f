-- A run of one segment, in a store of one layer: found without a look at the layers, and walked without the loop.
use Rattle.std.specs.Prelude.{◌≡◌, ℕ, ◌+◌, ◌*◌, ◌≤◌, ◌<◌, true, cond, ◌&&◌, List, length, get_or, ltb, eqb, Option, Some, None}
use Rattle.std.proofs.Math.Path.{refl}
use Rattle.std.proofs.Common.{sym, ap, ◌∙◌, arith}
use borrow.Author.Tests.{lt-ltb, le-ltb, eq-eqb, ne_eqb, eqb-true, ltb-true}
use Rattle.model.specs.Types.{Body}
use Rattle.model.specs.Tape.{record_at, records_at, segment_codec}
use Rattle.facts.specs.Truth.{both, by_bool}
use Rattle.store.specs.Standing.{segment_place}
use Rattle.store.specs.Stored.{OfTape}
use Rattle.store.specs.declared.Store.{Store}
use Rattle.ids.specs.Tests.{segments_in}
use Rattle.sizes.specs.Added.{Added, new_segments, add_all, add_nothing}
use Rattle.sizes.specs.Capped.{less}
use Rattle.sizes.specs.InPlace.{segment_count, segments_add, segment_run_adds, segment_count_in, segments_inside}
use Rattle.sizes.specs.Answers.{segments_over, segments_then}
use Rattle.sizes.specs.OneLayer.{only_range, only_layer}
use Rattle.sizes.specs.declared.Left.{Left}

-- where segment i stands, in a store of one layer; None for any other store, and where there is no such segment
unfoldable pub lone_place : Store → ℕ → Option ℕ
lone_place st i = cond (eqb st.layers 1 && (eqb (get_or st.segments 0 0) 0 && ltb i st.totals.segments)) (Some (segment_place st i)) None

-- ---- the code's answers

module _ (st : Store) (i : ℕ) where
  pub lone_layers : (st.layers ≡ 1 → ⊥) → None ≡ lone_place st i
  unfolding lone_place
  lone_layers n = rw (ne_eqb st.layers 1 n) refl

  module _ (one : st.layers ≡ 1) where
    pub lone_later : (get_or st.segments 0 0 ≡ 0 → ⊥) → None ≡ lone_place st i
    unfolding lone_place
    lone_later n = rw (eq-eqb st.layers 1 one, ne_eqb (get_or st.segments 0 0) 0 n) refl

    module _ (first : get_or st.segments 0 0 ≡ 0) where
      pub lone_none : st.totals.segments ≤ i → None ≡ lone_place st i
      unfolding lone_place
      lone_none h = rw (eq-eqb st.layers 1 one, eq-eqb (get_or st.segments 0 0) 0 first, le-ltb i st.totals.segments h) refl

      only_place : 10 + 5 * st.totals.strings + 10 * st.totals.contents + 37 * i ≡ segment_place st i
      unfolding segment_place
      only_place = rw (only_layer st.segments st.layers one first i, one) (omega arith)

      pub lone_found : {r : ℕ} → i < st.totals.segments → r ≡ 10 + 5 * st.totals.strings + 10 * st.totals.contents + 37 * i → Some r ≡ lone_place st i
      unfolding lone_place
      lone_found h e = rw (eq-eqb st.layers 1 one, eq-eqb (get_or st.segments 0 0) 0 first, lt-ltb i st.totals.segments h) (ap (λ (p : ℕ). Some p) (e ∙ only_place))

-- ---- a place that is found

record Found (st : Store) (i place : ℕ) : Type 0 where
  range : segments_in st i 1 ≡ true
  place_is : place ≡ segment_place st i

found : (st : Store) (i place : ℕ) → lone_place st i ≡ Some place → Found st i place
unfolding lone_place
found st i place e =
    by_bool (eqb st.layers 1 && (eqb (get_or st.segments 0 0) 0 && ltb i st.totals.segments))
    (λ q.
    let a = both (eqb st.layers 1) _ q in
    let b = both (eqb (get_or st.segments 0 0) 0) (ltb i st.totals.segments) a.1 in
    record {
      range = let h = ltb-true i st.totals.segments b.1 in
          only_range st.segments st.layers (eqb-true st.layers 1 a.0) (eqb-true (get_or st.segments 0 0) 0 b.0) st.totals.segments i 1 (omega (arith, h));
      place_is = let w : Some (segment_place st i) ≡ Some place = rw q at e in cc;
    })
    (λ q. let w : ◌≡◌ {A = Option ℕ} None (Some place) = rw q at e in cc)

one_segment : (inner : Body → Added) (t : List ℕ) (at : ℕ) → segments_add inner t at 1 ≡ inner (record_at segment_codec t at).body
unfolding segments_add records_at add_all segment_codec
one_segment inner t at =
    let z : at + 37 * 0 ≡ at = omega arith in
    rw z (add_nothing (inner (record_at segment_codec t at).body))

module _ (t : Left) (inner : Body → Added) (tp : List ℕ) (st : Store) (start len place : ℕ) (one : len ≡ 1) (e : lone_place st start ≡ Some place) where
  counted : 1 ≡ segment_count st start len
  counted = rw one (segment_count_in st start 1 (sym (found st start place e).range) refl)

  pub lone_inside : OfTape tp st → place + 37 ≤ length tp
  lone_inside f =
      let h = segments_inside tp st f start len 1 place (λ q. absurd (omega (arith, q))) counted (found st start place e).place_is in
      omega (arith, h)

  pub lone_over : None ≡ less t (new_segments 1) → None ≡ less t (segment_run_adds inner tp st start len)
  lone_over q = segments_over t inner tp st start len 1 counted q

  pub lone_then : {u : Left} → Some u ≡ less t (new_segments 1) → {r : Option Left} → r ≡ less u (inner (record_at segment_codec tp place).body)
      → r ≡ less t (segment_run_adds inner tp st start len)
  lone_then {u} q a = segments_then t inner tp st start len 1 counted q place (found st start place e).place_is (a ∙ ap (less u) (sym (one_segment inner tp place)))
