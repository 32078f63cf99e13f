-- Records of the source that are grafted one after the other, whatever their kind: room for each, one more, and a refusal.
use Rattle.std.specs.Prelude.{◌≡◌, refl, ℕ, ◌+◌, ◌*◌, ◌≤◌, ◌<◌, Bool, true, false, length}
use Rattle.std.proofs.Common.{sym, ap₂, ◌∙◌, true≢false}
use Rattle.std.proofs.Math.Path.{ap}
use Rattle.std.proofs.Math.Nat.{mul-le-mul_left}
use native.Mathlib.Omega.{arith}
use mathlib.Core.List.{List, [], ◌∷◌, ◌++◌, flatten}
use Rattle.model.specs.Lists.{all}
use Rattle.model.specs.Tape.{Codec, record_size, record_at, records_at, records_bytes}
use Rattle.model.specs.Graft.{NewLayer, With}
use Rattle.facts.specs.Truth.{by_bool}
use Rattle.laws.specs.Records.{run_length}
use Rattle.wire.specs.Overwrite.{overwrite_nil}
use Rattle.interner.specs.State.{has_room}
use Rattle.records.specs.Runs.{run_at}
use Rattle.sizes.specs.Added.{Added, add, add_all, all_append}
use Rattle.sizes.specs.Trees.{Grew}
use Rattle.graft.specs.Rebased.{Steps, rebased, behind}
use Rattle.graft.specs.Blocks.{apart_less}
use Rattle.graft.specs.Grafted.{layer_from, Sized, Roomy, empty_sized, next_layer}
use Rattle.graft.specs.Runs.{ItemsSoFar, ItemsTold, Clear, items_then}
use Rattle.graft.specs.Walk.{Ready}
use Rattle.graft.specs.Rooms.{ready_item, space_left, roomy}
use Rattle.graft.specs.Answers.{told_none}
use Rattle.graft.specs.Records.{records_add}
use Rattle.graft.specs.declared.Plan.{Plan}
use Rattle.graft.specs.declared.Mark.{Mark}
use Rattle.put_records.specs.Runs.{all_first, records_more, records_parts}

-- A kind of record of the source t, of `size` bytes: the graft of a list of them, what number 4 says of each, and what it adds.
pub record Grafts {A : Type 0} (t : List ℕ) (k : Codec A) (size : ℕ) (run : List A → NewLayer → With (List A)) (known : A → Bool) (adds : A → Added) (sum : ℕ → ℕ → Added) : Type 0 where
  pub wide : record_size k ≡ size
  pub summed : (at n : ℕ) → sum at n ≡ add_all adds (records_at k t at n)
  pub none : (f : NewLayer) → run [] f ≡ ([], f)
  pub parts : (xs ys : List A) (f : NewLayer) → run (xs ++ ys) f ≡ (let r = run xs f in let q = run ys r.1 in (r.0 ++ q.0, q.1))
  pub steps : (xs : List A) → Steps (run xs)
  pub sized : (xs : List A) (f : NewLayer) → Sized f → Sized (run xs f).1
  pub bytes : (xs : List A) (f : NewLayer) → length (records_bytes k (run xs f).0) ≡ size * length xs
  pub grows : (xs : List A) (f : NewLayer) → all known xs ≡ true → Grew f (run xs f).1 (add_all adds xs)

-- the first i records are grafted, those of the graft written from the byte `place` on
pub record ItemsUpTo {A : Type 0} (t d : List ℕ) (k : Codec A) (run : List A → NewLayer → With (List A)) (p : Plan) (m : Mark) (at place : ℕ) (out work strs out' work' strs' : List ℕ) (u : Mark) (i : ℕ) : Type 0 where
  pub long : length out' ≡ length out
  pub told : ItemsTold t d k p m place out work strs out' work' strs' u true (run (records_at k t at i) (layer_from p work strs m))

module _ {A : Type 0} {t : List ℕ} {k : Codec A} {size : ℕ} {run : List A → NewLayer → With (List A)} {known : A → Bool} {adds : A → Added} {sum : ℕ → ℕ → Added} (w : Grafts t k size run known adds sum) where
  -- ---- one part more

  module _ {d : List ℕ} (p : Plan) (m : Mark) (place : ℕ) (out work strs : List ℕ) {out₁ work₁ strs₁ : List ℕ} {r₁ : Mark} (xs ys : List A)
      (a : ItemsSoFar t d k p m place out work strs out₁ work₁ strs₁ r₁ (run xs (layer_from p work strs m)).0 (run xs (layer_from p work strs m)).1) where
    abbrev first : With (List A)
    first = run xs (layer_from p work strs m)

    abbrev second : With (List A)
    second = run ys (layer_from p work₁ strs₁ r₁)

    joined : run (xs ++ ys) (layer_from p work strs m) ≡ (first.0 ++ second.0, behind first.1 second.1)
    joined =
        let e : rebased first.1 ≡ layer_from p work₁ strs₁ r₁ = sym (next_layer p m out work strs a.made ((w.steps xs).offsets (layer_from p work strs m))) in
        let x : (run ys first.1).0 ≡ second.0 = (w.steps ys).answer first.1 ∙ ap (λ (l : NewLayer). (run ys l).0) e in
        let y : (run ys first.1).1 ≡ behind first.1 second.1 = (w.steps ys).layer first.1 ∙ ap (λ (l : NewLayer). behind first.1 (run ys l).1) e in
        w.parts xs ys (layer_from p work strs m) ∙ (λ i. (first.0 ++ x i, y i))

    part_turn : {out₂ work₂ strs₂ : List ℕ} {r : Mark} {ok : Bool} (n : ℕ) → n ≡ place + length (records_bytes k first.0)
        → (let both = run (xs ++ ys) (layer_from p work strs m) in
        Roomy p m out both.1 → Clear p m (length out) (length both.1.contents) (length both.1.segments) place (length (records_bytes k both.0))
        → ItemsTold t d k p r₁ n out₁ work₁ strs₁ out₂ work₂ strs₂ r ok second → ItemsTold t d k p m place out work strs out₂ work₂ strs₂ r ok both)
    part_turn n e room clear b =
        let g = first.1 in
        let h = second.1 in
        let room' : Roomy p m out (behind g h) = rw joined at room in
        let clear' : Clear p m (length out) (length (behind g h).contents) (length (behind g h).segments) place (length (records_bytes k (first.0 ++ second.0))) = rw joined at clear in
        let sg = w.sized xs (layer_from p work strs m) (empty_sized p work strs m) in
        let sh = w.sized ys (layer_from p work₁ strs₁ r₁) (empty_sized p work₁ strs₁ r₁) in
        rw joined (record {
          room = b.room ∙ ap₂ (λ (i j : ℕ). has_room i j h.interner) a.made.long a.made.base;
          made = λ o. items_then k p m place out work strs sg sh room' n e clear' a (b.made o);
        })

  -- ---- the loop

  module _ {d : List ℕ} {p : Plan} {m : Mark} {out work strs : List ℕ} (at count place : ℕ) (y : Ready t d p m out work strs (sum at count)) (h : all known (records_at k t at count) ≡ true) where
    abbrev items : ℕ → With (List A)
    items i = run (records_at k t at i) (layer_from p work strs m)

    abbrev item : ℕ → A
    item i = record_at k t (at + size * i)

    item_is : (i : ℕ) → record_at k t (at + record_size k * i) ≡ item i
    item_is i = ap (λ (n : ℕ). record_at k t (at + n * i)) w.wide

    -- what the records behind the first i add
    abbrev others : (i : ℕ) → i ≤ count → Added
    others i j = add_all adds (records_parts k t at i count j).rest

    items_bytes : (i : ℕ) → length (records_bytes k (items i).0) ≡ size * i
    items_bytes i = w.bytes (records_at k t at i) (layer_from p work strs m) ∙ ap (λ (n : ℕ). size * n) (run_length k t at i)

    first_adds : (i : ℕ) (j : i ≤ count) → sum at count ≡ add (sum at i) (others i j)
    first_adds i j =
        let r = records_parts k t at i count j in
        w.summed at count ∙ ap (add_all adds) r.is ∙ all_append adds (records_at k t at i) r.rest ∙ ap (λ (x : Added). add x (add_all adds r.rest)) (sym (w.summed at i))

    item_adds : (i : ℕ) (j : i + 1 ≤ count) → sum at count ≡ add (add (sum at i) (adds (item i))) (others (i + 1) j)
    item_adds i j =
        w.summed at count ∙ records_add k t at adds i count j ∙ ap₂ (λ (x : Added) (z : A). add (add x (adds z)) (others (i + 1) j)) (sym (w.summed at i)) (item_is i)

    first_grow : (i : ℕ) → i ≤ count → Grew (layer_from p work strs m) (items i).1 (sum at i)
    first_grow i j = rw (w.summed at i) (w.grows (records_at k t at i) (layer_from p work strs m) (all_first known (records_parts k t at i count j) h))

    first_roomy : (i : ℕ) → i ≤ count → Roomy p m out (items i).1
    first_roomy i j = roomy out work strs (space_left (sum at i) (others i j) (rw (first_adds i j) at y.space)) (first_grow i j)

    first_clear : (i : ℕ) → i ≤ count → Clear p m (length out) (sum at count).contents (sum at count).segments place (size * count)
        → Clear p m (length out) (length (items i).1.contents) (length (items i).1.segments) place (length (records_bytes k (items i).0))
    unfolding add
    first_clear i j clear =
        let g = first_grow i j in
        let e = ap (λ (x : Added). x.contents) (first_adds i j) in
        let f = ap (λ (x : Added). x.segments) (first_adds i j) in
        let n : size * i ≤ size * count = mul-le-mul_left size j in
        apart_less (omega (arith, g.contents, e)) (omega arith) (omega (arith, g.segments, f)) (omega arith) (omega (arith, items_bytes i, n)) clear

    pub items_first : ItemsUpTo t d k run p m at place out work strs out work strs m 0
    unfolding records_at records_bytes flatten
    items_first =
        let e = told_none y in
        record { long = refl; told = rw (w.none (layer_from p work strs m)) (record { room = e.room; made = λ o. record { under = out; made = e.made o; wrote = overwrite_nil out place } }) }

    pub item_known : (i : ℕ) → i < count → known (item i) ≡ true
    item_known i j = ap known (sym (item_is i)) ∙ run_at k known t at count i h j

    pub items_refused : {out' work' strs' : List ℕ} {u : Mark} (i : ℕ) → i ≤ count → ItemsTold t d k p m place out work strs out' work' strs' u false (items i)
        → ItemsTold t d k p m place out work strs out' work' strs' u false (items count)
    items_refused i j a =
        let f = layer_from p work strs m in
        let r = records_parts k t at i count j in
        let q : (items count).1 ≡ (run r.rest (items i).1).1
        = ap (λ (xs : List A). (run xs f).1) r.is ∙ ap (λ (x : With (List A)). x.1) (w.parts (records_at k t at i) r.rest f) in
        record {
          room = by_bool (has_room (length strs) m.state.base (items count).1.interner)
              (λ x. absurd (true≢false (sym ((w.steps r.rest).room (length strs) m.state.base (items i).1 (rw q at x)) ∙ sym a.room)))
              (λ x. sym x);
          made = λ o. absurd (true≢false (sym o));
        }

    module _ {out' work' strs' : List ℕ} {u : Mark} {i : ℕ} (a : ItemsUpTo t d k run p m at place out work strs out' work' strs' u i) where
      pub items_last : count ≤ i → i ≤ count → ItemsTold t d k p m place out work strs out' work' strs' u true (items count)
      items_last x z = let e : i ≡ count = omega arith in rw e at a.told

      pub item_ready : i < count → Ready t d p u out' work' strs' (adds (item i))
      item_ready j =
          let x = a.told.made refl in
          let z : i + 1 ≤ count = omega arith in
          ready_item p m out work strs x.made (sum at i) (first_grow i (omega arith)) (adds (item i)) (others (i + 1) z) a.told.room a.long (rw (item_adds i z) at y)

      -- what the records so far and this one add is no more than what all add
      pub item_low : i < count → (u.contents + (adds (item i)).contents ≤ m.contents + (sum at count).contents) × (u.segments + (adds (item i)).segments ≤ m.segments + (sum at count).segments)
      unfolding add
      item_low j =
          let g = first_grow i (omega arith) in
          let x = (a.told.made refl).made in
          let z : i + 1 ≤ count = omega arith in
          let e = ap (λ (v : Added). v.contents) (item_adds i z) in
          let f = ap (λ (v : Added). v.segments) (item_adds i z) in
          (omega (arith, x.contents, g.contents, e), omega (arith, x.segments, g.segments, f))

      module _ {out'' work'' strs'' : List ℕ} {r : Mark} {ok : Bool} (j : i < count) (clear : Clear p m (length out) (sum at count).contents (sum at count).segments place (size * count))
          (n : ℕ) (e : n ≡ place + size * i) (x : ItemsTold t d k p u n out' work' strs' out'' work'' strs'' r ok (run (item i ∷ []) (layer_from p work' strs' u))) where
        pub item_turn : ItemsTold t d k p m place out work strs out'' work'' strs'' r ok (items (i + 1))
        item_turn =
            let xs = records_at k t at i in
            let one = item i ∷ [] in
            let f = layer_from p work strs m in
            let q : items (i + 1) ≡ run (xs ++ one) f = ap (λ (zs : List A). run zs f) (records_more k t at i ∙ ap (λ (z : A). xs ++ (z ∷ [])) (item_is i)) in
            let z : i + 1 ≤ count = omega arith in
            rw q (part_turn p m place out work strs xs one (a.told.made refl) n (omega (arith, e, items_bytes i)) (rw q at (first_roomy (i + 1) z)) (rw q at (first_clear (i + 1) z clear)) x)

        pub items_more : length out'' ≡ length out' → ok ≡ true → ItemsUpTo t d k run p m at place out work strs out'' work'' strs'' r (i + 1)
        items_more z o = record { long = z ∙ a.long; told = rw o at item_turn }
