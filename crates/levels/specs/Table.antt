-- The tables of the two pools: an item's test is known wherever its entry, or one above it, is at most the level.
use Rattle.std.specs.Prelude.{◌≡◌, refl, ℕ, ◌+◌, ◌*◌, ◌-◌, ◌/◌, ◌≤◌, ◌<◌, Bool, true, length, get_or, take, drop, set, ltb, eqb}
use Rattle.std.proofs.Common.{sym, ◌∙◌, arith, length-set, get_or-take, get_or-drop, get_or-set_same, get_or-set_other, lt-ltb, ltb-true, ltb-false, eqb-true}
use Rattle.std.proofs.Math.Path.{ap}
use mathlib.Core.List.{List, []}
use Rattle.std.proofs.lemmas.Bool.{eqb-false}
use Rattle.model.specs.Lists.{all}
use Rattle.model.specs.Bytes.{byte_at}
use Rattle.model.specs.Types.{Content, Segment}
use Rattle.model.specs.Store.{store_of, resolve_content_range, resolve_seg_range}
use Rattle.model.specs.Tape.{Codec, record_size, record_at, records_at, content_codec, segment_codec, places, layers_at}
use Rattle.facts.specs.Truth.{both, by_bool}
use Rattle.facts.specs.Lists.{get_d_tabulate}
use Rattle.facts.specs.Keep.{all_map}
use Rattle.wire.specs.Loops.{all_up_to, Passed, passed_more, all_passed}
use Rattle.levels.specs.Told.{Told}
use Rattle.records.specs.Runs.{test_at}
use Rattle.store.specs.Standing.{content_place, segment_place, content_at_lem, segment_at_lem, content_range_lem, segment_range, content_inside, segment_inside}
use Rattle.store.specs.declared.Store.{Store}
use Rattle.ids.specs.Tests.{contents_in, segments_in}
use Rattle.level_blocks.specs.Level.{below, level_read}
use Rattle.level_blocks.specs.Blocks.{Says, Skips, Risen, Kept}
use Rattle.store.specs.Stored.{OfTape}
use Rattle.levels.specs.Below.{segments_below, content_below, range_within}

-- ---- the tests of the two pools: item j at a level

unfoldable pub segment_test : List ℕ → Store → ℕ → ℕ → Bool
segment_test t st level j = below level (record_at segment_codec t (segment_place st j))

unfoldable pub content_test : List ℕ → Store → ℕ → ℕ → Bool
content_test t st level j = content_below t st level (record_at content_codec t (content_place st j))

-- ---- what a table says

-- the first n entries are right
pub record Filled (P : ℕ → ℕ → Bool) (total : ℕ) (table : List ℕ) (n : ℕ) : Type 0 where
  pub size : length table ≡ 69904
  pub right : (j level : ℕ) → j < total → j / 16 < n → get_or table (j / 16) 0 ≤ level → level < 255 → P level j ≡ true

-- what the code found of a run that begins with item `start`, where the table says so
pub record Said (table : List ℕ) (level start len : ℕ) (test : ℕ → Bool) : Type 0 where
  pub says : (n : ℕ) → n < len → Says table level (start + n) → test n ≡ true

-- what a call answers of item k is its test
abbrev pub Tests : Bool → (ℕ → Bool) → ℕ → (ℕ → Bool → Type 0) → Type 0
Tests tabled test len gives = (k : ℕ) (r : Bool) → k < len → gives k r → Told tabled r (test k)

-- ---- a walk, whose first items up to i have passed

-- by the table
pub walk_known : {test : ℕ → Bool} {table : List ℕ} {level start len i r : ℕ} (n : ℕ) → Said table level start len test → Passed test (i - start) → start ≤ i → Skips table level i r
    → n ≤ r → n ≤ start + len → Passed test (n - start)
walk_known {test} {table} {level} {start} {len} {i} n said p l s low far = record {
  all = λ k h.
      by_bool (ltb k (i - start)) (λ x. p.all k (ltb-true k (i - start) x))
      (λ x. let y = ltb-false k (i - start) x in said.says k (omega (arith, h, far)) (s.says (start + k) (omega (arith, y, l)) (omega (arith, h, low))));
}

-- by item i itself
pub walk_one : {test : ℕ → Bool} {start i : ℕ} → start ≤ i → Passed test (i - start) → test (i - start) ≡ true → Passed test (i + 1 - start)
walk_one {test} {start} {i} l p h = let q : i + 1 - start ≡ i - start + 1 = omega (arith, l) in rw q (passed_more test (i - start) p h)

pub walk_end : {test : ℕ → Bool} (start len : ℕ) {i : ℕ} → i ≡ start + len → Passed test (i - start) → all_up_to len test ≡ true
walk_end {test} start len {i} e p = let q : i - start ≡ len = omega (arith, e) in all_passed test len (rw q at p)

-- ---- a run of a pool, item by item

item_read : {A : Type 0} (c : Codec A) (t : List ℕ) (pool : List A) (default : A) (start len at n q : ℕ) → take len (drop start pool) ≡ records_at c t at len
    → get_or pool (start + n) default ≡ record_at c t q → n < len → record_at c t (at + record_size c * n) ≡ record_at c t q
unfolding records_at
item_read c t pool default start len at n q e f h =
    sym (get_d_tabulate len n (λ (i : ℕ). record_at c t (at + record_size c * i)) default h)
    ∙ ap (λ l. get_or l n default) (sym e) ∙ get_or-take len (drop start pool) n default h ∙ get_or-drop start pool n default ∙ f

-- ---- the two pools

-- the table of a pool, made
pub record Made (P : ℕ → ℕ → Bool) (total : ℕ) (table : List ℕ) : Type 0 where
  pub risen : Risen table 69904
  pub filled : Filled P total table 65536

module _ (t : List ℕ) (st : Store) (level start len at : ℕ) where
  pub segments_said : {tops : List ℕ} → OfTape t st → Made (segment_test t st) st.totals.segments tops → {r : Bool} → r ≡ segments_in st start len → r ≡ true → at ≡ segment_place st start
      → Said tops level start len (test_at segment_codec (below level) t at)
  unfolding test_at segment_test resolve_seg_range
  segments_said {tops} fit w e y place = record {
    says = λ n h s.
        let stored = fit.stored in
        let within = range_within st.segments st.layers st.totals.segments start len (sym e ∙ y) in
        let run = segment_range t st stored [] start len (sym e ∙ y) ∙ ap (λ (p : ℕ). records_at segment_codec t p len) (sym place) in
        let item = segment_at_lem t st stored [] (start + n) (omega (arith, within, h)) (record_at segment_codec t 0) in
        ap (below level) (item_read segment_codec t (store_of (layers_at t (places t).layers [])).segments (record_at segment_codec t 0) start len at n (segment_place st (start + n)) run item h)
        ∙ w.filled.right (start + n) level (omega (arith, within, h)) (let k = s.inside in omega (arith, k)) s.low s.known;
  }

  pub contents_said : {heights : List ℕ} → OfTape t st → Made (content_test t st) st.totals.contents heights → {r : Bool} → r ≡ contents_in st start len → r ≡ true → at ≡ content_place st start
      → Said heights level start len (test_at content_codec (content_below t st level) t at)
  unfolding test_at content_test resolve_content_range
  contents_said {heights} fit w e y place = record {
    says = λ n h s.
        let stored = fit.stored in
        let within = range_within st.contents st.layers st.totals.contents start len (sym e ∙ y) in
        let run = content_range_lem t st stored [] start len (sym e ∙ y) ∙ ap (λ (p : ℕ). records_at content_codec t p len) (sym place) in
        let item = content_at_lem t st stored [] (start + n) (omega (arith, within, h)) (record_at content_codec t 0) in
        ap (content_below t st level) (item_read content_codec t (store_of (layers_at t (places t).layers [])).contents (record_at content_codec t 0) start len at n (content_place st (start + n)) run item h)
        ∙ w.filled.right (start + n) level (omega (arith, within, h)) (let k = s.inside in omega (arith, k)) s.low s.known;
  }

-- ---- greater levels

below_more : (m l : ℕ) (x : Segment) → m ≤ l → below m x ≡ true → below l x ≡ true
unfolding below
below_more m l x h e = let y = ltb-true x.level m e in lt-ltb x.level l (omega (arith, y, h))

content_more : (t : List ℕ) (st : Store) (m l : ℕ) (x : Content) → m ≤ l → content_below t st m x ≡ true → content_below t st l x ≡ true
unfolding content_below segments_below
content_more t st m l x h e = by_bool (eqb x.tag 0) (λ z. rw z refl)
    (λ z. let b = both (segments_in st x.first x.second) (all (below m) (records_at segment_codec t (segment_place st x.first) x.second)) (rw z at e) in
    rw (z, b.0) (all_map (below m) (below l) (λ y. below_more m l y h) (records_at segment_codec t (segment_place st x.first) x.second) b.1))

-- ---- entries made

-- item i is below every level from r on, and so is what was below m
pub record Bound (P : ℕ → ℕ → Bool) (i m r : ℕ) : Type 0 where
  pub more : m ≤ r
  pub here : (level : ℕ) → r ≤ level → level < 255 → P level i ≡ true

-- what a call answers is such a bound
abbrev pub Bounds : (ℕ → ℕ → Bool) → ℕ → (ℕ → ℕ → ℕ → Type 0) → Type 0
Bounds P total gives = (i m r : ℕ) → i < total → gives i m r → Bound P i m r

pub bound_none : (P : ℕ → ℕ → Bool) (i m : ℕ) → m ≤ 255 → Bound P i m 255
bound_none P i m h = record { more = h; here = λ level a b. absurd (omega (arith, a, b)) }

-- the segment at its place has level v
pub bound_segment : (t : List ℕ) (st : Store) (i m r at : ℕ) → at ≡ segment_place st i → m ≤ r → byte_at t (at + 2) < r → Bound (segment_test t st) i m r
unfolding segment_test
bound_segment t st i m r at e h l = record {
  more = h;
  here = λ level a b.
      ap (λ (p : ℕ). below level (record_at segment_codec t p)) (sym e) ∙ sym (level_read t at level) ∙ lt-ltb (byte_at t (at + 2)) level (omega (arith, l, a));
}

pub bound_content : (t : List ℕ) (st : Store) (i m r at : ℕ) → at ≡ content_place st i → m ≤ r → content_below t st r (record_at content_codec t at) ≡ true
    → Bound (content_test t st) i m r
unfolding content_test
bound_content t st i m r at e h y = record {
  more = h;
  here = λ level a b.
      ap (λ (p : ℕ). content_below t st level (record_at content_codec t p)) (sym e) ∙ content_more t st r level (record_at content_codec t at) a y;
}

pub segment_fits : (t : List ℕ) (st : Store) (i at : ℕ) → OfTape t st → i < st.totals.segments → at ≡ segment_place st i → at + 37 ≤ length t
segment_fits t st i at f h e = let k = segment_inside t st f.stored i 1 h (omega (arith, h)) in omega (arith, k, e, f.inside)

pub content_fits : (t : List ℕ) (st : Store) (i at : ℕ) → OfTape t st → i < st.totals.contents → at ≡ content_place st i → at + 10 ≤ length t
content_fits t st i at f h e = let k = content_inside t st f.stored i 1 h (omega (arith, h)) in omega (arith, k, e, f.inside)

-- items from a up to b are below every level from r on
pub record Block (P : ℕ → ℕ → Bool) (total a b r : ℕ) : Type 0 where
  pub right : (j level : ℕ) → a ≤ j → j < b → j < total → r ≤ level → level < 255 → P level j ≡ true

pub block_none : (P : ℕ → ℕ → Bool) (total a r : ℕ) → Block P total a a r
block_none P total a r = record { right = λ j level x y. absurd (omega (arith, x, y)) }

pub block_more : {P : ℕ → ℕ → Bool} {total a i m r : ℕ} → Block P total a i m → Bound P i m r → Block P total a (i + 1) r
block_more {P} {total} {a} {i} w f = record {
  right = λ j level x y z u v.
      by_bool (ltb j i) (λ e. let more = f.more in w.right j level x (ltb-true j i e) z (omega (arith, u, more)) v)
      (λ e. let q : j ≡ i = let g = ltb-false j i e in omega (arith, g, y) in rw q (f.here level u v));
}

-- the pool ends before the block
pub block_end : {P : ℕ → ℕ → Bool} {total a i m : ℕ} (b : ℕ) → Block P total a i m → total ≤ i → Block P total a b m
block_end b w h = record { right = λ j level x y z. w.right j level x (omega (arith, z, h)) z }

-- ---- the tables filled

pub filled_none : (P : ℕ → ℕ → Bool) (total : ℕ) (table : List ℕ) → length table ≡ 69904 → Filled P total table 0
filled_none P total table e = record { size = e; right = λ j level a b. absurd (omega (arith, b)) }

pub filled_more : {P : ℕ → ℕ → Bool} {total : ℕ} {table : List ℕ} {k : ℕ} → Filled P total table k → k < 65536 → (r : ℕ) → Block P total (16 * k) (16 * k + 16) r
    → Filled P total (set table k r) (k + 1)
filled_more {P} {total} {table} {k} w h r b = record {
  size = length-set table k r ∙ w.size;
  right = λ j level x y z v.
      by_bool (eqb (j / 16) k)
      (λ e. let q = eqb-true (j / 16) k e in
      let s = w.size in
      let g : get_or (set table k r) (j / 16) 0 ≡ r = rw q (get_or-set_same table k r 0 (omega (arith, s, h))) in
      b.right j level (omega (arith, q)) (omega (arith, q)) x (omega (arith, g, z)) v)
      (λ e. let n = eqb-false (j / 16) k e in
      let g = get_or-set_other table k (j / 16) r 0 n in
      let m : j / 16 < k = by_bool (ltb (j / 16) k) (λ u. ltb-true (j / 16) k u) (λ u. absurd (n (let f = ltb-false (j / 16) k u in omega (arith, f, y)))) in
      w.right j level x m (omega (arith, g, z)) v);
}

pub filled_all : {P : ℕ → ℕ → Bool} {total : ℕ} {table : List ℕ} {k : ℕ} → Filled P total table k → total ≤ 16 * k → Filled P total table 65536
filled_all w h = record { size = w.size; right = λ j level x y z v. w.right j level x (omega (arith, x, h)) z v }

pub filled_kept : {P : ℕ → ℕ → Bool} {total : ℕ} {d l : List ℕ} → Filled P total d 65536 → Kept d l → length l ≡ 69904 → Filled P total l 65536
filled_kept w k e = record { size = e; right = λ j level x y z v. let g = k.kept (j / 16) y in w.right j level x y (omega (arith, g, z)) v }

pub made_kept : {P : ℕ → ℕ → Bool} {total : ℕ} {d l : List ℕ} → Filled P total d 65536 → Risen l 69904 → Kept d l → Made P total l
made_kept w r k = record { risen = r; filled = filled_kept w k r.size }
