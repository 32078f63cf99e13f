-- What `graft_layer` answers: a refusal exactly where the layer has no room, else the layer and the nodes as they stand in the two buffers.
use Rattle.std.proofs.lemmas.Option.{none-some, same_Some}
use Rattle.std.specs.Prelude.{◌≡◌, Option, Some, None, is_some, ℕ, ◌+◌, ◌-◌, ◌*◌, ◌≤◌, ◌<◌, ◌^◌, Bool, ◌&&◌, drop, leb}
use Rattle.std.proofs.Math.Path.{refl, sym, ap}
use Rattle.std.proofs.Common.{ap₂, ◌∙◌, arith, length-take-le}
use Rattle.std.proofs.Math.Bool.{true, false, true≢false}
use mathlib.Core.List.{List, ◌∷◌, ◌++◌, map, flatten}
use Rattle.std.proofs.Math.ListN.{length, take, length-append}
use borrow.Author.Tests.{le-leb, leb-true}
use Rattle.model.specs.Limits.{max_pool, max_list, max_new_strings}
use Rattle.model.specs.Intern.{StrInterner}
use Rattle.model.specs.Types.{SourceNode}
use Rattle.model.specs.Tape.{records_bytes, string_codec, content_codec, segment_codec, node_codec, layer_bytes}
use Rattle.model.specs.Graft.{layer_of, With}
use Rattle.facts.specs.Truth.{both, by_bool}
use Rattle.facts.specs.Lists.{parted}
use Rattle.wire.specs.Overwrite.{overwrite}
use Rattle.interner.specs.State.{state_of, has_room}
use Rattle.stats.specs.Counts.{stats_of}
use Rattle.interner.specs.Room.{count_is}
use Rattle.sizes.specs.declared.Room.{Room}
use Rattle.sizes.specs.declared.Sizes.{Sizes}
use Rattle.sizes.specs.Added.{Added}
use Rattle.sizes.specs.Capped.{fits, fits_room_lem, sizes_in}
use Rattle.sizes.specs.Calls.{Limited}
use Rattle.graft.specs.declared.Mark.{Mark}
use Rattle.store.specs.declared.Totals.{Totals}
use Rattle.layer.specs.declared.Grafted.{Grafted}
use Rattle.layer.specs.Lengths.{new_lengths, lengths_width, good_rising, string_lengths_lem, Rising}
use Rattle.layer.specs.LaidOut.{moved_written, three_blocks}
use Rattle.layer.specs.Layered.{TotalsFit, room_left, plan_of, layer_by, layer_records, layer_ok, LayerSizes, LayerFits, layer_ok_lem, layer_refused}
use Rattle.layer.specs.Walked.{WalkRoom, WalkMade}

-- The layer and the nodes where they belong. What stands behind the strings is not said.
pub record LayerMade (out strs out' strs' : List ℕ) (at base : ℕ) (r : Grafted) (g : With (List SourceNode)) : Type 0 where
  pub wrote : out' ≡ overwrite out at (layer_records g)
  pub bytes : take (base + length (flatten g.1.interner.strings)) strs' ≡ take base strs ++ flatten g.1.interner.strings
  pub len : r.len ≡ length (layer_bytes (layer_of g.1))
  pub strings : r.strings ≡ length g.1.interner.strings
  pub contents : r.contents ≡ length g.1.contents
  pub segments : r.segments ≡ length g.1.segments
  pub stats : stats_of r.state.stats ≡ g.1.interner.stats
  pub used : r.state.used ≡ base + length (flatten g.1.interner.strings)

pub record LayerTold (out strs out' strs' : List ℕ) (at base : ℕ) (o : Totals) (r : Option Grafted) (g : With (List SourceNode)) : Type 0 where
  pub room : is_some r ≡ layer_ok (length out) (length strs) at base o g
  pub made : (l : Grafted) → r ≡ Some l → LayerMade out strs out' strs' at base l g

-- What `finish` answers: whether the strings and their records have room, and if so the layer as it was laid out.
abbrev pub strings_fit : ℕ → ℕ → ℕ → Bool
strings_fit below count left = leb (below + count) max_pool && leb (5 * count) left

pub record Finished (work : List ℕ) (below at len rest : ℕ) (m : Mark) (out out' : List ℕ) (r : Option Grafted) : Type 0 where
  pub room : is_some r ≡ strings_fit below m.state.count (length out - at - len - rest)
  pub is : (l : Grafted) → r ≡ Some l → l ≡ layer_by m (len + 5 * m.state.count)
  pub wrote : is_some r ≡ true → out' ≡ overwrite out at (2 ∷ (records_bytes string_codec (new_lengths work m.state.count) ++ take (len - 1 + rest) (drop (at + 1) out)))

pub finish_refused : {work : List ℕ} {below at len rest : ℕ} {m : Mark} {out out' : List ℕ} {x : Bool} → x ≡ strings_fit below m.state.count (length out - at - len - rest) → x ≡ false
    → Finished work below at len rest m out out' None
finish_refused e f = record { room = sym f ∙ e; is = λ l o. absurd (none-some l o); wrote = λ o. absurd (true≢false (sym o)) }

pub finish_made : {work : List ℕ} {below at len rest : ℕ} {m : Mark} {out out' : List ℕ} {x : Bool} → x ≡ strings_fit below m.state.count (length out - at - len - rest) → x ≡ true
    → out' ≡ overwrite out at (2 ∷ (records_bytes string_codec (new_lengths work m.state.count) ++ take (len - 1 + rest) (drop (at + 1) out)))
    → Finished work below at len rest m out out' (Some (layer_by m (len + 5 * m.state.count)))
finish_made {len = len} {m = m} e f w = record { room = sym f ∙ e; is = λ l o. sym (same_Some (layer_by m (len + 5 * m.state.count)) l o); wrote = λ _. w }

pub strings_room : (below count left : ℕ) {x : Bool} → x ≡ strings_fit below count left → x ≡ true → (below + count ≤ max_pool) × (5 * count ≤ left)
strings_room below count left e f =
    let u = both (leb (below + count) max_pool) (leb (5 * count) left) (sym e ∙ f) in
    (leb-true (below + count) max_pool u.0, leb-true (5 * count) left u.1)

-- ---- sizes

fits_where : (m : Room) (a : Added) → a.contents ≤ m.contents → a.segments ≤ m.segments → fits m a ≡ true
unfolding fits
fits_where m a h k = rw (le-leb a.contents m.contents h, le-leb a.segments m.segments k) refl

pub record Exact (m : Room) (a : Added) (s : Sizes) : Type 0 where
  pub contents : s.contents ≡ a.contents
  pub segments : s.segments ≡ a.segments
  pub calls : s.calls ≡ a.calls
  pub contents_fit : a.contents ≤ m.contents
  pub segments_fit : a.segments ≤ m.segments

module _ (m : Room) (a : Added) {r : Option Sizes} (e : r ≡ sizes_in m a) where
  pub is_over_lem : r ≡ None → fits m a ≡ false
  unfolding sizes_in
  is_over_lem n = by_bool (fits m a) (λ y. let q : None ≡ Some (record { contents = a.contents; segments = a.segments; calls = a.calls }) = sym n ∙ e ∙ rw y refl in cc) (λ y. y)

  pub sizes_exact : {s : Sizes} → r ≡ Some s → Exact m a s
  unfolding sizes_in
  sizes_exact {s} x =
      let h : fits m a ≡ true = by_bool (fits m a) (λ y. y) (λ y. let q : Some s ≡ None = sym x ∙ e ∙ rw y refl in cc) in
      let r = fits_room_lem m a h in
      let q : Some s ≡ Some (record { contents = a.contents; segments = a.segments; calls = a.calls }) = sym x ∙ e ∙ rw h refl in
      record { contents = cc; segments = cc; calls = cc; contents_fit = r.0; segments_fit = r.1 }

-- as `reading_sizes` answers in the room that is left
pub left_sizes : (o : Totals) (a : Added) {m : Room} {s : Option Sizes} → m ≡ room_left o → s ≡ sizes_in m a → s ≡ sizes_in (room_left o) a
left_sizes o a {m} e f = f ∙ ap (λ (x : Room). sizes_in x a) e

pub left_limited : {m : Room} (o : Totals) {nodes : ℕ} → m ≡ room_left o → nodes ≤ max_list → Limited m nodes
left_limited o e h = record { contents = omega (arith, ap (λ (x : Room). x.contents) e); segments = omega (arith, ap (λ (x : Room). x.segments) e); few = h }

-- ---- refusals

module _ (out strs : List ℕ) (at base : ℕ) (o : Totals) (small : TotalsFit o) (g : With (List SourceNode)) {a : Added} {nodes : ℕ} (z : LayerSizes g a nodes) where
  abbrev Fits : Type 0
  Fits = LayerFits (length out) (length strs) at base o g

  abbrev Told : List ℕ → List ℕ → Option Grafted → Type 0
  Told out' strs' r = LayerTold out strs out' strs' at base o r g

  none_fits : {out' strs' : List ℕ} → (Fits → ⊥) → Told out' strs' None
  none_fits h = record { room = layer_refused (length out) (length strs) at base o g h; made = λ l e. absurd (none-some l e) }

  -- a pool would pass number 3's limit
  pub pools_refused : {out' strs' : List ℕ} {s : Option Sizes} → s ≡ sizes_in (room_left o) a → s ≡ None → Told out' strs' None
  pools_refused e x =
      none_fits (λ f. true≢false (sym (fits_where (room_left o) a (omega (arith, f.contents, z.contents)) (omega (arith, f.segments, z.segments))) ∙ is_over_lem (room_left o) a e x))

  -- the strings have no room
  pub walk_refused : {out' strs' : List ℕ} → false ≡ has_room (length strs) base g.1.interner → Told out' strs' None
  unfolding has_room
  walk_refused e = none_fits (λ f. true≢false (
      sym (rw (le-leb (length g.1.interner.strings) max_new_strings f.few, le-leb (base + length (flatten g.1.interner.strings)) (length strs) f.bytes) refl) ∙ sym e))

  -- ---- where the sizes are known

  module _ {s : Sizes} (k : Exact (room_left o) a s) (len rest : ℕ) (e : len ≡ 1 + 10 * s.contents + 37 * s.segments) (f : rest ≡ 49 * nodes) where
    -- the tape is too short without the strings' records
    pub tape_refused : {out' strs' : List ℕ} → length out - at < len + rest → Told out' strs' None
    tape_refused h = none_fits (λ q. omega (arith, q.tape, z.bytes, k.contents, k.segments, e, f, h))

    module _ (h : at + len + rest ≤ length out) where
      pub walk_room : s.calls < 2 ^ 32 → WalkRoom (plan_of o at s.contents) (at + len) nodes (length out) a
      walk_room v = record {
        contents = omega (arith, k.contents);
        segments = omega (arith, e, k.segments);
        records = omega (arith, f, h);
        content_numbers = omega (arith, small.contents, k.contents_fit);
        segment_numbers = omega (arith, small.segments, k.segments_fit);
        string_numbers = omega (arith, small.strings);
        calls = omega (arith, v, k.calls);
      }

      module _ {out₁ work₁ strs₁ : List ℕ} {m : Mark} (w : WalkMade (plan_of o at s.contents) base (at + len) out strs out₁ work₁ strs₁ m g) where
        abbrev strings : List (List ℕ)
        strings = g.1.interner.strings

        same_strings : (state_of work₁ strs₁ m.state).strings ≡ strings
        same_strings = ap (λ (x : StrInterner). x.strings) w.state

        count : m.state.count ≡ length strings
        count = sym (count_is work₁ strs₁ m.state w.good) ∙ ap length same_strings

        -- the bytes of the strings stand from `base` on
        strings_laid : take m.state.used strs₁ ≡ take base strs₁ ++ flatten strings
        strings_laid = w.good.laid ∙ ap₂ (λ (n : ℕ) (l : List (List ℕ)). take n strs₁ ++ flatten l) w.begins same_strings

        strings_end_lem : base + length (flatten strings) ≡ m.state.used
        strings_end_lem =
            let q = w.good in
            let b = w.begins in
            omega (arith, ap length strings_laid, length-append (take base strs₁) (flatten strings), length-take-le m.state.used strs₁ q.fits, length-take-le base strs₁ (omega (arith, q.fits, q.begins, b)), q.begins, b)

        strings_there : take (base + length (flatten strings)) strs₁ ≡ take base strs ++ flatten strings
        strings_there = ap (λ (i : ℕ). take i strs₁) strings_end_lem ∙ strings_laid ∙ ap (λ (l : List ℕ). l ++ flatten strings) w.kept

        one_run : out₁ ≡ overwrite out (at + 1) (records_bytes content_codec g.1.contents ++ (records_bytes segment_codec g.1.segments ++ records_bytes node_codec g.0))
        one_run =
            w.wrote ∙ three_blocks out (at + 1) (records_bytes content_codec g.1.contents) (records_bytes segment_codec g.1.segments) (records_bytes node_codec g.0)
            (omega (arith, z.content_bytes, z.segment_bytes, z.node_bytes, k.contents, k.segments, e, f, h)) (at + 1 + 10 * s.contents) (at + len)
            (omega (arith, z.content_bytes, k.contents)) (omega (arith, z.segment_bytes, k.contents, k.segments, e))

        -- what `finish` asks
        pub finish_room : length out₁ ≡ length out → Rising work₁ m.state.count × (m.state.count ≤ max_new_strings) × (at + len + rest ≤ length out₁)
        finish_room l = (good_rising w.good, w.good.words.few, omega (arith, h, l))

        module _ {out₂ : List ℕ} {r : Option Grafted} (l : length out₁ ≡ length out) (q : Finished work₁ o.strings at len rest m out₁ out₂ r) where
          left : length out₁ - at - len - rest ≡ length out - (at + len + rest)
          left = omega (arith, l)

          fit : is_some r ≡ true → (o.strings + m.state.count ≤ max_pool) × (5 * m.state.count ≤ length out - (at + len + rest))
          fit x = rw left at (strings_room o.strings m.state.count (length out₁ - at - len - rest) q.room x)

          all_written : is_some r ≡ true → out₂ ≡ overwrite out at (layer_records g)
          unfolding layer_records layer_bytes layer_of
          all_written x =
              let rs = records_bytes string_codec (map length strings) in
              let cs = records_bytes content_codec g.1.contents in
              let ss = records_bytes segment_codec g.1.segments in
              let ns = records_bytes node_codec g.0 in
              let b : records_bytes string_codec (new_lengths work₁ m.state.count) ≡ rs = ap (records_bytes string_codec) (sym (string_lengths_lem w.good) ∙ ap (map length) same_strings) in
              let c : length rs ≡ 5 * m.state.count = ap length (sym b) ∙ lengths_width work₁ m.state.count in
              let y : length (cs ++ (ss ++ ns)) ≡ len - 1 + rest = omega (arith, length-append cs (ss ++ ns), length-append ss ns, z.content_bytes, z.segment_bytes, z.node_bytes, k.contents, k.segments, e, f) in
              moved_written out at rs (cs ++ (ss ++ ns)) (omega (arith, c, y, e, h, (fit x).1)) (len - 1 + rest) 2 (sym y) one_run
              (q.wrote x ∙ ap (λ (v : List ℕ). overwrite out₁ at (2 ∷ (v ++ take (len - 1 + rest) (drop (at + 1) out₁)))) b)
              ∙ ap (λ (v : List ℕ). overwrite out at (2 ∷ v)) (parted rs cs ss ns)

          strings_full : is_some r ≡ false → Fits → ⊥
          strings_full x y = true≢false (
              sym (
              rw (
                le-leb (o.strings + m.state.count) max_pool (omega (arith, y.strings, count)),
                le-leb (5 * m.state.count) (length out₁ - at - len - rest) (omega (arith, left, y.tape, z.bytes, e, f, k.contents, k.segments, count)),
              ) refl)
              ∙ sym q.room ∙ x)

          finish_fits : has_room (length strs) base g.1.interner ≡ true → is_some r ≡ true → Fits
          unfolding has_room
          finish_fits room x =
              let u = both (leb (length strings) max_new_strings) (leb (base + length (flatten strings)) (length strs)) room in
              record {
                few = leb-true (length strings) max_new_strings u.0;
                strings = omega (arith, count, (fit x).0);
                contents = omega (arith, z.contents, k.contents_fit, small.contents);
                segments = omega (arith, z.segments, k.segments_fit, small.segments);
                tape = omega (arith, z.bytes, count, (fit x).1, k.contents, k.segments, e, f, h);
                bytes = leb-true (base + length (flatten strings)) (length strs) u.1;
              }

          layer_made : (v : Grafted) → r ≡ Some v → LayerMade out strs out₂ strs₁ at base v g
          layer_made v x =
              let i = q.is v x in
              record {
                wrote = all_written (ap is_some x);
                bytes = strings_there;
                len = ap (λ (v : Grafted). v.len) i ∙ omega (arith, e, z.layer, count, k.contents, k.segments);
                strings = ap (λ (v : Grafted). v.strings) i ∙ count;
                contents = ap (λ (v : Grafted). v.contents) i ∙ w.contents;
                segments = ap (λ (v : Grafted). v.segments) i ∙ w.segments;
                stats = ap (λ (v : Grafted). stats_of v.state.stats) i ∙ ap (λ (v : StrInterner). v.stats) w.state;
                used = ap (λ (v : Grafted). v.state.used) i ∙ sym strings_end_lem;
              }

          -- the walk is done, and `finish` has answered
          pub layer_told : has_room (length strs) base g.1.interner ≡ true → Told out₂ strs₁ r
          layer_told room =
              by_bool (is_some r)
              (λ x. record { room = x ∙ layer_ok_lem (length out) (length strs) at base o g (finish_fits room x); made = layer_made })
              (λ x. record { room = x ∙ layer_refused (length out) (length strs) at base o g (strings_full x); made = λ v e. absurd (true≢false (sym (ap is_some e) ∙ x)) })
