-- What `estimate` answers, and the laws for its returns.
use Rattle.std.specs.Prelude.{◌≡◌, refl, ℕ, ◌+◌, ◌≤◌, ◌<◌, true, cond, List, ◌++◌, leb, ltb, Option, Some, None}
use Rattle.std.proofs.Math.Path.{sym, ap}
use Rattle.std.proofs.Common.{◌∙◌, arith}
use Rattle.std.proofs.Math.ListN.{length, length-append}
use borrow.Author.Tests.{leb-true, leb-false, lt-ltb, le-ltb}
use Rattle.model.specs.Limits.{max_pool}
use Rattle.model.specs.Types.{LexOutput, RegionOutput}
use Rattle.model.specs.Refusal.{Checked, Checked.refused, Checked.accepted, ◌>>=◌}
use Rattle.model.specs.Tree.{shown_nodes}
use Rattle.model.specs.Graft.{layered, graft_node_refs}
use Rattle.model.specs.Region.{Edit, edited}
use Rattle.model.specs.Merge.{Stored, MergeWindow, fitted, merged_book, merged_normalized, grafted}
use Rattle.model.specs.Estimate.{Estimate, over, is_over, length_before, price_of, estimate}
use Rattle.facts.specs.Truth.{by_bool}
use Rattle.laws.specs.Parts.{strings_bytes}
use Rattle.refusal.specs.Refusal.{checked_map}
use Rattle.places.specs.declared.Places.{Places}
use Rattle.sizes.specs.declared.Room.{Room}
use Rattle.sizes.specs.declared.Sizes.{Sizes}
use Rattle.sizes.specs.Added.{Added}
use Rattle.sizes.specs.Capped.{fits, sizes_in}
use Rattle.sizes.specs.Trees.{nodes_size, node_refs_grow}
use Rattle.sizes.specs.Calls.{Limited}
use Rattle.merged_lists.specs.declared.Lengths.{Lengths}
use Rattle.merged_lists.specs.Sizes.{lengths_of}
use Rattle.tape.specs.StringBytes.{book_of}
use Rattle.tape.specs.declared.book.Book.{Book}
use Rattle.edit.specs.Values.{edit_value}
use Rattle.splice.specs.Window.{window_value}
use Rattle.fitting.specs.declared.merging.Merging.{Merging}
use Rattle.fitting.specs.Fits.{Fits}
use Rattle.fitting.specs.Inside.{lengths_read, limits_read}
use Rattle.result.specs.Whole.{base_is}
use Rattle.fitting.specs.Stages.{MergingOf, merging_fitted}
use Rattle.estimate.specs.declared.Price.{Price}

-- ---- the answer

abbrev pub price_value : Estimate → Price
price_value p = record { reread = p.reparsed_nodes; calls = p.calls; contents = p.contents; segments = p.segments; bytes = p.byte_length }

-- Document 01's number, or what is told.
abbrev pub estimate_of : Checked Estimate → Checked Price
estimate_of = checked_map price_value

-- ---- the three counts

abbrev pub over_price : ℕ → ℕ → Price
over_price reread bytes = record { reread = reread; calls = over; contents = over; segments = over; bytes = bytes }

unfoldable pub price_by : ℕ → Option Sizes → ℕ → Price
price_by reread None bytes = over_price reread bytes
price_by reread (Some s) bytes =
    cond (ltb max_pool s.calls) (over_price reread bytes) (record { reread = reread; calls = s.calls; contents = s.contents; segments = s.segments; bytes = bytes })

module _ (reread bytes : ℕ) where
  pub over_sizes_lem : (o : Option Sizes) {r : Price} → ((s : Sizes) → o ≡ Some s → ⊥) → r ≡ over_price reread bytes → r ≡ price_by reread o bytes
  unfolding price_by
  over_sizes_lem None n q = q
  over_sizes_lem (Some s) n q = absurd (n s refl)

  module _ {o : Option Sizes} {s : Sizes} (is : o ≡ Some s) where
    pub over_calls : {r : Price} → max_pool < s.calls → r ≡ over_price reread bytes → r ≡ price_by reread o bytes
    unfolding price_by
    over_calls k q = q ∙ sym (rw (is, lt-ltb max_pool s.calls k) refl)

    pub not_over : s.calls ≤ max_pool → ◌≡◌ {A = Price} (record { reread = reread; calls = s.calls; contents = s.contents; segments = s.segments; bytes = bytes }) (price_by reread o bytes)
    unfolding price_by
    not_over k = sym (rw (is, le-ltb max_pool s.calls k) refl)

-- as much as a pool may hold
abbrev pool : Room
pool = record { contents = max_pool; segments = max_pool }

-- all three over, or none
abbrev three_of : ℕ → ℕ → ℕ → ℕ → ℕ → Estimate
three_of reread calls contents segments bytes =
    let all = is_over calls contents segments in
    record { reparsed_nodes = reread; calls = cond all over calls; contents = cond all over contents; segments = cond all over segments; byte_length = bytes }

sizes_told : (a : Added) (reread bytes : ℕ) {s : Option Sizes} → s ≡ sizes_in pool a → price_by reread s bytes ≡ price_value (three_of reread a.calls a.contents a.segments bytes)
unfolding price_by sizes_in fits is_over
sizes_told a reread bytes e =
    by_bool (leb a.calls max_pool)
    (λ x.
    let i = le-ltb max_pool a.calls (leb-true a.calls max_pool x) in
    by_bool (leb a.contents max_pool)
    (λ y.
    let j = le-ltb max_pool a.contents (leb-true a.contents max_pool y) in
    by_bool (leb a.segments max_pool)
    (λ z. let k = le-ltb max_pool a.segments (leb-true a.segments max_pool z) in rw (e, y, z, i, j, k) refl)
    (λ z. let k = lt-ltb max_pool a.segments (leb-false a.segments max_pool z) in rw (e, y, z, i, j, k) refl))
    (λ y. let j = lt-ltb max_pool a.contents (leb-false a.contents max_pool y) in rw (e, y, i, j) refl))
    (λ x.
    let i = lt-ltb max_pool a.calls (leb-false a.calls max_pool x) in
    by_bool (leb a.contents max_pool)
    (λ y.
    by_bool (leb a.segments max_pool)
    (λ z. rw (e, y, z, i) refl)
    (λ z. rw (e, y, z, i) refl))
    (λ y. rw (e, y, i) refl))

-- ---- the price

unfoldable pub price_in : LexOutput → Edit → RegionOutput → MergeWindow → Estimate
price_in old e reading w = price_of old e reading w (grafted old reading)

module _ {book : Book} {e : Edit} {w : MergeWindow} {reading : Book} (b : Fits book e w reading) where
  abbrev q : Places
  q = reading.places

  abbrev old : LexOutput
  old = book_of book

  abbrev read : RegionOutput
  read = book_of reading

  pub nodes_few : q.nodes.count ≤ 262143
  nodes_few = let n = lengths_read b in let l = limits_read b in omega (arith, n.nodes, l.source_nodes)

  pub sizes_ready : Limited pool q.nodes.count
  sizes_ready = record { contents = omega arith; segments = omega arith; few = nodes_few }

  pub priced : {s : Option Sizes} → s ≡ sizes_in pool (nodes_size (shown_nodes read)) → {l : Lengths}
      → l ≡ lengths_of book.places q e.start e.end (length e.replacement) w.normalized.start w.normalized.end (length book.bytes.now) → {r : Price}
      → r ≡ price_by q.nodes.count s l.base → r ≡ price_value (price_in old e read w)
  unfolding price_in price_of grafted layered length_before merged_book
  priced f {l} z h =
      let a = nodes_size (shown_nodes read) in
      let k = node_refs_grow (shown_nodes read) (layered old.layers) in
      let n = sym (lengths_read b).nodes in
      let c₁ : a.calls ≡ (graft_node_refs (shown_nodes read) (layered old.layers)).1.interner.stats.calls = omega (arith, k.calls) in
      let c₂ : a.contents ≡ length (graft_node_refs (shown_nodes read) (layered old.layers)).1.contents = omega (arith, k.contents) in
      let c₃ : a.segments ≡ length (graft_node_refs (shown_nodes read) (layered old.layers)).1.segments = omega (arith, k.segments) in
      let x = length-append (edited old.sanitized e) (merged_normalized w old read) in
      let y = length-append (edited old.sanitized e ++ merged_normalized w old read) (strings_bytes old) in
      let i = base_is b z in
      let m : l.base ≡ length (edited old.sanitized e) + length (merged_normalized w old read) + length (strings_bytes old) = omega (arith, x, y, i) in
      h ∙ sizes_told a q.nodes.count l.base f ∙ (λ j. price_value (three_of (n j) (c₁ j) (c₂ j) (c₃ j) (m j)))

-- ---- 1 to 17, then the price

module _ (s : Stored) (e : Edit) (rs : Stored) where
  pub estimate_none : {n : ℕ} → fitted s e rs ≡ refused n → refused n ≡ estimate_of (estimate s e rs)
  unfolding estimate ◌>>=◌
  estimate_none f = rw f refl

  pub estimate_some : {m : Merging} → MergingOf s e rs m → {r : Price} → r ≡ price_value (price_in (book_of m.book) (edit_value m.edit) (book_of m.reading) (window_value m.window))
      → accepted r ≡ estimate_of (estimate s e rs)
  unfolding estimate ◌>>=◌ price_in
  estimate_some o q =
      let q' = rw o.edit at q in
      ap {B = Checked Price} accepted q' ∙ sym (rw (merging_fitted o) refl)
