-- Number 18 by what the code has counted and written, and the merged book where it stands.
use Rattle.std.specs.Prelude.{◌≡◌, ℕ, ◌+◌, ◌*◌, ◌≤◌, Bool, take}
use Rattle.std.proofs.Math.Path.{refl, sym, ap}
use Rattle.std.proofs.Common.{◌∙◌, subst, arith, true≢false, length-drop, zero-add}
use Rattle.std.proofs.Math.Bool.{true, false}
use mathlib.Core.List.{List, [], ◌∷◌, ◌++◌, append_assoc, map}
use Rattle.std.proofs.Math.ListN.{length, drop, length-append}
use Rattle.std.proofs.Math.Dec.{leb}
use Rattle.std.proofs.Math.Seq.{length-take-le, drop_at}
use borrow.Author.Tests.{leb-false}
use Rattle.model.specs.Lists.{all, sum, is_empty}
use Rattle.model.specs.Limits.{max_pool, max_layers, max_new_strings}
use Rattle.model.specs.Types.{Layer as ModelLayer, SourceNode, LexOutput, RegionOutput}
use Rattle.model.specs.Refusal.{Checked.refused, Checked.accepted}
use Rattle.model.specs.Tree.{shown_node, shown_nodes}
use Rattle.model.specs.Store.{store_of, string_counts, content_counts, segment_counts}
use Rattle.model.specs.Tape.{records_at, records_bytes, node_codec, pair_codec, container_codec, diagnostic_codec, layer_bytes, places, book_at, tape_of, bytes_of}
use Rattle.model.specs.Graft.{layered, layer_of, With, graft_node_refs}
use Rattle.model.specs.Region.{Edit}
use Rattle.model.specs.Merge.{Room, MergeWindow, window_of, spliced, node_located, pair_located, container_located, diagnostic_located, grafted, merged_book, stored_book, answer, result_ok, result_checked}
use Rattle.facts.specs.Truth.{by_bool}
use Rattle.laws.specs.Result.{ResultFacts, result_facts, result_ok_lem}
use Rattle.laws.specs.Checks.{merge_facts, merged_of}
use Rattle.laws.specs.Fits.{record_fits}
use Rattle.laws.specs.WriteRead.{book_fits}
use Rattle.laws.specs.Parts.{six_words, nodes_width, nodes_six, head_bytes, head_length, layers_bytes, strings_bytes, list_bytes, tape_parts, list_length}
use Rattle.laws.specs.Sort.{all_sort_is}
use Rattle.laws.specs.Records.{node_lawful, records_stand}
use Rattle.commute.specs.Step.{Step, limits}
use Rattle.commute.specs.Grown.{grown}
use Rattle.commute.specs.Book.{merged_book_lem}
use Rattle.wire.specs.Overwrite.{overwrite, length_overwrite, overwrite_next, take_overwrite}
use Rattle.places.specs.declared.Places.{Places}
use Rattle.places.specs.Found.{found}
use Rattle.store.specs.declared.Store.{Store}
use Rattle.store.specs.Stored.{store_at}
use Rattle.splice.specs.Spliced.{spliced_length}
use Rattle.diagnostics.specs.Sorted.{sort_length}
use Rattle.store.specs.declared.Totals.{Totals}
use Rattle.layer.specs.Layered.{Above, layer_records, layer_fits_lem, layer_ok_lem}
use Rattle.wire.specs.Apart.{overwrite_covered}
use Rattle.merged_lists.specs.declared.Kept.{Kept}
use Rattle.merged_lists.specs.declared.Lengths.{Lengths}
use Rattle.result.specs.Checked.{result_cond, merge_passed}
use Rattle.result.specs.Parts.{new_layer_bytes, new_string_bytes, if_layer, merged_layers_lem, merged_count, merged_number, old_layers_length, old_strings_lem}
use Rattle.merged_lists.specs.Widths.{grafted_six, length_grafted, spliced_six}
use Rattle.tape.specs.Held.{held_nodes, held_pairs, held_diagnostics}
use Rattle.tape.specs.StringBytes.{book_of}
use Rattle.tape.specs.declared.book.Book.{Book}
use Rattle.fitting.specs.Fits.{Fits}
use Rattle.fitting.specs.Inside.{chosen, begun, lengths_old, lengths_read, limits_old, limits_read}
use Rattle.result.specs.Books.{merge_of, old_fits_lem, reading_fits_lem, text_length_lem, normalized_length_lem, new_bytes}
use Rattle.merged_lists.specs.Sizes.{sides_of, kept_of, total_of, lengths_of, lists_end, RoomFor}
use Rattle.merged_lists.specs.Lists.{lists_of, old_diagnostics}
use Rattle.result.specs.Grafting.{graft_ok}

containers_found : (t d : List ℕ) {p : Places} → p ≡ found t → records_at container_codec t p.containers.at p.containers.count ≡ (book_at t (places t) d).container_pairs
unfolding book_at found
containers_found t d e = rw e refl

module _ {book : Book} {e : Edit} {w : MergeWindow} {reading : Book} (b : Fits book e w reading) where
  abbrev t : List ℕ
  t = book.tape.now

  abbrev d : List ℕ
  d = book.bytes.now

  abbrev p : Places
  p = book.places

  abbrev st : Store
  st = book.store

  abbrev rt : List ℕ
  rt = reading.tape.now

  abbrev q : Places
  q = reading.places

  abbrev old : LexOutput
  old = book_of book

  abbrev read : RegionOutput
  read = book_of reading

  abbrev g : With (List SourceNode)
  g = grafted old read

  abbrev new : LexOutput
  new = merge_of old e read w

  abbrev none : Bool
  none = is_empty read.source_nodes

  -- ---- the lists by their places

  pub kept_nodes : records_at node_codec t p.nodes.at p.nodes.count ≡ old.source_nodes
  kept_nodes = held_nodes book.held

  kept_pairs : records_at pair_codec t p.pairs.at p.pairs.count ≡ old.pairs
  kept_pairs = held_pairs book.held

  kept_containers : records_at container_codec t p.containers.at p.containers.count ≡ old.container_pairs
  kept_containers = containers_found t book.bytes.now book.held.is

  kept_diagnostics : records_at diagnostic_codec t p.diagnostics.at p.diagnostics.count ≡ old.diagnostics
  kept_diagnostics = held_diagnostics book.held

  read_pairs : records_at pair_codec rt q.pairs.at q.pairs.count ≡ read.pairs
  read_pairs = held_pairs reading.held

  read_containers : records_at container_codec rt q.containers.at q.containers.count ≡ read.container_pairs
  read_containers = containers_found rt reading.bytes.now reading.held.is

  read_diagnostics : records_at diagnostic_codec rt q.diagnostics.at q.diagnostics.count ≡ read.diagnostics
  read_diagnostics = held_diagnostics reading.held

  -- ---- how many, and the tape up to the lists

  abbrev o : Totals
  o = st.totals

  pub above : Above o old.layers
  unfolding store_at found
  above =
      let n = lengths_old b in
      let s₁ : st.totals.strings ≡ p.strings = ap (λ (x : Store). x.totals.strings) book.held.stored ∙ sym (ap (λ (x : Places). x.strings) book.held.is) in
      let s₂ : st.totals.contents ≡ p.contents = ap (λ (x : Store). x.totals.contents) book.held.stored ∙ sym (ap (λ (x : Places). x.contents) book.held.is) in
      let s₃ : st.totals.segments ≡ p.segments = ap (λ (x : Store). x.totals.segments) book.held.stored ∙ sym (ap (λ (x : Places). x.segments) book.held.is) in
      record { strings = s₁ ∙ sym n.strings; contents = s₂ ∙ sym n.contents; segments = s₃ ∙ sym n.segments }

  pub node_bytes_lem : length (records_bytes node_codec g.0) ≡ 49 * q.nodes.count
  node_bytes_lem = let m = lengths_read b in nodes_width g.0 (grafted_six old read) ∙ ap (λ (n : ℕ). 49 * n) (length_grafted old read ∙ m.nodes)

  new_six : all six_words new.source_nodes ≡ true
  unfolding merged_book
  new_six = spliced_six w old.source_nodes g.0 (subst (λ (ns : List SourceNode). all six_words ns ≡ true) kept_nodes (nodes_six t p.nodes.at p.nodes.count)) (grafted_six old read)

  -- head and layers
  abbrev pub up_to : List ℕ
  up_to = head_bytes (length new.sanitized) (length new.normalized) ++ layers_bytes old ++ new_layer_bytes none g.1

  pub new_tape : tape_of new ≡ up_to ++ list_bytes new
  unfolding merged_book
  new_tape =
      let h = head_bytes (length new.sanitized) (length new.normalized) in
      tape_parts new ∙ ap (λ (l : List ℕ). h ++ (l ++ list_bytes new)) (merged_layers_lem old read g.1)
      ∙ sym (append_assoc h (layers_bytes old ++ new_layer_bytes none g.1) (list_bytes new))
      ∙ ap (λ (l : List ℕ). l ++ list_bytes new) (sym (append_assoc h (layers_bytes old) (new_layer_bytes none g.1)))

  pub up_to_length : length up_to ≡ p.nodes.at + length (new_layer_bytes none g.1)
  up_to_length =
      let h = head_bytes (length new.sanitized) (length new.normalized) in
      let n₀ = head_length (length new.sanitized) (length new.normalized) in
      let n₁ = old_layers_length b.bytes book.held.accepted book.held.is in
      let n₂ = length-append h (layers_bytes old) in
      let n₃ = length-append (h ++ layers_bytes old) (new_layer_bytes none g.1) in
      omega (arith, n₀, n₁, n₂, n₃)

  module _ {l : Lengths} (sizes : l ≡ lengths_of p q e.start e.end (length e.replacement) w.normalized.start w.normalized.end (length d)) where
    pub text_is : l.text ≡ length new.sanitized
    text_is = ap (λ (x : Lengths). x.text) sizes ∙ sym (text_length_lem b)

    pub normalized_is : l.normalized ≡ length new.normalized
    normalized_is = ap (λ (x : Lengths). x.normalized) sizes ∙ sym (normalized_length_lem b)

    pub base_is : l.base ≡ length (new.sanitized ++ new.normalized ++ strings_bytes old)
    base_is =
        let n₁ = length-append new.sanitized new.normalized in
        let n₂ = length-append (new.sanitized ++ new.normalized) (strings_bytes old) in
        let n₃ = ap length (sym (old_strings_lem b.bytes book.held.accepted book.held.is)) ∙ length-drop (p.text.0 + p.normalized.0) d in
        ap (λ (x : Lengths). x.base) sizes ∙ omega (arith, n₁, n₂, n₃, text_length_lem b, normalized_length_lem b)

    pub bytes_length : length (bytes_of new) ≡ l.base + length (new_string_bytes none g.1)
    bytes_length = ap length (new_bytes b) ∙ length-append (new.sanitized ++ new.normalized ++ strings_bytes old) (new_string_bytes none g.1) ∙ ap (λ (n : ℕ). n + length (new_string_bytes none g.1)) (sym base_is)

  module _ {k : Kept} (kept : k ≡ kept_of w t p) where
    -- how long the new lists are
    pub nodes_length : length new.source_nodes ≡ total_of k.nodes q.nodes.count
    unfolding merged_book kept_of
    nodes_length =
        let m = lengths_read b in
        rw (kept, kept_nodes) (spliced_length node_codec node_located w old.source_nodes g.0 ∙ ap (total_of (sides_of node_located w old.source_nodes)) (length_grafted old read ∙ m.nodes))

    pub pairs_length : length new.pairs ≡ total_of k.pairs q.pairs.count
    unfolding merged_book kept_of
    pairs_length =
        let m = lengths_read b in
        rw (kept, kept_pairs) (spliced_length pair_codec pair_located w old.pairs read.pairs ∙ ap (total_of (sides_of pair_located w old.pairs)) m.pairs)

    pub containers_length : length new.container_pairs ≡ total_of k.containers q.containers.count
    unfolding merged_book kept_of
    containers_length =
        let m = lengths_read b in
        rw (kept, kept_containers) (spliced_length container_codec container_located w old.container_pairs read.container_pairs ∙ ap (total_of (sides_of container_located w old.container_pairs)) m.containers)

    pub diagnostics_length : length new.diagnostics ≡ total_of k.diagnostics q.diagnostics.count
    unfolding merged_book kept_of
    diagnostics_length =
        let m = lengths_read b in
        rw (kept, kept_diagnostics)
        (sort_length (spliced diagnostic_located w old.diagnostics read.diagnostics) ∙ spliced_length diagnostic_codec diagnostic_located w old.diagnostics read.diagnostics ∙ ap (total_of (sides_of diagnostic_located w old.diagnostics)) m.diagnostics)

    -- ---- the tape's length

    pub tape_length_lem : {at : ℕ} → at ≡ length up_to → length (tape_of new) ≡ lists_end at k q
    unfolding lists_end
    tape_length_lem {at} x =
        let n = list_length new new_six in
        ap length new_tape ∙ length-append up_to (list_bytes new) ∙ omega (arith, x, n, nodes_length, pairs_length, containers_length, diagnostics_length)

    module _ {l : Lengths} (sizes : l ≡ lengths_of p q e.start e.end (length e.replacement) w.normalized.start w.normalized.end (length d)) where
      -- ---- number 18, from the result to the code's tests

      module _ (room : Room) where
        pub needed_room : ResultFacts room g new → RoomFor l k q p.nodes.at room.tape_bytes room.text_bytes room.work_words
        unfolding lists_end
        needed_room f = record {
          work = f.work;
          normalized = omega (arith, normalized_is sizes, f.limits.normalized);
          base = omega (arith, bytes_length sizes, f.bytes);
          nodes_at = let n = tape_length_lem refl in omega (arith, n, up_to_length, f.tape);
          nodes = omega (arith, nodes_length, f.limits.source_nodes);
          pairs = omega (arith, pairs_length, f.limits.pairs);
          containers = omega (arith, containers_length, f.limits.container_pairs);
          diagnostics = omega (arith, diagnostics_length, f.limits.diagnostics);
        }

        strings_count : sum (string_counts new.layers) ≡ o.strings + if_layer none (length g.1.interner.strings)
        unfolding merged_book layer_of string_counts
        strings_count = merged_count old read g.1 (λ (x : ModelLayer). length x.strings) ∙ ap (λ (n : ℕ). n + if_layer none (length g.1.interner.strings)) (sym above.strings)

        contents_count : sum (content_counts new.layers) ≡ o.contents + if_layer none (length g.1.contents)
        unfolding merged_book layer_of content_counts
        contents_count = merged_count old read g.1 (λ (x : ModelLayer). length x.contents) ∙ ap (λ (n : ℕ). n + if_layer none (length g.1.contents)) (sym above.contents)

        segments_count : sum (segment_counts new.layers) ≡ o.segments + if_layer none (length g.1.segments)
        unfolding merged_book layer_of segment_counts
        segments_count = merged_count old read g.1 (λ (x : ModelLayer). length x.segments) ∙ ap (λ (n : ℕ). n + if_layer none (length g.1.segments)) (sym above.segments)

        layers_count : length new.layers ≡ length old.layers + if_layer none 1
        unfolding merged_book
        layers_count = merged_number old read g.1

        pub needed_graft : ResultFacts room g new → graft_ok none room.tape_bytes room.text_bytes p.nodes.at l.base o g ≡ true
        unfolding graft_ok layer_records new_layer_bytes new_string_bytes if_layer lists_end
        needed_graft f = go none refl
          where
            go : (x : Bool) → none ≡ x → graft_ok x room.tape_bytes room.text_bytes p.nodes.at l.base o g ≡ true
            go true y = refl
            go false y =
                let n = tape_length_lem refl in
                let v : length (new_layer_bytes none g.1) ≡ length (layer_bytes (layer_of g.1)) = ap (λ (x : Bool). length (new_layer_bytes x g.1)) y in
                let m = length-append (layer_bytes (layer_of g.1)) (records_bytes node_codec g.0) in
                sym (layer_ok_lem room.tape_bytes room.text_bytes p.nodes.at l.base o g (record {
                  few = f.new_strings;
                  strings = omega (arith, rw y at strings_count, f.limits.strings);
                  contents = omega (arith, rw y at contents_count, f.limits.contents);
                  segments = omega (arith, rw y at segments_count, f.limits.segments);
                  tape = omega (arith, n, up_to_length, v, m, node_bytes_lem, f.tape);
                  bytes = omega (arith, rw y at (bytes_length sizes), f.bytes);
                }))

        -- ---- and back

        no_strings : none ≡ true → length g.1.interner.strings ≡ 0
        unfolding grafted shown_nodes graft_node_refs layered
        no_strings y = go read.source_nodes y
          where
            go : (ns : List SourceNode) → is_empty ns ≡ true → length (graft_node_refs (map (shown_node (store_of read.layers)) ns) (layered old.layers)).1.interner.strings ≡ 0
            go [] z = refl
            go (n ∷ ns) z = absurd (true≢false (sym z))

        module _ (f : RoomFor l k q p.nodes.at room.tape_bytes room.text_bytes room.work_words) (h : graft_ok none room.tape_bytes room.text_bytes p.nodes.at l.base o g ≡ true) where
          record Pools (x : Bool) : Type 0 where
            pub strings : o.strings + if_layer x (length g.1.interner.strings) ≤ max_pool
            pub contents : o.contents + if_layer x (length g.1.contents) ≤ max_pool
            pub segments : o.segments + if_layer x (length g.1.segments) ≤ max_pool
            pub layers : length old.layers + if_layer x 1 ≤ max_layers
            pub few : length g.1.interner.strings ≤ max_new_strings
            pub bytes : l.base + length (new_string_bytes x g.1) ≤ room.text_bytes

          pools : Pools none
          unfolding graft_ok new_string_bytes if_layer
          pools = go none refl h
            where
              go : (x : Bool) → none ≡ x → graft_ok x room.tape_bytes room.text_bytes p.nodes.at l.base o g ≡ true → Pools x
              go true y z =
                  let m = limits_old b in
                  record {
                    strings = omega (arith, m.strings, above.strings);
                    contents = omega (arith, m.contents, above.contents);
                    segments = omega (arith, m.segments, above.segments);
                    layers = omega (arith, m.layers);
                    few = omega (arith, no_strings y);
                    bytes = omega (arith, f.base);
                  }
              go false y z =
                  let n = layer_fits_lem room.tape_bytes room.text_bytes p.nodes.at l.base o g z in
                  let v : leb max_layers (length old.layers) ≡ false = rw y at b.passed.layers in
                  record {
                    strings = n.strings;
                    contents = n.contents;
                    segments = n.segments;
                    layers = omega (arith, leb-false max_layers (length old.layers) v);
                    few = n.few;
                    bytes = n.bytes;
                  }

          pub enough : {at : ℕ} → at ≡ length up_to → lists_end at k q ≤ room.tape_bytes → ResultFacts room g new
          unfolding merged_book
          enough x y =
              let c = pools in
              record {
                limits = record {
                  sanitized = (chosen b).limit;
                  normalized = omega (arith, normalized_is sizes, f.normalized);
                  strings = omega (arith, strings_count, c.strings);
                  contents = omega (arith, contents_count, c.contents);
                  segments = omega (arith, segments_count, c.segments);
                  source_nodes = omega (arith, nodes_length, f.nodes);
                  pairs = omega (arith, pairs_length, f.pairs);
                  container_pairs = omega (arith, containers_length, f.containers);
                  diagnostics = omega (arith, diagnostics_length, f.diagnostics);
                  layers = omega (arith, layers_count, c.layers);
                };
                new_strings = c.few;
                tape = omega (arith, tape_length_lem x, y);
                bytes = omega (arith, bytes_length sizes, c.bytes);
                work = f.work;
              }

        -- ---- what is known of a result that is accepted

        module _ (f : ResultFacts room g new) where
          ok : result_ok room g new (stored_book new) ≡ true
          ok = result_ok_lem room g new f

          pub accepted_is : result_checked old e read w room ≡ accepted (answer old read w g new)
          accepted_is = result_cond old e read w room ∙ rw ok refl

          step : Step old e w.source read (answer old read w g new)
          step = record {
            room = room;
            old_fits = old_fits_lem b;
            reading_fits = reading_fits_lem b;
            old_formed = (begun b).old_formed;
            reading_formed = (begun b).reading_formed;
            chosen = chosen b;
            facts = merge_facts old e w.source read room (answer old read w g new)
                (merge_passed old e w.source read room b.passed ∙ ap (λ (x : MergeWindow). result_checked old e read x room) (sym b.window) ∙ accepted_is);
          }

          pub nodes_fit : all (record_fits node_codec) g.0 ≡ true
          nodes_fit = (grown old read (old_fits_lem b) (reading_fits_lem b) (begun b).old_formed (begun b).reading_formed e w.source (limits step)).node_fits

          pub diagnostics_fit : all (record_fits diagnostic_codec) (spliced diagnostic_located w (old_diagnostics t p) (old_diagnostics rt q)) ≡ true
          unfolding merged_book
          diagnostics_fit =
              rw (kept_diagnostics, read_diagnostics)
              (ap (λ (x : MergeWindow). all (record_fits diagnostic_codec) (spliced diagnostic_located x old.diagnostics read.diagnostics)) b.window
              ∙ sym (all_sort_is (record_fits diagnostic_codec) (spliced diagnostic_located (window_of old e read w.source) old.diagnostics read.diagnostics))
              ∙ (book_fits (merged_of old e read w.source) (merged_book_lem step).0).diagnostics)

        pub refused_is : (ResultFacts room g new → ⊥) → result_checked old e read w room ≡ refused 18
        refused_is h = by_bool (result_ok room g new (stored_book new)) (λ y. absurd (h (result_facts room g new y))) (λ y. result_cond old e read w room ∙ rw y refl)

      -- ---- the lists behind the layers

      pub lists_are : lists_of w t p rt q g.0 ≡ list_bytes new
      unfolding lists_of list_bytes merged_book
      lists_are = rw (kept_nodes, kept_pairs, kept_containers, kept_diagnostics, read_pairs, read_containers, read_diagnostics) refl

      module _ (out : List ℕ) {out₁ : List ℕ} (wrote : out₁ ≡ overwrite out 0 (up_to ++ records_bytes node_codec g.0)) (fits : length (up_to ++ records_bytes node_codec g.0) ≤ length out) {at : ℕ} (here : at ≡ length up_to) where
        both_parts : overwrite out 0 (up_to ++ records_bytes node_codec g.0) ≡ overwrite (overwrite out 0 up_to) at (records_bytes node_codec g.0)
        both_parts =
            let n = length-append up_to (records_bytes node_codec g.0) in
            sym (overwrite_next out 0 up_to (omega (arith, n, fits)) at (records_bytes node_codec g.0) (omega (arith, here)) (omega (arith, n, here, fits)))

        up_to_long : length (overwrite out 0 up_to) ≡ length out
        up_to_long = let n = length-append up_to (records_bytes node_codec g.0) in length_overwrite out 0 up_to (omega (arith, n, fits))

        -- the grafted nodes are read where they stand
        pub nodes_stand : all (record_fits node_codec) g.0 ≡ true → records_at node_codec out₁ at q.nodes.count ≡ g.0
        unfolding overwrite
        nodes_stand h =
            let m = lengths_read b in
            let x = overwrite out 0 up_to in
            let ns = records_bytes node_codec g.0 in
            let n = length-append up_to ns in
            let l : length (take at x) ≡ at = length-take-le at x (omega (arith, up_to_long, here, n, fits)) in
            let s : drop at out₁ ≡ ns ++ drop (at + length ns) x
            = ap (drop at) (wrote ∙ both_parts ∙ append_assoc (take at x) ns (drop (at + length ns) x)) ∙ drop_at (take at x) (ns ++ drop (at + length ns) x) at l in
            ap (records_at node_codec out₁ at) (sym (length_grafted old read ∙ m.nodes)) ∙ records_stand node_codec node_lawful out₁ g.0 h at (drop (at + length ns) x) s

        pub tape_stands : all (record_fits node_codec) g.0 ≡ true → lists_end at k q ≤ length out → {out₂ : List ℕ}
            → out₂ ≡ overwrite out₁ at (lists_of w t p rt q (records_at node_codec out₁ at q.nodes.count)) → take (length (tape_of new)) out₂ ≡ tape_of new
        tape_stands h room {out₂} w₂ =
            let ns = records_bytes node_codec g.0 in
            let n = length-append up_to (list_bytes new) in
            let m = tape_length_lem here in
            let v = ap length new_tape in
            let long : length ns ≤ length (list_bytes new) = nodes_inside in
            let i : out₂ ≡ overwrite out 0 (tape_of new)
            = w₂ ∙ ap (overwrite out₁ at) (ap (lists_of w t p rt q) (nodes_stand h) ∙ lists_are)
            ∙ ap (λ (x : List ℕ). overwrite x at (list_bytes new)) (wrote ∙ both_parts)
            ∙ overwrite_covered (overwrite out 0 up_to) at ns (omega (arith, up_to_long, here, fits, length-append up_to ns)) at (list_bytes new) (omega arith) (omega (arith, long))
            ∙ overwrite_next out 0 up_to (omega (arith, n, v, m, room)) at (list_bytes new) (omega (arith, here)) (omega (arith, n, v, m, here, room))
            ∙ ap (overwrite out 0) (sym new_tape) in
            ap (take (length (tape_of new))) i ∙ ap (λ (x : ℕ). take x (overwrite out 0 (tape_of new))) (sym (zero-add (length (tape_of new)))) ∙ take_overwrite out 0 (tape_of new) (omega (arith, m, room))
          where
            nodes_inside : length (records_bytes node_codec g.0) ≤ length (list_bytes new)
            nodes_inside =
                let c = lengths_read b in
                let x = nodes_width g.0 (grafted_six old read) in
                omega (arith, x, length_grafted old read, c.nodes, list_length new new_six, nodes_length)
