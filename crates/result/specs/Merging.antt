-- The returns of `put_result`: number 18 where a test fails, else the merged book and what is returned beside it.
use Rattle.std.specs.Prelude.{◌≡◌, ℕ, ◌+◌, ◌≤◌, ◌<◌, Bool, true, false, List, Some, None}
use Rattle.std.proofs.Math.Path.{refl, sym, ap}
use Rattle.std.proofs.Common.{◌∙◌, arith, true≢false, length-append}
use Rattle.std.proofs.Math.ListN.{length}
use Rattle.model.specs.Types.{LexOutput, RegionOutput}
use Rattle.model.specs.Limits.{max_pool}
use Rattle.model.specs.Refusal.{Checked, Checked.accepted, Checked.refused}
use Rattle.model.specs.Lists.{all}
use Rattle.model.specs.Tape.{records_at, records_bytes, node_codec, diagnostic_codec}
use Rattle.model.specs.Region.{Edit}
use Rattle.model.specs.Merge.{Room, IncrementalOutput, MergeWindow, spliced, node_located, diagnostic_located, kept_before, kept_behind, grafted, stored_book, answer, room_of, result_checked}
use Rattle.wire.specs.Overwrite.{overwrite}
use Rattle.places.specs.declared.Places.{Places}
use Rattle.store.specs.declared.Store.{Store}
use Rattle.tape.specs.Held.{held_places}
use Rattle.tape.specs.Placed.{fit_nodes}
use Rattle.merged_lists.specs.declared.Kept.{Kept}
use Rattle.merged_lists.specs.declared.Lengths.{Lengths}
use Rattle.result.specs.declared.Graft.{Graft}
use Rattle.output.specs.declared.IncrementalOutput.{IncrementalOutput as Output}
use Rattle.output.specs.Answer.{output_by, Written}
use Rattle.laws.specs.Fits.{record_fits}
use Rattle.laws.specs.Result.{ResultFacts}
use Rattle.result.specs.Parts.{old_layers_length}
use Rattle.tape.specs.StringBytes.{book_of}
use Rattle.tape.specs.declared.book.Book.{Book}
use Rattle.fitting.specs.Fits.{Fits}
use Rattle.fitting.specs.Inside.{lengths_read, limits_old}
use Rattle.result.specs.Books.{merge_of}
use Rattle.merged_lists.specs.Sizes.{kept_of, room_for, lengths_of, lists_end, room_facts, room_ok}
use Rattle.merged_lists.specs.Lists.{lists_of, old_diagnostics}
use Rattle.result.specs.Whole.{above, kept_nodes, tape_length_lem, needed_room, needed_graft, enough, accepted_is, refused_is, nodes_fit, diagnostics_fit, tape_stands}
use Rattle.result.specs.Stages.{up_to, StoreTold, written_refused, written_accepted}

-- ---- what the stages ask

module _ {book : Book} {e : Edit} {w : MergeWindow} {reading : Book} (b : Fits book e w reading) where
  abbrev t : List ℕ
  t = book.tape.now

  abbrev d : List ℕ
  d = book.bytes.now

  abbrev p : Places
  p = book.places

  abbrev st : Store
  st = book.store

  abbrev rt : List ℕ
  rt = reading.tape.now

  abbrev rd : List ℕ
  rd = reading.bytes.now

  abbrev q : Places
  q = reading.places

  pub pools_fit : (st.totals.strings ≤ max_pool) × (st.totals.contents ≤ max_pool) × (st.totals.segments ≤ max_pool)
  pools_fit =
      let a = above b in
      let m = limits_old b in
      (omega (arith, a.strings, m.strings), omega (arith, a.contents, m.contents), omega (arith, a.segments, m.segments))

  pub nodes_at_lem : (9 ≤ p.nodes.at) × (p.nodes.at ≤ length t)
  nodes_at_lem = let n = old_layers_length b.bytes book.held.accepted book.held.is in let f = fit_nodes (held_places book.held) in (omega (arith, n), omega (arith, f))

  -- ---- the returns

  module _ {k : Kept} (kept : k ≡ kept_of w t p) {l : Lengths} (sizes : l ≡ lengths_of p q e.start e.end (length e.replacement) w.normalized.start w.normalized.end (length d))
      (out text work : List ℕ) where
    abbrev old : LexOutput
    old = book_of book

    abbrev read : RegionOutput
    read = book_of reading

    abbrev room : Room
    room = room_of out text work

    abbrev asked : Checked IncrementalOutput
    asked = result_checked old e read w room

    pub no_room : {x : Bool} → x ≡ room_for l k q p.nodes.at (length out) (length text) (length work) → x ≡ false → Written asked (refused 18) out text work out text work
    no_room y f =
        written_refused asked out text work
        (refused_is b kept sizes room (λ g. absurd (true≢false (sym (room_ok l k q p.nodes.at (length out) (length text) (length work) (needed_room b kept sizes room g)) ∙ sym y ∙ f)))) refl refl refl

    pub no_graft : {out' text' work' : List ℕ} → StoreTold old e read w out text out' text' p.nodes.at l.base st.totals None → length out' ≡ length out → length text' ≡ length text → length work' ≡ length work
        → Written asked (refused 18) out text work out' text' work'
    no_graft s long long' long'' = written_refused asked out text work (refused_is b kept sizes room (λ g. absurd (true≢false (sym (needed_graft b kept sizes room g) ∙ sym s.ok)))) long long' long''

    module _ {out' text' : List ℕ} {r : Graft} (s : StoreTold old e read w out text out' text' p.nodes.at l.base st.totals (Some r))
        (long : length out' ≡ length out) (long' : length text' ≡ length text) where
      module _ {at : ℕ} (here : at ≡ p.nodes.at + r.len) where
        at_is : at ≡ length (up_to old e read w)
        at_is = here ∙ s.made.len

        pub at_small : at ≤ length out
        at_small = let m = s.made in omega (arith, at_is, m.room, length-append (up_to old e read w) (records_bytes node_codec (grafted old read).0))

        pub no_size : {work' : List ℕ} → length work' ≡ length work → {n : ℕ} → n ≡ lists_end at k q → length out < n → Written asked (refused 18) out text work out' text' work'
        no_size long'' y h =
            written_refused asked out text work (refused_is b kept sizes room (λ g. absurd (let m = tape_length_lem b kept at_is in omega (arith, m, g.tape, y, h)))) long long' long''

        module _ {x : Bool} (y : x ≡ room_for l k q p.nodes.at (length out) (length text) (length work)) (f : x ≡ true) {n : ℕ} (size : n ≡ lists_end at k q) (fits : n ≤ length out) where
          facts : ResultFacts room (grafted old read) (merge_of old e read w)
          facts = enough b kept sizes room (room_facts l k q p.nodes.at (length out) (length text) (length work) (sym y ∙ f)) (sym s.ok) at_is (omega (arith, size, fits))

          pub diagnostics_ready : all (record_fits diagnostic_codec) (spliced diagnostic_located w (old_diagnostics t p) (old_diagnostics rt q)) ≡ true
          diagnostics_ready = diagnostics_fit b kept sizes room facts

          pub bytes_small : l.base + r.bytes ≤ length text
          bytes_small = let m = s.made in let g = facts in omega (arith, m.size, g.bytes)

          pub merged : {work' : List ℕ} → length work' ≡ length work → {out'' : List ℕ} → out'' ≡ overwrite out' at (lists_of w t p rt q (records_at node_codec out' at q.nodes.count)) → length out'' ≡ length out
              → {v : Output} → v ≡ output_by w.source.start w.source.end (k.nodes.before + k.nodes.behind) q.nodes.count r.stats n (l.base + r.bytes)
              → Written asked (accepted v) out text work out'' text' work'
          unfolding answer stored_book kept_of
          merged long'' {out''} w₂ z v =
              let m = s.made in
              let c = lengths_read b in
              let new = merge_of old e read w in
              let u : k.nodes.before + k.nodes.behind ≡ length (kept_before node_located w old.source_nodes) + length (kept_behind node_located w old.source_nodes) = rw (kept, kept_nodes b) refl in
              written_accepted asked (answer old read w (grafted old read) new) out text work (accepted_is b kept sizes room facts) v u (sym c.nodes) m.stats (size ∙ sym (tape_length_lem b kept at_is)) m.size
              (tape_stands b kept sizes out m.wrote m.room at_is (nodes_fit b kept sizes room facts) (omega (arith, size, fits)) w₂) m.bytes z long' long''
