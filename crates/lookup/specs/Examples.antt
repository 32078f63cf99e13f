-- The entries' answers of P5's reading, which is a book too, by computation: text "xb\n\n", a node at 0..2, the strings "x" and
-- "b", two contents.
use Rattle.std.specs.Prelude.{◌≡◌, refl, ℕ, true, List, [], Some, None}
use Rattle.model.specs.Refusal.{Checked.refused, Checked.accepted}
use Rattle.model.specs.Tape.{tape_of, bytes_of}
use Rattle.model.specs.Lookup.{ask_book, diagnostics_allow_incremental, node_at_source, lookup_str_span, contents_ok}
use Rattle.model.specs.Examples.{ruby_reading}
use Rattle.model.specs.Computed.{computed}
use Rattle.store.specs.Stored.{store_at}
use Rattle.store.specs.Pools.{starts_of, layer_of}
use Rattle.store.specs.Standing.{content_place}
use Rattle.bounds.specs.Search.{found_of}
use Rattle.lookup.specs.Ranges.{range_if}
use Rattle.lookup.specs.Strings.{str_if}

abbrev t : List ℕ
t = tape_of ruby_reading

abbrev d : List ℕ
d = bytes_of ruby_reading

-- an offset in the node, and at its end
node : (ask_book t d (λ b. found_of (node_at_source b.source_nodes 1)) ≡ accepted (Some 0))
    × (ask_book t d (λ b. found_of (node_at_source b.source_nodes 2)) ≡ accepted None)
unfolding computed found_of
node = (refl, refl)

-- the second string, and an id past the pool
str : (ask_book t d (λ b. str_if (lookup_str_span b 1)) ≡ accepted (Some (record { start = 10; end = 11 })))
    × (ask_book t d (λ b. str_if (lookup_str_span b 2)) ≡ accepted None)
unfolding computed str_if
str = (refl, refl)

-- both contents, and one more than there are
contents : (ask_book t d (λ b. range_if (contents_ok 0 2 b) (content_place (store_at t) 0) 2) ≡ accepted (Some (record { place = 20; count = 2 })))
    × (ask_book t d (λ b. range_if (contents_ok 1 2 b) (content_place (store_at t) 1) 2) ≡ accepted None)
unfolding computed range_if store_at starts_of layer_of content_place
contents = (refl, refl)

-- no diagnostics; no book
allow : (ask_book t d (λ b. diagnostics_allow_incremental b.diagnostics) ≡ accepted true)
    × (ask_book [] [] (λ b. diagnostics_allow_incremental b.diagnostics) ≡ refused 1)
unfolding computed
allow = (refl, refl)
