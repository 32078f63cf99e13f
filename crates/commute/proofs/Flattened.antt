-- Wish 6: a flat book passes 1 to 7 and shows what the book showed; and it hangs on what is shown alone.
use Rattle.std.specs.Prelude.{◌≡◌, refl, Bool, true, not, List, [], ◌∷◌, map, length}
use Rattle.std.proofs.Common.{sym, ap, ◌∙◌, subst, arith}
use borrow.Author.Tests.{not-false}
use Rattle.model.specs.Lists.{all}
use Rattle.model.specs.Types.{SourceNode, LexOutput}
use Rattle.model.specs.Refusal.{Checked.accepted, ◌>>=◌}
use Rattle.model.specs.WellFormed.{texts_are_utf8, ids_ok, levels_ok, places_ok, normalized_length_ok, span_ok, ordered, offsets_ok, images, spans, check_book}
use Rattle.model.specs.Store.{store_of}
use Rattle.model.specs.Tree.{shown_node, shown_nodes}
use Rattle.model.specs.Graft.{layered, layer_of, With, graft_node_refs}
use Rattle.model.specs.Merge.{Stored, Room, stored_book, result_ok}
use Rattle.model.specs.Demand3.{Shown, shown, Correction, StoredBytes, BothOrders, Commutes}
use Rattle.model.specs.Flatten.{flat_graft, flat_book, flat_checked, flatten_book, Flattened}
use Rattle.facts.specs.Keep.{all_map_is}
use Rattle.laws.specs.Layers.{numbered_with}
use Rattle.laws.specs.Checks.{refuse_accepted, same_accepted, WellFormed, checked_book, checked_again, utf8_facts, LimitFacts, place_facts}
use Rattle.laws.specs.Result.{within_limits_lem, result_facts}
use Rattle.laws.specs.Fits.{fits}
use Rattle.laws.specs.WriteRead.{BookFits, book_fits, fits_book, write_read}
use Rattle.laws.specs.ReadFits.{read_fits_lem}
use Rattle.commute.specs.Grown.{Shapes, shapes_of, shape_is, no_layers, Grown, something_new}
use Rattle.commute.specs.Outline.{outline, same_outline, ordered_outline, offsets_outline, images_outline, spans_outline}

-- ---- a book whose flat one passes the limits

module _ (b : LexOutput) (fb : fits b ≡ true) (wb : WellFormed b) (limits : LimitFacts (flat_book (shown b))) where
  abbrev new : LexOutput
  new = flat_book (shown b)

  abbrev g : With (List SourceNode)
  g = flat_graft (shown_nodes b)

  k : BookFits b
  k = book_fits b fb

  shapes : Shapes b
  shapes = shapes_of b k.shape

  grown : Grown [] b new.layers g.0
  unfolding flat_book flat_graft shown shown_nodes
  grown = something_new no_layers b fb wb (numbered_with [] g.1 (omega (arith, limits.strings)) (omega (arith, limits.contents)) (omega (arith, limits.segments)))

  -- whatever the outlines decide is as it was
  same : {B : Type 0} (F : List SourceNode → B) → ((ns : List SourceNode) → F (map outline ns) ≡ F ns) → F g.0 ≡ F b.source_nodes
  unfolding flat_graft
  same F h = same_outline F h b (layered [])

  new_fits : fits new ≡ true
  unfolding flat_book shown
  new_fits =
      fits_book new (record {
        sanitized = k.sanitized;
        normalized = k.normalized;
        layered = refl;
        layers = grown.layers.fits;
        source_nodes = grown.node_fits;
        pairs = k.pairs;
        container_pairs = k.container_pairs;
        diagnostics = k.diagnostics;
        shape = shape_is new (record { layers = grown.layers.shape; nodes = grown.node_shapes; pairs = shapes.pairs; diagnostics = shapes.diagnostics });
      })

  texts : texts_are_utf8 new ≡ true
  unfolding texts_are_utf8 flat_book shown
  texts = let u = utf8_facts b wb.utf8 in rw (u.sanitized, u.normalized) grown.layers.strings

  ids : ids_ok new ≡ true
  unfolding ids_ok flat_book shown
  ids = rw grown.layers.ids grown.node_ids

  levels : levels_ok new ≡ true
  unfolding levels_ok
  levels = grown.layers.levels

  places : places_ok new ≡ true
  unfolding places_ok flat_book shown
  places =
      let p = place_facts b wb.places in
      let inside : SourceNode → Bool = λ n. span_ok (length b.sanitized) n.source_span in
      rw (
        same (all inside) (λ ns. all_map_is inside outline ns) ∙ p.source_spans,
        same (ordered 0) (ordered_outline 0) ∙ p.order,
        same (offsets_ok 0 0) (offsets_outline 0 0) ∙ p.offsets,
        p.pairs,
        p.container_pairs,
      ) p.diagnostics

  sizes : normalized_length_ok new ≡ true
  unfolding normalized_length_ok flat_book shown
  sizes =
      rw (
        same images images_outline,
        same spans spans_outline,
      ) wb.sizes

  pub flat_formed : WellFormed new
  flat_formed = record { utf8 = texts; limits = within_limits_lem new limits; ids = ids; levels = levels; places = places; sizes = sizes }

  pub flat_holds : check_book (stored_book new).tape (stored_book new).bytes ≡ accepted new
  unfolding stored_book
  flat_holds = checked_again (stored_book new).tape (stored_book new).bytes new (write_read new new_fits) flat_formed

  -- texts, spans, lists and trees
  pub flat_shown : shown new ≡ shown b
  unfolding flat_book shown shown_nodes
  flat_shown =
      let e = grown.node_shows in
      λ i. record {
        sanitized = b.sanitized;
        normalized = b.normalized;
        source_nodes = e i;
        pairs = b.pairs;
        container_pairs = b.container_pairs;
        diagnostics = b.diagnostics;
      }

-- ---- any flattening

-- what a book shows decides the answer
flat_asked : (stored : Stored) (book : LexOutput) (room : Room) → check_book stored.tape stored.bytes ≡ accepted book → flatten_book stored room ≡ flat_checked (shown book) room
unfolding flatten_book ◌>>=◌
flat_asked stored book room q = rw q refl

-- Wish 6. Nothing unreachable is kept: two books that show the same are flattened alike, to the same bytes or with the same number.
pub flat_alike : (s t : Stored) (a b : LexOutput) → check_book s.tape s.bytes ≡ accepted a → check_book t.tape t.bytes ≡ accepted b → shown a ≡ shown b
    → (room : Room) → flatten_book s room ≡ flatten_book t room
flat_alike s t a b p q e room = flat_asked s a room p ∙ ap (λ (x : Shown). flat_checked x room) e ∙ sym (flat_asked t b room q)

-- ---- an accepted one

-- one layer, whatever is shown
one : (s : Shown) → length (flat_book s).layers ≡ 1
unfolding flat_book
one s = refl

-- an empty one without nodes
none : (s : Shown) → s.source_nodes ≡ [] → (flat_book s).layers ≡ (record { strings = []; contents = []; segments = [] } ∷ [])
unfolding flat_book flat_graft graft_node_refs layered layer_of
none s e = rw e refl

shows_none : (b : LexOutput) → b.source_nodes ≡ [] → (shown b).source_nodes ≡ []
unfolding shown shown_nodes
shows_none b e = ap (map (shown_node (store_of b.layers))) e

pub flattened : Flattened
unfolding Flattened flat_checked
flattened stored book bytes q room made f =
    let new = flat_book (shown book) in
    let g = flat_graft (shown book).source_nodes in
    let t = refuse_accepted 18 (not (result_ok room g new (stored_book new))) _ made (sym (flat_asked stored book room q) ∙ f) in
    let u = result_facts room g new (not-false (result_ok room g new (stored_book new)) t.0) in
    let written : stored_book new ≡ made = same_accepted (stored_book new) made t.1 in
    let c = checked_book stored.tape stored.bytes book q in
    let fb = read_fits_lem stored.tape bytes.tape stored.bytes book c.0 in
    record {
      flat = new;
      holds = subst (λ (x : Stored). check_book x.tape x.bytes ≡ accepted new) written (flat_holds book fb c.1 u.limits);
      one_layer = one (shown book);
      equal_books = flat_shown book fb c.1 u.limits;
      only_shown = refl;
      no_nodes = λ e. none (shown book) (shows_none book e);
    }

-- Wish 6. Twice is once.
pub flat_twice : (stored : Stored) (book : LexOutput) → StoredBytes stored → check_book stored.tape stored.bytes ≡ accepted book
    → (room : Room) (made : Stored) → flatten_book stored room ≡ accepted made → (again : Room) → flatten_book made again ≡ flatten_book stored again
unfolding Flattened
flat_twice stored book bytes q room made f again = let m = flattened stored book bytes q room made f in flat_alike made stored m.flat book m.holds q m.equal_books again

-- Wish 6. The books of demand 3's two orders are the same bytes once they are flat.
pub flat_orders : {book : LexOutput} {stored : Stored} {earlier later : Correction} {orders : BothOrders stored earlier later} → Commutes book stored earlier later orders
    → (room : Room) → flatten_book orders.later_second.output room ≡ flatten_book orders.earlier_second.output room
flat_orders {orders = o} c room = flat_alike o.later_second.output o.earlier_second.output c.final₁ c.final₂ c.holds₁ c.holds₂ c.equal_books room
