-- Number 15 of two books that passed 1 to 7, for each return of the code.
use Rattle.std.specs.Prelude.{◌≡◌, refl, ℕ, Bool, true, false, ◌||◌, List}
use Rattle.std.proofs.Math.Path.{sym, ap}
use Rattle.std.proofs.Common.{◌∙◌}
use Rattle.model.specs.Lists.{any, keep}
use Rattle.model.specs.Types.{SourceNode}
use Rattle.model.specs.Store.{store_of}
use Rattle.model.specs.Region.{is_referenced_format}
use Rattle.model.specs.Merge.{introduces_ruby_format_dependency}
use Rattle.laws.specs.Nodes.{ends_by, starts_at}
use Rattle.span.specs.Values.{span_of}
use Rattle.span.specs.declared.Span.{Span}
use Rattle.tape.specs.declared.book.Book.{Book}
use Rattle.tape.specs.StringBytes.{book_of}
use Rattle.ruby_formats.specs.declared.nodes.Nodes.{Nodes}
use Rattle.ruby_formats.specs.Nodes.{nodes_store, first_nodes}
use Rattle.ruby_formats.specs.Books.{NodesOf, nodes_store_lem, nodes_are}
use Rattle.introduces.specs.Linked.{ruby_for_later, refers_to, none_refers, introduces_is}

-- does a Referenced Format of the reading refer to a base before an offset?
abbrev pub refers_before : Book → Book → ℕ → Bool
refers_before b r start =
    any (refers_to (store_of (book_of b).layers) (keep (ends_by start) (book_of b).source_nodes) (store_of (book_of r).layers)) (book_of r).source_nodes

-- by the nodes at hand, of which the first n end by the offset
pub refers_by : {b r : Book} {ns ms : Nodes} → NodesOf b ns → NodesOf r ms → (start : ℕ) {earlier : List SourceNode} → earlier ≡ keep (ends_by start) (book_of b).source_nodes
    → {x : Bool} → x ≡ any (refers_to (nodes_store ns) earlier (nodes_store ms)) (first_nodes ms ms.run.count) → x ≡ refers_before b r start
refers_by s m start e q = q ∙ rw (nodes_store_lem s, e, nodes_store_lem m, nodes_are m) refl

-- ---- number 15

module _ (b r : Book) (region : Span) {x : Bool} (e : x ≡ ruby_for_later (book_of r).source_nodes (book_of b).source_nodes region.end.0) where
  whole : introduces_ruby_format_dependency (book_of b) (book_of r) (span_of region) ≡ x || refers_before b r region.start.0
  unfolding ruby_for_later
  whole = sym (introduces_is (book_of b) (book_of r) (span_of region)) ∙ ap (λ (y : Bool). y || refers_before b r region.start.0) (sym e)

  pub introduces_later : x ≡ true → true ≡ introduces_ruby_format_dependency (book_of b) (book_of r) (span_of region)
  introduces_later f = sym (whole ∙ rw f refl)

  module _ (f : x ≡ false) where
    pub introduces_refers : {y : Bool} → y ≡ refers_before b r region.start.0 → y ≡ introduces_ruby_format_dependency (book_of b) (book_of r) (span_of region)
    introduces_refers g = g ∙ sym (whole ∙ rw f refl)

    pub introduces_none : {y : Bool} → y ≡ any is_referenced_format (keep (starts_at 0) (book_of r).source_nodes) → y ≡ false
        → false ≡ introduces_ruby_format_dependency (book_of b) (book_of r) (span_of region)
    introduces_none g z = introduces_refers (sym (none_refers _ _ _ (book_of r).source_nodes (sym g ∙ z)))
