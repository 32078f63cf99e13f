-- Number 15, as the code asks it: a Ruby of the reading and a Referenced Format behind the region, or a Referenced Format of the reading
-- whose target is the base of a Ruby before the region.
use Rattle.std.specs.Prelude.{Option, ◌≡◌, ℕ, Bool, true, false, ◌&&◌, ◌||◌, List, [], ◌∷◌}
use Rattle.std.proofs.Math.Path.{refl, ap}
use Rattle.std.proofs.Common.{sym, ◌∙◌, le-leb, arith}
use Rattle.std.proofs.Math.Bool.{and-false, and-true}
use Rattle.model.specs.Lists.{any, keep}
use Rattle.model.specs.Offset.{Span}
use Rattle.model.specs.Types.{SourceNode, LexOutput, RegionOutput}
use Rattle.model.specs.Store.{NodeStore, store_of}
use Rattle.model.specs.Tape.{record_at, node_codec}
use Rattle.model.specs.Region.{is_ruby, is_referenced_format, first_plain}
use Rattle.model.specs.Merge.{introduces_ruby_format_dependency}
use Rattle.facts.specs.Truth.{neither, by_bool}
use Rattle.laws.specs.Nodes.{ends_by, starts_at}
use Rattle.span.specs.declared.StrId.{StrId}
use Rattle.strings.specs.declared.lent.Strings.{Strings}
use Rattle.strings.specs.Lent.{lent_store}
use Rattle.strings.specs.PlainContent.{plain_of, plain_string}
use Rattle.dependency.specs.Bases.{among_bases, among_bases_lem}
use Rattle.ruby_formats.specs.Sound.{first_contents, plain_first}
use Rattle.ruby_formats.specs.Asks.{format_from}

-- ---- one node

-- a Referenced Format whose target, in a store of its own, is the base of a Ruby among these nodes
unfoldable pub refers_to : NodeStore → List SourceNode → NodeStore → SourceNode → Bool
refers_to st earlier own n = is_referenced_format n && among_bases st earlier (first_plain own n)

module _ (st : NodeStore) (earlier : List SourceNode) (ss : Strings) (p : ℕ) {x : Bool} (e : x ≡ is_referenced_format (record_at node_codec ss.tape.now p)) where
  pub refers_other : x ≡ false → false ≡ refers_to st earlier (lent_store ss) (record_at node_codec ss.tape.now p)
  unfolding refers_to
  refers_other h = rw (← e, h) refl

  pub refers_target : x ≡ true → {r : Option StrId} → ((b : List ℕ) → r ≡ plain_of (first_contents ss.tape.now p b)) → {y : Bool}
      → y ≡ among_bases st earlier (plain_string (lent_store ss) r) → y ≡ refers_to st earlier (lent_store ss) (record_at node_codec ss.tape.now p)
  unfolding refers_to
  refers_target h f q = rw (← e, h) (q ∙ ap (among_bases st earlier) (sym (plain_first ss p f)))

-- ---- all nodes

any_keep : (p q : SourceNode → Bool) (l : List SourceNode) → any p (keep q l) ≡ any (λ (n : SourceNode). p n && q n) l
any_keep p q [] = refl
any_keep p q (n ∷ l) =
    by_bool (q n)
    (λ e. rw (e, and-true) (ap (λ (x : Bool). p n || x) (any_keep p q l)))
    (λ e. rw (e, and-false) (any_keep p q l))

pub formats_from : (o : ℕ) (ns : List SourceNode) → any (format_from o) ns ≡ any is_referenced_format (keep (starts_at o) ns)
unfolding format_from
formats_from o ns = sym (any_keep is_referenced_format (starts_at o) ns)

-- from offset 0 on that is every Referenced Format: without one, nothing refers back
from_zero : (n : SourceNode) → format_from 0 n ≡ is_referenced_format n
unfolding format_from
from_zero n = ap (λ (b : Bool). is_referenced_format n && b) (le-leb 0 n.source_span.start (omega arith)) ∙ and-true (is_referenced_format n)

none_from_zero : (st : NodeStore) (earlier : List SourceNode) (own : NodeStore) (ns : List SourceNode) → any (format_from 0) ns ≡ false → any (refers_to st earlier own) ns ≡ false
unfolding refers_to
none_from_zero st earlier own [] h = refl
none_from_zero st earlier own (n ∷ ns) h =
    let b = neither (format_from 0 n) (any (format_from 0) ns) h in
    rw (sym (from_zero n) ∙ b.0) (none_from_zero st earlier own ns b.1)

pub none_refers : (st : NodeStore) (earlier : List SourceNode) (own : NodeStore) (ns : List SourceNode) → any is_referenced_format (keep (starts_at 0) ns) ≡ false
    → any (refers_to st earlier own) ns ≡ false
none_refers st earlier own ns e = none_from_zero st earlier own ns (formats_from 0 ns ∙ e)

-- a Ruby among the reading's nodes and a Referenced Format behind the region
unfoldable pub ruby_for_later : List SourceNode → List SourceNode → ℕ → Bool
ruby_for_later reading ns end = any is_ruby reading && any is_referenced_format (keep (starts_at end) ns)

module _ (reading ns : List SourceNode) (end : ℕ) {x : Bool} (e : x ≡ any is_ruby reading) where
  pub later_none : x ≡ false → false ≡ ruby_for_later reading ns end
  unfolding ruby_for_later
  later_none h = rw (← e, h) refl

  pub later_format : x ≡ true → {y : Bool} → y ≡ any is_referenced_format (keep (starts_at end) ns) → y ≡ ruby_for_later reading ns end
  unfolding ruby_for_later
  later_format h f = f ∙ rw (← e, h) refl

-- Number 15.
pub introduces_is : (old : LexOutput) (reading : RegionOutput) (r : Span)
    → (any is_ruby reading.source_nodes && any is_referenced_format (keep (starts_at r.end) old.source_nodes))
    || any (refers_to (store_of old.layers) (keep (ends_by r.start) old.source_nodes) (store_of reading.layers)) reading.source_nodes
    ≡ introduces_ruby_format_dependency old reading r
unfolding introduces_ruby_format_dependency refers_to
introduces_is old reading r =
    let st = store_of old.layers in
    let before = keep (ends_by r.start) old.source_nodes in
    ap (λ (p : SourceNode → Bool). (any is_ruby reading.source_nodes && any is_referenced_format (keep (starts_at r.end) old.source_nodes)) || any p reading.source_nodes)
    (λ j n. is_referenced_format n && sym (among_bases_lem st before (first_plain (store_of reading.layers) n)) j)
