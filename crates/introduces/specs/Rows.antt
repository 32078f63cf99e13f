-- A target of the reading among the old bases in a row of ids, where the filter is crowded.
use Rattle.std.specs.Prelude.{Option, ◌≡◌, ℕ, ◌+◌, ◌*◌, Bool, true, false, ◌&&◌, ◌||◌, List, [], ◌∷◌, ◌++◌, ltb}
use Rattle.std.proofs.Math.Path.{refl, sym, ap}
use Rattle.std.proofs.Common.{ap₂, ◌∙◌, ltb-true}
use Rattle.std.proofs.Math.Option.{Option as ModelOption}
use Rattle.model.specs.Lists.{any}
use Rattle.model.specs.Types.{SourceNode}
use Rattle.model.specs.Store.{NodeStore}
use Rattle.model.specs.Tape.{record_at, node_codec}
use Rattle.model.specs.Region.{is_ruby, is_referenced_format, first_plain}
use Rattle.facts.specs.Truth.{both, or_right, by_bool}
use Rattle.wire.specs.Loops.{Missed}
use Rattle.records.specs.Runs.{test_at}
use Rattle.span.specs.declared.StrId.{StrId}
use Rattle.strings.specs.declared.lent.Strings.{Strings}
use Rattle.strings.specs.Lent.{lent_store}
use Rattle.strings.specs.PlainContent.{plain_of, same_known, plain_string}
use Rattle.ruby_formats.specs.Sound.{first_contents, plain_first}
use Rattle.sorted_ids.specs.declared.Row.{Row}
use Rattle.dependency.specs.Rows.{RowOf, among_row, among_row_lem}
use Rattle.ruby_formats.specs.Named.{named_by, same_first, target_again}
use Rattle.introduces.specs.Linked.{refers_to}

-- a Referenced Format whose target, in a store of its own, is in the row
unfoldable pub refers_to_row : Row → NodeStore → SourceNode → Bool
refers_to_row r own n = is_referenced_format n && among_row r (first_plain own n)

module _ (r : Row) (rs : Strings) (p : ℕ) {x : Bool} (e : x ≡ is_referenced_format (record_at node_codec rs.tape.now p)) where
  pub row_other : x ≡ false → false ≡ refers_to_row r (lent_store rs) (record_at node_codec rs.tape.now p)
  unfolding refers_to_row
  row_other h = rw (← e, h) refl

  pub row_target : x ≡ true → {o : Option StrId} → ((b : List ℕ) → o ≡ plain_of (first_contents rs.tape.now p b)) → {y : Bool}
      → y ≡ among_row r (plain_string (lent_store rs) o) → y ≡ refers_to_row r (lent_store rs) (record_at node_codec rs.tape.now p)
  unfolding refers_to_row
  row_target h f q = rw (← e, h) (q ∙ ap (among_row r) (sym (plain_first rs p f)))

-- a row of the bases of these nodes
row_bases : {st : NodeStore} {earlier : List SourceNode} {r : Row} → RowOf st earlier r → (own : NodeStore) (ns : List SourceNode)
    → any (refers_to_row r own) ns ≡ any (refers_to st earlier own) ns
unfolding refers_to_row refers_to
row_bases of own [] = refl
row_bases of own (n ∷ ns) = ap₂ (λ (x y : Bool). (is_referenced_format n && x) || y) (among_row_lem of (first_plain own n)) (row_bases of own ns)

pub rowed_any : {st : NodeStore} {earlier : List SourceNode} {r : Row} → RowOf st earlier r → (own : NodeStore) (ns : List SourceNode)
    → {x : Bool} → x ≡ any (refers_to_row r own) ns → x ≡ any (refers_to st earlier own) ns
rowed_any of own ns q = q ∙ row_bases of own ns

-- ---- a target again: the earlier one does not refer to the row, so neither does node i
module _ (r : Row) (rs : Strings) (at i v : ℕ) {x : Bool} (e : (b : List ℕ) → x ≡ target_again rs.tape.now at i v b) (f : x ≡ true)
    (missed : Missed (test_at node_codec (refers_to_row r (lent_store rs)) rs.tape.now at) i) where
  abbrev all : List ℕ
  all = rs.old.now ++ rs.new.now

  abbrev node : ℕ → SourceNode
  node k = record_at node_codec rs.tape.now (at + 49 * k)

  parts : (ltb v i ≡ true) × (is_referenced_format (node v) ≡ true) × (same_known (named_by rs.tape.now (at + 49 * i) all) (named_by rs.tape.now (at + 49 * v) all) ≡ true)
  unfolding target_again
  parts =
      let a = both (ltb v i && is_referenced_format (node v)) (same_known (named_by rs.tape.now (at + 49 * i) all) (named_by rs.tape.now (at + 49 * v) all)) (sym (e all) ∙ f) in
      let b = both (ltb v i) (is_referenced_format (node v)) a.0 in
      (b.0, b.1, a.1)

  earlier : refers_to_row r (lent_store rs) (node v) ≡ false
  unfolding test_at node_codec
  earlier = missed.none v (ltb-true v i parts.0)

  pub target_again_lem : false ≡ refers_to_row r (lent_store rs) (node i)
  unfolding refers_to_row
  target_again_lem =
      by_bool (is_referenced_format (node i))
      (λ q.
      let z =
      same_first rs.tape.now all (at + 49 * i) (at + 49 * v) parts.2 (or_right (is_ruby (node i)) (is_referenced_format (node i)) q)
      (or_right (is_ruby (node v)) (is_referenced_format (node v)) parts.1) in
      sym (ap₂ (λ (b : Bool) (o : ModelOption (List ℕ)). b && among_row r o) (q ∙ sym parts.1) z ∙ earlier))
      (λ q. rw q refl)
