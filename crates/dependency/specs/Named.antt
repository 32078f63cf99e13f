-- A node that has the base of an earlier Ruby by the same id puts nothing new into the row.
use Rattle.std.specs.Prelude.{◌≡◌, ℕ, ◌+◌, ◌*◌, ◌<◌, min, Bool, true, ◌&&◌, List, ◌++◌, nat_lt}
use Rattle.std.proofs.Math.Path.{refl, sym}
use Rattle.std.proofs.Common.{◌∙◌, arith}
use borrow.Author.Tests.{ltb-true}
use Rattle.model.specs.Types.{SourceNode}
use Rattle.model.specs.Store.{NodeStore}
use Rattle.model.specs.Tape.{record_at, records_at, node_codec}
use Rattle.model.specs.Region.{is_ruby, is_referenced_format, first_plain}
use Rattle.facts.specs.Truth.{both, or_left, by_bool}
use Rattle.wire.specs.Loops.{any_up_to}
use Rattle.records.specs.Runs.{run_found}
use Rattle.strings.specs.declared.lent.Strings.{Strings}
use Rattle.strings.specs.Lent.{lent_store}
use Rattle.sorted_ids.specs.Row.{holds_at}
use Rattle.dependency.specs.Bases.{is_plain, has_base}
use Rattle.dependency.specs.Rows.{is_base_of, Rowed, rowed_one}
use Rattle.strings.specs.PlainContent.{same_known}
use Rattle.ruby_formats.specs.Named.{named_by, same_first, base_again}

module _ (ss : Strings) (at n i v : ℕ) {words : List ℕ} {m : ℕ} (r : Rowed ss (records_at node_codec ss.tape.now at (min n i)) words m) (h : i < n)
    {x : Bool} (e : (b : List ℕ) → x ≡ base_again ss.tape.now at i v b) (f : x ≡ true) where
  abbrev t : List ℕ
  t = ss.tape.now

  abbrev all : List ℕ
  all = ss.old.now ++ ss.new.now

  abbrev st : NodeStore
  st = lent_store ss

  abbrev node : ℕ → SourceNode
  node k = record_at node_codec t (at + 49 * k)

  parts : (nat_lt v i ≡ true) × (is_ruby (node v) ≡ true) × (same_known (named_by t (at + 49 * i) all) (named_by t (at + 49 * v) all) ≡ true)
  unfolding base_again
  parts =
      let a = both (nat_lt v i && is_ruby (node v)) (same_known (named_by t (at + 49 * i) all) (named_by t (at + 49 * v) all)) (sym (e all) ∙ f) in
      let b = both (nat_lt v i) (is_ruby (node v)) a.0 in
      (b.0, b.1, a.1)

  own : (s : List ℕ) → has_base st s (node i) ≡ true → has_base st s (node v) ≡ true
  unfolding has_base
  own s q =
      let k = both (is_ruby (node i)) (is_plain s (first_plain st (node i))) q in
      let z = same_first t all (at + 49 * i) (at + 49 * v) parts.2 (or_left (is_ruby (node i)) (is_referenced_format (node i)) k.0) (or_left (is_ruby (node v)) (is_referenced_format (node v)) parts.1) in
      rw (parts.1, ← z) k.1

  has : (s : List ℕ) → has_base st s (node i) ≡ true → any_up_to m (holds_at ss s words) ≡ true
  unfolding node_codec
  has s q =
      let l = ltb-true v i parts.0 in
      sym (r.holds s) ∙ sym (run_found node_codec (has_base st s) t at v (at + 49 * v) refl (has_base st s (node v)) refl (min n i) (omega (arith, l, h)) (own s q))

  pub rowed_again : Rowed ss (records_at node_codec t at (min n (i + 1))) words m
  unfolding is_base_of
  rowed_again =
      rowed_one ss t at n i r h (record {
        row = r.row;
        holds = λ s. by_bool (has_base st s (node i)) (λ q. rw q (has s q)) (λ q. rw q refl);
        few = omega arith;
      })
