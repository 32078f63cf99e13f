-- A string of the store compared with other bytes, lengths first; and each return of the code above it.
use Rattle.std.specs.Prelude.{Option, Some, None, ◌≡◌, ℕ, suc, ◌<◌, Bool, true, false, List, ◌++◌, length, drop, ◌≢◌, slice_index}
use Rattle.std.proofs.Math.Path.{refl, ap}
use Rattle.std.proofs.Common.{sym, ◌∙◌, arith, length-append, length-drop, length-take-le}
use Rattle.model.specs.Lists.{any, same}
use Rattle.model.specs.Types.{SourceNode}
use Rattle.model.specs.Store.{NodeStore, resolve_str}
use Rattle.model.specs.Tape.{record_at, node_codec, string_codec}
use Rattle.model.specs.Region.{is_ruby}
use Rattle.facts.specs.Truth.{by_bool}
use Rattle.facts.specs.Lists.{same_eq}
use Rattle.store.specs.Pools.{before_next, before_most}
use Rattle.store.specs.Standing.{string_place, length_at, string_at_lem}
use Rattle.span.specs.declared.StrId.{StrId}
use Rattle.strings.specs.Starts.{lengths_in, start_in}
use Rattle.strings.specs.declared.lent.Strings.{Strings}
use Rattle.strings.specs.Lent.{lent_store, string_in}
use Rattle.strings.specs.PlainContent.{plain_of, plain_string}
use Rattle.dependency.specs.Bases.{is_plain, has_base, among_bases}
use Rattle.ruby_formats.specs.Sound.{first_contents, plain_first}

-- ---- a string and bytes

length_string : (ss : Strings) (id : ℕ) → id < ss.store.now.totals.strings → length (string_in ss id) ≡ slice_index (lengths_in ss.tape.now) id
unfolding resolve_str
length_string ss id h =
    let t = ss.tape.now in
    let all = ss.old.now ++ ss.new.now in
    let sides = ss.resolvable.sides in
    let n = length_at t ss.store.now sides.store.stored id h in
    let next = before_next (lengths_in t) id in
    let most = before_most (lengths_in t) (suc id) in
    let whole = length-append ss.old.now ss.new.now in
    let left = length-drop (start_in t id) all in
    ap length (string_at_lem t ss.store.now sides.store.stored all id h)
    ∙ length-take-le (record_at string_codec t (string_place ss.store.now id)) (drop (start_in t id) all) (omega (arith, n, next, most, whole, left, sides.whole))
    ∙ sym n

pub other_length : (ss : Strings) (id : ℕ) → id < ss.store.now.totals.strings → (s : List ℕ) {n : ℕ} → n ≡ slice_index (lengths_in ss.tape.now) id
    → (n ≢ length s) → false ≡ same s (string_in ss id)
other_length ss id h s e d =
    by_bool (same s (string_in ss id))
    (λ x. absurd (d (e ∙ sym (length_string ss id h) ∙ ap length (sym (same_eq s (string_in ss id) x)))))
    (λ x. sym x)

-- ---- an answer and bytes

module _ (ss : Strings) (s : List ℕ) where
  pub plain_some : (id : StrId) {r : Option StrId} → r ≡ Some id → {x : Bool} → x ≡ same s (string_in ss id.0) → x ≡ is_plain s (plain_string (lent_store ss) r)
  unfolding is_plain plain_string
  plain_some id e q = rw e q

  pub plain_none : {r : Option StrId} → r ≡ None → false ≡ is_plain s (plain_string (lent_store ss) r)
  unfolding is_plain plain_string
  plain_none e = rw e refl

-- ---- one node as a Ruby with this base

module _ (ss : Strings) (p : ℕ) (s : List ℕ) {x : Bool} (e : x ≡ is_ruby (record_at node_codec ss.tape.now p)) where
  pub base_other : x ≡ false → false ≡ has_base (lent_store ss) s (record_at node_codec ss.tape.now p)
  unfolding has_base
  base_other h = rw (← e, h) refl

  pub base_ruby : x ≡ true → {r : Option StrId} → ((b : List ℕ) → r ≡ plain_of (first_contents ss.tape.now p b)) → {y : Bool} → y ≡ is_plain s (plain_string (lent_store ss) r)
      → y ≡ has_base (lent_store ss) s (record_at node_codec ss.tape.now p)
  unfolding has_base
  base_ruby h g q = rw (← e, h) (q ∙ ap (is_plain s) (sym (plain_first ss p g)))

-- ---- the target of a Format, whose string may stand in another store

module _ (st other : NodeStore) (ns : List SourceNode) where
  pub target_some : (id : StrId) {r : Option StrId} → r ≡ Some id → {s : List ℕ} → s ≡ resolve_str other id.0 → {x : Bool} → x ≡ any (has_base st s) ns
      → x ≡ among_bases st ns (plain_string other r)
  unfolding among_bases plain_string
  target_some id e f q = rw (e, ← f) q

  pub target_none : {r : Option StrId} → r ≡ None → false ≡ among_bases st ns (plain_string other r)
  unfolding among_bases plain_string
  target_none e = rw e refl
