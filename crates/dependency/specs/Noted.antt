-- The bases of the Rubies passed, in a Bloom filter: each base is found in it, so that a string which is not found is no base.
use Rattle.std.specs.Prelude.{Option, Some, None, ◌≡◌, ℕ, ◌+◌, ◌-◌, ◌*◌, ◌%◌, ◌^◌, ◌<◌, ◌≤◌, Bool, true, false, cond, ◌||◌, List, [], ◌∷◌, ◌++◌, length, nat_le}
use Rattle.std.proofs.Math.Path.{refl, ap}
use Rattle.std.proofs.Common.{sym, ◌∙◌, le-leb}
use native.Mathlib.Omega.{arith}
use Rattle.std.proofs.Math.Numerals.{add-one}
use Rattle.std.proofs.lemmas.Bool.{false≢true, lt-leb}
use Rattle.std.proofs.Math.Option.{Option as ModelOption, none, some}
use Rattle.model.specs.Lists.{any}
use Rattle.model.specs.Types.{SourceNode}
use Rattle.model.specs.Store.{NodeStore, resolve_str}
use Rattle.model.specs.Bytes.{part}
use Rattle.model.specs.Intern.{fx_hash}
use Rattle.model.specs.Tape.{record_at, records_at, node_codec}
use Rattle.model.specs.Region.{is_ruby, first_plain}
use Rattle.facts.specs.Truth.{both, by_bool}
use Rattle.facts.specs.Lists.{same_eq, tabulate_last}
use Rattle.span.specs.declared.StrId.{StrId}
use Rattle.strings.specs.declared.lent.Strings.{Strings}
use Rattle.strings.specs.Lent.{lent_store}
use Rattle.strings.specs.PlainContent.{plain_of, plain_string}
use Rattle.bloom.specs.Filter.{may_contain, inserted, inserted_own, inserted_kept}
use Rattle.dependency.specs.Bases.{is_plain, has_base, any_snoc}
use Rattle.ruby_formats.specs.Sound.{first_contents, plain_first}

-- What the filter knows a string by: its hash, or of a long one the hashes of its two ends and its length, since many nodes may name
-- one long string.
unfoldable pub filter_key : List ℕ → ℕ
filter_key s = cond (nat_le (length s) 64) (fx_hash s) (((fx_hash (part s 0 32) + fx_hash (part s (length s - 32) 32)) % 2 ^ 64 + length s) % 2 ^ 64)

module _ (s : List ℕ) where
  pub key_short : {h : ℕ} → length s ≤ 64 → h ≡ fx_hash s → h ≡ filter_key s
  unfolding filter_key
  key_short l e = rw (le-leb (length s) 64 l) e

  pub key_long : {front back : List ℕ} {f b ends h : ℕ} → 64 < length s → front ≡ part s 0 (32 - 0) → f ≡ fx_hash front → back ≡ part s (length s - 32) (length s - (length s - 32)) → b ≡ fx_hash back
      → ends ≡ (f + b) % 2 ^ 64 → h ≡ (ends + length s) % 2 ^ 64 → h ≡ filter_key s
  unfolding filter_key
  key_long l p₁ q₁ p₂ q₂ e₁ e₂ =
      let k : length s - (length s - 32) ≡ 32 = omega arith in
      rw (lt-leb (length s) 64 l, e₂, e₁, q₁, q₂, p₁, p₂, k) refl

-- a string inserted; None is not
unfoldable pub inserted_plain : List ℕ → ModelOption (List ℕ) → List ℕ
inserted_plain words none = words
inserted_plain words (some s) = inserted words (filter_key s)

-- a Ruby's plain base inserted; other nodes have none
unfoldable pub noted_by : NodeStore → List ℕ → SourceNode → List ℕ
noted_by st words n = cond (is_ruby n) (inserted_plain words (first_plain st n)) words

-- each plain base of a Ruby among these nodes is found
pub record Noted (st : NodeStore) (ns : List SourceNode) (words : List ℕ) : Type 0 where
  pub found : (s : List ℕ) → any (has_base st s) ns ≡ true → may_contain words (filter_key s) ≡ true

-- ---- one base more

plain_own : (words : List ℕ) (s : List ℕ) (p : ModelOption (List ℕ)) → is_plain s p ≡ true → may_contain (inserted_plain words p) (filter_key s) ≡ true
unfolding is_plain inserted_plain
plain_own words s none e = absurd (false≢true e)
plain_own words s (some x) e =
    ap (λ (y : List ℕ). may_contain (inserted words (filter_key x)) (filter_key y)) (same_eq s x e) ∙ inserted_own words (filter_key x)

plain_kept : (words : List ℕ) (h : ℕ) (p : ModelOption (List ℕ)) → may_contain words h ≡ true → may_contain (inserted_plain words p) h ≡ true
unfolding inserted_plain
plain_kept words h none e = e
plain_kept words h (some x) e = inserted_kept words (filter_key x) h e

module _ (st : NodeStore) (words : List ℕ) (n : SourceNode) where
  own : (s : List ℕ) → has_base st s n ≡ true → may_contain (noted_by st words n) (filter_key s) ≡ true
  unfolding has_base noted_by
  own s e = let b = both (is_ruby n) (is_plain s (first_plain st n)) e in rw b.0 (plain_own words s (first_plain st n) b.1)

  kept : (h : ℕ) → may_contain words h ≡ true → may_contain (noted_by st words n) h ≡ true
  unfolding noted_by
  kept h e =
      by_bool (is_ruby n)
      (λ r. rw r (plain_kept words h (first_plain st n) e))
      (λ r. rw r e)

  noted_more : {ns : List SourceNode} → Noted st ns words → Noted st (ns ++ (n ∷ [])) (noted_by st words n)
  noted_more {ns} m = record {
    found = λ s e.
        by_bool (has_base st s n)
        (λ r. own s r)
        (λ r. kept (filter_key s) (m.found s (sym (any_snoc (has_base st s) ns n ∙ ap (λ (b : Bool). b || any (has_base st s) ns) r) ∙ e)));
  }

-- ---- over a run of nodes

module _ (st : NodeStore) (t : List ℕ) (at : ℕ) (words : List ℕ) where
  pub noted_none : Noted st (records_at node_codec t at 0) words
  unfolding records_at
  noted_none = record { found = λ s e. absurd (false≢true e) }

  pub noted_next : (i : ℕ) {after : List ℕ} → Noted st (records_at node_codec t at i) words → after ≡ noted_by st words (record_at node_codec t (at + 49 * i))
      → Noted st (records_at node_codec t at (i + 1)) after
  unfolding records_at node_codec
  noted_next i m e =
      rw (e, add-one i, tabulate_last i (λ (k : ℕ). record_at node_codec t (at + 49 * k))) (noted_more st words (record_at node_codec t (at + 49 * i)) m)

-- ---- each return of the code

-- a string that is not found
pub base_absent : {st : NodeStore} {ns : List SourceNode} {words : List ℕ} → Noted st ns words → (s : List ℕ) {h : ℕ} → h ≡ filter_key s → {x : Bool}
    → x ≡ may_contain words h → x ≡ false → false ≡ any (has_base st s) ns
base_absent {st} {ns} {words} m s e q f =
    by_bool (any (has_base st s) ns)
    (λ r. sym f ∙ q ∙ ap (may_contain words) e ∙ m.found s r ∙ sym r)
    (λ r. sym r)

module _ (st : NodeStore) (words : List ℕ) where
  pub insert_some : (id : StrId) {r : Option StrId} → r ≡ Some id → {s : List ℕ} → s ≡ resolve_str st id.0 → {h : ℕ} → h ≡ filter_key s → {after : List ℕ} → after ≡ inserted words h
      → after ≡ inserted_plain words (plain_string st r)
  unfolding inserted_plain plain_string
  insert_some id e f g q = rw e (q ∙ ap (inserted words) (g ∙ ap filter_key f))

  pub insert_none : {r : Option StrId} → r ≡ None → words ≡ inserted_plain words (plain_string st r)
  unfolding inserted_plain plain_string
  insert_none e = rw e refl

module _ (ss : Strings) (p : ℕ) (words : List ℕ) {x : Bool} (e : x ≡ is_ruby (record_at node_codec ss.tape.now p)) where
  pub note_other : x ≡ false → words ≡ noted_by (lent_store ss) words (record_at node_codec ss.tape.now p)
  unfolding noted_by
  note_other h = rw (← e, h) refl

  pub note_ruby : x ≡ true → {r : Option StrId} → ((b : List ℕ) → r ≡ plain_of (first_contents ss.tape.now p b)) → {after : List ℕ}
      → after ≡ inserted_plain words (plain_string (lent_store ss) r) → after ≡ noted_by (lent_store ss) words (record_at node_codec ss.tape.now p)
  unfolding noted_by
  note_ruby h g q = rw (← e, h) (q ∙ ap (inserted_plain words) (sym (plain_first ss p g)))
