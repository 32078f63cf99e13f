-- Which string a node names, and two nodes that name one by the same id.
use Rattle.std.specs.Prelude.{Option, Some, None, ◌≡◌, ℕ, ◌+◌, ◌*◌, Bool, ◌||◌, ◌&&◌, List, ltb}
use Rattle.std.proofs.Math.Path.{refl, ap}
use Rattle.std.proofs.Common.{sym, ◌∙◌, arith}
use Rattle.std.proofs.Math.Bool.{true, false, cond}
use Rattle.std.proofs.lemmas.Bool.{false≢true}
use Rattle.std.proofs.lemmas.Option.{none-some}
use borrow.Author.Tests.{eqb-true}
use Rattle.model.specs.Types.{SourceNode}
use Rattle.model.specs.Tape.{record_at, node_codec}
use Rattle.model.specs.Region.{is_referenced_format, is_ruby, first_plain}
use Rattle.model.specs.WellFormed.{word_of}
use Rattle.span.specs.declared.StrId.{StrId}
use Rattle.store.specs.declared.Store.{Store}
use Rattle.strings.specs.Starts.{store_in}
use Rattle.strings.specs.PlainContent.{plain_of, same_known, plain_string, plain_string_lem}
use Rattle.ruby_formats.specs.Asks.{asks_at}
use Rattle.ruby_formats.specs.Sound.{PlainIn, first_contents}

-- ---- what a node names

-- a Ruby's base, a Referenced Format's target
unfoldable pub named_by : List ℕ → ℕ → List ℕ → Option StrId
named_by t p b =
    cond (is_ruby (record_at node_codec t p)) (plain_of (first_contents t p b)) (cond (is_referenced_format (record_at node_codec t p)) (plain_of (first_contents t p b)) None)

pub nothing_in : {st : Store} → PlainIn st None
nothing_in = record { inside = λ id q. absurd (none-some id q) }

-- ---- the same id

same_is : (p q : Option StrId) → same_known p q ≡ true → p ≡ q
unfolding same_known
same_is (Some a) (Some b) e = ap (λ (n : ℕ). Some (record { 0 = n })) (eqb-true a.0 b.0 e)
same_is (Some a) None e = absurd (false≢true e)
same_is None q e = absurd (false≢true e)

-- the strings of two nodes
module _ (t b : List ℕ) (p q : ℕ) (e : same_known (named_by t p b) (named_by t q b) ≡ true) where
  abbrev node : ℕ → SourceNode
  node p = record_at node_codec t p

  first_is : (p : ℕ) → first_plain (store_in t b) (node p) ≡ plain_string (store_in t b) (plain_of (first_contents t p b))
  unfolding first_plain first_contents
  first_is p = plain_string_lem (store_in t b) (word_of (node p).body 0) (word_of (node p).body 1) refl

  named_is : (p : ℕ) → (is_ruby (node p) || is_referenced_format (node p)) ≡ true → first_plain (store_in t b) (node p) ≡ plain_string (store_in t b) (named_by t p b)
  unfolding named_by
  named_is p h = first_is p ∙ ap (plain_string (store_in t b)) (pick (is_ruby (node p)) (is_referenced_format (node p)) h)
    where
      pick : (x y : Bool) → (x || y) ≡ true → plain_of (first_contents t p b) ≡ cond x (plain_of (first_contents t p b)) (cond y (plain_of (first_contents t p b)) None)
      pick true y h = refl
      pick false true h = refl
      pick false false h = absurd (false≢true h)

  pub same_first : (is_ruby (node p) || is_referenced_format (node p)) ≡ true → (is_ruby (node q) || is_referenced_format (node q)) ≡ true
      → first_plain (store_in t b) (node p) ≡ first_plain (store_in t b) (node q)
  same_first f g = named_is p f ∙ ap (plain_string (store_in t b)) (same_is (named_by t p b) (named_by t q b) e) ∙ sym (named_is q g)

-- ---- a base again

-- a Ruby before node i with its base by the same id
unfoldable pub base_again : List ℕ → ℕ → ℕ → ℕ → List ℕ → Bool
base_again t at i v b = ltb v i && is_ruby (record_at node_codec t (at + 49 * v)) && same_known (named_by t (at + 49 * i) b) (named_by t (at + 49 * v) b)

-- ---- a target again: of an earlier node

-- a Format before node i with its target by the same id
unfoldable pub target_again : List ℕ → ℕ → ℕ → ℕ → List ℕ → Bool
target_again t at i v b = ltb v i && is_referenced_format (record_at node_codec t (at + 49 * v)) && same_known (named_by t (at + 49 * i) b) (named_by t (at + 49 * v) b)

-- ---- of a later node

-- a later node that asks for the target of node i by the same id
unfoldable pub asks_again : ℕ → List ℕ → ℕ → ℕ → ℕ → ℕ → List ℕ → Bool
asks_again from t at i v count b = ltb i v && ltb v count && asks_at from t at v && same_known (named_by t (at + 49 * i) b) (named_by t (at + 49 * v) b)
