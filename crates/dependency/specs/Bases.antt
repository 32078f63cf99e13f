-- Numbers 10 and 15 compare the target of a Format with the bases of Rubies. As the code asks: is a string the plain base of a Ruby
-- among these nodes?
use Rattle.std.specs.Prelude.{◌≡◌, ℕ, zero, suc, ◌+◌, ◌*◌, Bool, true, false, cond, ◌&&◌, ◌||◌, List, [], ◌∷◌, ◌++◌, nat_lt, refl}
use Rattle.std.proofs.Common.{sym, ap, ap₂, ◌∙◌, append_assoc, append-nil}
use Rattle.std.proofs.Math.Bool.{or-false, or_assoc}
use Rattle.std.proofs.Math.Option.{Option, none, some}
use Rattle.model.specs.Lists.{any, same, tabulate}
use Rattle.model.specs.Types.{SourceNode}
use Rattle.model.specs.Store.{NodeStore}
use Rattle.model.specs.Region.{is_ruby, is_referenced_format, first_plain, is_among, with_plain, depends_from}
use Rattle.model.specs.Merge.{ruby_bases}
use Rattle.model.specs.Tape.{record_at, records_at, node_codec}
use Rattle.facts.specs.Truth.{by_bool}
use Rattle.facts.specs.Lists.{tabulate_last}
use Rattle.wire.specs.Loops.{any_up_to}
use Rattle.ruby_formats.specs.Asks.{asks_target}

-- is it this string? None is not
unfoldable pub is_plain : List ℕ → Option (List ℕ) → Bool
is_plain s none = false
is_plain s (some x) = same s x

-- a Ruby with this plain base
unfoldable pub has_base : NodeStore → List ℕ → SourceNode → Bool
has_base st s n = is_ruby n && is_plain s (first_plain st n)

-- is it the plain base of a Ruby among these nodes? None is not
unfoldable pub among_bases : NodeStore → List SourceNode → Option (List ℕ) → Bool
among_bases st ns none = false
among_bases st ns (some s) = any (has_base st s) ns

-- Number 10, one node: a Referenced Format that ends behind `from` and whose target is the base of an earlier Ruby.
unfoldable pub refers_back : NodeStore → ℕ → List SourceNode → SourceNode → Bool
refers_back st from earlier n = asks_target from n && among_bases st earlier (first_plain st n)

-- ---- the bases of some nodes, in any order

with_plain_lem : (s : List ℕ) (p : Option (List ℕ)) (ss : List (List ℕ)) → any (same s) (with_plain p ss) ≡ is_plain s p || any (same s) ss
unfolding with_plain is_plain
with_plain_lem s none ss = refl
with_plain_lem s (some x) ss = refl

base_more : (st : NodeStore) (s : List ℕ) (n : SourceNode) (ss : List (List ℕ))
    → any (same s) (cond (is_ruby n) (with_plain (first_plain st n) ss) ss) ≡ has_base st s n || any (same s) ss
unfolding has_base
base_more st s n ss =
    by_bool (is_ruby n)
    (λ e. rw e (with_plain_lem s (first_plain st n) ss))
    (λ e. rw e refl)

pub bases_any : (st : NodeStore) (s : List ℕ) (ns : List SourceNode) → any (same s) (ruby_bases st ns) ≡ any (has_base st s) ns
unfolding ruby_bases
bases_any st s [] = refl
bases_any st s (n ∷ ns) = base_more st s n (ruby_bases st ns) ∙ ap (λ (x : Bool). has_base st s n || x) (bases_any st s ns)

pub among_bases_lem : (st : NodeStore) (ns : List SourceNode) (p : Option (List ℕ)) → is_among (ruby_bases st ns) p ≡ among_bases st ns p
unfolding is_among among_bases
among_bases_lem st ns none = refl
among_bases_lem st ns (some s) = bases_any st s ns

-- ---- number 10, over all nodes

-- these are the bases of the nodes passed
record Bases (st : NodeStore) (rubies : List (List ℕ)) (passed : List SourceNode) : Type 0 where
  are : (s : List ℕ) → any (same s) rubies ≡ any (has_base st s) passed

pub any_snoc : {A : Type 0} (p : A → Bool) (xs : List A) (x : A) → any p (xs ++ (x ∷ [])) ≡ p x || any p xs
any_snoc p [] x = refl
any_snoc p (y ∷ ys) x = ap (λ (b : Bool). p y || b) (any_snoc p ys x) ∙ swap (p y) (p x) (any p ys)
  where
    swap : (a b c : Bool) → a || (b || c) ≡ b || (a || c)
    swap true true c = refl
    swap true false c = refl
    swap false true c = refl
    swap false false c = refl

bases_more : (st : NodeStore) (rubies : List (List ℕ)) (passed : List SourceNode) (n : SourceNode) → Bases st rubies passed
    → Bases st (cond (is_ruby n) (with_plain (first_plain st n) rubies) rubies) (passed ++ (n ∷ []))
bases_more st rubies passed n b = record {
  are = λ s. base_more st s n rubies ∙ ap (λ (x : Bool). has_base st s n || x) (b.are s) ∙ sym (any_snoc (has_base st s) passed n);
}

among_passed : (st : NodeStore) (rubies : List (List ℕ)) (passed : List SourceNode) (p : Option (List ℕ)) → Bases st rubies passed
    → is_among rubies p ≡ among_bases st passed p
unfolding is_among among_bases
among_passed st rubies passed none b = refl
among_passed st rubies passed (some s) b = b.are s

-- does a node refer back to one before it?
unfoldable pub any_refers : NodeStore → ℕ → List SourceNode → List SourceNode → Bool
any_refers st from passed [] = false
any_refers st from passed (n ∷ ns) = refers_back st from passed n || any_refers st from (passed ++ (n ∷ [])) ns

depends_any : (st : NodeStore) (from : ℕ) (rubies : List (List ℕ)) (passed ns : List SourceNode) → Bases st rubies passed
    → depends_from st from rubies ns ≡ any_refers st from passed ns
unfolding depends_from any_refers refers_back asks_target
depends_any st from rubies passed [] b = refl
depends_any st from rubies passed (n ∷ ns) b =
    ap₂ (λ (x y : Bool). x || y)
    (ap (λ (x : Bool). is_referenced_format n && nat_lt from n.source_span.end && x) (among_passed st rubies passed (first_plain st n) b))
    (depends_any st from (cond (is_ruby n) (with_plain (first_plain st n) rubies) rubies) (passed ++ (n ∷ [])) ns (bases_more st rubies passed n b))

pub depends_refers : (st : NodeStore) (from : ℕ) (ns : List SourceNode) → depends_from st from [] ns ≡ any_refers st from [] ns
depends_refers st from ns = depends_any st from [] [] ns (record { are = λ s. refl })

-- ---- by the nodes' places in the list

refers_snoc : (st : NodeStore) (from : ℕ) (passed ns : List SourceNode) (n : SourceNode)
    → any_refers st from passed (ns ++ (n ∷ [])) ≡ any_refers st from passed ns || refers_back st from (passed ++ ns) n
unfolding any_refers
refers_snoc st from passed [] n = or-false (refers_back st from passed n) ∙ ap (λ (l : List SourceNode). refers_back st from l n) (sym (append-nil passed))
refers_snoc st from passed (m ∷ ns) n =
    ap (λ (x : Bool). refers_back st from passed m || x) (refers_snoc st from (passed ++ (m ∷ [])) ns n
    ∙ ap (λ (l : List SourceNode). any_refers st from (passed ++ (m ∷ [])) ns || refers_back st from l n) (append_assoc passed (m ∷ []) ns))
    ∙ sym (or_assoc (refers_back st from passed m) (any_refers st from (passed ++ (m ∷ [])) ns) (refers_back st from (passed ++ (m ∷ ns)) n))

refers_tabulate : (st : NodeStore) (from n : ℕ) (f : ℕ → SourceNode)
    → any_refers st from [] (tabulate n f) ≡ any_up_to n (λ (i : ℕ). refers_back st from (tabulate i f) (f i))
unfolding any_up_to any_refers
refers_tabulate st from zero f = refl
refers_tabulate st from (suc n) f =
    ap (any_refers st from []) (tabulate_last n f) ∙ refers_snoc st from [] (tabulate n f) (f n)
    ∙ ap (λ (x : Bool). x || refers_back st from (tabulate n f) (f n)) (refers_tabulate st from n f)

-- node i of a run and the nodes before it
unfoldable pub refers_at : NodeStore → ℕ → List ℕ → ℕ → ℕ → Bool
refers_at st from t at i = refers_back st from (records_at node_codec t at i) (record_at node_codec t (at + 49 * i))

pub depends_records : (st : NodeStore) (from : ℕ) (t : List ℕ) (at count : ℕ) → depends_from st from [] (records_at node_codec t at count) ≡ any_up_to count (refers_at st from t at)
unfolding records_at node_codec refers_at
depends_records st from t at count =
    depends_refers st from (records_at node_codec t at count) ∙ refers_tabulate st from count (λ (i : ℕ). record_at node_codec t (at + 49 * i))
