-- The bases of the Rubies passed, in a row of ids: a string is a base exactly if the row has it. It serves where the filter is crowded.
use Rattle.std.specs.Prelude.{Option, Some, None, ◌≡◌, ℕ, ◌+◌, ◌*◌, ◌<◌, ◌≤◌, min, Bool, true, false, ◌&&◌, ◌||◌, List, ◌≢◌, ◌-◌, length, take}
use Rattle.std.proofs.Math.Path.{refl, sym, ap}
use Rattle.std.proofs.Common.{ap₂, ◌∙◌, arith, add-one}
use Rattle.std.proofs.Math.Option.{Option as ModelOption, none, some}
use Rattle.model.specs.Lists.{any}
use Rattle.model.specs.Types.{SourceNode}
use Rattle.model.specs.Store.{NodeStore, resolve_str}
use Rattle.model.specs.Tape.{record_at, records_at, node_codec}
use Rattle.model.specs.Region.{is_ruby, first_plain}
use Rattle.facts.specs.Lists.{tabulate_last}
use Rattle.wire.specs.Loops.{any_up_to}
use Rattle.span.specs.declared.StrId.{StrId}
use Rattle.strings.specs.declared.lent.Strings.{Strings}
use Rattle.strings.specs.Lent.{lent_store, string_in}
use Rattle.strings.specs.PlainContent.{plain_of, plain_string}
use Rattle.sorted_ids.specs.declared.Row.{Row}
use Rattle.sorted_ids.specs.Has.{has}
use Rattle.sorted_ids.specs.Row.{Sorted, cut_holds, holds_at, is_string, Inserted, inserted_none, inserted_as}
use Rattle.ruby_formats.specs.Asks.{asks_target}
use Rattle.dependency.specs.Bases.{is_plain, has_base, among_bases, refers_back, any_snoc}
use Rattle.ruby_formats.specs.Sound.{first_contents, plain_first}
use Rattle.dependency.specs.Parts.{refers_among}
use Rattle.dependency.specs.declared.Answer.{Answer}
use Rattle.dependency.specs.declared.Answer.TheVariants.{Yes, No, InVain, Unknown}

-- ---- an answer that may be not known

abbrev pub is_yes : Answer → Bool
is_yes Yes = true
is_yes No = false
is_yes InVain = false
is_yes Unknown = false

pub record Told (r : Answer) (x : Bool) : Type 0 where
  pub told : (r ≢ Unknown) → is_yes r ≡ x

pub told_is : (r : Answer) {x : Bool} → is_yes r ≡ x → Told r x
told_is r e = record { told = λ d. e }

pub told_not : {x : Bool} → Told Unknown x
told_not = record { told = λ d. absurd (d refl) }

pub told_as : {r : Answer} {x y : Bool} → Told r x → x ≡ y → Told r y
told_as t e = record { told = λ d. t.told d ∙ e }

pub yes_told : {x : Bool} → Told Yes x → true ≡ x
yes_told t = t.told (λ e. cc)

pub no_told : {x : Bool} → Told No x → false ≡ x
no_told t = t.told (λ e. cc)

pub vain_told : {x : Bool} → Told InVain x → false ≡ x
vain_told t = t.told (λ e. cc)

-- ---- what is put in

-- is it this string? None is not
unfoldable pub is_one : ModelOption (List ℕ) → List ℕ → Bool
is_one p s = is_plain s p

-- is it the plain base of this node?
unfoldable pub is_base_of : NodeStore → SourceNode → List ℕ → Bool
is_base_of st n s = has_base st s n

module _ {ss : Strings} {words : List ℕ} {m : ℕ} where
  pub row_some : (id : StrId) {r : Option StrId} → r ≡ Some id → {after : List ℕ} {n : ℕ} → Inserted ss (is_string ss id.0) words m after n
      → Inserted ss (is_one (plain_string (lent_store ss) r)) words m after n
  unfolding is_string is_one plain_string is_plain
  row_some id e i = rw e (inserted_as i (is_one (some (string_in ss id.0))) (λ s. refl))

  pub row_none : Sorted ss words m → {r : Option StrId} → r ≡ None → Inserted ss (is_one (plain_string (lent_store ss) r)) words m words m
  unfolding is_one plain_string is_plain
  row_none row e = rw e (inserted_none row (is_one none) (λ s. refl))

module _ (ss : Strings) (p : ℕ) {x : Bool} (e : x ≡ is_ruby (record_at node_codec ss.tape.now p)) {words : List ℕ} {m : ℕ} where
  pub row_other : x ≡ false → Sorted ss words m → Inserted ss (is_base_of (lent_store ss) (record_at node_codec ss.tape.now p)) words m words m
  unfolding is_base_of has_base
  row_other h row =
      let n = record_at node_codec ss.tape.now p in
      inserted_none row (is_base_of (lent_store ss) n) (λ s. ap (λ (b : Bool). b && is_plain s (first_plain (lent_store ss) n)) (sym e ∙ h))

  pub row_ruby : x ≡ true → {r : Option StrId} → ((b : List ℕ) → r ≡ plain_of (first_contents ss.tape.now p b)) → {after : List ℕ} {n : ℕ}
      → Inserted ss (is_one (plain_string (lent_store ss) r)) words m after n → Inserted ss (is_base_of (lent_store ss) (record_at node_codec ss.tape.now p)) words m after n
  unfolding is_base_of has_base is_one
  row_ruby h {r} f i =
      inserted_as i (is_base_of (lent_store ss) (record_at node_codec ss.tape.now p)) (λ s. sym (ap₂ (λ (b : Bool) (o : ModelOption (List ℕ)). b && is_plain s o) (sym e ∙ h) (plain_first ss p f)))

-- ---- a row of the bases of some nodes

pub record Rowed (ss : Strings) (ns : List SourceNode) (words : List ℕ) (m : ℕ) : Type 0 where
  pub row : Sorted ss words m
  pub holds : (s : List ℕ) → any (has_base (lent_store ss) s) ns ≡ any_up_to m (holds_at ss s words)

module _ (ss : Strings) (t : List ℕ) (at : ℕ) where
  pub rowed_none : (words : List ℕ) → Rowed ss (records_at node_codec t at 0) words 0
  unfolding records_at any_up_to
  rowed_none words = record {
    row = record { room = omega arith; inside = λ j g. absurd (omega arith); rising = λ i j g k. absurd (omega arith) };
    holds = λ s. refl;
  }

  pub rowed_next : (i : ℕ) {words : List ℕ} {m : ℕ} {after : List ℕ} {n : ℕ} → Rowed ss (records_at node_codec t at i) words m
      → Inserted ss (is_base_of (lent_store ss) (record_at node_codec t (at + 49 * i))) words m after n → Rowed ss (records_at node_codec t at (i + 1)) after n
  unfolding records_at node_codec is_base_of
  rowed_next i {words} {m} r q =
      rw (add-one i, tabulate_last i (λ (k : ℕ). record_at node_codec t (at + 49 * k))) (record {
        row = q.row;
        holds = λ s.
            let st = lent_store ss in
            let n = record_at node_codec t (at + 49 * i) in
            any_snoc (has_base st s) (records_at node_codec t at i) n ∙ ap (λ (b : Bool). has_base st s n || b) (r.holds s) ∙ sym (q.holds s);
      })

  -- the bases of the first n nodes, where i are passed
  module _ (n i : ℕ) {words : List ℕ} {m : ℕ} (r : Rowed ss (records_at node_codec t at (min n i)) words m) where
    pub rowed_past : n ≤ i → Rowed ss (records_at node_codec t at (min n (i + 1))) words m
    rowed_past h = let e : min n (i + 1) ≡ min n i = omega arith in rw e r

    pub rowed_one : i < n → {after : List ℕ} {k : ℕ} → Inserted ss (is_base_of (lent_store ss) (record_at node_codec t (at + 49 * i))) words m after k
        → Rowed ss (records_at node_codec t at (min n (i + 1))) after k
    rowed_one h q =
        let e : min n (i + 1) ≡ i + 1 = omega arith in
        let f : min n i ≡ i = omega arith in
        rw e (rowed_next i (rw f at r) q)

  pub rowed_start : (n : ℕ) (words : List ℕ) → Rowed ss (records_at node_codec t at (min n 0)) words 0
  rowed_start n words = let e : min n 0 ≡ 0 = omega arith in rw e (rowed_none words)

-- ---- a row as it is asked

-- its strings are the bases of these nodes
pub record RowOf (st : NodeStore) (ns : List SourceNode) (r : Row) : Type 0 where
  pub holds : (s : List ℕ) → any (has_base st s) ns ≡ has r s

-- the first m words by themselves
pub rowed_cut : {ss : Strings} {ns : List SourceNode} {words : List ℕ} {m : ℕ} → Rowed ss ns words m → (s : List ℕ)
    → any (has_base (lent_store ss) s) ns ≡ any_up_to (length (take (m - 0) words)) (holds_at ss s (take (m - 0) words))
rowed_cut r s = r.holds s ∙ sym (cut_holds r.row s)

-- ---- a target among them

unfoldable pub among_row : Row → ModelOption (List ℕ) → Bool
among_row r none = false
among_row r (some s) = has r s

pub among_row_lem : {st : NodeStore} {ns : List SourceNode} {r : Row} → RowOf st ns r → (p : ModelOption (List ℕ)) → among_row r p ≡ among_bases st ns p
unfolding among_row among_bases
among_row_lem of none = refl
among_row_lem of (some s) = sym (of.holds s)

module _ (r : Row) (other : NodeStore) where
  pub among_some : (id : StrId) {p : Option StrId} → p ≡ Some id → {s : List ℕ} → s ≡ resolve_str other id.0 → {x : Bool} → x ≡ has r s → x ≡ among_row r (plain_string other p)
  unfolding among_row plain_string
  among_some id e f q = rw (e, ← f) q

  pub among_nothing : {p : Option StrId} → p ≡ None → false ≡ among_row r (plain_string other p)
  unfolding among_row plain_string
  among_nothing e = rw e refl

-- Number 10, one node: its target is asked for and in the row.
unfoldable pub refers_row : NodeStore → ℕ → Row → SourceNode → Bool
refers_row st from r n = asks_target from n && among_row r (first_plain st n)

module _ (ss : Strings) (p from : ℕ) (r : Row) {x : Bool} (e : x ≡ asks_target from (record_at node_codec ss.tape.now p)) where
  pub row_asks_not : x ≡ false → false ≡ refers_row (lent_store ss) from r (record_at node_codec ss.tape.now p)
  unfolding refers_row
  row_asks_not h = rw (← e, h) refl

  pub row_target : x ≡ true → {o : Option StrId} → ((b : List ℕ) → o ≡ plain_of (first_contents ss.tape.now p b)) → {y : Bool}
      → y ≡ among_row r (plain_string (lent_store ss) o) → y ≡ refers_row (lent_store ss) from r (record_at node_codec ss.tape.now p)
  unfolding refers_row
  row_target h f q = rw (← e, h) (q ∙ ap (among_row r) (sym (plain_first ss p f)))

pub rowed_refers : {st : NodeStore} (from : ℕ) (t : List ℕ) (at n i : ℕ) {r : Row} → RowOf st (records_at node_codec t at (min n i)) r
    → {x : Bool} → x ≡ refers_row st from r (record_at node_codec t (at + 49 * i)) → x ≡ refers_among st from t at n i
unfolding refers_row refers_among refers_back
rowed_refers {st} from t at n i of q =
    let node = record_at node_codec t (at + 49 * i) in
    q ∙ ap (λ (b : Bool). asks_target from node && b) (among_row_lem of (first_plain st node))
