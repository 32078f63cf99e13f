-- How long the parts of a merged book are, as the code counts them before anything is written; number 18 as far as they decide it.
use Rattle.std.specs.Prelude.{◌≡◌, ℕ, suc, ◌+◌, ◌-◌, ◌*◌, ◌≤◌, ◌<◌, Bool, true, false, cond, ◌&&◌, List, [], ◌∷◌, length}
use Rattle.std.proofs.Math.Path.{refl, ap}
use Rattle.std.proofs.Common.{arith}
use Rattle.std.proofs.Math.Bool.{and-false}
use Rattle.std.proofs.Math.Dec.{leb}
use borrow.Author.Tests.{leb-true, le-leb, lt-leb}
use Rattle.model.specs.Lists.{keep}
use Rattle.model.specs.Limits.{max_text, max_list, min_work_words}
use Rattle.model.specs.Tape.{records_at, node_codec, pair_codec, container_codec, diagnostic_codec}
use Rattle.model.specs.Merge.{MergeWindow, Located, kept_before, kept_behind, node_located, pair_located, container_located, diagnostic_located}
use Rattle.facts.specs.Truth.{both}
use Rattle.laws.specs.Located.{is_before, is_behind}
use Rattle.places.specs.declared.Places.{Places}
use Rattle.merged_lists.specs.declared.Sides.{Sides}
use Rattle.merged_lists.specs.declared.Kept.{Kept}
use Rattle.merged_lists.specs.declared.Lengths.{Lengths}
use Rattle.merged_lists.specs.declared.Totals.{Totals}

-- ---- definitions

-- how many elements of a list are kept on either side
abbrev pub sides_of : {A : Type 0} → Located A → MergeWindow → List A → Sides
sides_of l w xs = record { before = length (kept_before l w xs); behind = length (kept_behind l w xs) }

unfoldable pub kept_of : MergeWindow → List ℕ → Places → Kept
kept_of w t p = record {
  nodes = sides_of node_located w (records_at node_codec t p.nodes.at p.nodes.count);
  pairs = sides_of pair_located w (records_at pair_codec t p.pairs.at p.pairs.count);
  containers = sides_of container_located w (records_at container_codec t p.containers.at p.containers.count);
  diagnostics = sides_of diagnostic_located w (records_at diagnostic_codec t p.diagnostics.at p.diagnostics.count);
}

abbrev pub total_of : Sides → ℕ → ℕ
total_of s reading = s.before + reading + s.behind

abbrev pub totals_of : Kept → Places → Totals
totals_of k q = record {
  nodes = total_of k.nodes q.nodes.count;
  pairs = total_of k.pairs q.pairs.count;
  containers = total_of k.containers q.containers.count;
  diagnostics = total_of k.diagnostics q.diagnostics.count;
}

abbrev pub lengths_of : Places → Places → ℕ → ℕ → ℕ → ℕ → ℕ → ℕ → Lengths
lengths_of p q start end added from to size = record {
  text = start + added + (p.text.0 - end);
  normalized = from + q.normalized.0 + (p.normalized.0 - to);
  base = start + added + (p.text.0 - end) + (from + q.normalized.0 + (p.normalized.0 - to)) + (size - (p.text.0 + p.normalized.0));
}

-- Number 3 of the four lists.
unfoldable pub lists_fit : Kept → Places → Bool
lists_fit k q =
    leb (total_of k.nodes q.nodes.count) max_list && leb (total_of k.pairs q.pairs.count) max_list
    && leb (total_of k.containers q.containers.count) max_list && leb (total_of k.diagnostics q.diagnostics.count) max_list

-- Number 18 before the graft.
unfoldable pub room_for : Lengths → Kept → Places → ℕ → ℕ → ℕ → ℕ → Bool
room_for l k q nodes_at tape bytes work = leb min_work_words work && leb l.normalized max_text && leb l.base bytes && leb nodes_at tape && lists_fit k q

unfoldable pub lists_end : ℕ → Kept → Places → ℕ
lists_end at k q =
    at + 49 * total_of k.nodes q.nodes.count + 18 * total_of k.pairs q.pairs.count + 13 * total_of k.containers q.containers.count
    + 18 * total_of k.diagnostics q.diagnostics.count + 1

-- each of the four totals
pub record TotalsAre (k : Kept) (q : Places) (all : Totals) : Type 0 where
  pub nodes : all.nodes ≡ total_of k.nodes q.nodes.count
  pub pairs : all.pairs ≡ total_of k.pairs q.pairs.count
  pub containers : all.containers ≡ total_of k.containers q.containers.count
  pub diagnostics : all.diagnostics ≡ total_of k.diagnostics q.diagnostics.count

pub totals_are : (k : Kept) (q : Places) {all : Totals} → all ≡ totals_of k q → TotalsAre k q all
totals_are k q e = record {
  nodes = ap (λ (x : Totals). x.nodes) e;
  pairs = ap (λ (x : Totals). x.pairs) e;
  containers = ap (λ (x : Totals). x.containers) e;
  diagnostics = ap (λ (x : Totals). x.diagnostics) e;
}

-- ---- no sum is too large

pub record Few (s : Sides) (n : ℕ) : Type 0 where
  pub before : s.before ≤ max_list
  pub reading : n ≤ max_list
  pub behind : s.behind ≤ max_list

pub record Small (k : Kept) (q : Places) : Type 0 where
  pub nodes : Few k.nodes q.nodes.count
  pub pairs : Few k.pairs q.pairs.count
  pub containers : Few k.containers q.containers.count
  pub diagnostics : Few k.diagnostics q.diagnostics.count

-- ---- lists

module _ {A : Type 0} where
  pub keep_few : (t : A → Bool) (xs : List A) → length (keep t xs) ≤ length xs
  keep_few t [] = omega arith
  keep_few t (x ∷ xs) = go (keep_few t xs) (t x)
    where
      go : length (keep t xs) ≤ length xs → (b : Bool) → length (cond b (x ∷ keep t xs) (keep t xs)) ≤ suc (length xs)
      go m true = omega (arith, m)
      go m false = omega (arith, m)

  pub few_kept : (l : Located A) (w : MergeWindow) (old : List A) {reading : ℕ} → length old ≤ max_list → reading ≤ max_list → Few (sides_of l w old) reading
  unfolding kept_before kept_behind
  few_kept l w old h k = record {
    before = let m = keep_few (is_before l w) old in omega (arith, m, h);
    reading = k;
    behind = let m = keep_few (is_behind l w) old in omega (arith, m, h);
  }

-- ---- the tests, one by one

pub record RoomFor (l : Lengths) (k : Kept) (q : Places) (first tape bytes words : ℕ) : Type 0 where
  pub work : min_work_words ≤ words
  pub normalized : l.normalized ≤ max_text
  pub base : l.base ≤ bytes
  pub nodes_at : first ≤ tape
  pub nodes : total_of k.nodes q.nodes.count ≤ max_list
  pub pairs : total_of k.pairs q.pairs.count ≤ max_list
  pub containers : total_of k.containers q.containers.count ≤ max_list
  pub diagnostics : total_of k.diagnostics q.diagnostics.count ≤ max_list

module _ (l : Lengths) (k : Kept) (q : Places) (nodes_at tape bytes work : ℕ) where
  pub room_facts : room_for l k q nodes_at tape bytes work ≡ true → RoomFor l k q nodes_at tape bytes work
  unfolding room_for lists_fit
  room_facts e =
      let u₁ = both (leb min_work_words work && leb l.normalized max_text && leb l.base bytes && leb nodes_at tape) (lists_fit k q) e in
      let u₂ = both (leb min_work_words work && leb l.normalized max_text && leb l.base bytes) (leb nodes_at tape) u₁.0 in
      let u₃ = both (leb min_work_words work && leb l.normalized max_text) (leb l.base bytes) u₂.0 in
      let u₄ = both (leb min_work_words work) (leb l.normalized max_text) u₃.0 in
      let v₁ = both _ (leb (total_of k.diagnostics q.diagnostics.count) max_list) u₁.1 in
      let v₂ = both _ (leb (total_of k.containers q.containers.count) max_list) v₁.0 in
      let v₃ = both (leb (total_of k.nodes q.nodes.count) max_list) (leb (total_of k.pairs q.pairs.count) max_list) v₂.0 in
      record {
        work = leb-true min_work_words work u₄.0;
        normalized = leb-true l.normalized max_text u₄.1;
        base = leb-true l.base bytes u₃.1;
        nodes_at = leb-true nodes_at tape u₂.1;
        nodes = leb-true (total_of k.nodes q.nodes.count) max_list v₃.0;
        pairs = leb-true (total_of k.pairs q.pairs.count) max_list v₃.1;
        containers = leb-true (total_of k.containers q.containers.count) max_list v₂.1;
        diagnostics = leb-true (total_of k.diagnostics q.diagnostics.count) max_list v₁.1;
      }

  pub room_ok : RoomFor l k q nodes_at tape bytes work → room_for l k q nodes_at tape bytes work ≡ true
  unfolding room_for lists_fit
  room_ok f = rw (le-leb _ _ f.work, le-leb _ _ f.normalized, le-leb _ _ f.base, le-leb _ _ f.nodes_at, le-leb _ _ f.nodes, le-leb _ _ f.pairs, le-leb _ _ f.containers, le-leb _ _ f.diagnostics) refl

-- ---- the returns of the code

module _ (k : Kept) (q : Places) {x : Bool} (e : x ≡ leb (total_of k.nodes q.nodes.count) max_list) where
  pub lists_nodes : x ≡ false → false ≡ lists_fit k q
  unfolding lists_fit
  lists_nodes f = rw (← e, f) refl

  module _ {y : Bool} (g : y ≡ leb (total_of k.pairs q.pairs.count) max_list) where
    pub lists_pairs : y ≡ false → false ≡ lists_fit k q
    unfolding lists_fit
    lists_pairs f = rw (← g, f, and-false) refl

    module _ {z : Bool} (h : z ≡ leb (total_of k.containers q.containers.count) max_list) where
      pub lists_containers : z ≡ false → false ≡ lists_fit k q
      unfolding lists_fit
      lists_containers f = rw (← h, f, and-false) refl

      pub lists_all : x ≡ true → y ≡ true → z ≡ true → {v : Bool} → v ≡ leb (total_of k.diagnostics q.diagnostics.count) max_list → v ≡ lists_fit k q
      unfolding lists_fit
      lists_all a b c m = rw (← e, a, ← g, b, ← h, c) m

module _ (l : Lengths) (k : Kept) (q : Places) (nodes_at tape bytes work : ℕ) where
  pub no_work : work < min_work_words → false ≡ room_for l k q nodes_at tape bytes work
  unfolding room_for
  no_work h = rw (lt-leb min_work_words work h) refl

  pub no_normalized : max_text < l.normalized → false ≡ room_for l k q nodes_at tape bytes work
  unfolding room_for
  no_normalized h = rw (lt-leb l.normalized max_text h, and-false) refl

  pub no_base : bytes < l.base → false ≡ room_for l k q nodes_at tape bytes work
  unfolding room_for
  no_base h = rw (lt-leb l.base bytes h, and-false) refl

  pub no_head : tape < nodes_at → false ≡ room_for l k q nodes_at tape bytes work
  unfolding room_for
  no_head h = rw (lt-leb nodes_at tape h, and-false) refl

  pub room_lists : min_work_words ≤ work → l.normalized ≤ max_text → l.base ≤ bytes → nodes_at ≤ tape → {x : Bool} → x ≡ lists_fit k q → x ≡ room_for l k q nodes_at tape bytes work
  unfolding room_for
  room_lists a b c d e = rw (le-leb min_work_words work a, le-leb l.normalized max_text b, le-leb l.base bytes c, le-leb nodes_at tape d) e
