-- The nodes whose targets number 10 asks for: behind the last of them no node decides it.
use Rattle.std.specs.Prelude.{◌≡◌, ℕ, ◌≤◌, Bool, false, List, [], refl}
use Rattle.std.proofs.Common.{sym, ◌∙◌, arith}
use Rattle.std.proofs.Math.Path.{ap}
use Rattle.model.specs.Store.{NodeStore}
use Rattle.model.specs.Tape.{records_at, node_codec}
use Rattle.model.specs.Region.{depends_from}
use Rattle.wire.specs.Loops.{any_up_to}
use Rattle.records.specs.Runs.{run_none}
use Rattle.dependency.specs.Bases.{refers_back, refers_at, depends_records}
use Rattle.ruby_formats.specs.Asks.{asks_at, count_to_last, last_most, last_any}

-- ---- number 10

refers_asks : (st : NodeStore) (from : ℕ) (t : List ℕ) (at i : ℕ) → asks_at from t at i ≡ false → refers_at st from t at i ≡ false
unfolding asks_at refers_at refers_back
refers_asks st from t at i e = rw e refl

module _ (from : ℕ) (t : List ℕ) (at count : ℕ) {r : ℕ} (e : r ≡ count_to_last count (asks_at from t at)) where
  pub asked_inside : r ≤ count
  asked_inside = let m = last_most (asks_at from t at) count in omega (arith, e, m)

  pub asked_depends : (st : NodeStore) {x : Bool} → x ≡ depends_from st from [] (records_at node_codec t at r) → x ≡ depends_from st from [] (records_at node_codec t at count)
  asked_depends st q =
      q ∙ depends_records st from t at r ∙ ap (λ (n : ℕ). any_up_to n (refers_at st from t at)) e
      ∙ last_any (asks_at from t at) (refers_at st from t at) (refers_asks st from t at) count ∙ sym (depends_records st from t at count)

  pub asked_none : (st : NodeStore) → r ≡ 0 → false ≡ depends_from st from [] (records_at node_codec t at count)
  unfolding depends_from
  asked_none st z = asked_depends st (sym (ap (λ (n : ℕ). depends_from st from [] (records_at node_codec t at n)) z ∙ ap (depends_from st from []) (run_none node_codec t at)))
