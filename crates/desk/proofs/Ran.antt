-- Wish 4, of running calls: what a caller may conclude from the contract of `merge_for_desk`.
use Rattle.std.specs.Prelude.{◌≡◌, refl, ℕ, List, [], ◌∷◌, ◌++◌, map, length}
use Rattle.std.proofs.Common.{sym, ap, ap₂, ◌∙◌}
use Rattle.model.specs.Types.{RegionOutput}
use Rattle.model.specs.Refusal.{Checked, Checked.refused, Checked.accepted}
use Rattle.model.specs.WellFormed.{check_reading}
use Rattle.model.specs.Merge.{Stored, Room, IncrementalOutput, answer}
use Rattle.model.specs.Demand3.{Correction, merge_of}
use Rattle.model.specs.Desk.{zero_ledger, Charged, Charge, charges_of, ledger_behind, charges, LedgerTotals, DeskCall, desk_of_call, desk_answer, DeskTotals}
use Rattle.laws.specs.Checks.{same_accepted, merge_accepted}
use Rattle.laws.proofs.Desk.{accepted_call, desk_totals}
use Rattle.output.specs.declared.IncrementalOutput.{IncrementalOutput as Output}
use Rattle.output.specs.Answer.{output_value, output_of}
use Rattle.refusal.specs.Refusal.{checked_map, was_accepted}
use Rattle.desk.specs.Charging.{MergedForDesk}
use Rattle.desk.specs.Ran.{Ran, RanFrom, charge_told, charges_told}

told_once : (desk : ℕ) (asked : Checked Charged) {r : Checked Output} → r ≡ output_of (checked_map (λ (c : Charged). c.merged) asked) → charge_told desk r ≡ charges_of desk asked
unfolding charge_told charges_of output_value
told_once desk (refused n) e = ap (charge_told desk) e
told_once desk (accepted c) e = ap (charge_told desk) e

calls : List Ran → List DeskCall
calls = map (λ (c : Ran). c.call)

ran_ledger : (cs : List Ran) (l l' : List ℕ) → RanFrom l cs l' → l' ≡ ledger_behind desk_of_call desk_answer l (calls cs)
unfolding RanFrom ledger_behind calls
ran_ledger [] l l' e = e
ran_ledger (c ∷ cs) l l' (next, m, more) = rw m.totals at (ran_ledger cs next l' more)

ran_charges : (cs : List Ran) (l l' : List ℕ) → RanFrom l cs l' → charges_told cs ≡ charges desk_of_call desk_answer l (calls cs)
unfolding RanFrom charges charges_told calls
ran_charges [] l l' e = refl
ran_charges (c ∷ cs) l l' (next, m, more) =
    ap₂ (λ (x y : List Charge). x ++ y) (told_once c.call.desk (desk_answer l c.call) m.merged.answer) (rw m.totals at (ran_charges cs next l' more))

-- Wish 4. For every list of calls from a zero ledger, each total is the sum of the rereads that its own accepted calls told, and all totals
-- together are the sum of all that were told.
pub ran_totals : (cs : List Ran) (ledger : List ℕ) → RanFrom zero_ledger cs ledger → LedgerTotals ledger (charges_told cs)
unfolding DeskTotals
ran_totals cs ledger r = rw (ran_ledger cs zero_ledger ledger r, ran_charges cs zero_ledger ledger r) (desk_totals (calls cs))

-- ---- what a call charges hangs on its reading

nodes_read : (book : Stored) (c : Correction) (room : Room) (a : IncrementalOutput) → merge_of book c room ≡ accepted a
    → (reading : RegionOutput) × (check_reading c.reading.tape c.reading.bytes ≡ accepted reading) × (a.reparsed_nodes ≡ length reading.source_nodes)
unfolding answer
nodes_read book c room a q =
    let m = merge_accepted book c.edit c.reading room a q in
    (m.reading, m.read, ap (λ (x : IncrementalOutput). x.reparsed_nodes) m.facts.result)

module _ (l : List ℕ) (call : DeskCall) {r : Output} {out text work next : List ℕ} (m : MergedForDesk (desk_answer l call) call.room (accepted r) out text work l next) where
  told_nodes : (reading : RegionOutput) × (check_reading call.correction.reading.tape call.correction.reading.bytes ≡ accepted reading) × (r.reread ≡ length reading.source_nodes)
  unfolding output_value
  told_nodes =
      let o = was_accepted output_value (checked_map (λ (c : Charged). c.merged) (desk_answer l call)) m.merged.answer in
      let x = was_accepted (λ (c : Charged). c.merged) (desk_answer l call) (sym o.1) in
      let n = nodes_read call.book call.correction call.room x.0.merged (accepted_call l call x.0 x.1).0 in
      (n.0, n.1, ap (λ (v : Output). v.reread) o.2 ∙ ap (λ (a : IncrementalOutput). a.reparsed_nodes) x.2 ∙ n.2)

-- Merged into another book, by another edit or in another order, a reading costs its desk the same.
pub same_rereads : (l l' : List ℕ) (c c' : DeskCall) {r r' : Output} {out text work next out' text' work' next' : List ℕ}
    → MergedForDesk (desk_answer l c) c.room (accepted r) out text work l next → MergedForDesk (desk_answer l' c') c'.room (accepted r') out' text' work' l' next'
    → c.correction.reading ≡ c'.correction.reading → r.reread ≡ r'.reread
same_rereads l l' c c' m m' same =
    let n = told_nodes l c m in
    let n' = told_nodes l' c' m' in
    let read : n.0 ≡ n'.0 = same_accepted n.0 n'.0 (sym n.1 ∙ ap (λ (s : Stored). check_reading s.tape s.bytes) same ∙ n'.1) in
    n.2 ∙ ap (λ (x : RegionOutput). length x.source_nodes) read ∙ sym n'.2
