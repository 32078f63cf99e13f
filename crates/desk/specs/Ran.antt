-- Wish 4, of running calls: a list of calls, each of which is lent the ledger as the one before left it, and what their answers charge.
-- What a caller may conclude of them is in proofs/Ran.antt.
use Rattle.std.specs.Prelude.{◌≡◌, ℕ, List, [], ◌∷◌, ◌++◌}
use Rattle.model.specs.Refusal.{Checked, Checked.refused, Checked.accepted}
use Rattle.model.specs.Desk.{Charge, DeskCall, desk_answer}
use Rattle.output.specs.declared.IncrementalOutput.{IncrementalOutput as Output}
use Rattle.desk.specs.Charging.{MergedForDesk}

-- a call that ran: what it was asked, what it answered, and what the three buffers then held
pub record Ran : Type 0 where
  pub call : DeskCall
  pub answer : Checked Output
  pub out : List ℕ
  pub text : List ℕ
  pub work : List ℕ

-- Calls that ran one behind the other, from a ledger to a ledger.
unfoldable pub RanFrom : List ℕ → List Ran → List ℕ → Type 0
RanFrom l [] l' = l' ≡ l
RanFrom l (c ∷ cs) l' =
    (next : List ℕ) × MergedForDesk (desk_answer l c.call) c.call.room c.answer c.out c.text c.work l next × RanFrom next cs l'

-- what the answers of a list charge: the rereads that each accepted call told
unfoldable pub charge_told : ℕ → Checked Output → List Charge
charge_told desk (refused n) = []
charge_told desk (accepted r) = record { desk = desk; reread = r.reread } ∷ []

unfoldable pub charges_told : List Ran → List Charge
charges_told [] = []
charges_told (c ∷ cs) = charge_told c.call.desk c.answer ++ charges_told cs
