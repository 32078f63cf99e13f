-- Wish 4: rereads by desk. A house with many desks has its invoice split: each merge names a desk, and the ledger has a total for each.
-- That the totals are right is a statement; the proof is in `laws`.
use Rattle.std.specs.Prelude.{◌≡◌, ℕ, ◌+◌, ◌<◌, Bool, not, ◌&&◌, List, [], ◌∷◌, ◌++◌, map, length, get_or, set, replicate, eqb, ltb}
use Rattle.model.specs.Lists.{keep, sum}
use Rattle.model.specs.Offset.{max_u32}
use Rattle.model.specs.Refusal.{Checked, Checked.refused, Checked.accepted, ◌>>=◌, refuse◌if◌}
use Rattle.model.specs.Merge.{Stored, Room, IncrementalOutput}
use Rattle.model.specs.Demand3.{Correction, merge_of}

-- Wish 4. Each merge names a desk, 0 to 63.
abbrev pub desk_count : ℕ
desk_count = 64

-- Wish 4. A zero ledger.
abbrev pub zero_ledger : List ℕ
zero_ledger = replicate desk_count 0

-- Wish 4. Number 19: desk above 63, or a ledger without exactly 64 totals.
unfoldable pub desk_ok : ℕ → List ℕ → Bool
desk_ok desk ledger = ltb desk desk_count && eqb (length ledger) desk_count

-- an accepted merge, and the ledger behind it
pub record Charged : Type 0 where
  pub merged : IncrementalOutput
  pub ledger : List ℕ

-- Wish 4. The reread count goes to that desk's total of 32 bits; all other desks' totals stay. Number 20: the total would pass 4294967295.
unfoldable pub charged : ℕ → List ℕ → IncrementalOutput → Checked Charged
charged desk ledger m =
    let total = get_or ledger desk 0 + m.reparsed_nodes in
    do
      _ ← refuse 20 if ltb max_u32 total
      accepted (record { merged = m; ledger = set ledger desk total })

-- Wish 4. `merge_for_desk`: 19 before the old book's 1; 20 after 18.
unfoldable pub merge_for_desk : ℕ → List ℕ → Stored → Correction → Room → Checked Charged
merge_for_desk desk ledger book c room = do
  _ ← refuse 19 if not (desk_ok desk ledger)
  m ← merge_of book c room
  charged desk ledger m

-- Wish 4. What the lent ledger then holds: a refused merge adds to none.
unfoldable pub ledger_after : List ℕ → Checked Charged → List ℕ
ledger_after ledger (refused n) = ledger
ledger_after ledger (accepted c) = c.ledger

-- Wish 4. What an accepted merge does to the ledger: the reread count goes to its desk's total, and all other desks' totals stay.
pub record ChargesDesk (desk : ℕ) (ledger : List ℕ) (c : Charged) : Type 0 where
  pub inside : desk < length ledger
  pub grown : c.ledger ≡ set ledger desk (get_or ledger desk 0 + c.merged.reparsed_nodes)

-- ---- lists of merges

-- what a desk is charged for an accepted merge
pub record Charge : Type 0 where
  pub desk : ℕ
  pub reread : ℕ

-- Wish 4. A refused merge adds to none.
unfoldable pub charges_of : ℕ → Checked Charged → List Charge
charges_of desk (refused n) = []
charges_of desk (accepted c) = record { desk = desk; reread = c.merged.reparsed_nodes } ∷ []

-- Calls of any kind that name a desk, each of which answers by the ledger as it then stands: the ledger behind a list of them, and what its
-- accepted merges charge.
module _ {Call : Type 0} (desk_of : Call → ℕ) (answer : List ℕ → Call → Checked Charged) where
  unfoldable pub ledger_behind : List ℕ → List Call → List ℕ
  ledger_behind ledger [] = ledger
  ledger_behind ledger (c ∷ cs) = ledger_behind (ledger_after ledger (answer ledger c)) cs

  unfoldable pub charges : List ℕ → List Call → List Charge
  charges ledger [] = []
  charges ledger (c ∷ cs) = charges_of (desk_of c) (answer ledger c) ++ charges (ledger_after ledger (answer ledger c)) cs

-- Wish 4. The reread sum of a list.
unfoldable pub rereads : List Charge → ℕ
rereads cs = sum (map (λ (c : Charge). c.reread) cs)

-- Wish 4. The sum of a desk's own accepted rereads.
unfoldable pub own_rereads : ℕ → List Charge → ℕ
own_rereads desk cs = rereads (keep (λ (c : Charge). eqb c.desk desk) cs)

-- Wish 4. Each total is the sum of its own accepted rereads, and all totals together are the reread sum of the list.
pub record LedgerTotals (ledger : List ℕ) (cs : List Charge) : Type 0 where
  pub own : (desk : ℕ) → get_or ledger desk 0 ≡ own_rereads desk cs
  pub all : sum ledger ≡ rereads cs

-- a merge for a desk, whatever it is asked of
pub record DeskCall : Type 0 where
  pub desk : ℕ
  pub book : Stored
  pub correction : Correction
  pub room : Room

abbrev pub desk_of_call : DeskCall → ℕ
desk_of_call c = c.desk

abbrev pub desk_answer : List ℕ → DeskCall → Checked Charged
desk_answer ledger c = merge_for_desk c.desk ledger c.book c.correction c.room

-- Wish 4. For every list of merges from a zero ledger.
unfoldable pub DeskTotals : Type 0
DeskTotals = (cs : List DeskCall) → LedgerTotals (ledger_behind desk_of_call desk_answer zero_ledger cs) (charges desk_of_call desk_answer zero_ledger cs)
