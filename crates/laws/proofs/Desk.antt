-- Wish 4, proved: for every list of calls from a zero ledger, each total is the sum of its own accepted rereads, and all totals together are
-- the reread sum of the list. It is so for calls of any kind that charge a desk, and merges for a desk are such calls.
use Rattle.std.specs.Prelude.{◌≡◌, refl, ℕ, zero, suc, ◌+◌, ◌<◌, Bool, true, false, not, List, [], ◌∷◌, ◌++◌, map, length, get_or, set, eqb, ltb}
use Rattle.std.proofs.Common.{sym, ap, ◌∙◌, arith, eqb-true, get_or-set_same, get_or-set_other}
use Rattle.std.proofs.lemmas.Bool.{eqb-false}
use borrow.Author.Tests.{ltb-true, not-false}
use Rattle.model.specs.Lists.{keep, sum}
use Rattle.model.specs.Offset.{max_u32}
use Rattle.model.specs.Refusal.{Checked, Checked.refused, Checked.accepted}
use Rattle.model.specs.Merge.{IncrementalOutput}
use Rattle.model.specs.Demand3.{merge_of}
use Rattle.model.specs.Desk.{desk_count, zero_ledger, desk_ok, Charged, charged, merge_for_desk, ChargesDesk, ledger_after, Charge, charges_of, ledger_behind, charges, rereads, own_rereads, LedgerTotals, DeskCall, desk_of_call, desk_answer, DeskTotals}
use Rattle.facts.specs.Truth.{both}
use Rattle.facts.specs.Lists.{map_append, sum_append, get_zeros}
use Rattle.facts.specs.Keep.{keep_append}
use Rattle.laws.specs.Checks.{bind_accepted, refuse_accepted, same_accepted}

-- ---- a ledger grown by charges

-- each total by its own rereads, all together by all
pub record Grown (before after : List ℕ) (cs : List Charge) : Type 0 where
  pub own : (desk : ℕ) → get_or after desk 0 ≡ get_or before desk 0 + own_rereads desk cs
  pub all : sum after ≡ sum before + rereads cs

pub grown_none : (l : List ℕ) → Grown l l []
unfolding own_rereads rereads
grown_none l = record { own = λ d. omega arith; all = omega arith }

sum_set : (l : List ℕ) (i v : ℕ) → i < length l → sum (set l i v) + get_or l i 0 ≡ sum l + v
sum_set [] i v h = absurd (omega arith)
sum_set (x ∷ l) zero v h = omega arith
sum_set (x ∷ l) (suc i) v h = let e = sum_set l i v (omega arith) in omega arith

-- one total, set to what it was and the rereads
pub grown_one : (l : List ℕ) (desk reread : ℕ) → desk < length l → Grown l (set l desk (get_or l desk 0 + reread)) (record { desk = desk; reread = reread } ∷ [])
unfolding rereads own_rereads
grown_one l desk reread h = record { own = own; all = let s = sum_set l desk total h in omega arith }
  where
    total : ℕ
    total = get_or l desk 0 + reread

    one : Charge
    one = record { desk = desk; reread = reread }

    own : (d : ℕ) → get_or (set l desk total) d 0 ≡ get_or l d 0 + own_rereads d (one ∷ [])
    own d = go (eqb desk d) refl
      where
        go : (x : Bool) → eqb desk d ≡ x → get_or (set l desk total) d 0 ≡ get_or l d 0 + own_rereads d (one ∷ [])
        go true e = rw (e, ← eqb-true desk d e, get_or-set_same l desk total 0 h) (omega arith)
        go false e = let n = eqb-false desk d e in rw (e, get_or-set_other l desk d total 0 (λ q. n (sym q))) (omega arith)

-- one behind the other
rereads_join : (cs ds : List Charge) → rereads (cs ++ ds) ≡ rereads cs + rereads ds
unfolding rereads
rereads_join cs ds = ap sum (map_append (λ (c : Charge). c.reread) cs ds) ∙ sum_append (map (λ (c : Charge). c.reread) cs) (map (λ (c : Charge). c.reread) ds)

own_join : (d : ℕ) (cs ds : List Charge) → own_rereads d (cs ++ ds) ≡ own_rereads d cs + own_rereads d ds
unfolding own_rereads
own_join d cs ds = let own = λ (c : Charge). eqb c.desk d in ap rereads (keep_append own cs ds) ∙ rereads_join (keep own cs) (keep own ds)

pub grown_then : (l m n : List ℕ) (cs ds : List Charge) → Grown l m cs → Grown m n ds → Grown l n (cs ++ ds)
grown_then l m n cs ds g h = record {
  own = λ d. let e = g.own d in let f = h.own d in let j = own_join d cs ds in omega arith;
  all = let e = g.all in let f = h.all in let j = rereads_join cs ds in omega arith;
}

-- ---- from zero

pub grown_totals : {l : List ℕ} {cs : List Charge} → Grown zero_ledger l cs → LedgerTotals l cs
grown_totals g = record {
  own = λ d. let e = g.own d in let z = get_zeros desk_count d in omega arith;
  all = let e = g.all in omega arith;
}

-- ---- lists of calls

pub call_grows : (desk : ℕ) (l : List ℕ) (a : Checked Charged) → ((c : Charged) → a ≡ accepted c → ChargesDesk desk l c) → Grown l (ledger_after l a) (charges_of desk a)
unfolding ledger_after charges_of
call_grows desk l (refused n) h = grown_none l
call_grows desk l (accepted c) h = let k = h c refl in rw k.grown (grown_one l desk c.merged.reparsed_nodes k.inside)

module _ {Call : Type 0} (desk_of : Call → ℕ) (answer : List ℕ → Call → Checked Charged)
    (charging : (l : List ℕ) (call : Call) (c : Charged) → answer l call ≡ accepted c → ChargesDesk (desk_of call) l c) where
  calls_grow : (cs : List Call) (l : List ℕ) → Grown l (ledger_behind desk_of answer l cs) (charges desk_of answer l cs)
  unfolding ledger_behind charges
  calls_grow [] l = grown_none l
  calls_grow (c ∷ cs) l =
      let m = ledger_after l (answer l c) in
      grown_then l m (ledger_behind desk_of answer m cs) (charges_of (desk_of c) (answer l c)) (charges desk_of answer m cs)
      (call_grows (desk_of c) l (answer l c) (charging l c)) (calls_grow cs m)

  -- Wish 4, of calls of any kind that charge a desk.
  pub calls_totals : (cs : List Call) → LedgerTotals (ledger_behind desk_of answer zero_ledger cs) (charges desk_of answer zero_ledger cs)
  calls_totals cs = grown_totals (calls_grow cs zero_ledger)

-- ---- merges for a desk

-- the merge that is charged is the one that was made
charged_merge : (desk : ℕ) (ledger : List ℕ) (m : IncrementalOutput) (c : Charged) → desk_ok desk ledger ≡ true → charged desk ledger m ≡ accepted c → (m ≡ c.merged) × ChargesDesk desk ledger c
unfolding charged desk_ok
charged_merge desk ledger m c ok e =
    let d = both (ltb desk desk_count) (eqb (length ledger) desk_count) ok in
    let x = ltb-true desk desk_count d.0 in
    let y = eqb-true (length ledger) desk_count d.1 in
    let total = get_or ledger desk 0 + m.reparsed_nodes in
    let r = refuse_accepted 20 (ltb max_u32 total) _ c e in
    let is = same_accepted (record { merged = m; ledger = set ledger desk total }) c r.1 in
    rw (← is) (refl, record { inside = omega arith; grown = refl })

-- an accepted call past 19, its merge and 20: its merge was accepted, and charges the desk
pub accepted_call : (ledger : List ℕ) (call : DeskCall) (c : Charged) → desk_answer ledger call ≡ accepted c
    → (merge_of call.book call.correction call.room ≡ accepted c.merged) × ChargesDesk call.desk ledger c
unfolding merge_for_desk
accepted_call ledger call c e =
    let r = refuse_accepted 19 (not (desk_ok call.desk ledger)) _ c e in
    let b = bind_accepted (merge_of call.book call.correction call.room) _ c r.1 in
    let k = charged_merge call.desk ledger b.0 c (not-false (desk_ok call.desk ledger) r.0) b.2 in
    (b.1 ∙ ap {B = Checked IncrementalOutput} accepted k.0, k.1)

-- Wish 4. For every list of merges from a zero ledger.
pub desk_totals : DeskTotals
unfolding DeskTotals
desk_totals cs = calls_totals desk_of_call desk_answer (λ l call c e. (accepted_call l call c e).1) cs
