-- Wish 4: what `merge_for_desk` leaves, and its returns.
use Rattle.std.specs.Prelude.{◌≡◌, refl, ℕ, ◌+◌, ◌<◌, not, List, length, get_or, set, eqb, ltb, Option, Some, None}
use Rattle.std.proofs.Common.{ap, ◌∙◌, subst}
use borrow.Author.Tests.{ltb-true, not-false}
use Rattle.model.specs.Offset.{max_u32}
use Rattle.model.specs.Refusal.{Checked, Checked.refused, Checked.accepted, ◌>>=◌, refuse◌if◌}
use Rattle.model.specs.Merge.{Stored, Room, IncrementalOutput, room_of}
use Rattle.model.specs.Demand3.{Correction, merge_of}
use Rattle.model.specs.Desk.{desk_count, desk_ok, Charged, charged, merge_for_desk, ledger_after}
use Rattle.facts.specs.Truth.{both}
use Rattle.ledger.specs.Unless.{unless, unless_none, unless_some}
use Rattle.refusal.specs.Refusal.{checked_map, was_refused, was_accepted}
use Rattle.output.specs.declared.IncrementalOutput.{IncrementalOutput as Output}
use Rattle.output.specs.Answer.{output_value, Merged, merge_told}

-- What a merge for a desk leaves: what a merge does, and the ledger.
pub record MergedForDesk (asked : Checked Charged) (room : Room) (r : Checked Output) (out text work ledger ledger' : List ℕ) : Type 0 where
  pub merged : Merged (checked_map (λ (c : Charged). c.merged) asked) room r out text work
  pub totals : ledger' ≡ ledger_after ledger asked

-- an equal answer leaves the same
pub desk_told : {asked : Checked Charged} {room : Room} {x y : Checked Output} {out text work ledger ledger' : List ℕ} → y ≡ x → MergedForDesk asked room x out text work ledger ledger' → MergedForDesk asked room y out text work ledger ledger'
desk_told e m = record { merged = merge_told e m.merged; totals = m.totals }

-- ---- the returns

-- what `ledger::charged` answers: the totals with one grown, and none where it is full
abbrev grown_by : List ℕ → ℕ → ℕ → Option (List ℕ)
grown_by totals desk reread = let total = get_or totals desk 0 + reread in unless (ltb max_u32 total) (set totals desk total)

-- totals that were given have the desk
pub desk_inside : (desk : ℕ) (ledger : List ℕ) {totals : List ℕ} → Some totals ≡ unless (not (desk_ok desk ledger)) ledger → desk < 64
unfolding desk_ok
desk_inside desk ledger some = ltb-true desk desk_count (both (ltb desk desk_count) (eqb (length ledger) desk_count) (not-false (desk_ok desk ledger) (unless_some _ _ some).0)).0

module _ (desk : ℕ) (ledger : List ℕ) (book : Stored) (c : Correction) (out text work : List ℕ) where
  abbrev room : Room
  room = room_of out text work

  abbrev asks : Checked Charged
  asks = merge_for_desk desk ledger book c room

  -- refused by n, with the buffers cleared
  refused_by : {n : ℕ} → asks ≡ refused n → {r : Checked Output} {out' text' work' : List ℕ} → Merged (refused n) room r out' text' work' → MergedForDesk asks room r out' text' work' ledger ledger
  unfolding ledger_after
  refused_by e m = rw e (record { merged = m; totals = refl })

  pub no_desk : None ≡ unless (not (desk_ok desk ledger)) ledger → {r : Checked Output} {out' text' work' : List ℕ} → Merged (refused 19) room r out' text' work'
      → MergedForDesk asks room r out' text' work' ledger ledger
  unfolding merge_for_desk refuse◌if◌ ◌>>=◌
  no_desk none m = refused_by (rw (unless_none _ _ none) refl) m

  module _ {totals : List ℕ} (some : Some totals ≡ unless (not (desk_ok desk ledger)) ledger) where
    pub merge_refused : {n : ℕ} {out' text' work' : List ℕ} → Merged (merge_of book c room) room (refused n) out' text' work' → MergedForDesk asks room (refused n) out' text' work' ledger ledger
    unfolding merge_for_desk refuse◌if◌ ◌>>=◌
    merge_refused m =
        let e = was_refused output_value (merge_of book c room) m.answer in
        refused_by (rw ((unless_some _ _ some).0, e) refl) (rw e at m)

    module _ {r : Output} {out₁ text₁ work₁ : List ℕ} (m : Merged (merge_of book c room) room (accepted r) out₁ text₁ work₁) where
      got : (a : IncrementalOutput) × (merge_of book c room ≡ accepted a) × (r ≡ output_value a)
      got = was_accepted output_value (merge_of book c room) m.answer

      -- the total that the desk then has, and the ledger with it
      abbrev total : ℕ
      total = get_or ledger desk 0 + got.0.reparsed_nodes

      is_charged : asks ≡ charged desk ledger got.0
      unfolding merge_for_desk refuse◌if◌ ◌>>=◌
      is_charged = rw ((unless_some _ _ some).0, got.1) refl

      -- the same of the ledger and of what the merge reread
      told : {o : Option (List ℕ)} → o ≡ grown_by totals desk r.reread → o ≡ grown_by ledger desk got.0.reparsed_nodes
      unfolding output_value
      told e = let q : r.reread ≡ got.0.reparsed_nodes = ap (λ (x : Output). x.reread) got.2 in rw ((unless_some _ _ some).1, q) at e

      pub total_full : None ≡ grown_by totals desk r.reread
          → {s : Checked Output} {out' text' work' : List ℕ} → Merged (refused 20) (room_of out₁ text₁ work₁) s out' text' work'
          → length out₁ ≡ length out → length text₁ ≡ length text → length work₁ ≡ length work → MergedForDesk asks room s out' text' work' ledger ledger
      unfolding charged refuse◌if◌ ◌>>=◌
      total_full e {s} {out'} {text'} {work'} cleared k l n =
          let is : charged desk ledger got.0 ≡ refused 20 = rw (unless_none _ _ (told e)) refl in
          let same : room_of out₁ text₁ work₁ ≡ room = λ i. record { tape_bytes = k i; text_bytes = l i; work_words = n i } in
          refused_by (is_charged ∙ is) (subst (λ (x : Room). Merged (refused 20) x s out' text' work') same cleared)

      pub merge_charged : {grown ledger' : List ℕ} → Some grown ≡ grown_by totals desk r.reread
          → ledger' ≡ grown → MergedForDesk asks room (accepted r) out₁ text₁ work₁ ledger ledger'
      unfolding charged refuse◌if◌ ◌>>=◌ ledger_after
      merge_charged {grown} e q =
          let s = unless_some _ _ (told e) in
          let is : charged desk ledger got.0 ≡ accepted (record { merged = got.0; ledger = set ledger desk total }) = rw s.0 refl in
          rw (is_charged ∙ is) (record { merged = rw got.1 at m; totals = q ∙ s.1 })
