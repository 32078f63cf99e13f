-- Two corrections merged in both orders by running calls: what each call leaves, and that they commute (document 01 section 7, demand 3).
use Rattle.std.specs.Prelude.{◌≡◌, ℕ, ◌-◌, ◌≤◌, take, drop, replicate}
use Rattle.std.proofs.Math.Path.{refl, sym, ap}
use Rattle.std.proofs.Common.{ap₂, ◌∙◌, subst, arith, length-append}
use Rattle.std.proofs.Math.Nat.{sub-zero}
use mathlib.Core.List.{List, [], ◌++◌}
use Rattle.std.proofs.Math.ListN.{length, length-replicate}
use Rattle.std.proofs.Math.Seq.{take-append_seam}
use Rattle.model.specs.Types.{LexOutput}
use Rattle.model.specs.Refusal.{Checked, Checked.refused, Checked.accepted, number_of}
use Rattle.model.specs.WellFormed.{check_book}
use Rattle.model.specs.Region.{Edit, edit_of}
use Rattle.model.specs.Merge.{Stored, Room, IncrementalOutput, padded, tape_buffer, text_buffer, work_buffer, stored_of, result_of, output_tape, output_bytes}
use Rattle.model.specs.Demand3.{Correction, StoredBytes, Separate, BothOrders, Commutes, Demand3, correction_of, merge_of, cut_behind, cut_moved}
use Rattle.laws.specs.Checks.{chosen_facts}
use Rattle.laws.specs.Numbers.{merge_numbers}
use Rattle.commute.proofs.Demand3.{demand3}
use Rattle.output.specs.Answer.{Answers, Merged, output_of, output_value, tape_taken, bytes_taken}
use Rattle.output.specs.declared.IncrementalOutput.{IncrementalOutput as Output}
use Rattle.incremental.specs.Answered.{merged_value}
use Rattle.orders.specs.Moved.{moved_exact}

-- ---- what the calls leave

-- One correction merged into a book, and another into the result, each into buffers of its own.
pub record MergedInOrder (book : Stored) (first second : Correction) (room₁ room₂ : Room) (r₁ r₂ : Checked Output) (out₁ out₂ : Stored) (work : List ℕ) : Type 0 where
  pub one : Merged (merge_of book first room₁) room₁ r₁ out₁.tape out₁.bytes work
  pub two : Merged (merge_of (result_of (merge_of book first room₁)) second room₂) room₂ r₂ out₂.tape out₂.bytes work

-- Four accepted calls are the two orders of demand 3, in these buffers, and commute.
pub record CallsCommute (book : LexOutput) (stored : Stored) (earlier later : Correction) (room₁ room₂ room₃ room₄ : Room)
    (r : Answers) (out₁ out₂ out₃ out₄ : Stored) (work : List ℕ) : Type 0 where
  pub orders : BothOrders stored earlier later
  pub rooms : (orders.room₁ ≡ room₁) × (orders.room₂ ≡ room₂) × (orders.room₃ ≡ room₃) × (orders.room₄ ≡ room₄)
  pub earlier_first : Merged (accepted orders.earlier_first) room₁ r.earlier_first out₁.tape out₁.bytes work
  pub later_second : Merged (accepted orders.later_second) room₂ r.later_second out₂.tape out₂.bytes work
  pub later_first : Merged (accepted orders.later_first) room₃ r.later_first out₃.tape out₃.bytes work
  pub earlier_second : Merged (accepted orders.earlier_second) room₄ r.earlier_second out₄.tape out₄.bytes work
  pub commutes : Commutes book stored earlier later orders

-- What `merge_both_orders` leaves: the four merges, on every input, and demand 3 of them where none is refused.
pub record MergedBothOrders (stored : Stored) (earlier later : Correction) (room₁ room₂ room₃ room₄ : Room)
    (r : Answers) (out₁ out₂ out₃ out₄ : Stored) (work : List ℕ) : Type 0 where
  pub later_second : MergedInOrder stored earlier (cut_moved earlier.edit later) room₁ room₂ r.earlier_first r.later_second out₁ out₂ work
  pub earlier_second : MergedInOrder stored later earlier room₃ room₄ r.later_first r.earlier_second out₃ out₄ work
  pub commute : number_of r.earlier_first ≡ 0 → number_of r.later_second ≡ 0 → number_of r.later_first ≡ 0 → number_of r.earlier_second ≡ 0
      → (book : LexOutput) → check_book stored.tape stored.bytes ≡ accepted book → Separate book earlier later
      → CallsCommute book stored earlier later room₁ room₂ room₃ room₄ r out₁ out₂ out₃ out₄ work

-- ---- one call

-- a list at the head of a buffer
at_head : (l z : List ℕ) {n : ℕ} {out : List ℕ} → n ≡ length l → out ≡ l ++ z → (n ≤ length out) × (take (n - 0) (drop 0 out) ≡ l)
at_head l z {n} {out} e q =
    let s = length-append l z in
    (rw q (omega (arith, e, s)), rw (q, e, sub-zero (length l)) (take-append_seam l z))

-- The result stands at the head of both buffers; of a refused merge, nothing.
module _ {asked : Checked IncrementalOutput} {room : Room} {r : Checked Output} {out text work : List ℕ} (m : Merged asked room r out text work) where
  pub tape_head : {n : ℕ} → n ≡ tape_taken r → (n ≤ length out) × (take (n - 0) (drop 0 out) ≡ output_tape asked)
  unfolding output_value tape_buffer output_tape padded
  tape_head k = go asked (k ∙ ap tape_taken m.answer) m.tape
    where
      go : (x : Checked IncrementalOutput) {n : ℕ} {l : List ℕ} → n ≡ tape_taken (output_of x) → l ≡ tape_buffer room x → (n ≤ length l) × (take (n - 0) (drop 0 l) ≡ output_tape x)
      go (refused k) e q = at_head [] _ e q
      go (accepted a) e q = at_head a.output.tape _ e q

  pub bytes_head : {n : ℕ} → n ≡ bytes_taken r → (n ≤ length text) × (take (n - 0) (drop 0 text) ≡ output_bytes asked)
  unfolding output_value text_buffer output_bytes padded
  bytes_head k = go asked (k ∙ ap bytes_taken m.answer) m.bytes
    where
      go : (x : Checked IncrementalOutput) {n : ℕ} {l : List ℕ} → n ≡ bytes_taken (output_of x) → l ≡ text_buffer room x → (n ≤ length l) × (take (n - 0) (drop 0 l) ≡ output_bytes x)
      go (refused k) e q = at_head [] _ e q
      go (accepted a) e q = at_head a.output.bytes _ e q

  -- all work words are 0 behind it, and as many
  pub work_length : length work ≡ room.work_words
  unfolding work_buffer
  work_length = ap length m.words ∙ length-replicate {A = ℕ} room.work_words 0

  pub merged_work : {words : List ℕ} → words ≡ work_buffer room → Merged asked room r out text words
  merged_work e = record { answer = m.answer; tape = m.tape; bytes = m.bytes; words = e }

-- ---- two calls

-- a room, with as many words as came back
abbrev pub with_words : Room → List ℕ → Room
with_words room w = record { tape_bytes = room.tape_bytes; text_bytes = room.text_bytes; work_words = length w }

with_words_lem : (w : List ℕ) (room : Room) → length w ≡ room.work_words → with_words room w ≡ room
with_words_lem w room e = λ i. record { tape_bytes = room.tape_bytes; text_bytes = room.text_bytes; work_words = e i }

-- The second call reads the result of the first out of its buffers, with as many words.
pub in_order : {book : Stored} {first second : Correction} {room₁ room₂ : Room} {r₁ r₂ : Checked Output} {out₁ out₂ : Stored} {w₁ w₂ : List ℕ} {n₁ n₂ : ℕ} → room₂.work_words ≡ room₁.work_words
    → n₁ ≡ tape_taken r₁ → n₂ ≡ bytes_taken r₁
    → Merged (merge_of book first room₁) room₁ r₁ out₁.tape out₁.bytes w₁
    → Merged (merge_of (stored_of (take (n₁ - 0) (drop 0 out₁.tape)) (take (n₂ - 0) (drop 0 out₁.bytes))) second (with_words room₂ w₁))
    (with_words room₂ w₁) r₂ out₂.tape out₂.bytes w₂
    → MergedInOrder book first second room₁ room₂ r₁ r₂ out₁ out₂ w₂
unfolding result_of work_buffer
in_order {room₁ = room₁} {room₂ = room₂} {w₁ = w₁} k i j m n =
    let e : length w₁ ≡ room₁.work_words = work_length m in
    let f : length w₁ ≡ room₂.work_words = e ∙ sym k in
    record {
      one = merged_work m (n.words ∙ ap (λ (j : ℕ). replicate j 0) e);
      two = rw ((tape_head m i).1, (bytes_head m j).1, f) at n;
    }

-- ---- four calls

module _ (stored : Stored) (earlier later : Correction) (bytes : StoredBytes stored) (bytesE : StoredBytes earlier.reading) (bytesL : StoredBytes later.reading)
    {room₁ room₂ room₃ room₄ : Room} {r : Answers} {out₁ out₂ out₃ out₄ : Stored} {work : List ℕ}
    (m : MergedInOrder stored earlier (cut_moved earlier.edit later) room₁ room₂ r.earlier_first r.later_second out₁ out₂ work)
    (n : MergedInOrder stored later earlier room₃ room₄ r.later_first r.earlier_second out₃ out₄ work) where
  -- Four accepted calls are those of demand 3, and `demand3` is cited of them.
  calls_commute : number_of r.earlier_first ≡ 0 → number_of r.later_second ≡ 0 → number_of r.later_first ≡ 0 → number_of r.earlier_second ≡ 0
      → (book : LexOutput) → check_book stored.tape stored.bytes ≡ accepted book → Separate book earlier later
      → CallsCommute book stored earlier later room₁ room₂ room₃ room₄ r out₁ out₂ out₃ out₄ work
  unfolding Demand3 result_of output_tape output_bytes
  calls_commute z₁ z₂ z₃ z₄ book holds sep =
      let E = earlier.edit in
      let L = later.edit in
      let exact = moved_exact book E later (chosen_facts book E sep.earlier_region sep.earlier_chosen) (chosen_facts book L sep.later_region sep.later_chosen) in
      let v₁ = merged_value m.one (merge_numbers _ _ _ _) z₁ in
      let v₂ = merged_value m.two (merge_numbers _ _ _ _) z₂ in
      let v₃ = merged_value n.one (merge_numbers _ _ _ _) z₃ in
      let v₄ = merged_value n.two (merge_numbers _ _ _ _) z₄ in
      let orders : BothOrders stored earlier later = record {
        room₁ = room₁;
        room₂ = room₂;
        room₃ = room₃;
        room₄ = room₄;
        earlier_first = v₁.0;
        later_second = v₂.0;
        later_first = v₃.0;
        earlier_second = v₄.0;
        merge₁ = v₁.1;
        merge₂ = sym (ap₂ (λ (x : Checked IncrementalOutput) (c : Correction). merge_of (result_of x) c room₂) v₁.1 exact) ∙ v₂.1;
        merge₃ = v₃.1;
        merge₄ = sym (ap (λ (x : Checked IncrementalOutput). merge_of (result_of x) earlier room₄) v₃.1) ∙ v₄.1;
      } in
      record {
        orders = orders;
        rooms = (refl, refl, refl, refl);
        earlier_first = rw v₁.1 at m.one;
        later_second = rw v₂.1 at m.two;
        later_first = rw v₃.1 at n.one;
        earlier_second = rw v₄.1 at n.two;
        commutes = demand3 stored book bytes holds earlier later bytesE bytesL sep orders;
      }

  merged_both : MergedBothOrders stored earlier later room₁ room₂ room₃ room₄ r out₁ out₂ out₃ out₄ work
  merged_both = record { later_second = m; earlier_second = n; commute = calls_commute }

-- The later correction with the offsets that the code has moved.
pub moved_correction : (other : Edit) (start end : ℕ) (replacement tape bytes : List ℕ) {s e : ℕ} → s ≡ cut_behind other start → e ≡ cut_behind other end
    → correction_of s e replacement tape bytes ≡ cut_moved other (correction_of start end replacement tape bytes)
unfolding cut_moved edit_of
moved_correction other start end replacement tape bytes p q = rw (p, q) refl

-- The second order begins with the words that the first has left.
pub both_orders : {stored : Stored} {earlier later moved : Correction} {room₁ room₂ room₃ room₄ : Room} {r₁ r₂ r₃ r₄ : Checked Output} {out₁ out₂ out₃ out₄ : Stored} {w₁ w₂ : List ℕ}
    → StoredBytes stored → StoredBytes earlier.reading → StoredBytes later.reading → moved ≡ cut_moved earlier.edit later
    → room₃.work_words ≡ room₁.work_words → room₄.work_words ≡ room₁.work_words
    → MergedInOrder stored earlier moved room₁ room₂ r₁ r₂ out₁ out₂ w₁
    → MergedInOrder stored later earlier (with_words room₃ w₁) (with_words room₄ w₁) r₃ r₄ out₃ out₄ w₂
    → MergedBothOrders stored earlier later room₁ room₂ room₃ room₄
    (record { earlier_first = r₁; later_second = r₂; later_first = r₃; earlier_second = r₄ }) out₁ out₂ out₃ out₄ w₂
unfolding work_buffer
both_orders {stored} {earlier} {later} {moved} {room₁} {room₂} {room₃} {room₄} {r₁} {r₂} {r₃} {r₄} {out₁} {out₂} {out₃} {out₄} {w₁} {w₂} b b_e b_l e k₃ k₄ m n =
    let l : length w₁ ≡ room₁.work_words = ap length m.one.words ∙ length-replicate {A = ℕ} room₁.work_words 0 in
    let w : w₂ ≡ w₁ = n.one.words ∙ ap (λ (j : ℕ). replicate j 0) l ∙ sym m.one.words in
    let m' = subst (λ (x : Correction). MergedInOrder stored earlier x room₁ room₂ r₁ r₂ out₁ out₂ w₂) e
    (subst (MergedInOrder stored earlier moved room₁ room₂ r₁ r₂ out₁ out₂) (sym w) m) in
    let n' = subst (λ (x : Room). MergedInOrder stored later earlier room₃ x r₃ r₄ out₃ out₄ w₂) (with_words_lem w₁ room₄ (l ∙ sym k₄))
    (subst (λ (x : Room). MergedInOrder stored later earlier x (with_words room₄ w₁) r₃ r₄ out₃ out₄ w₂) (with_words_lem w₁ room₃ (l ∙ sym k₃)) n) in
    merged_both stored earlier later b b_e b_l {r = record { earlier_first = r₁; later_second = r₂; later_first = r₃; earlier_second = r₄ }} m' n'

-- an equal answer leaves the same
pub orders_told : {stored : Stored} {earlier later : Correction} {room₁ room₂ room₃ room₄ : Room} {x y : Answers} {out₁ out₂ out₃ out₄ : Stored} {work : List ℕ} → y ≡ x
    → MergedBothOrders stored earlier later room₁ room₂ room₃ room₄ x out₁ out₂ out₃ out₄ work
    → MergedBothOrders stored earlier later room₁ room₂ room₃ room₄ y out₁ out₂ out₃ out₄ work
orders_told {stored} {earlier} {later} {room₁} {room₂} {room₃} {room₄} {x} {y} {out₁} {out₂} {out₃} {out₄} {work} e m =
    subst (λ (z : Answers). MergedBothOrders stored earlier later room₁ room₂ room₃ room₄ z out₁ out₂ out₃ out₄ work) (sym e) m
