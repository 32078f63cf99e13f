-- What is not result is cleared: what was written becomes what a merge leaves.
use Rattle.std.specs.Prelude.{◌≡◌, ℕ, ◌-◌, ◌≤◌, List, take}
use Rattle.std.proofs.Math.Path.{refl, ap}
use Rattle.std.proofs.Common.{◌∙◌, arith, length-take}
use Rattle.std.proofs.Math.ListN.{length}
use Rattle.std.proofs.lemmas.List.{length-replicate}
use Rattle.std.proofs.Math.Nat.{sub-zero}
use Rattle.model.specs.Bytes.{zeros}
use Rattle.model.specs.Refusal.{Checked, Checked.refused, Checked.accepted}
use Rattle.model.specs.Merge.{IncrementalOutput, tape_buffer, text_buffer, work_buffer, padded, room_of}
use Rattle.wire.specs.Overwrite.{overwrite, overwrite_tail}
use Rattle.output.specs.declared.IncrementalOutput.{IncrementalOutput as Output}
use Rattle.output.specs.Answer.{output_value, tape_taken, bytes_taken, Merged, Written}

-- ---- the three buffers

-- `out` cleared behind the first n bytes
pub cleared : (out : List ℕ) {out' : List ℕ} (n : ℕ) → n ≤ length out → out' ≡ overwrite out n (zeros (length out - n)) → out' ≡ padded (length out) (take n out)
unfolding padded
cleared out n h e =
    let z : length (zeros (length out - n)) ≡ length out - n = length-replicate (length out - n) 0 in
    let k : length (take n out) ≡ n = length-take n out ∙ omega (arith, h) in
    e ∙ overwrite_tail out n (zeros (length out - n)) (omega (arith, h, z)) ∙ rw k refl

-- ---- what was written

-- what begins a list is no longer than it
pub head_short : (n : ℕ) (l b : List ℕ) → length b ≡ n → take n l ≡ b → n ≤ length l
head_short n l b e f = let h = ap length f in let k = length-take n l in omega (arith, e, h, k)

module _ {out text work out₁ text₁ work₁ : List ℕ} {r : Checked Output} where
  -- the result is within the buffers
  pub tape_within : (asked : Checked IncrementalOutput) → Written asked r out text work out₁ text₁ work₁ → {n : ℕ} → n ≡ tape_taken r → n ≤ length out₁
  unfolding output_value
  tape_within (refused n) w k = let e = ap tape_taken w.answer in omega (arith, e, k)
  tape_within (accepted a) w k =
      let e : tape_taken r ≡ length a.output.tape = ap tape_taken w.answer in
      let h = head_short (length a.output.tape) out₁ a.output.tape refl (w.tape a refl) in
      omega (arith, e, h, k)

  pub bytes_within : (asked : Checked IncrementalOutput) → Written asked r out text work out₁ text₁ work₁ → {n : ℕ} → n ≡ bytes_taken r → n ≤ length text₁
  unfolding output_value
  bytes_within (refused n) w k = let e = ap bytes_taken w.answer in omega (arith, e, k)
  bytes_within (accepted a) w k =
      let e : bytes_taken r ≡ length a.output.bytes = ap bytes_taken w.answer in
      let h = head_short (length a.output.bytes) text₁ a.output.bytes refl (w.bytes a refl) in
      omega (arith, e, h, k)

  -- cleared behind the result
  pub merged : (asked : Checked IncrementalOutput) → Written asked r out text work out₁ text₁ work₁ → {n m : ℕ} → n ≡ tape_taken r → m ≡ bytes_taken r → {out' text' work' : List ℕ}
      → out' ≡ padded (length out₁) (take n out₁) → text' ≡ padded (length text₁) (take m text₁) → work' ≡ zeros (length work₁)
      → Merged asked (room_of out text work) r out' text' work'
  unfolding tape_buffer text_buffer work_buffer output_value padded
  merged (refused k) w {n} {m} i j x y z =
      let e : n ≡ 0 = i ∙ ap tape_taken w.answer in
      let f : m ≡ 0 = j ∙ ap bytes_taken w.answer in
      record {
        answer = w.answer;
        tape = x ∙ rw (e, sub-zero, w.tape_length) refl;
        bytes = y ∙ rw (f, sub-zero, w.text_length) refl;
        words = z ∙ ap zeros w.words_length;
      }
  merged (accepted a) w {n} {m} i j x y z =
      let e : n ≡ length a.output.tape = i ∙ ap tape_taken w.answer in
      let f : m ≡ length a.output.bytes = j ∙ ap bytes_taken w.answer in
      record {
        answer = w.answer;
        tape = x ∙ rw (e, w.tape a refl, w.tape_length) refl;
        bytes = y ∙ rw (f, w.bytes a refl, w.text_length) refl;
        words = z ∙ ap zeros w.words_length;
      }
