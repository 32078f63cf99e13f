-- What flattening answers, before what is not result is cleared and behind it.
use Rattle.std.specs.Prelude.{◌≡◌, refl, ℕ, ◌≤◌, List, length, take}
use Rattle.std.proofs.Common.{ap, ◌∙◌, arith}
use Rattle.std.proofs.Math.Nat.{sub-zero}
use Rattle.model.specs.Refusal.{Checked, Checked.refused, Checked.accepted}
use Rattle.model.specs.Merge.{Stored, padded}
use Rattle.model.specs.Lookup.{copied_tape, copied_bytes}
use Rattle.laws.specs.Checks.{refused_not, same_accepted}
use Rattle.copy.specs.declared.Copied.{Copied}
use Rattle.copy.specs.Copying.{copied_of}
use Rattle.output.specs.Cleared.{head_short}

-- How many bytes of the two result buffers an answer takes: none where it is refused.
abbrev pub tape_taken : Checked Copied → ℕ
tape_taken (refused n) = 0
tape_taken (accepted a) = a.tape

abbrev pub bytes_taken : Checked Copied → ℕ
bytes_taken (refused n) = 0
bytes_taken (accepted a) = a.bytes

-- The answer, and an accepted book at the head of both buffers.
pub record Written (asked : Checked Stored) (r : Checked Copied) (out text : List ℕ) : Type 0 where
  pub answer : r ≡ copied_of asked
  pub tape : (s : Stored) → asked ≡ accepted s → take (length s.tape) out ≡ s.tape
  pub bytes : (s : Stored) → asked ≡ accepted s → take (length s.bytes) text ≡ s.bytes

pub written_refused : (asked : Checked Stored) {n : ℕ} (out text : List ℕ) → asked ≡ refused n → Written asked (refused n) out text
unfolding copied_of
written_refused asked {n} out text e = rw e (record { answer = refl; tape = λ s x. absurd (refused_not n s x); bytes = λ s x. absurd (refused_not n s x) })

pub written_accepted : (asked : Checked Stored) (s : Stored) (out text : List ℕ) → asked ≡ accepted s → {tape bytes : ℕ} → tape ≡ length s.tape → bytes ≡ length s.bytes
    → take (length s.tape) out ≡ s.tape → take (length s.bytes) text ≡ s.bytes → Written asked (accepted (record { tape = tape; bytes = bytes })) out text
unfolding copied_of
written_accepted asked s out text e i j x y = rw (e, i, j) (record {
  answer = refl;
  tape = λ v z. rw (same_accepted s v z) at x;
  bytes = λ v z. rw (same_accepted s v z) at y;
})

-- ---- what is cleared

module _ {r : Checked Copied} {out text : List ℕ} where
  -- the book is within the buffers
  pub within : (asked : Checked Stored) → Written asked r out text → {n m : ℕ} → (n ≡ tape_taken r) × (m ≡ bytes_taken r) → (n ≤ length out) × (m ≤ length text)
  unfolding copied_of
  within (refused k) w e = let i = ap tape_taken w.answer in let j = ap bytes_taken w.answer in (omega (arith, e.0, i), omega (arith, e.1, j))
  within (accepted s) w e =
      let i : tape_taken r ≡ length s.tape = ap tape_taken w.answer in
      let j : bytes_taken r ≡ length s.bytes = ap bytes_taken w.answer in
      (omega (arith, e.0, i, head_short (length s.tape) out s.tape refl (w.tape s refl)), omega (arith, e.1, j, head_short (length s.bytes) text s.bytes refl (w.bytes s refl)))

  -- cleared behind the book, in buffers of these lengths
  pub flattened : (asked : Checked Stored) → Written asked r out text → {n m : ℕ} → (n ≡ tape_taken r) × (m ≡ bytes_taken r) → {size room : ℕ} → length out ≡ size → length text ≡ room
      → {out' text' : List ℕ} → out' ≡ padded (length out) (take n out) → text' ≡ padded (length text) (take m text)
      → (r ≡ copied_of asked) × (out' ≡ copied_tape size asked) × (text' ≡ copied_bytes room asked)
  unfolding copied_of copied_tape copied_bytes padded
  flattened (refused k) w e a b x y =
      let i : tape_taken r ≡ 0 = ap tape_taken w.answer in
      let j : bytes_taken r ≡ 0 = ap bytes_taken w.answer in
      (w.answer, x ∙ rw (e.0 ∙ i, a, sub-zero) refl, y ∙ rw (e.1 ∙ j, b, sub-zero) refl)
  flattened (accepted s) w e a b x y =
      let i : tape_taken r ≡ length s.tape = ap tape_taken w.answer in
      let j : bytes_taken r ≡ length s.bytes = ap bytes_taken w.answer in
      (w.answer, x ∙ rw (e.0 ∙ i, w.tape s refl, a) refl, y ∙ rw (e.1 ∙ j, w.bytes s refl, b) refl)
