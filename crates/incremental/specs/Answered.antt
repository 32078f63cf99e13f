-- What a caller has of an answer with the number 0: it is that of an accepted merge.
use Rattle.std.specs.Prelude.{◌≡◌, refl, ℕ, List}
use Rattle.std.proofs.Common.{sym, ap, ◌∙◌, arith}
use Rattle.model.specs.Refusal.{Checked, Checked.refused, Checked.accepted, number_of}
use Rattle.model.specs.Merge.{Room, IncrementalOutput}
use Rattle.laws.specs.Numbers.{UpTo}
use Rattle.output.specs.declared.IncrementalOutput.{IncrementalOutput as Output}
use Rattle.output.specs.Answer.{output_of, Merged}

module _ {asked : Checked IncrementalOutput} {room : Room} {r : Checked Output} {out text work : List ℕ} (m : Merged asked room r out text work) where
  -- an accepted answer has the number 0, a refused one has not
  pub merged_value : UpTo 18 asked → number_of r ≡ 0 → (a : IncrementalOutput) × (asked ≡ accepted a)
  unfolding number_of
  merged_value h z = go asked h (ap number_of (sym m.answer) ∙ z)
    where
      go : (x : Checked IncrementalOutput) → UpTo 18 x → number_of (output_of x) ≡ 0 → (a : IncrementalOutput) × (x ≡ accepted a)
      go (refused n) h z = absurd (omega (arith, h.0, z))
      go (accepted a) h z = (a, refl)
