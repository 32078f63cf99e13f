-- Wish 7. What a caller of `merge` may conclude from its contract where it is accepted.
use Rattle.std.specs.Prelude.{◌≡◌, ℕ, ◌*◌, ◌≤◌, List}
use Rattle.std.proofs.Common.{sym, ap, ◌∙◌}
use Rattle.std.proofs.Math.Path.{subst}
use Rattle.model.specs.Limits.{max_new_strings}
use Rattle.model.specs.Refusal.{Checked.accepted}
use Rattle.model.specs.Intern.{fresh_interner, intern_all}
use Rattle.model.specs.Merge.{Stored, Room, IncrementalOutput}
use Rattle.model.specs.Demand3.{Correction, merge_of}
use Rattle.model.specs.Ceiling.{Ceiling, reading_calls}
use Rattle.laws.proofs.Ceiling.{merge_ceiling}
use Rattle.laws.proofs.Most.{merge_most}
use Rattle.refusal.specs.Refusal.{was_accepted}
use Rattle.stats.specs.Counts.{stats_of}
use Rattle.output.specs.declared.IncrementalOutput.{IncrementalOutput as Output}
use Rattle.output.specs.Answer.{output_value, Merged}

-- Of an accepted merge.
module _ (book : Stored) (c : Correction) (room : Room) {r : Output} {out text work : List ℕ} (m : Merged (merge_of book c room) room (accepted r) out text work) where
  value : (a : IncrementalOutput) × (merge_of book c room ≡ accepted a) × (r ≡ output_value a)
  value = was_accepted output_value (merge_of book c room) m.answer

  -- The counts that it returns are those of the list of intern calls of the reading, and probes are at most calls × m.
  pub merged_ceiling : Ceiling (reading_calls c.reading) (stats_of r.stats)
  unfolding output_value
  merged_ceiling =
      subst (λ (x : Output). Ceiling (reading_calls c.reading) (stats_of x.stats)) (sym value.2)
      (merge_ceiling book c.edit c.reading room value.0 value.1)

  -- Where m is not known: it is at most the number of strings of a new layer.
  pub merged_most : r.stats.probe_steps ≤ r.stats.calls * max_new_strings
  unfolding output_value
  merged_most =
      subst (λ (x : Output). x.stats.probe_steps ≤ x.stats.calls * max_new_strings) (sym value.2)
      (merge_most book c.edit c.reading room value.0 value.1)

-- The counts hang on the reading alone: merged into another book, by another edit or in another order, it has the same.
pub merged_counts : (book book' : Stored) (c c' : Correction) (room room' : Room) {r r' : Output} {out text work out' text' work' : List ℕ}
    → Merged (merge_of book c room) room (accepted r) out text work → Merged (merge_of book' c' room') room' (accepted r') out' text' work'
    → c.reading ≡ c'.reading → stats_of r.stats ≡ stats_of r'.stats
merged_counts book book' c c' room room' m m' same =
    (merged_ceiling book c room m).made ∙ ap (λ (s : Stored). (intern_all fresh_interner (reading_calls s)).stats) same ∙ sym (merged_ceiling book' c' room' m').made
