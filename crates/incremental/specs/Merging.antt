-- From 1 to 17 to the whole merge: a refusal, or number 18 and the result.
use Rattle.std.specs.Prelude.{◌≡◌, ℕ, List, length}
use Rattle.std.proofs.Common.{sym, ◌∙◌}
use Rattle.std.proofs.Math.Path.{ap}
use Rattle.model.specs.Refusal.{Checked, Checked.refused, ◌>>=◌}
use Rattle.model.specs.Region.{Edit}
use Rattle.model.specs.Merge.{Stored, Room, IncrementalOutput, room_of, result_checked, merge, fitted, Fitted}
use Rattle.laws.specs.Estimate.{finished, merge_fitted}
use Rattle.edit.specs.Values.{edit_value}
use Rattle.splice.specs.Window.{window_value}
use Rattle.output.specs.declared.IncrementalOutput.{IncrementalOutput as Output}
use Rattle.output.specs.Answer.{Written}
use Rattle.tape.specs.StringBytes.{book_of}
use Rattle.fitting.specs.declared.merging.Merging.{Merging}
use Rattle.fitting.specs.Stages.{MergingOf, merging_fitted}

module _ (s : Stored) (e : Edit) (rs : Stored) (room : Room) where
  pub merge_refused : {n : ℕ} → fitted s e rs ≡ refused n → merge s e rs room ≡ refused n
  unfolding ◌>>=◌
  merge_refused f = merge_fitted s e rs room ∙ ap (λ (x : Checked Fitted). x >>= finished e room) f

  pub merge_result : {m : Merging} → MergingOf s e rs m → merge s e rs room ≡ result_checked (book_of m.book) (edit_value m.edit) (book_of m.reading) (window_value m.window) room
  unfolding ◌>>=◌
  merge_result {m} o =
      merge_fitted s e rs room ∙ ap (λ (x : Checked Fitted). x >>= finished e room) (merging_fitted o)
      ∙ ap (λ (y : Edit). result_checked (book_of m.book) y (book_of m.reading) (window_value m.window) room) (sym o.edit)

-- the answer of a later stage, whose work words are as many
pub written_later : {asked : Checked IncrementalOutput} {out text : List ℕ} (work later : List ℕ) (ask : Room → Checked IncrementalOutput) → asked ≡ ask (room_of out text work) → length later ≡ length work
    → {r : Checked Output} {out' text' work' : List ℕ} → Written (ask (room_of out text later)) r out text later out' text' work' → Written asked r out text work out' text' work'
written_later {asked} {out} {text} work later ask e f {r} w =
    let same : asked ≡ ask (room_of out text later) = e ∙ ap (λ (n : ℕ). ask (record { tape_bytes = length out; text_bytes = length text; work_words = n })) (sym f) in
    rw same (record { answer = w.answer; tape = w.tape; bytes = w.bytes; tape_length = w.tape_length; text_length = w.text_length; words_length = w.words_length ∙ f })
