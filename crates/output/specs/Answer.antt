-- The code's answer of a merge, and what the three lent buffers hold behind it.
use Rattle.std.specs.Prelude.{◌≡◌, ℕ, List, length, take}
use Rattle.std.proofs.Common.{◌∙◌}
use Rattle.model.specs.Intern.{InternStats}
use Rattle.model.specs.Refusal.{Checked, Checked.refused, Checked.accepted}
use Rattle.model.specs.Merge.{Room, IncrementalOutput, tape_buffer, text_buffer, work_buffer}
use Rattle.stats.specs.declared.InternStats.{InternStats as Counters}
use Rattle.refusal.specs.Refusal.{checked, checked_map}
use Rattle.output.specs.declared.IncrementalOutput.{IncrementalOutput as Output}
use Rattle.output.specs.declared.BothOrders.{BothOrders}

-- the seven counts as the code has them
abbrev pub counters_of : InternStats → Counters
counters_of s = record {
  calls = s.calls;
  cache_hits = s.cache_hits;
  table_hits = s.table_hits;
  allocs = s.allocs;
  long_bypass = s.long_bypass;
  resizes = s.resizes;
  probe_steps = s.probe_steps;
}

abbrev pub output_by : ℕ → ℕ → ℕ → ℕ → Counters → ℕ → ℕ → Output
output_by start end reused reread stats tape bytes = record { start = start; end = end; reused = reused; reread = reread; stats = stats; tape = tape; bytes = bytes }

-- The values that an accepted merge returns.
unfoldable pub output_value : IncrementalOutput → Output
output_value a = record {
  start = a.region.start;
  end = a.region.end;
  reused = a.reused_nodes;
  reread = a.reparsed_nodes;
  stats = counters_of a.stats;
  tape = length a.output.tape;
  bytes = length a.output.bytes;
}

-- Document 01's number, or the values that are returned.
abbrev pub output_of : Checked IncrementalOutput → Checked Output
output_of = checked_map output_value

-- What four merges answer, each a number or the values that are returned.
pub record Answers : Type 0 where
  pub earlier_first : Checked Output
  pub later_second : Checked Output
  pub later_first : Checked Output
  pub earlier_second : Checked Output

abbrev pub answers_of : BothOrders → Answers
answers_of r = record {
  earlier_first = checked r.earlier_first;
  later_second = checked r.later_second;
  later_first = checked r.later_first;
  earlier_second = checked r.earlier_second;
}

-- How many bytes of the two result buffers an answer takes: none where it is refused.
abbrev pub tape_taken : Checked Output → ℕ
tape_taken (refused n) = 0
tape_taken (accepted a) = a.tape

abbrev pub bytes_taken : Checked Output → ℕ
bytes_taken (refused n) = 0
bytes_taken (accepted a) = a.bytes

-- What a merge leaves: the answer, the result and zeros behind it in both buffers, zeros in all work words.
pub record Merged (asked : Checked IncrementalOutput) (room : Room) (r : Checked Output) (out text work : List ℕ) : Type 0 where
  pub answer : r ≡ output_of asked
  pub tape : out ≡ tape_buffer room asked
  pub bytes : text ≡ text_buffer room asked
  pub words : work ≡ work_buffer room

-- an equal answer leaves the same
pub merge_told : {asked : Checked IncrementalOutput} {room : Room} {x y : Checked Output} {out text work : List ℕ} → y ≡ x → Merged asked room x out text work → Merged asked room y out text work
merge_told e m = record { answer = e ∙ m.answer; tape = m.tape; bytes = m.bytes; words = m.words }

-- The same before what is not result is cleared: an accepted result stands at the head of both buffers.
pub record Written (asked : Checked IncrementalOutput) (r : Checked Output) (out text work out' text' work' : List ℕ) : Type 0 where
  pub answer : r ≡ output_of asked
  pub tape : (a : IncrementalOutput) → asked ≡ accepted a → take (length a.output.tape) out' ≡ a.output.tape
  pub bytes : (a : IncrementalOutput) → asked ≡ accepted a → take (length a.output.bytes) text' ≡ a.output.bytes
  pub tape_length : length out' ≡ length out
  pub text_length : length text' ≡ length text
  pub words_length : length work' ≡ length work
