-- Wish 7: a ceiling on probing. What the probes of a layer are held against: its list of intern calls, and how many distinct strings
-- among them the table may know. It is a statement; the proof is in `laws`.
use Rattle.std.specs.Prelude.{◌≡◌, ℕ, suc, ◌*◌, ◌≤◌, Bool, cond, not, ◌&&◌, List, [], ◌∷◌, length, leb}
use Rattle.model.specs.Lists.{any, same}
use Rattle.model.specs.Limits.{intern_length_limit}
use Rattle.model.specs.Intern.{InternStats, fresh_interner, intern_all}
use Rattle.model.specs.Types.{RegionOutput}
use Rattle.model.specs.Refusal.{Checked, Checked.refused, Checked.accepted}
use Rattle.model.specs.WellFormed.{check_reading}
use Rattle.model.specs.Tree.{shown_nodes}
use Rattle.model.specs.Graft.{graft_calls}
use Rattle.model.specs.Merge.{Stored}

-- Wish 7. A string that the table is asked for: at most `intern_length_limit` bytes.
unfoldable pub is_short : List ℕ → Bool
is_short s = leb (length s) intern_length_limit

-- Wish 7. m: the number of distinct strings of at most `intern_length_limit` bytes among these. Each counts where it stands last.
unfoldable pub distinct_short : List (List ℕ) → ℕ
distinct_short [] = 0
distinct_short (s ∷ ss) =
    let rest = distinct_short ss in
    cond (is_short s && not (any (same s) ss)) (suc rest) rest

-- Wish 7. For a list of intern calls on a fresh layer, probes are at most calls × m, and 0 if m is 0. The counts are those of the
-- list, and its calls are as many as it is long.
pub record Ceiling (list : List (List ℕ)) (counts : InternStats) : Type 0 where
  pub made : counts ≡ (intern_all fresh_interner list).stats
  pub calls : counts.calls ≡ length list
  pub probes : counts.probe_steps ≤ counts.calls * distinct_short list
  pub none : distinct_short list ≡ 0 → counts.probe_steps ≡ 0

-- Wish 7. The list is the one that grafting makes: in a merge, of the reading's nodes. What is no reading has none.
unfoldable pub calls_of : Checked RegionOutput → List (List ℕ)
calls_of (refused n) = []
calls_of (accepted reading) = graft_calls (shown_nodes reading)

unfoldable pub reading_calls : Stored → List (List ℕ)
reading_calls reading = calls_of (check_reading reading.tape reading.bytes)
