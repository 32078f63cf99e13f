-- Where the interner's table and strings stand among the lent words and bytes.
use Rattle.std.specs.Prelude.{List, [], ◌∷◌, ◌++◌, ℕ, zero, suc, ◌+◌, ◌-◌, ◌*◌, ◌/◌, ◌%◌, ◌<◌, ◌≤◌, length, get_or, take, drop, set}
use Rattle.model.specs.Intern.{Probe, empty_slot, fx_hash}
use Rattle.model.specs.Limits.{max_new_strings, min_work_words}
use Rattle.table.specs.declared.Probed.{Probed}

-- the words from a up to e, as the code's `&work[a..e]` has them
abbrev pub part : ℕ → ℕ → List ℕ → List ℕ
part a e l = take (e - a) (drop a l)

-- A table of n slots stands at n - 256: those of 256, 512, .. 4096 slots lie side by side, and no two overlap.
abbrev pub table_of : ℕ → List ℕ → List ℕ
table_of n work = part (n - 256) (n - 256 + n) work

-- a number in two words, its low 32 bits first
abbrev pub wide_at : List ℕ → ℕ → ℕ
wide_at words at = get_or words at 0 + 4294967296 * get_or words (at + 1) 0

-- the numbers in words, two words each
unfoldable pub wide_words : List ℕ → List ℕ
wide_words [] = []
wide_words (low ∷ []) = []
wide_words (low ∷ high ∷ rest) = (low + 4294967296 * high) ∷ wide_words rest

-- The places where count strings start stand from 8192 on, two words each, and one more: the end of the last.
abbrev pub starts_of : ℕ → List ℕ → List ℕ
starts_of count work = wide_words (part 8192 (8192 + 2 * count + 2) work)

-- where string k starts
abbrev pub start_in : List ℕ → ℕ → ℕ
start_in work k = wide_at work (8192 + 2 * k)

-- the words with v as the start of string k
unfoldable pub with_start : List ℕ → ℕ → ℕ → List ℕ
with_start work k v = set (set work (8192 + 2 * k) (v % 4294967296)) (8192 + 2 * k + 1) (v / 4294967296)

-- string k of those that begin at `starts` in `bytes`
abbrev pub string_at : List ℕ → List ℕ → ℕ → List ℕ
string_at starts bytes k = take (get_or starts (k + 1) 0 - get_or starts k 0) (drop (get_or starts k 0) bytes)

-- the first n strings
unfoldable pub strings_up_to : ℕ → List ℕ → List ℕ → List (List ℕ)
strings_up_to zero starts bytes = []
strings_up_to (suc n) starts bytes = strings_up_to n starts bytes ++ (string_at starts bytes n ∷ [])

-- as many strings as there are starts, less the last end
abbrev pub strings_of : List ℕ → List ℕ → List (List ℕ)
strings_of starts bytes = strings_up_to (length starts - 1) starts bytes

-- the starts rise, and end within `size` bytes
abbrev pub Starts : List ℕ → ℕ → Type 0
Starts starts size = (k : ℕ) → k + 1 < length starts → (get_or starts k 0 ≤ get_or starts (k + 1) 0) × (get_or starts (k + 1) 0 ≤ size)

-- each slot is 0, or one more than an id that has a start and an end
abbrev pub Entries : List ℕ → ℕ → Type 0
Entries table starts = (k : ℕ) → k < length table → get_or table k 0 < starts

-- the words hold the starts of count strings of `size` bytes at most
pub record Work (work : List ℕ) (size count : ℕ) : Type 0 where
  pub room : min_work_words ≤ length work
  pub few : count ≤ max_new_strings
  pub starts : Starts (starts_of count work) size

-- where string id goes in a table
unfoldable pub slot_for : List (List ℕ) → List ℕ → ℕ → ℕ
slot_for strings table id = empty_slot (length table) table (fx_hash (get_or strings id []) % length table)

-- what the code's probe says
abbrev pub probe_of : Probed → Probe
probe_of p = record { at = p.at; slot = p.slot; steps = p.steps }
