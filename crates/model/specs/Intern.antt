-- Section 2: the hash, and the interner as a function from a state and a string to an id and a state.
use Rattle.std.specs.Prelude.{ℕ, zero, suc, ◌+◌, ◌-◌, ◌*◌, ◌/◌, ◌%◌, ◌^◌, Bool, false, cond, not, ◌&&◌, List, [], ◌∷◌, ◌++◌, length, get_or, set, replicate, leb, ltb, eqb}
use Rattle.std.specs.Int.Bits.{bit_xor}
use Rattle.model.specs.Lists.{same, is_empty}
use Rattle.model.specs.Limits.{fx_prime, fx_rotate_bits, intern_length_limit, initial_capacity, load_factor_numerator, load_factor_denominator}

-- ---- the hash

-- Section 2. 64 bits rotated left.
unfoldable pub rotate_left : ℕ → ℕ → ℕ
rotate_left bits h = h * 2 ^ bits % 2 ^ 64 + h / 2 ^ (64 - bits)

-- Section 2. For a byte: rotate left 5, xor the byte, multiply modulo 2 to the 64.
unfoldable pub fx_step : ℕ → ℕ → ℕ
fx_step h b = bit_xor (rotate_left fx_rotate_bits h) b * fx_prime % 2 ^ 64

unfoldable pub fx_from : ℕ → List ℕ → ℕ
fx_from h [] = h
fx_from h (b ∷ bs) = fx_from (fx_step h b) bs

-- Section 2. `fx_hash`: from 0, each byte in turn.
unfoldable pub fx_hash : List ℕ → ℕ
fx_hash bs = fx_from 0 bs

-- ---- the state

-- Section 2. `InternStats`: the seven counts.
pub record InternStats : Type 0 where
  pub calls : ℕ
  pub cache_hits : ℕ
  pub table_hits : ℕ
  pub allocs : ℕ
  pub long_bypass : ℕ
  pub resizes : ℕ
  pub probe_steps : ℕ

abbrev pub no_stats : InternStats
no_stats = record { calls = 0; cache_hits = 0; table_hits = 0; allocs = 0; long_bypass = 0; resizes = 0; probe_steps = 0 }

-- the counts of two parts of a run, together
unfoldable pub plus_stats : InternStats → InternStats → InternStats
plus_stats a b = record {
  calls = a.calls + b.calls;
  cache_hits = a.cache_hits + b.cache_hits;
  table_hits = a.table_hits + b.table_hits;
  allocs = a.allocs + b.allocs;
  long_bypass = a.long_bypass + b.long_bypass;
  resizes = a.resizes + b.resizes;
  probe_steps = a.probe_steps + b.probe_steps;
}

-- Section 2. `StrInterner`. `strings` are the layer's strings, whose places are their ids. A slot of the table is 0 where it
-- is empty and else 1 more than an id; so is `last`, the last answer.
pub record StrInterner : Type 0 where
  pub strings : List (List ℕ)
  pub table : List ℕ
  pub occupied : ℕ
  pub last : ℕ
  pub stats : InternStats

abbrev pub fresh_interner : StrInterner
fresh_interner = record { strings = []; table = []; occupied = 0; last = 0; stats = no_stats }

-- an answer: the id, and the state behind the call
pub record Interned : Type 0 where
  pub id : ℕ
  pub state : StrInterner

-- ---- the table

-- is the string that a slot or `last` names the string s? 0 names none
unfoldable pub holds : List (List ℕ) → ℕ → List ℕ → Bool
holds strings zero s = false
holds strings (suc i) s = same (get_or strings i []) s

-- where a probe of the table ends: the slot's place and content, and how many slots were inspected
pub record Probe : Type 0 where
  pub at : ℕ
  pub slot : ℕ
  pub steps : ℕ

-- Section 2. From the slot `at` on, around the table's end: the first that is empty or holds s. Each slot that is inspected is
-- one probe. n slots are left to look at, k were inspected.
unfoldable pub probe : ℕ → List (List ℕ) → List ℕ → List ℕ → ℕ → ℕ → Probe
probe zero strings table s at k = record { at = at; slot = 0; steps = k }
probe (suc n) strings table s at k =
    let slot = get_or table at 0 in
    let more = probe n strings table s ((at + 1) % length table) (k + 1) in
    let stop : Probe = record { at = at; slot = slot; steps = k + 1 } in
    cond (eqb slot 0) stop (cond (holds strings slot s) stop more)

-- the first empty slot from `at` on, around the table's end
unfoldable pub empty_slot : ℕ → List ℕ → ℕ → ℕ
empty_slot zero table at = at
empty_slot (suc n) table at =
    let more = empty_slot n table ((at + 1) % length table) in
    cond (eqb (get_or table at 0) 0) at more

-- Section 2. Entries move to the new table in slot order; their probes are uncounted.
unfoldable pub move_slots : List (List ℕ) → List ℕ → List ℕ → List ℕ
move_slots strings [] new = new
move_slots strings (zero ∷ old) new = move_slots strings old new
move_slots strings (suc i ∷ old) new =
    move_slots strings old (set new (empty_slot (length new) new (fx_hash (get_or strings i []) % length new)) (suc i))

-- Section 2. The table doubles if occupied × 8 ≥ slots × 7.
unfoldable pub grows : StrInterner → Bool
grows t = not (is_empty t.table) && leb (length t.table * load_factor_numerator) (t.occupied * load_factor_denominator)

-- Section 2. The table that a call probes: 256 slots at its first use, twice the slots where it grows, tested before probing.
unfoldable pub table_for : StrInterner → List ℕ
table_for t =
    let grown = move_slots t.strings t.table (replicate (length t.table * 2) 0) in
    let first : List ℕ = replicate initial_capacity 0 in
    cond (is_empty t.table) first (cond (grows t) grown t.table)

-- ---- a call

-- Section 2. Equal to the last answer's string: a cache hit.
unfoldable pub cache_hit : StrInterner → Interned
cache_hit t = record {
  id = t.last - 1;
  state = record {
    strings = t.strings;
    table = t.table;
    occupied = t.occupied;
    last = t.last;
    stats = plus_stats t.stats (record { calls = 1; cache_hits = 1; table_hits = 0; allocs = 0; long_bypass = 0; resizes = 0; probe_steps = 0 });
  };
}

-- Section 2. Over 64 bytes: a new string, counted as bypass and alloc; the table is not looked at.
unfoldable pub bypass : StrInterner → List ℕ → Interned
bypass t s = record {
  id = length t.strings;
  state = record {
    strings = t.strings ++ (s ∷ []);
    table = t.table;
    occupied = t.occupied;
    last = suc (length t.strings);
    stats = plus_stats t.stats (record { calls = 1; cache_hits = 0; table_hits = 0; allocs = 1; long_bypass = 1; resizes = 0; probe_steps = 0 });
  };
}

-- Section 2. The probe ended at an equal string: a table hit.
unfoldable pub table_hit : StrInterner → List ℕ → ℕ → Probe → Interned
table_hit t table resized p = record {
  id = p.slot - 1;
  state = record {
    strings = t.strings;
    table = table;
    occupied = t.occupied;
    last = p.slot;
    stats = plus_stats t.stats (record { calls = 1; cache_hits = 0; table_hits = 1; allocs = 0; long_bypass = 0; resizes = resized; probe_steps = p.steps });
  };
}

-- Section 2. The probe ended at an empty slot: an alloc.
unfoldable pub table_alloc : StrInterner → List ℕ → ℕ → Probe → List ℕ → Interned
table_alloc t table resized p s = record {
  id = length t.strings;
  state = record {
    strings = t.strings ++ (s ∷ []);
    table = set table p.at (suc (length t.strings));
    occupied = t.occupied + 1;
    last = suc (length t.strings);
    stats = plus_stats t.stats (record { calls = 1; cache_hits = 0; table_hits = 0; allocs = 1; long_bypass = 0; resizes = resized; probe_steps = p.steps });
  };
}

-- Section 2. The table: start at hash mod slots.
unfoldable pub table_call : StrInterner → List ℕ → List ℕ → Interned
table_call t table s =
    let resized : ℕ = cond (grows t) 1 0 in
    let p = probe (length table) t.strings table s (fx_hash s % length table) 0 in
    cond (eqb p.slot 0) (table_alloc t table resized p s) (table_hit t table resized p)

-- Section 2. `intern`: a call counts itself, then the last answer, the bypass, the table.
unfoldable pub intern : StrInterner → List ℕ → Interned
intern t s =
    cond (holds t.strings t.last s) (cache_hit t)
    (cond (ltb intern_length_limit (length s)) (bypass t s) (table_call t (table_for t) s))

-- the strings interned in their order
unfoldable pub intern_all : StrInterner → List (List ℕ) → StrInterner
intern_all t [] = t
intern_all t (s ∷ ss) = intern_all (intern t s).state ss
