-- The seven counts: the defined ones they stand for, what each function adds, and that no sum wraps.
use Rattle.std.specs.Prelude.{◌≡◌, ℕ, ◌+◌, ◌*◌, ◌≤◌}
use Rattle.model.specs.Intern.{InternStats as Stats}
use Rattle.stats.specs.declared.InternStats.{InternStats}

abbrev pub stats_of : InternStats → Stats
stats_of c = record {
  calls = c.calls;
  cache_hits = c.cache_hits;
  table_hits = c.table_hits;
  allocs = c.allocs;
  long_bypass = c.long_bypass;
  resizes = c.resizes;
  probe_steps = c.probe_steps;
}

abbrev pub no_stats : InternStats
no_stats = record { calls = 0; cache_hits = 0; table_hits = 0; allocs = 0; long_bypass = 0; resizes = 0; probe_steps = 0 }

-- the derived default, as its contract has it
pub default_is : (s : InternStats) → (s.calls ≡ 0) × ((s.cache_hits ≡ 0) × ((s.table_hits ≡ 0) × ((s.allocs ≡ 0) × ((s.long_bypass ≡ 0) × ((s.resizes ≡ 0) × (s.probe_steps ≡ 0)))))) → s ≡ no_stats
default_is s (calls, (cache_hits, (table_hits, (allocs, (long_bypass, (resizes, probe_steps)))))) =
    λ i. record { calls = calls i; cache_hits = cache_hits i; table_hits = table_hits i; allocs = allocs i; long_bypass = long_bypass i; resizes = resizes i; probe_steps = probe_steps i }

-- ---- more of one count, the others as they were

abbrev pub plus_call : InternStats → InternStats
plus_call t = record { calls = t.calls + 1; cache_hits = t.cache_hits; table_hits = t.table_hits; allocs = t.allocs; long_bypass = t.long_bypass; resizes = t.resizes; probe_steps = t.probe_steps }

abbrev pub plus_cache_hit : InternStats → InternStats
plus_cache_hit t = record { calls = t.calls; cache_hits = t.cache_hits + 1; table_hits = t.table_hits; allocs = t.allocs; long_bypass = t.long_bypass; resizes = t.resizes; probe_steps = t.probe_steps }

abbrev pub plus_bypass : InternStats → InternStats
plus_bypass t = record { calls = t.calls; cache_hits = t.cache_hits; table_hits = t.table_hits; allocs = t.allocs + 1; long_bypass = t.long_bypass + 1; resizes = t.resizes; probe_steps = t.probe_steps }

abbrev pub plus_table_hit : InternStats → InternStats
plus_table_hit t = record { calls = t.calls; cache_hits = t.cache_hits; table_hits = t.table_hits + 1; allocs = t.allocs; long_bypass = t.long_bypass; resizes = t.resizes; probe_steps = t.probe_steps }

abbrev pub plus_alloc : InternStats → InternStats
plus_alloc t = record { calls = t.calls; cache_hits = t.cache_hits; table_hits = t.table_hits; allocs = t.allocs + 1; long_bypass = t.long_bypass; resizes = t.resizes; probe_steps = t.probe_steps }

abbrev pub plus_resizes : InternStats → ℕ → InternStats
plus_resizes t n = record { calls = t.calls; cache_hits = t.cache_hits; table_hits = t.table_hits; allocs = t.allocs; long_bypass = t.long_bypass; resizes = t.resizes + n; probe_steps = t.probe_steps }

abbrev pub plus_probes : InternStats → ℕ → InternStats
plus_probes t n = record { calls = t.calls; cache_hits = t.cache_hits; table_hits = t.table_hits; allocs = t.allocs; long_bypass = t.long_bypass; resizes = t.resizes; probe_steps = t.probe_steps + n }

-- ---- no sum wraps

-- No count passes the calls, and a call inspects 4096 slots at most. So no sum of 64 bits wraps while the calls are below 2 ^ 32.
pub record Counted (c : InternStats) : Type 0 where
  pub cache_hits : c.cache_hits ≤ c.calls
  pub table_hits : c.table_hits ≤ c.calls
  pub allocs : c.allocs ≤ c.calls
  pub long_bypass : c.long_bypass ≤ c.calls
  pub resizes : c.resizes ≤ c.calls
  pub probe_steps : c.probe_steps ≤ 4096 * c.calls
