-- The four ways of a call count what the definition counts, and the counts stay within their bounds.
use Rattle.std.specs.Prelude.{◌≡◌, ℕ, ◌≤◌}
use Rattle.std.proofs.Common.{sym, ◌∙◌, add-zero, rules}
use Rattle.std.proofs.Math.Path.{ap, subst}
use Rattle.model.specs.Intern.{InternStats as Stats, plus_stats}
use Rattle.stats.specs.declared.InternStats.{InternStats}
use Rattle.stats.specs.Counts.{stats_of, plus_call, plus_cache_hit, plus_bypass, plus_table_hit, plus_alloc, plus_resizes, plus_probes, Counted}

-- u is t with the defined counts of one call added
pub record Adds (t u : InternStats) (one : Stats) : Type 0 where
  pub is : stats_of u ≡ plus_stats (stats_of t) one
  pub counted : Counted u

module _ (t u : InternStats) (h : Counted t) where
  pub adds_cache_hit : u ≡ plus_cache_hit (plus_call t) → Adds t u (record { calls = 1; cache_hits = 1; table_hits = 0; allocs = 0; long_bypass = 0; resizes = 0; probe_steps = 0 })
  unfolding plus_stats
  adds_cache_hit e = record { is = ap stats_of e ∙ simp add-zero; counted = subst Counted (sym e) (search rules) }

  pub adds_bypass : u ≡ plus_bypass (plus_call t) → Adds t u (record { calls = 1; cache_hits = 0; table_hits = 0; allocs = 1; long_bypass = 1; resizes = 0; probe_steps = 0 })
  unfolding plus_stats
  adds_bypass e = record { is = ap stats_of e ∙ simp add-zero; counted = subst Counted (sym e) (search rules) }

  module _ (resized steps : ℕ) (once : resized ≤ 1) (few : steps ≤ 4096) where
    pub adds_table_hit : u ≡ plus_table_hit (plus_probes (plus_resizes (plus_call t) resized) steps) → Adds t u (record { calls = 1; cache_hits = 0; table_hits = 1; allocs = 0; long_bypass = 0; resizes = resized; probe_steps = steps })
    unfolding plus_stats
    adds_table_hit e = record { is = ap stats_of e ∙ simp add-zero; counted = subst Counted (sym e) (search rules) }

    pub adds_table_alloc : u ≡ plus_alloc (plus_probes (plus_resizes (plus_call t) resized) steps) → Adds t u (record { calls = 1; cache_hits = 0; table_hits = 0; allocs = 1; long_bypass = 0; resizes = resized; probe_steps = steps })
    unfolding plus_stats
    adds_table_alloc e = record { is = ap stats_of e ∙ simp add-zero; counted = subst Counted (sym e) (search rules) }
