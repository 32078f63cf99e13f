-- What is looked for in a state: a string by its id, the last answer, the probe. Assumes nothing.
use Rattle.std.specs.Prelude.{◌≡◌, Bool, true, false, ℕ, ◌+◌, ◌-◌, ◌*◌, ◌%◌, ◌<◌, ◌≤◌}
use Rattle.std.proofs.Math.Path.{sym, ap, subst}
use Rattle.std.proofs.Common.{◌∙◌, arith, mod-lt}
use Rattle.std.proofs.lemmas.Bool.{false≢true}
use mathlib.Core.List.{List, []}
use Rattle.std.proofs.Math.Decide.{dec_lt}
use Rattle.std.proofs.Math.ListN.{length, get_or}
use Rattle.model.specs.Lists.{same}
use Rattle.model.specs.Intern.{Probe, fx_hash, holds, probe}
use Rattle.table.specs.declared.Probed.{Probed}
use Rattle.table.specs.Layout.{table_of, starts_of, strings_up_to, strings_of, probe_of}
use Rattle.table.specs.Slots.{holds_some}
use Rattle.table.specs.Roomy.{Inside, inside, never_round}
use Rattle.table.specs.Found.{near_is}
use Rattle.table.specs.Sizes.{size_lo, size_hi, size_length, strings_all}
use Rattle.interner.specs.declared.StrInterner.{StrInterner as Interner}
use Rattle.interner.specs.State.{state_of, Good, first_probe}
use Rattle.interner.specs.Row.{probe_for, found_string}

module _ (work strs : List ℕ) (st : Interner) (g : Good work strs st) where
  abbrev strings : List (List ℕ)
  strings = strings_up_to st.count (starts_of st.count work) strs

  -- ---- a string
  pub resolved : (bytes : List ℕ) (id : ℕ) → bytes ≡ get_or (strings_of (starts_of st.count work) strs) id [] → bytes ≡ get_or strings id []
  resolved bytes id hb = hb ∙ ap (λ (ss : List (List ℕ)). get_or ss id []) (strings_all work strs (length strs) st.count g.words)

  -- ---- the last answer
  pub last_none : (s : List ℕ) → st.last ≡ 0 → false ≡ holds strings st.last s
  unfolding holds
  last_none s e = sym (ap (λ (k : ℕ). holds strings k s) e)

  pub last_some : (s bytes : List ℕ) (r : Bool) → (st.last ≡ 0 → ⊥) → bytes ≡ get_or strings (st.last - 1) [] → r ≡ same bytes s → r ≡ holds strings st.last s
  last_some s bytes r ne hb hr = hr ∙ ap (λ (l : List ℕ). same l s) hb ∙ sym (holds_some strings st.last s ne)

  pub last_there : (s : List ℕ) → holds strings st.last s ≡ true → 0 < st.last
  last_there s e =
      elim (dec_lt 0 st.last) [
        | yes lt ↦ lt
        | no ge ↦ absurd (false≢true (last_none s (omega (arith, ge)) ∙ e))
      ]

  -- ---- the probe
  module _ (s : List ℕ) (some : 0 < st.slots) where
    abbrev table : List ℕ
    table = table_of st.slots work

    len : length table ≡ st.slots
    len = size_length work g.size g.words.room

    pub lookup_is : (p : Probed) (h from most : ℕ) → h ≡ fx_hash s → from ≡ h % st.slots → probe_of p ≡ probe most (strings_of (starts_of st.count work) strs) table s from 0 → probe_of p ≡ probe_for most strings table s
    unfolding probe_for
    lookup_is p h from most hh hf hp =
        hp
        ∙ ap (λ (ss : List (List ℕ)). probe most ss table s from 0) (strings_all work strs (length strs) st.count g.words)
        ∙ ap (λ (k : ℕ). probe most strings table s k 0) (hf ∙ ap (λ (k : ℕ). k % st.slots) hh ∙ ap (λ (n : ℕ). fx_hash s % n) (sym len))

    -- a probe of the near slots that stops there, and one of all slots
    pub near_first : (m : ℕ) → m ≤ 256 → (p : Probe) → p ≡ probe_for m strings table s → (p.slot ≡ 0 → p.steps < m) → p ≡ first_probe (state_of work strs st) s
    unfolding first_probe probe_for
    near_first m le p is stops =
        let d = st.slots - m in
        let lo = size_lo g.size (λ e. omega (arith, e, some)) in
        let q : m + d ≡ length table = omega (arith, len, lo) in
        let h : (probe m strings table s (fx_hash s % length table) 0).slot ≡ 0 → (probe m strings table s (fx_hash s % length table) 0).steps < m + 0 =
        λ e. let z = subst (λ (x : Probe). x.slot ≡ 0 → x.steps < m) is stops e in omega (arith, z) in
        is ∙ sym (near_is m d strings table s (fx_hash s % length table) 0 h) ∙ ap (λ (n : ℕ). probe n strings table s (fx_hash s % length table) 0) q

    pub all_first : (p : Probe) → p ≡ probe_for st.slots strings table s → p ≡ first_probe (state_of work strs st) s
    unfolding first_probe
    all_first p is = is ∙ ap (λ (n : ℕ). probe_for n strings table s) (sym len)

    -- the string that it found is s
    pub first_own : (p : Probe) → (p.slot ≡ 0 → ⊥) → p ≡ first_probe (state_of work strs st) s → p ≡ first_probe (state_of work strs st) (get_or strings (p.slot - 1) [])
    unfolding first_probe
    first_own p some is = is ∙ ap (probe_for (length table) strings table) (sym (found_string strings table p some s is))

    start_lt : fx_hash s % length table < length table
    start_lt = mod-lt (fx_hash s) (omega (arith, len))

    -- a slot of the table, below the number of starts, after 4096 steps at most
    pub probe_in : (st.occupied * 8 < st.slots * 7) → (p : Probe) → p ≡ first_probe (state_of work strs st) s → (p.at < st.slots) × (p.slot ≤ st.count) × (p.steps ≤ 4096) × (get_or table p.at 0 ≡ p.slot)
    unfolding first_probe probe_for
    probe_in roomy p is =
        let i = subst (Inside table (st.count + 1) (length table + 0)) (sym is) (inside strings s table (st.count + 1) (length table) (fx_hash s % length table) 0 (omega arith) g.entries start_lt) in (
          omega (arith, i.at, len),
          omega (arith, i.slot),
          omega (arith, i.steps, len, size_hi g.size),
          subst (λ (q : Probe). get_or table q.at 0 ≡ q.slot) (sym is) (never_round strings s table (fx_hash s % length table) 0 start_lt (omega (arith, g.number, len))),
        )
