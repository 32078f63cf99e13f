-- Probes that stop early, and what a probe that found its string tells. Assumes nothing.
use Rattle.std.specs.Prelude.{◌≡◌, refl, Bool, true, false, cond, List, ℕ, zero, suc, ◌+◌, ◌%◌, ◌<◌, eqb, length, get_or}
use Rattle.std.proofs.Common.{sym, arith, eqb-true}
use Rattle.model.specs.Intern.{Probe, holds, probe}
use Rattle.laws.specs.Probe.{alike}

-- ---- the first slots

-- a probe of m slots that ends before the last of them, or finds the string, is the probe of more
pub near_is : (m d : ℕ) (strings : List (List ℕ)) (t s : List ℕ) (at k : ℕ) → ((probe m strings t s at k).slot ≡ 0 → (probe m strings t s at k).steps < m + k)
    → probe (m + d) strings t s at k ≡ probe m strings t s at k
unfolding probe
near_is zero d strings t s at k h = absurd (omega (arith, h refl))
near_is (suc m) d strings t s at k h =
    let q : suc m + d ≡ suc (m + d) = omega arith in
    rw q (alike (λ (p : Probe). p.slot ≡ 0 → p.steps < suc m + k) (eqb (get_or t at 0) 0) (holds strings (get_or t at 0) s) _ _ _ h
    (λ g. near_is m d strings t s ((at + 1) % length t) (k + 1) (λ e. omega (arith, g e))))

-- ---- a string that was found

-- it ends at a slot that it tells the content of, and that holds s
pub record There (strings : List (List ℕ)) (t s : List ℕ) (p : Probe) : Type 0 where
  pub slot : get_or t p.at 0 ≡ p.slot
  pub holds_s : holds strings p.slot s ≡ true

there : (strings : List (List ℕ)) (t s : List ℕ) (b c : Bool) (stop more : Probe) → (b ≡ true → stop.slot ≡ 0) → c ≡ holds strings stop.slot s → get_or t stop.at 0 ≡ stop.slot
    → ((cond b stop (cond c stop more)).slot ≡ 0 → ⊥) → ((more.slot ≡ 0 → ⊥) → There strings t s more) → There strings t s (cond b stop (cond c stop more))
there strings t s true c stop more e h g ne go = absurd (ne (e refl))
there strings t s false true stop more e h g ne go = record { slot = g; holds_s = sym h }
there strings t s false false stop more e h g ne go = go ne

pub found_there : (n : ℕ) (strings : List (List ℕ)) (t s : List ℕ) (at k : ℕ) → ((probe n strings t s at k).slot ≡ 0 → ⊥)
    → There strings t s (probe n strings t s at k)
unfolding probe
found_there zero strings t s at k f = absurd (f refl)
found_there (suc n) strings t s at k f =
    let stop : Probe = record { at = at; slot = get_or t at 0; steps = k + 1 } in
    let more = probe n strings t s ((at + 1) % length t) (k + 1) in
    there strings t s (eqb (get_or t at 0) 0) (holds strings (get_or t at 0) s) stop more (λ e. eqb-true (get_or t at 0) 0 e) refl refl f
    (found_there n strings t s ((at + 1) % length t) (k + 1))
