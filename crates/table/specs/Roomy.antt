-- A table with an empty slot: a probe finds an empty slot or the string, and never goes all the way round. Assumes nothing.
use Rattle.std.specs.Prelude.{◌≡◌, refl, Bool, true, false, cond, List, [], ◌∷◌, ℕ, zero, suc, ◌+◌, ◌%◌, ◌<◌, ◌≤◌, eqb, length, get_or, set, replicate}
use Rattle.std.proofs.Common.{sym, subst, arith, eq-eqb, length-set, get_or-set_same, get_or-set_other}
use Rattle.std.proofs.Math.Decide.{ℕ_discrete}
use Rattle.std.proofs.lemmas.List.{length-replicate, get_or-replicate}
use Rattle.model.specs.Intern.{Probe, fx_hash, holds, probe, empty_slot, move_slots}
use Rattle.laws.specs.Slots.{onward, next_lt, taken, gap}
use Rattle.table.specs.Layout.{Entries}

-- ---- the probe
cond_both : (P : Probe → Type 0) (b : Bool) (x y : Probe) → P x → P y → P (cond b x y)
cond_both P true x y hx hy = hx
cond_both P false x y hx hy = hy

-- where it ends is a slot of the table, and its content is below N; each slot is inspected once at most
pub record Inside (t : List ℕ) (N most : ℕ) (p : Probe) : Type 0 where
  pub at : p.at < length t
  pub slot : p.slot < N
  pub steps : p.steps ≤ most

pub inside : (strings : List (List ℕ)) (s t : List ℕ) (N n at k : ℕ) → 0 < N → Entries t N → at < length t → Inside t N (n + k) (probe n strings t s at k)
unfolding probe
inside strings s t N zero at k some h lt = record { at = lt; slot = some; steps = omega arith }
inside strings s t N (suc n) at k some h lt =
    let here : Inside t N (suc n + k) (record { at = at; slot = get_or t at 0; steps = k + 1 }) = record { at = lt; slot = h at lt; steps = omega arith } in
    let on = inside strings s t N n ((at + 1) % length t) (k + 1) some h (next_lt (length t) at lt) in
    let more : Inside t N (suc n + k) (probe n strings t s ((at + 1) % length t) (k + 1)) = record { at = on.at; slot = on.slot; steps = omega (arith, on.steps) } in
    cond_both (Inside t N (suc n + k)) (eqb (get_or t at 0) 0) _ _ here (cond_both (Inside t N (suc n + k)) (holds strings (get_or t at 0) s) _ _ here more)

-- it ends at a slot that it tells the content of
ends : (strings : List (List ℕ)) (s t : List ℕ) (d n at k : ℕ) → d < n → get_or t (onward (length t) d at) 0 ≡ 0 → get_or t (probe n strings t s at k).at 0 ≡ (probe n strings t s at k).slot
unfolding probe
ends strings s t d zero at k lt e = absurd (omega arith)
ends strings s t zero (suc n) at k lt e = rw (eq-eqb _ _ e) refl
ends strings s t (suc d) (suc n) at k lt e =
    cond_both (λ (p : Probe). get_or t p.at 0 ≡ p.slot) (eqb (get_or t at 0) 0) _ _ refl
    (cond_both (λ (p : Probe). get_or t p.at 0 ≡ p.slot) (holds strings (get_or t at 0) s) _ _ refl (ends strings s t d n ((at + 1) % length t) (k + 1) (omega arith) e))

pub never_round : (strings : List (List ℕ)) (s t : List ℕ) (at k : ℕ) → at < length t → taken t < length t → get_or t (probe (length t) strings t s at k).at 0 ≡ (probe (length t) strings t s at k).slot
never_round strings s t at k ha room =
    let g = gap t at room ha in
    ends strings s t g.steps (length t) at k g.few g.empty

-- ---- what slots hold stays below
pub set_entries : (N : ℕ) (t : List ℕ) (p v : ℕ) → Entries t N → v < N → Entries (set t p v) N
set_entries N t p v h lt k in-t =
    elim (ℕ_discrete k p) [
      | yes e ↦ subst (λ (j : ℕ). get_or (set t p v) j 0 < N) (sym e) (subst (λ (x : ℕ). x < N) (sym (get_or-set_same t p v 0 (subst (λ (j : ℕ). j < length t) e (subst (λ (m : ℕ). k < m) (length-set t p v) in-t)))) lt)
      | no ne ↦ subst (λ (x : ℕ). x < N) (sym (get_or-set_other t p k v 0 ne)) (h k (subst (λ (m : ℕ). k < m) (length-set t p v) in-t))
    ]

pub entries_all : (strings : List (List ℕ)) (N : ℕ) (old new : List ℕ) → Entries new N → Entries old N → Entries (move_slots strings old new) N
unfolding move_slots
entries_all strings N [] new hn ho = hn
entries_all strings N (zero ∷ es) new hn ho = entries_all strings N es new hn (λ k lt. ho (suc k) (omega arith))
entries_all strings N (suc d ∷ es) new hn ho =
    let at = empty_slot (length new) new (fx_hash (get_or strings d []) % length new) in
    entries_all strings N es (set new at (suc d)) (set_entries N new at (suc d) hn (ho 0 (omega arith))) (λ k lt. ho (suc k) (omega arith))

pub entries_zeros : (N n : ℕ) → 0 < N → Entries (replicate n 0) N
entries_zeros N n h k lt = subst (λ (x : ℕ). x < N) (sym (get_or-replicate n k 0 0 (subst (λ (m : ℕ). k < m) (length-replicate {A = ℕ} n 0) lt))) h
