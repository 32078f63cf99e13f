-- The slots of a table: one turn of the probe, and of the search for an empty slot. Assumes nothing.
use Rattle.std.specs.Prelude.{◌≡◌, true, false, List, [], length, get_or}
use Rattle.std.proofs.Math.Path.{refl}
use Rattle.std.proofs.Common.{◌∙◌}
use Prim.Native.Nat.{ℕ, zero, suc, ◌+◌, ◌-◌, ◌%◌, ◌<◌, ◌≤◌}
use native.Mathlib.Omega.{arith}
use borrow.Author.Tests.{eq-eqb, ne_eqb}
use Rattle.model.specs.Lists.{same}
use Rattle.model.specs.Intern.{Probe, holds, probe, empty_slot}

pub holds_some : (strings : List (List ℕ)) (e : ℕ) (s : List ℕ) → (e ≡ 0 → ⊥) → holds strings e s ≡ same (get_or strings (e - 1) []) s
unfolding holds
holds_some strings zero s ne = absurd (ne refl)
holds_some strings (suc d) s ne =
    let q : suc d - 1 ≡ d = omega arith in
    rw q refl

abbrev stopped : ℕ → ℕ → ℕ → Probe
stopped at slot steps = record { at = at; slot = slot; steps = steps }

module _ (strings : List (List ℕ)) (s t : List ℕ) (n k at : ℕ) (more : k < n) where
  pub turn_empty : get_or t at 0 ≡ 0 → probe (n - k) strings t s at k ≡ stopped at 0 (k + 1)
  unfolding probe
  turn_empty e =
      let q : n - k ≡ suc (n - (k + 1)) = omega arith in
      rw (q, e) refl

  pub turn_hit : (get_or t at 0 ≡ 0 → ⊥) → same (get_or strings (get_or t at 0 - 1) []) s ≡ true → probe (n - k) strings t s at k ≡ stopped at (get_or t at 0) (k + 1)
  unfolding probe
  turn_hit ne e =
      let q : n - k ≡ suc (n - (k + 1)) = omega arith in
      rw (q, ne_eqb _ _ ne, holds_some strings (get_or t at 0) s ne ∙ e) refl

  pub turn_on : {at' : ℕ} → at' ≡ (at + 1) % length t → (get_or t at 0 ≡ 0 → ⊥) → same (get_or strings (get_or t at 0 - 1) []) s ≡ false → probe (n - (k + 1)) strings t s at' (k + 1) ≡ probe (n - k) strings t s at k
  unfolding probe
  turn_on {at'} p ne e =
      let q : n - k ≡ suc (n - (k + 1)) = omega arith in
      rw (q, p, ne_eqb _ _ ne, holds_some strings (get_or t at 0) s ne ∙ e) refl

pub turn_none : (strings : List (List ℕ)) (s t : List ℕ) (n k at : ℕ) → n ≤ k → probe (n - k) strings t s at k ≡ stopped at 0 k
unfolding probe
turn_none strings s t n k at h =
    let q : n - k ≡ 0 = omega arith in
    rw q refl

pub turn_first : (strings : List (List ℕ)) (s t : List ℕ) (n at : ℕ) → probe (n - 0) strings t s at 0 ≡ probe n strings t s at 0
turn_first strings s t n at =
    let q : n - 0 ≡ n = omega arith in
    rw q refl

-- ---- the first empty slot
module _ (t : List ℕ) (n k at : ℕ) (more : k < n) where
  pub empty_here : get_or t at 0 ≡ 0 → empty_slot (n - k) t at ≡ at
  unfolding empty_slot
  empty_here e =
      let q : n - k ≡ suc (n - (k + 1)) = omega arith in
      rw (q, eq-eqb _ _ e) refl

  pub empty_on : {at' : ℕ} → at' ≡ (at + 1) % length t → (get_or t at 0 ≡ 0 → ⊥) → empty_slot (n - (k + 1)) t at' ≡ empty_slot (n - k) t at
  unfolding empty_slot
  empty_on {at'} p ne =
      let q : n - k ≡ suc (n - (k + 1)) = omega arith in
      rw (q, p, ne_eqb _ _ ne) refl

pub empty_none : (t : List ℕ) (n k at : ℕ) → n ≤ k → empty_slot (n - k) t at ≡ at
unfolding empty_slot
empty_none t n k at h =
    let q : n - k ≡ 0 = omega arith in
    rw q refl

pub empty_first : (t : List ℕ) (n at : ℕ) → empty_slot (n - 0) t at ≡ empty_slot n t at
empty_first t n at =
    let q : n - 0 ≡ n = omega arith in
    rw q refl
