-- A probe of a table: how many slots it inspects, and that it finds what was put at the first empty slot of its way, then and later.
use Rattle.std.specs.Prelude.{◌≡◌, Bool, true, false, cond, List, [], ◌++◌, get_or, set, eqb}
use Rattle.std.proofs.Math.Path.{refl}
use Rattle.std.proofs.Common.{sym, ap, ◌∙◌, subst, arith, length-set, get_or-set_same, get_or-set_other}
use Prim.Native.Nat.{ℕ, zero, suc, ◌+◌, ◌%◌, ◌≤◌, ◌<◌}
use Rattle.std.proofs.Math.Decide.{ℕ_discrete}
use Rattle.std.proofs.Math.ListN.{length, get_or-append}
use borrow.Author.Tests.{eqb-true, eqb-false, eq-eqb, ne_eqb}
use Rattle.model.specs.Lists.{same}
use Rattle.model.specs.Intern.{Probe, holds, probe, empty_slot}
use Rattle.laws.specs.Slots.{onward, next_lt, set_keeps, Gap, full, taken_from}

-- where a probe stops at `at`
abbrev stop : List ℕ → ℕ → ℕ → Probe
stop t at k = record { at = at; slot = get_or t at 0; steps = k + 1 }

-- ---- the slots that it inspects: those taken on its way, and one more if it ends at an empty one

pub record Inspected (m n k : ℕ) (t : List ℕ) (at : ℕ) (p : Probe) : Type 0 where
  pub most : p.steps ≤ k + taken_from n m t at + 1
  pub hit : (p.slot ≡ 0 → ⊥) → p.steps ≤ k + taken_from n m t at

full_some : (x : ℕ) → (x ≡ 0 → ⊥) → full x ≡ 1
full_some zero ne = absurd (ne refl)
full_some (suc i) ne = refl

pub inspected : (m : ℕ) (strings : List (List ℕ)) (t s : List ℕ) (at k : ℕ) → Inspected m (length t) k t at (probe m strings t s at k)
unfolding probe taken_from
inspected zero strings t s at k = record { most = omega arith; hit = λ ne. absurd (ne refl) }
inspected (suc m) strings t s at k = go (eqb (get_or t at 0) 0) refl (holds strings (get_or t at 0) s) (inspected m strings t s ((at + 1) % length t) (k + 1))
  where
    more : Probe
    more = probe m strings t s ((at + 1) % length t) (k + 1)

    go : (x : Bool) → eqb (get_or t at 0) 0 ≡ x → (y : Bool) → Inspected m (length t) (k + 1) t ((at + 1) % length t) more → Inspected (suc m) (length t) k t at (cond x (stop t at k) (cond y (stop t at k) more))
    go true e y r = record { most = omega arith; hit = λ ne. absurd (ne (eqb-true (get_or t at 0) 0 e)) }
    go false e true r = let f = full_some (get_or t at 0) (eqb-false (get_or t at 0) 0 e) in record { most = omega (arith, f); hit = λ ne. omega (arith, f) }
    go false e false r =
        let f = full_some (get_or t at 0) (eqb-false (get_or t at 0) 0 e) in
        record { most = omega (arith, f, r.most); hit = λ ne. let h = r.hit ne in omega (arith, f, h) }

-- ---- a string that is not there

-- a probe that ends at an empty slot ends at the first one
pub miss_empty : (m : ℕ) (strings : List (List ℕ)) (t s : List ℕ) (at k : ℕ) → (probe m strings t s at k).slot ≡ 0 → (probe m strings t s at k).at ≡ empty_slot m t at
unfolding probe empty_slot
miss_empty zero strings t s at k e = refl
miss_empty (suc m) strings t s at k e = go (eqb (get_or t at 0) 0) refl (holds strings (get_or t at 0) s) (miss_empty m strings t s ((at + 1) % length t) (k + 1)) e
  where
    more : Probe
    more = probe m strings t s ((at + 1) % length t) (k + 1)

    go : (x : Bool) → eqb (get_or t at 0) 0 ≡ x → (y : Bool) → (more.slot ≡ 0 → more.at ≡ empty_slot m t ((at + 1) % length t))
        → (cond x (stop t at k) (cond y (stop t at k) more)).slot ≡ 0 → (cond x (stop t at k) (cond y (stop t at k) more)).at ≡ cond x at (empty_slot m t ((at + 1) % length t))
    go true e y r z = refl
    go false e true r z = absurd (eqb-false (get_or t at 0) 0 e z)
    go false e false r z = r z

-- ---- a string that is there

-- two probes that stop at the same slots are the same if they go on alike
pub alike : (P : Probe → Type 0) (b c : Bool) (stop x y : Probe) → P (cond b stop (cond c stop y)) → (P y → x ≡ y) → cond b stop (cond c stop x) ≡ cond b stop (cond c stop y)
alike P true c stop x y h f = refl
alike P false true stop x y h f = refl
alike P false false stop x y h f = f h

-- in a table that has these slots and more, with strings that the slots name alike, the string is found as before
probe_keeps : (n : ℕ) (strings strings' : List (List ℕ)) (t u s : List ℕ) → length u ≡ length t
    → ((i : ℕ) → (get_or t i 0 ≡ 0 → ⊥) → get_or u i 0 ≡ get_or t i 0)
    → ((i : ℕ) → (get_or t i 0 ≡ 0 → ⊥) → holds strings' (get_or t i 0) s ≡ holds strings (get_or t i 0) s)
    → (at k : ℕ) → ((probe n strings t s at k).slot ≡ 0 → ⊥) → probe n strings' u s at k ≡ probe n strings t s at k
unfolding probe
probe_keeps zero strings strings' t u s len keeps names at k f = absurd (f refl)
probe_keeps (suc n) strings strings' t u s len keeps names at k f =
    elim (ℕ_discrete (get_or t at 0) 0) [
      | yes e ↦ absurd (f (rw (eq-eqb (get_or t at 0) 0 e) e))
      | no ne ↦ rw (keeps at ne, len, names at ne) (alike (λ (p : Probe). p.slot ≡ 0 → ⊥) (eqb (get_or t at 0) 0) (holds strings (get_or t at 0) s) _ _ _ f
          (λ g. probe_keeps n strings strings' t u s len keeps names ((at + 1) % length t) (k + 1) g))
    ]

holds_grown : (strings more : List (List ℕ)) (slot : ℕ) (s : List ℕ) → slot ≤ length strings → holds (strings ++ more) slot s ≡ holds strings slot s
unfolding holds
holds_grown strings more zero s h = refl
holds_grown strings more (suc i) s h = ap (λ (x : List ℕ). same x s) (get_or-append strings more [] i (omega arith))

-- strings that come behind
pub probe_grown : (n : ℕ) (strings more : List (List ℕ)) (t s : List ℕ) → ((i : ℕ) → (get_or t i 0 ≡ 0 → ⊥) → get_or t i 0 ≤ length strings) → (at k : ℕ) → ((probe n strings t s at k).slot ≡ 0 → ⊥)
    → probe n (strings ++ more) t s at k ≡ probe n strings t s at k
probe_grown n strings more t s names = probe_keeps n strings (strings ++ more) t t s refl (λ i ne. refl) (λ i ne. holds_grown strings more (get_or t i 0) s (names i ne))

-- an empty slot filled
pub probe_set : (n : ℕ) (strings : List (List ℕ)) (t s : List ℕ) (p v : ℕ) → get_or t p 0 ≡ 0 → (at k : ℕ) → ((probe n strings t s at k).slot ≡ 0 → ⊥) → probe n strings (set t p v) s at k ≡ probe n strings t s at k
probe_set n strings t s p v e = probe_keeps n strings strings t (set t p v) s (length-set t p v) (set_keeps t p v e) (λ i ne. refl)

-- a taken slot stays so
stays : (t : List ℕ) (p v at : ℕ) → at < length t → (v ≡ 0 → ⊥) → (get_or t at 0 ≡ 0 → ⊥) → get_or (set t p v) at 0 ≡ 0 → ⊥
stays t p v at h nv ne e =
    elim (ℕ_discrete at p) [
      | yes q ↦ nv (sym (get_or-set_same t p v 0 (subst (λ (j : ℕ). j < length t) q h)) ∙ ap (λ (j : ℕ). get_or (set t p v) j 0) (sym q) ∙ e)
      | no q ↦ ne (sym (get_or-set_other t p at v 0 q) ∙ e)
    ]

-- a probe that stops at a taken slot, or goes on and ends at one
goes_on : (b c : Bool) (here more : Probe) → (here.slot ≡ 0 → ⊥) → (more.slot ≡ 0 → ⊥) → (cond b here (cond c here more)).slot ≡ 0 → ⊥
goes_on true c here more h m = h
goes_on false true here more h m = h
goes_on false false here more h m = m

-- what is put at the first empty slot of its way is found
module _ (strings : List (List ℕ)) (t s : List ℕ) (v : ℕ) (some : v ≡ 0 → ⊥) (is : holds strings v s ≡ true) where
  put_here : (m at k : ℕ) → at < length t → (probe (suc m) strings (set t at v) s at k).slot ≡ 0 → ⊥
  unfolding probe
  put_here m at k h = rw (get_or-set_same t at v 0 h, ne_eqb v 0 some, is) some

  placed : (d m at k : ℕ) → d < m → at < length t → get_or t (onward (length t) d at) 0 ≡ 0 → (probe m strings (set t (empty_slot m t at) v) s at k).slot ≡ 0 → ⊥
  unfolding empty_slot probe
  placed d zero at k lt h e = absurd (omega arith)
  placed zero (suc m) at k lt h e = rw (eq-eqb (get_or t at 0) 0 e) (put_here m at k h)
  placed (suc d) (suc m) at k lt h e = go (eqb (get_or t at 0) 0) refl (placed d m ((at + 1) % length t) (k + 1) (omega arith) (next_lt (length t) at h) e)
    where
      rest : ℕ
      rest = empty_slot m t ((at + 1) % length t)

      go : (x : Bool) → eqb (get_or t at 0) 0 ≡ x → ((probe m strings (set t rest v) s ((at + 1) % length t) (k + 1)).slot ≡ 0 → ⊥)
          → (probe (suc m) strings (set t (cond x at rest) v) s at k).slot ≡ 0 → ⊥
      go true q r = put_here m at k h
      go false q r =
          let ne = stays t rest v at h some (eqb-false (get_or t at 0) 0 q) in
          goes_on (eqb (get_or (set t rest v) at 0) 0) (holds strings (get_or (set t rest v) at 0) s) (stop (set t rest v) at k) _ ne (rw (length-set t rest v) r)

  pub put_found : (at k : ℕ) → at < length t → Gap t at → (probe (length t) strings (set t (empty_slot (length t) t at) v) s at k).slot ≡ 0 → ⊥
  put_found at k h g = placed g.steps (length t) at k g.few h g.empty
