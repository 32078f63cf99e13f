-- The slots of a table, walked around its end: each is reached, a table that is not full has an empty one, and how many are taken.
use Rattle.std.specs.Prelude.{◌≡◌, Bool, List, [], ◌∷◌, ◌++◌, set, take, drop, replicate}
use Rattle.std.proofs.Math.Path.{refl}
use Rattle.std.proofs.Common.{sym, ap, ◌∙◌, arith, mod-eq_of_lt, mod-lt, length-set, length-drop, take-append-drop, drop-cons, get_or-set_other}
use Prim.Native.Nat.{ℕ, zero, suc, ◌+◌, ◌-◌, ◌%◌, ◌≤◌, ◌<◌}
use Rattle.std.proofs.Math.Decide.{dec_lt}
use Rattle.std.proofs.Math.Nat.{mod_self}
use Rattle.std.proofs.Math.Bool.{true, false, cond}
use Rattle.std.proofs.Math.ListN.{length, get_or}
use Rattle.std.proofs.Math.Seq.{take-length}
use Rattle.std.proofs.Math.Dec.{eqb}
use borrow.Author.Tests.{eqb-true, eq-eqb}
use Rattle.model.specs.Intern.{fx_hash, empty_slot, move_slots}

-- ---- going round

pub next_round : (n at : ℕ) → at + 1 ≡ n → 0 ≡ (at + 1) % n
next_round n at e = sym (ap (λ (k : ℕ). k % n) e ∙ mod_self n)

pub next_in : (n at : ℕ) → at + 1 < n → at + 1 ≡ (at + 1) % n
next_in n at lt = sym (mod-eq_of_lt lt)

pub next_lt : (n at : ℕ) → at < n → (at + 1) % n < n
next_lt n at h = mod-lt (at + 1) (omega arith)

-- the slot d steps on
abbrev pub onward : ℕ → ℕ → ℕ → ℕ
onward n zero at = at
onward n (suc d) at = onward n d ((at + 1) % n)

straight : (n d at : ℕ) → at + d < n → onward n d at ≡ at + d
straight n zero at h = omega arith
straight n (suc d) at h = ap (onward n d) (sym (next_in n at (omega arith))) ∙ straight n d (at + 1) (omega arith) ∙ omega arith

-- from `at` past the end to z
round : (n d at z : ℕ) → at + d + 1 ≡ n → z < n → onward n (d + 1 + z) at ≡ z
round n zero at z h lt =
    let q : 0 + 1 + z ≡ suc z = omega arith in
    ap (λ (k : ℕ). onward n k at) q ∙ ap (onward n z) (sym (next_round n at (omega arith))) ∙ straight n z 0 (omega arith) ∙ omega arith
round n (suc d) at z h lt =
    let q : suc d + 1 + z ≡ suc (d + 1 + z) = omega arith in
    ap (λ (k : ℕ). onward n k at) q ∙ ap (onward n (d + 1 + z)) (sym (next_in n at (omega arith))) ∙ round n d (at + 1) z (omega arith) lt

-- each slot is reached
pub record Reached (n at z : ℕ) : Type 0 where
  pub steps : ℕ
  pub few : steps < n
  pub there : onward n steps at ≡ z

pub reach : (n at z : ℕ) → at < n → z < n → Reached n at z
reach n at z ha hz =
    elim (dec_lt z at) [
      | yes lt ↦ record { steps = n - 1 - at + 1 + z; few = omega arith; there = round n (n - 1 - at) at z (omega arith) hz }
      | no ge ↦ record { steps = z - at; few = omega (arith, ge); there = straight n (z - at) at (omega (arith, ge)) ∙ omega (arith, ge) }
    ]

-- ---- how many slots are taken

unfoldable pub taken : List ℕ → ℕ
taken [] = 0
taken (zero ∷ t) = taken t
taken (suc e ∷ t) = suc (taken t)

pub taken_le : (t : List ℕ) → taken t ≤ length t
unfolding taken
taken_le [] = omega arith
taken_le (zero ∷ t) = omega (arith, taken_le t)
taken_le (suc e ∷ t) = omega (arith, taken_le t)

pub taken_zeros : (n : ℕ) → taken (replicate n 0) ≡ 0
unfolding taken
taken_zeros zero = refl
taken_zeros (suc n) = taken_zeros n

pub taken_set : (t : List ℕ) (p v : ℕ) → p < length t → get_or t p 0 ≡ 0 → (v ≡ 0 → ⊥) → taken (set t p v) ≡ suc (taken t)
unfolding taken
taken_set [] p v h e n = absurd (omega arith)
taken_set (zero ∷ t) zero zero h e n = absurd (n refl)
taken_set (zero ∷ t) zero (suc v) h e n = refl
taken_set (suc x ∷ t) zero v h e n = absurd (omega (arith, e))
taken_set (zero ∷ t) (suc p) v h e n = taken_set t p v (omega arith) e n
taken_set (suc x ∷ t) (suc p) v h e n = ap suc (taken_set t p v (omega arith) e n)

-- what is taken stays as it is when an empty slot is filled
pub set_keeps : (t : List ℕ) (p v : ℕ) → get_or t p 0 ≡ 0 → (i : ℕ) → (get_or t i 0 ≡ 0 → ⊥) → get_or (set t p v) i 0 ≡ get_or t i 0
set_keeps t p v e i ne = get_or-set_other t p i v 0 (λ q. ne (ap (λ (j : ℕ). get_or t j 0) q ∙ e))

-- ---- an empty slot

record Empty (t : List ℕ) : Type 0 where
  at : ℕ
  inside : at < length t
  empty : get_or t at 0 ≡ 0

some_empty : (t : List ℕ) → taken t < length t → Empty t
unfolding taken
some_empty [] h = absurd (omega arith)
some_empty (zero ∷ t) h = record { at = 0; inside = omega arith; empty = refl }
some_empty (suc e ∷ t) h =
    let g = some_empty t (omega arith) in
    record { at = suc g.at; inside = omega (arith, g.inside); empty = g.empty }

-- one on the way from `at` on
pub record Gap (t : List ℕ) (at : ℕ) : Type 0 where
  pub steps : ℕ
  pub few : steps < length t
  pub empty : get_or t (onward (length t) steps at) 0 ≡ 0

pub gap : (t : List ℕ) (at : ℕ) → taken t < length t → at < length t → Gap t at
gap t at room lt =
    let g = some_empty t room in
    let r = reach (length t) at g.at lt g.inside in
    record { steps = r.steps; few = r.few; empty = ap (λ (j : ℕ). get_or t j 0) r.there ∙ g.empty }

-- ---- the first empty slot

module _ (t : List ℕ) where
  first_lt : (m at : ℕ) → at < length t → empty_slot m t at < length t
  unfolding empty_slot
  first_lt zero at h = h
  first_lt (suc m) at h = go (eqb (get_or t at 0) 0) (first_lt m ((at + 1) % length t) (next_lt (length t) at h))
    where
      go : (x : Bool) → empty_slot m t ((at + 1) % length t) < length t → cond x at (empty_slot m t ((at + 1) % length t)) < length t
      go true r = h
      go false r = r

  first_empty : (d m at : ℕ) → d < m → get_or t (onward (length t) d at) 0 ≡ 0 → get_or t (empty_slot m t at) 0 ≡ 0
  unfolding empty_slot
  first_empty d zero at lt e = absurd (omega arith)
  first_empty zero (suc m) at lt e = rw (eq-eqb (get_or t at 0) 0 e) e
  first_empty (suc d) (suc m) at lt e = go (eqb (get_or t at 0) 0) refl (first_empty d m ((at + 1) % length t) (omega arith) e)
    where
      go : (x : Bool) → eqb (get_or t at 0) 0 ≡ x → get_or t (empty_slot m t ((at + 1) % length t)) 0 ≡ 0 → get_or t (cond x at (empty_slot m t ((at + 1) % length t))) 0 ≡ 0
      go true q r = eqb-true (get_or t at 0) 0 q
      go false q r = r

  pub empty_inside : (at : ℕ) → at < length t → empty_slot (length t) t at < length t
  empty_inside at h = first_lt (length t) at h

  pub empty_empty : (at : ℕ) → taken t < length t → at < length t → get_or t (empty_slot (length t) t at) 0 ≡ 0
  empty_empty at room h = let g = gap t at room h in first_empty g.steps (length t) at g.few g.empty

-- ---- growth

-- it keeps the number of slots and of entries
pub moved_length : (strings : List (List ℕ)) (old new : List ℕ) → length (move_slots strings old new) ≡ length new
unfolding move_slots
moved_length strings [] new = refl
moved_length strings (zero ∷ old) new = moved_length strings old new
moved_length strings (suc i ∷ old) new =
    let at = empty_slot (length new) new (fx_hash (get_or strings i []) % length new) in
    moved_length strings old (set new at (suc i)) ∙ length-set new at (suc i)

pub moved_taken : (strings : List (List ℕ)) (old new : List ℕ) → taken new + taken old ≤ length new → taken (move_slots strings old new) ≡ taken new + taken old
unfolding move_slots taken
moved_taken strings [] new h = omega arith
moved_taken strings (zero ∷ old) new h = moved_taken strings old new h
moved_taken strings (suc i ∷ old) new h =
    let room : taken new < length new = omega arith in
    let start = fx_hash (get_or strings i []) % length new in
    let lt : start < length new = mod-lt (fx_hash (get_or strings i [])) (omega (arith, room)) in
    let at = empty_slot (length new) new start in
    let one = taken_set new at (suc i) (empty_inside new start lt) (empty_empty new start room lt) (λ e. omega (arith, e)) in
    let len = length-set new at (suc i) in
    moved_taken strings old (set new at (suc i)) (omega (arith, one, len)) ∙ omega (arith, one)

-- ---- how many of the next m slots are taken

abbrev pub full : ℕ → ℕ
full zero = 0
full (suc i) = 1

unfoldable pub taken_from : ℕ → ℕ → List ℕ → ℕ → ℕ
taken_from n zero t at = 0
taken_from n (suc m) t at = full (get_or t at 0) + taken_from n m t ((at + 1) % n)

taken_add : (n a b : ℕ) (t : List ℕ) (at : ℕ) → taken_from n (a + b) t at ≡ taken_from n a t at + taken_from n b t (onward n a at)
unfolding taken_from
taken_add n zero b t at = let q : 0 + b ≡ b = omega arith in rw q (omega arith)
taken_add n (suc a) b t at =
    let q : suc a + b ≡ suc (a + b) = omega arith in
    let r = taken_add n a b t ((at + 1) % n) in
    rw q (omega (arith, r))

taken_cons : (x : ℕ) (t : List ℕ) → taken (x ∷ t) ≡ full x + taken t
unfolding taken
taken_cons zero t = omega arith
taken_cons (suc i) t = omega arith

taken_append : (t u : List ℕ) → taken (t ++ u) ≡ taken t + taken u
unfolding taken
taken_append [] u = omega arith
taken_append (zero ∷ t) u = taken_append t u
taken_append (suc i ∷ t) u = omega (arith, taken_append t u)

taken_straight : (t : List ℕ) (m at : ℕ) → at + m ≤ length t → taken_from (length t) m t at ≡ taken (take m (drop at t))
unfolding taken_from taken
taken_straight t zero at h = refl
taken_straight t (suc zero) at h = sym (ap (λ (l : List ℕ). taken (take 1 l)) (drop-cons t at 0 (omega arith)) ∙ taken_cons (get_or t at 0) [])
taken_straight t (suc (suc m)) at h =
    let r = taken_straight t (suc m) (suc at) (omega arith) in
    let q : (at + 1) % length t ≡ suc at = sym (next_in (length t) at (omega arith)) ∙ omega arith in
    ap (λ (k : ℕ). full (get_or t at 0) + taken_from (length t) (suc m) t k) q
    ∙ ap (λ (k : ℕ). full (get_or t at 0) + k) r
    ∙ sym (ap (λ (l : List ℕ). taken (take (suc (suc m)) l)) (drop-cons t at 0 (omega arith)) ∙ taken_cons (get_or t at 0) (take (suc m) (drop (suc at) t)))

-- all the way round: every slot once
pub taken_round : (t : List ℕ) (at : ℕ) → at < length t → taken_from (length t) (length t) t at ≡ taken t
taken_round t at h =
    let n = length t in
    let d = n - 1 - at in
    let q : n ≡ d + 1 + at = omega arith in
    let z : d + 1 ≡ d + 1 + 0 = omega arith in
    let back : onward n (d + 1) at ≡ 0 = ap (λ (k : ℕ). onward n k at) z ∙ round n d at 0 (omega arith) (omega arith) in
    let w : d + 1 ≡ length (drop at t) = omega (arith, length-drop at t) in
    let rest : take (d + 1) (drop at t) ≡ drop at t = ap (λ (k : ℕ). take k (drop at t)) w ∙ take-length (drop at t) in
    ap (λ (k : ℕ). taken_from n k t at) q
    ∙ taken_add n (d + 1) at t at
    ∙ ap (λ (k : ℕ). taken_from n (d + 1) t at + taken_from n at t k) back
    ∙ ap (λ (k : ℕ). k + taken_from n at t 0) (taken_straight t (d + 1) at (omega arith) ∙ ap taken rest)
    ∙ ap (λ (k : ℕ). taken (drop at t) + k) (taken_straight t at 0 (omega arith))
    ∙ sym (ap taken (sym (take-append-drop at t)) ∙ taken_append (take at t) (drop at t) ∙ omega arith)
