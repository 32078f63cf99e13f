-- From record to record: the numbers stay small, and the place grows.
use Rattle.std.specs.Prelude.{◌≡◌, refl, ℕ, zero, suc, ◌+◌, ◌≤◌, ◌<◌, List, [], ◌∷◌, get_or, set, replicate, ltb}
use Rattle.std.proofs.Common.{◌∙◌, arith, lt-ltb, le-ltb}
use Rattle.std.proofs.Math.ListN.{get_or-eq_default}
use Rattle.model.specs.Bytes.{byte_at}
use Rattle.facts.specs.Truth.{by_bool}
use Rattle.listing.specs.declared.Cursor.{Cursor}
use Rattle.listing.specs.Table.{sizes}
use Rattle.listing.specs.Coded.{size_some, size_read}
use Rattle.listing.specs.Listing.{number_in, first_line, next_line}

-- no more records than bytes were passed
pub record Counted (c : Cursor) : Type 0 where
  pub few : (k : ℕ) → get_or c.seen k 0 ≤ c.at

zeros_few : (n k : ℕ) → get_or (replicate n 0) k 0 ≤ 0
zeros_few zero k = omega arith
zeros_few (suc n) zero = omega arith
zeros_few (suc n) (suc k) = zeros_few n k

set_few : (l : List ℕ) (i v k b : ℕ) → v ≤ b → get_or l k 0 ≤ b → get_or (set l i v) k 0 ≤ b
set_few [] i v k b h g = g
set_few (x ∷ xs) zero v zero b h g = h
set_few (x ∷ xs) zero v (suc k) b h g = g
set_few (x ∷ xs) (suc i) v zero b h g = g
set_few (x ∷ xs) (suc i) v (suc k) b h g = set_few xs i v k b h g

pub counted_first : Counted first_line
unfolding first_line
counted_first = record { few = λ k. zeros_few 11 k }

pub number_few : (t : List ℕ) {c : Cursor} → Counted c → number_in t c ≤ c.at
unfolding number_in
number_few t {c} f =
    by_bool (ltb 10 (byte_at t c.at)) (λ e. rw e (omega arith)) (λ e. rw e (f.few (byte_at t c.at)))

pub counted_next : (t : List ℕ) {c r : Cursor} → Counted c → r ≡ next_line t c → Counted r
unfolding next_line
counted_next t {c} {r} f e =
    let s = size_some (byte_at t c.at) in
    let n = number_few t f in
    let later : Counted (next_line t c) = record {
      few = λ k.
          by_bool (ltb 10 (byte_at t c.at))
          (λ h. rw h (let m = f.few k in omega (arith, m, s)))
          (λ h. rw h (set_few c.seen (byte_at t c.at) (number_in t c + 1) k (c.at + get_or sizes (byte_at t c.at) 1) (omega (arith, n, s)) (let m = f.few k in omega (arith, m, s))));
    } in
    rw e later

pub next_later : (t : List ℕ) (c : Cursor) {r : Cursor} → r ≡ next_line t c → c.at < r.at
unfolding next_line
next_later t c e = rw e (let s = size_some (byte_at t c.at) in omega (arith, s))

-- ---- the returns of the code

pub number_none : (t : List ℕ) (c : Cursor) {x : ℕ} → x ≡ byte_at t c.at → 10 < x → 0 ≡ number_in t c
unfolding number_in
number_none t c {x} e h = rw (← e, lt-ltb 10 x h) refl

pub number_read : (t : List ℕ) (c : Cursor) {x k n : ℕ} → x ≡ byte_at t c.at → x ≤ 10 → k ≡ x → n ≡ get_or c.seen k 0 → n ≡ number_in t c
unfolding number_in
number_read t c {x} e h q p = p ∙ rw (← e, le-ltb 10 x h, q) refl

past_sizes : (x : ℕ) → 10 < x → get_or sizes x 1 ≡ 1
unfolding sizes
past_sizes x h = get_or-eq_default sizes 1 h

pub next_none : (t : List ℕ) (c : Cursor) {x : ℕ} → x ≡ byte_at t c.at → 10 < x → record { at = c.at + 1; seen = c.seen } ≡ next_line t c
unfolding next_line
next_none t c {x} e h = rw (← e, lt-ltb 10 x h, past_sizes x h) refl

pub next_read : (t : List ℕ) (c : Cursor) {x k n s : ℕ} → x ≡ byte_at t c.at → x ≤ 10 → k ≡ x → n ≡ number_in t c → s ≡ get_or sizes k 0
    → record { at = c.at + s; seen = set c.seen k (n + 1) } ≡ next_line t c
unfolding next_line
next_read t c {x} e h q p r = rw (r, p, q, size_read x h, ← e, le-ltb 10 x h) refl
