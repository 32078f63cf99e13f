-- Whole characters that are skipped together: runs of ASCII, of three bytes that begin with E1-EC, which most of Japanese is, or with ED, and of four.
use Rattle.std.specs.Prelude.{Option, Some, MatchOption, ℕ, zero, suc, ◌+◌, ◌-◌, ◌≤◌, ◌<◌, ◌≡◌, refl, Bool, true, false, ◌&&◌, ◌||◌, ◌⊎◌, List, length, get_or, drop, ltb, leb, eqb}
use Rattle.std.proofs.lemmas.Option.{MatchOption-at_some}
use Rattle.std.proofs.Common.{sym, ap, ◌∙◌, arith, inl, inr, add-zero, ltb-true, leb-true}
use Rattle.std.proofs.Math.Bool.{and_assoc, and-true}
use Rattle.model.specs.Utf8.{Utf8State, tail1, tail2, tail3, after_ed, after_f0, within, utf8_first, utf8_step, utf8}
use borrow.Author.Tests.{eqb-true}
use Rattle.facts.specs.Truth.{both, either}
use Rattle.wire.specs.Loops.{all_up_to}
use Rattle.chars.specs.Chars.{char_len, length_if, asks, len_1, three_whole, four_whole, char_next, char_none, char_fits}
use Rattle.chars.specs.Leads.{lead_1, lead_3, lead_4, lead_ed, lead_f0}

-- between the places `at` and r there are whole characters, so that the rest is UTF-8 from either
pub record Skipped (s : List ℕ) (at r : ℕ) : Type 0 where
  pub order : at ≤ r
  pub fits : r ≤ length s
  pub rest : utf8 (drop at s) ≡ utf8 (drop r s)

-- the next characters from `at` on, of n bytes; None where there is none
abbrev pub Step : List ℕ → ℕ → Option ℕ → Type 0
Step s at r = MatchOption r (utf8 (drop at s) ≡ false) (λ n. (0 < n) × Skipped s at (at + n))

pub skipped_none : (s : List ℕ) (at : ℕ) → at ≤ length s → Skipped s at at
skipped_none s at h = record { order = omega arith; fits = h; rest = refl }

pub skipped_more : {s : List ℕ} {at i r : ℕ} → Skipped s at i → Skipped s i r → Skipped s at r
skipped_more p q = record { order = omega (arith, p.order, q.order); fits = q.fits; rest = p.rest ∙ q.rest }

-- a place that lies ahead
pub step_skipped : {s : List ℕ} {at r : ℕ} → Skipped s at r → at < r → Step s at (Some (r - at))
step_skipped {s} {at} {r} p h =
    let e : at + (r - at) ≡ r = omega arith in
    (omega (arith, h), rw e p)

pub step_some : (s : List ℕ) (at : ℕ) {n : ℕ} {r : Option ℕ} → Step s at r → r ≡ Some n → (0 < n) × Skipped s at (at + n)
step_some s at {n} p e = MatchOption-at_some (utf8 (drop at s) ≡ false) (λ m. (0 < m) × Skipped s at (at + m)) n e p

module _ (s : List ℕ) (at : ℕ) (h : at < length s) where
  pub skip_char : (n : ℕ) → n ≡ char_len (drop at s) → (n ≡ 0 → ⊥) → Skipped s at (at + n)
  skip_char n e z = record { order = omega arith; fits = char_fits s at n e (omega arith); rest = char_next s at n e h z }

  pub skip_1 : get_or s at 0 < 0x80 → Skipped s at (at + 1)
  skip_1 a = skip_char 1 (len_1 s at h (lead_1 (get_or s at 0) a)) (λ e. omega arith)

  pub step_char : {r : Option ℕ} → r ≡ length_if (char_len (drop at s)) → Step s at r
  step_char {r} e = rw e (go (char_len (drop at s)) refl)
    where
      go : (n : ℕ) → n ≡ char_len (drop at s) → Step s at (length_if n)
      go zero q = char_none s at zero q h refl
      go (suc n) q = (omega arith, skip_char (suc n) q (λ z. absurd (omega (arith, z))))

  pub step_1 : get_or s at 0 < 0x80 → Step s at (Some 1)
  step_1 a = (omega arith, skip_1 a)

-- ---- ASCII

-- the byte i behind `at` is ASCII
unfoldable pub ascii_at : List ℕ → ℕ → ℕ → Bool
ascii_at s at i = ltb (get_or s (at + i) 0) 0x80

pub skip_ascii : (s : List ℕ) (at n : ℕ) → at + n ≤ length s → all_up_to n (ascii_at s at) ≡ true → Skipped s at (at + n)
unfolding all_up_to ascii_at
skip_ascii s at zero h t = rw add-zero (skipped_none s at (omega arith))
skip_ascii s at (suc n) h t =
    let b = both (all_up_to n (ascii_at s at)) (ltb (get_or s (at + n) 0) 0x80) t in
    let e : at + n + 1 ≡ at + suc n = omega arith in
    rw (← e) (skipped_more (skip_ascii s at n (omega arith) b.0) (skip_1 s (at + n) (omega arith) (ltb-true _ _ b.1)))

-- eight bytes, as the code tests them
pub eight_ascii : (s : List ℕ) (at : ℕ) (p q : Bool)
    → p ≡ (ltb (get_or s at 0) 0x80 && ltb (get_or s (at + 1) 0) 0x80 && ltb (get_or s (at + 2) 0) 0x80 && ltb (get_or s (at + 3) 0) 0x80)
    → q ≡ (ltb (get_or s (at + 4) 0) 0x80 && ltb (get_or s (at + 5) 0) 0x80 && ltb (get_or s (at + 6) 0) 0x80 && ltb (get_or s (at + 7) 0) 0x80)
    → (p && q) ≡ all_up_to 8 (ascii_at s at)
unfolding all_up_to ascii_at
eight_ascii s at p q ep eq = rw (ep, eq, add-zero) (simp and_assoc)

all_add : (s : List ℕ) (at n m : ℕ) → all_up_to (n + m) (ascii_at s at) ≡ (all_up_to n (ascii_at s at) && all_up_to m (ascii_at s (at + n)))
unfolding all_up_to ascii_at
all_add s at n zero = rw add-zero (sym (and-true (all_up_to n (ascii_at s at))))
all_add s at n (suc m) =
    let e : n + suc m ≡ suc (n + m) = omega arith in
    let k : at + (n + m) ≡ at + n + m = omega arith in
    rw (e, all_add s at n m, k) (and_assoc (all_up_to n (ascii_at s at)) (all_up_to m (ascii_at s (at + n))) (ltb (get_or s (at + n + m) 0) 0x80))

-- two blocks of n bytes, as the code tests them
pub twice_ascii : (s : List ℕ) (at n : ℕ) (p q : Bool) → p ≡ all_up_to n (ascii_at s at) → q ≡ all_up_to n (ascii_at s (at + n)) → (p && q) ≡ all_up_to (n + n) (ascii_at s at)
twice_ascii s at n p q ep eq = rw (ep, eq, all_add s at n n) refl

-- ---- three and four bytes

-- E1-EC 80-BF 80-BF
abbrev pub is_three : ℕ → ℕ → ℕ → Bool
is_three a b d = within 0xe1 0xec a && within 0x80 0xbf b && within 0x80 0xbf d

-- ED 80-9F 80-BF
abbrev pub is_ed : ℕ → ℕ → ℕ → Bool
is_ed a b d = eqb a 0xed && within 0x80 0x9f b && within 0x80 0xbf d

-- F1-F3 80-BF 80-BF 80-BF, and F0 90-BF 80-BF 80-BF
abbrev pub is_four : ℕ → ℕ → ℕ → ℕ → Bool
is_four a b d e = (((within 0xf1 0xf3 a && within 0x80 0xbf b) || (eqb a 0xf0 && within 0x90 0xbf b)) && within 0x80 0xbf d) && within 0x80 0xbf e

within_bounds : (lo hi a : ℕ) → within lo hi a ≡ true → (lo ≤ a) × (a ≤ hi)
within_bounds lo hi a t = let z = both (leb lo a) (leb a hi) t in (leb-true lo a z.0, leb-true a hi z.1)

module _ (s : List ℕ) (at : ℕ) where
  -- by the state k that the first byte leads to: what it asks for, and where the second leads from it
  module _ (k : Utf8State) (e : utf8_first (get_or s at 0) ≡ k) where
    second : {u : Utf8State} → utf8_step k (get_or s (at + 1) 0) ≡ u → utf8_step (utf8_first (get_or s at 0)) (get_or s (at + 1) 0) ≡ u
    second q = ap (λ (j : Utf8State). utf8_step j (get_or s (at + 1) 0)) e ∙ q

    three_by : at + 3 ≤ length s → asks k ≡ 2 → utf8_step k (get_or s (at + 1) 0) ≡ tail1 → within 0x80 0xbf (get_or s (at + 2) 0) ≡ true → Skipped s at (at + 3)
    three_by h n q w = skip_char s at (omega arith) 3 (three_whole s at h (ap asks e ∙ n) true (second q) refl w) (λ z. omega arith)

    four_by : at + 4 ≤ length s → asks k ≡ 3 → utf8_step k (get_or s (at + 1) 0) ≡ tail2 → within 0x80 0xbf (get_or s (at + 2) 0) ≡ true
        → within 0x80 0xbf (get_or s (at + 3) 0) ≡ true → Skipped s at (at + 4)
    four_by h n q w v = skip_char s at (omega arith) 4 (four_whole s at h (ap asks e ∙ n) true (second q) refl w v) (λ z. omega arith)

  pub skip_three : at + 3 ≤ length s → is_three (get_or s at 0) (get_or s (at + 1) 0) (get_or s (at + 2) 0) ≡ true → Skipped s at (at + 3)
  unfolding utf8_step
  skip_three h t =
      let a = get_or s at 0 in
      let b = get_or s (at + 1) 0 in
      let x = both (within 0xe1 0xec a && within 0x80 0xbf b) (within 0x80 0xbf (get_or s (at + 2) 0)) t in
      let y = both (within 0xe1 0xec a) (within 0x80 0xbf b) x.0 in
      let z = within_bounds 0xe1 0xec a y.0 in
      three_by tail2 (lead_3 a (omega (arith, z.0)) (omega (arith, z.1)) (λ k. omega (arith, z.0)) (λ k. omega (arith, z.1))) h refl (rw y.1 refl) x.1

  pub skip_ed : at + 3 ≤ length s → is_ed (get_or s at 0) (get_or s (at + 1) 0) (get_or s (at + 2) 0) ≡ true → Skipped s at (at + 3)
  unfolding utf8_step
  skip_ed h t =
      let a = get_or s at 0 in
      let b = get_or s (at + 1) 0 in
      let x = both (eqb a 0xed && within 0x80 0x9f b) (within 0x80 0xbf (get_or s (at + 2) 0)) t in
      let y = both (eqb a 0xed) (within 0x80 0x9f b) x.0 in
      three_by after_ed (lead_ed a (eqb-true a 0xed y.0)) h refl (rw y.1 refl) x.1

  pub skip_four : at + 4 ≤ length s → is_four (get_or s at 0) (get_or s (at + 1) 0) (get_or s (at + 2) 0) (get_or s (at + 3) 0) ≡ true → Skipped s at (at + 4)
  unfolding utf8_step
  skip_four h t =
      let p = (within 0xf1 0xf3 a && within 0x80 0xbf b) in
      let q = (eqb a 0xf0 && within 0x90 0xbf b) in
      let w = both ((p || q) && within 0x80 0xbf (get_or s (at + 2) 0)) (within 0x80 0xbf (get_or s (at + 3) 0)) t in
      let x = both (p || q) (within 0x80 0xbf (get_or s (at + 2) 0)) w.0 in
      go x.1 w.1 (either p q x.0)
    where
      a : ℕ
      a = get_or s at 0

      b : ℕ
      b = get_or s (at + 1) 0

      go : within 0x80 0xbf (get_or s (at + 2) 0) ≡ true → within 0x80 0xbf (get_or s (at + 3) 0) ≡ true
          → (within 0xf1 0xf3 a && within 0x80 0xbf b ≡ true) ⊎ (eqb a 0xf0 && within 0x90 0xbf b ≡ true) → Skipped s at (at + 4)
      go w v (inl l) =
          let y = both (within 0xf1 0xf3 a) (within 0x80 0xbf b) l in
          let z = within_bounds 0xf1 0xf3 a y.0 in
          four_by tail3 (lead_4 a (omega (arith, z.0)) (omega (arith, z.1)) (λ k. omega (arith, z.0)) (λ k. omega (arith, z.1))) h refl (rw y.1 refl) w v
      go w v (inr r) =
          let y = both (eqb a 0xf0) (within 0x90 0xbf b) r in
          four_by after_f0 (lead_f0 a (eqb-true a 0xf0 y.0)) h refl (rw y.1 refl) w v
