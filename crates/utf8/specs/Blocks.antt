-- Blocks of 64 bytes that are judged by neighbours: a byte is one behind the first exactly where the byte before is C0 or more or the
-- one before that is E0 or more. Bytes that lead a character with a narrower second byte, or one of four, are odd; then
-- `step_len` goes on.
use Rattle.std.specs.Prelude.{ℕ, zero, suc, ◌+◌, ◌-◌, ◌≤◌, ◌<◌, ◌≡◌, Bool, cond, ◌||◌, List, length}
use Rattle.std.proofs.Math.Path.{refl}
use Rattle.std.proofs.Common.{sym, ap, ◌∙◌, true≢false, add-one}
use Rattle.std.proofs.Math.Bool.{true, false, not, and-false, or-true}
use Rattle.std.specs.Bool.{beq}
use native.Mathlib.Omega.{arith}
use borrow.Author.Tests.{leb-true, leb-false, le-leb, lt-leb, eqb-false}
use Rattle.std.proofs.Math.ListN.{get_or}
use Rattle.std.proofs.Math.Dec.{leb, eqb}
use Rattle.model.specs.Utf8.{Utf8State, tail2, within, utf8_first, utf8_step}
use Rattle.facts.specs.Truth.{neither, by_bool}
use Rattle.wire.specs.Loops.{any_up_to, any_at}
use Rattle.chars.specs.Chars.{asks, two_whole, three_whole}
use Rattle.chars.specs.Leads.{lead_2, lead_3}
use Rattle.utf8.specs.Skips.{Skipped, skipped_none, skipped_more, skip_1, skip_char}

-- the byte b behind the bytes p and q
unfoldable pub is_odd : ℕ → ℕ → ℕ → Bool
is_odd p q b = not (beq (within 0x80 0xbf b) (leb 0xc0 q || leb 0xe0 p)) || within 0xc0 0xc1 b || eqb b 0xe0 || eqb b 0xed || leb 0xf0 b

-- the byte i of the block that begins two bytes behind `from`
unfoldable pub odd_at : List ℕ → ℕ → ℕ → Bool
odd_at s from i = is_odd (get_or s (from + i) 0) (get_or s (from + i + 1) 0) (get_or s (from + i + 2) 0)

-- bytes of the block's 64 before the last bound, by the last two
unfoldable pub len_of : ℕ → ℕ → ℕ
len_of a b = cond (leb 0xc0 b) 63 (cond (leb 0xe0 a) 62 64)

-- the two bytes from p on lead no character that reaches behind them
pub record Clear (s : List ℕ) (p : ℕ) : Type 0 where
  pub first : get_or s p 0 < 0xe0
  pub second : get_or s (p + 1) 0 < 0xc0

-- ---- the loop over a block

module _ (P : ℕ → Bool) where
  pub any_more : {x y : Bool} (i : ℕ) → x ≡ any_up_to i P → y ≡ P i → (x || y) ≡ any_up_to (i + 1) P
  unfolding any_up_to
  any_more i e f = rw (e, f, add-one) refl

-- ---- what a byte that is not odd says

same : (a b : Bool) → not (beq a b) ≡ false → a ≡ b
same true true e = refl
same true false e = absurd (true≢false e)
same false true e = absurd (true≢false e)
same false false e = refl

outside : (lo hi b : ℕ) → within lo hi b ≡ false → lo ≤ b → hi < b
outside lo hi b e h = leb-false b hi (rw (le-leb lo b h) at e)

inside : (lo hi b : ℕ) → within lo hi b ≡ true → b ≤ hi
inside lo hi b e = by_bool (leb b hi) (λ t. leb-true b hi t) (λ f. absurd (true≢false (sym e ∙ rw (f, and-false) refl)))

pub record Even (p q b : ℕ) : Type 0 where
  pub is : is_odd p q b ≡ false

module _ {p q b : ℕ} (e : Even p q b) where
  parts : (not (beq (within 0x80 0xbf b) (leb 0xc0 q || leb 0xe0 p)) ≡ false) × (within 0xc0 0xc1 b ≡ false) × (eqb b 0xe0 ≡ false) × (eqb b 0xed ≡ false) × (leb 0xf0 b ≡ false)
  unfolding is_odd
  parts =
      let d = not (beq (within 0x80 0xbf b) (leb 0xc0 q || leb 0xe0 p)) in
      let h = neither (d || within 0xc0 0xc1 b || eqb b 0xe0 || eqb b 0xed) (leb 0xf0 b) e.is in
      let i = neither (d || within 0xc0 0xc1 b || eqb b 0xe0) (eqb b 0xed) h.0 in
      let j = neither (d || within 0xc0 0xc1 b) (eqb b 0xe0) i.0 in
      let k = neither d (within 0xc0 0xc1 b) j.0 in
      (k.0, k.1, j.1, i.1, h.1)

  judged : within 0x80 0xbf b ≡ (leb 0xc0 q || leb 0xe0 p)
  judged = same (within 0x80 0xbf b) (leb 0xc0 q || leb 0xe0 p) parts.0

  -- behind bytes that ask for none it begins a character
  begins : p < 0xe0 → q < 0xc0 → 0x80 ≤ b → 0xc2 ≤ b
  begins h k l =
      let w : within 0x80 0xbf b ≡ false = judged ∙ rw (lt-leb 0xc0 q k, lt-leb 0xe0 p h) refl in
      let o = outside 0x80 0xbf b w l in
      let u = outside 0xc0 0xc1 b parts.1 (omega arith) in
      omega (arith, u)

  no_e0 : b ≡ 0xe0 → ⊥
  no_e0 = eqb-false b 0xe0 parts.2

  no_ed : b ≡ 0xed → ⊥
  no_ed = eqb-false b 0xed parts.3

  short : b < 0xf0
  short = leb-false 0xf0 b parts.4

  second_tail : 0xc0 ≤ q → within 0x80 0xbf b ≡ true
  second_tail h = judged ∙ rw (le-leb 0xc0 q h) refl

  third_tail : 0xe0 ≤ p → within 0x80 0xbf b ≡ true
  third_tail h = judged ∙ rw (le-leb 0xe0 p h, or-true) refl

-- ---- a block of which no byte is odd: its characters are skipped up to the last bound

module _ (s : List ℕ) (from : ℕ) (fits : from + 66 ≤ length s) (none : any_up_to 64 (odd_at s from) ≡ false) where
  plain : (p : ℕ) → from ≤ p → p < from + 64 → Even (get_or s p 0) (get_or s (p + 1) 0) (get_or s (p + 2) 0)
  unfolding odd_at
  plain p l h =
      let e : from + (p - from) ≡ p = omega arith in
      let g : is_odd (get_or s (from + (p - from)) 0) (get_or s (from + (p - from) + 1) 0) (get_or s (from + (p - from) + 2) 0) ≡ false
      = any_at (odd_at s from) 64 (p - from) none (omega arith) in
      record { is = rw e at g }

  tail_1 : (p : ℕ) → from ≤ p → p < from + 63 → 0xc0 ≤ get_or s (p + 2) 0 → within 0x80 0xbf (get_or s (p + 2 + 1) 0) ≡ true
  tail_1 p l h k =
      let e : p + 1 + 1 ≡ p + 2 = omega arith in
      let f : p + 1 + 2 ≡ p + 2 + 1 = omega arith in
      let g : Even (get_or s (p + 1) 0) (get_or s (p + 2) 0) (get_or s (p + 2 + 1) 0) = rw (e, f) at (plain (p + 1) (omega arith) (omega arith)) in
      second_tail g k

  tail_2 : (p : ℕ) → from ≤ p → p < from + 62 → 0xe0 ≤ get_or s (p + 2) 0 → within 0x80 0xbf (get_or s (p + 2 + 2) 0) ≡ true
  tail_2 p l h k = third_tail (plain (p + 2) (omega arith) (omega arith)) k

  abbrev pub last : ℕ
  last = from + len_of (get_or s (from + 64) 0) (get_or s (from + 65) 0)

  last_63 : 0xc0 ≤ get_or s (from + 65) 0 → from + 63 ≡ last
  unfolding len_of
  last_63 h = rw (le-leb 0xc0 (get_or s (from + 65) 0) h) refl

  last_62 : get_or s (from + 65) 0 < 0xc0 → 0xe0 ≤ get_or s (from + 64) 0 → from + 62 ≡ last
  unfolding len_of
  last_62 h k = rw (lt-leb 0xc0 (get_or s (from + 65) 0) h, le-leb 0xe0 (get_or s (from + 64) 0) k) refl

  last_64 : get_or s (from + 65) 0 < 0xc0 → get_or s (from + 64) 0 < 0xe0 → from + 64 ≡ last
  unfolding len_of
  last_64 h k = rw (lt-leb 0xc0 (get_or s (from + 65) 0) h, lt-leb 0xe0 (get_or s (from + 64) 0) k) refl

  -- from the bound behind p the block's last bound is reached
  pub record Reached (p : ℕ) : Type 0 where
    pub skipped : Skipped s (p + 2) (last + 2)
    pub clear : Clear s last

  reached_here : (p : ℕ) → p ≤ from + 64 → p ≡ last → Clear s p → Reached p
  reached_here p h e c = let f : p + 2 ≤ length s = omega arith in record { skipped = rw (← e) (skipped_none s (p + 2) f); clear = rw (← e) c }

  reached_on : (p q : ℕ) → Skipped s (p + 2) (q + 2) → Reached q → Reached p
  reached_on p q k r = record { skipped = skipped_more k r.skipped; clear = r.clear }

  module _ (p : ℕ) (l : from ≤ p) (h : p < from + 64) (c : Clear s p) (on : (q : ℕ) → p < q → q ≤ from + 64 → Clear s q → Reached q) where
    one : get_or s (p + 2) 0 < 0x80 → Reached p
    one k =
        let e : p + 2 + 1 ≡ p + 1 + 2 = omega arith in
        let f : p + 2 ≡ p + 1 + 1 = omega arith in
        let b : get_or s (p + 1 + 1) 0 < 0xc0 = rw (← f) (omega (arith, k)) in
        reached_on p (p + 1) (rw e at (skip_1 s (p + 2) (omega arith) k))
        (on (p + 1) (omega arith) (omega arith) (record { first = omega (arith, c.second); second = b }))

    two : 0xc2 ≤ get_or s (p + 2) 0 → get_or s (p + 2) 0 < 0xe0 → Reached p
    two k m =
        by_bool (leb (from + 63) p)
        (λ t.
        let g = leb-true (from + 63) p t in
        let e : p ≡ from + 63 = omega arith in
        let f : p + 2 ≡ from + 65 = omega arith in
        let b : 0xc0 ≤ get_or s (from + 65) 0 = rw (← f) (omega (arith, k)) in
        reached_here p (omega arith) (e ∙ last_63 b) c)
        (λ t.
        let g = leb-false (from + 63) p t in
        let w = tail_1 p l g (omega (arith, k)) in
        let u = inside 0x80 0xbf (get_or s (p + 2 + 1) 0) w in
        reached_on p (p + 2)
        (skip_char s (p + 2) (omega arith) 2 (two_whole s (p + 2) (omega arith) (lead_2 (get_or s (p + 2) 0) k m) w) (λ z. omega arith))
        (on (p + 2) (omega arith) (omega arith) (record { first = m; second = omega (arith, u) })))

    three : 0xe0 ≤ get_or s (p + 2) 0 → Reached p
    unfolding utf8_step
    three k =
        by_bool (leb (from + 63) p)
        (λ t.
        let g = leb-true (from + 63) p t in
        let e : p ≡ from + 63 = omega arith in
        let f : p + 2 ≡ from + 65 = omega arith in
        let b : 0xc0 ≤ get_or s (from + 65) 0 = rw (← f) (omega (arith, k)) in
        reached_here p (omega arith) (e ∙ last_63 b) c)
        (λ t.
        let g = leb-false (from + 63) p t in
        let w = tail_1 p l g (omega (arith, k)) in
        let u = inside 0x80 0xbf (get_or s (p + 2 + 1) 0) w in
        by_bool (leb (from + 62) p)
        (λ t2.
        let g2 = leb-true (from + 62) p t2 in
        let e : p ≡ from + 62 = omega arith in
        let f : p + 2 ≡ from + 64 = omega arith in
        let f2 : p + 2 + 1 ≡ from + 65 = omega arith in
        let b : 0xe0 ≤ get_or s (from + 64) 0 = rw (← f) k in
        let b2 : get_or s (from + 65) 0 < 0xc0 = rw (← f2) (omega (arith, u)) in
        reached_here p (omega arith) (e ∙ last_62 b2 b) c)
        (λ t2.
        let g2 = leb-false (from + 62) p t2 in
        let w2 = tail_2 p l g2 k in
        let u2 = inside 0x80 0xbf (get_or s (p + 2 + 2) 0) w2 in
        let o = plain p l h in
        let a : utf8_first (get_or s (p + 2) 0) ≡ tail2 = lead_3 (get_or s (p + 2) 0) k (short o) (no_e0 o) (no_ed o) in
        let e : p + 2 + 3 ≡ p + 3 + 2 = omega arith in
        let e1 : p + 2 + 1 ≡ p + 3 = omega arith in
        let e2 : p + 2 + 2 ≡ p + 3 + 1 = omega arith in
        let x : get_or s (p + 3) 0 < 0xe0 = rw (← e1) (omega (arith, u)) in
        let y : get_or s (p + 3 + 1) 0 < 0xc0 = rw (← e2) (omega (arith, u2)) in
        let n = three_whole s (p + 2) (omega arith) (ap asks a) true
        (ap (λ (z : Utf8State). utf8_step z (get_or s (p + 2 + 1) 0)) a ∙ rw w refl) refl w2 in
        reached_on p (p + 3) (rw e at (skip_char s (p + 2) (omega arith) 3 n (λ z. omega arith)))
        (on (p + 3) (omega arith) (omega arith) (record { first = x; second = y }))))

    step : Reached p
    step =
        by_bool (leb 0x80 (get_or s (p + 2) 0))
        (λ t.
        let k = begins (plain p l h) c.first c.second (leb-true 0x80 (get_or s (p + 2) 0) t) in
        by_bool (leb 0xe0 (get_or s (p + 2) 0))
        (λ u. three (leb-true 0xe0 (get_or s (p + 2) 0) u))
        (λ u. two k (leb-false 0xe0 (get_or s (p + 2) 0) u)))
        (λ f. one (leb-false 0x80 (get_or s (p + 2) 0) f))

  at_end : (p : ℕ) → p ≡ from + 64 → Clear s p → Reached p
  at_end p e c =
      let f : p + 1 ≡ from + 65 = omega arith in
      let x : get_or s (from + 65) 0 < 0xc0 = rw (← f) c.second in
      let y : get_or s (from + 64) 0 < 0xe0 = rw (← e) c.first in
      reached_here p (omega arith) (e ∙ last_64 x y) c

  walk : (n p : ℕ) → from ≤ p → p ≤ from + 64 → from + 64 ≤ p + n → Clear s p → Reached p
  walk zero p l h k c = at_end p (omega arith) c
  walk (suc n) p l h k c =
      by_bool (leb (from + 64) p)
      (λ t. let g = leb-true (from + 64) p t in at_end p (omega arith) c)
      (λ f. step p l (leb-false (from + 64) p f) c (λ q a b d. walk n q (omega arith) b (omega arith) d))

  block : Clear s from → Reached from
  block c = walk 64 from (omega arith) (omega arith) (omega arith) c

-- ---- the loop over blocks, as the code has its numbers

pub record Blocks (s : List ℕ) (from i : ℕ) : Type 0 where
  pub skipped : Skipped s (from + 2) (i + 2)
  pub clear : Clear s i

pub blocks_none : (s : List ℕ) (from : ℕ) → from + 2 ≤ length s → Clear s from → Blocks s from from
blocks_none s from h c = record { skipped = skipped_none s (from + 2) h; clear = c }

pub len_least : (a b n : ℕ) → n ≡ len_of a b → 62 ≤ n
unfolding len_of
len_least a b n e =
    rw e
    (by_bool (leb 0xc0 b) (λ t. rw t (omega arith)) (λ f. rw f (by_bool (leb 0xe0 a) (λ t. rw t (omega arith)) (λ g. rw g (omega arith)))))

pub len_most : (a b n : ℕ) → n ≡ len_of a b → n ≤ 64
unfolding len_of
len_most a b n e =
    rw e
    (by_bool (leb 0xc0 b) (λ t. rw t (omega arith)) (λ f. rw f (by_bool (leb 0xe0 a) (λ t. rw t (omega arith)) (λ g. rw g (omega arith)))))

pub blocks_more : {s : List ℕ} {from i : ℕ} {x : Bool} {n : ℕ} → Blocks s from i → i + 66 ≤ length s → x ≡ any_up_to 64 (odd_at s i) → x ≡ false
    → n ≡ len_of (get_or s (i + 64) 0) (get_or s (i + 65) 0) → Blocks s from (i + n)
blocks_more {s} {from} {i} {x} {n} b h e z q =
    let r = block s i h (sym e ∙ z) b.clear in
    rw q (record { skipped = skipped_more b.skipped r.skipped; clear = r.clear })

-- the two bytes before `at`, as the code reads them
pub clear_before : (s : List ℕ) (at : ℕ) → 2 ≤ at → get_or s (at - 1) 0 < 0xc0 → get_or s (at - 2) 0 < 0xe0 → Clear s (at - 2)
clear_before s at h a b = let e : at - 1 ≡ at - 2 + 1 = omega arith in record { first = b; second = rw (← e) a }
