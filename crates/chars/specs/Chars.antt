-- Whole characters in the model's machine: from `between` a character leads back to `between`, and what is none leads to a
-- state that never comes back.
use Rattle.std.specs.Prelude.{Option, Some, None, ℕ, zero, suc, ◌+◌, ◌-◌, ◌≤◌, ◌<◌, ◌≡◌, Bool, true, false, cond, List, [], ◌∷◌, length, get_or, drop}
use Rattle.std.proofs.Math.Path.{refl, sym, ap}
use Rattle.std.proofs.Common.{◌∙◌, true≢false, arith, drop_of_length-le, drop-cons, drop-drop}
use Rattle.std.proofs.Math.ListN.{length-drop}
use Rattle.model.specs.Utf8.{Utf8State, between, tail1, tail2, tail3, after_e0, after_ed, after_f0, after_f4, bad, within, utf8_first, utf8_step, utf8_from, is_between, utf8}

-- one byte more than n, where n is not 0
abbrev pub one_more : ℕ → ℕ
one_more zero = 0
one_more (suc n) = suc (suc n)

-- a byte that leads into the state t, with n bytes behind it
abbrev pub bytes_by : Utf8State → ℕ → ℕ
bytes_by between n = 1
bytes_by tail1 n = one_more n
bytes_by tail2 n = one_more n
bytes_by tail3 n = one_more n
bytes_by after_e0 n = one_more n
bytes_by after_ed n = one_more n
bytes_by after_f0 n = one_more n
bytes_by after_f4 n = one_more n
bytes_by bad n = 0

-- how many bytes lead from a state to the next place between characters, 0 where none do
unfoldable pub bytes_from : Utf8State → List ℕ → ℕ
bytes_from t [] = 0
bytes_from t (b ∷ bs) = bytes_by (utf8_step t b) (bytes_from (utf8_step t b) bs)

-- how many bytes the character that the bytes begin with has, 0 where they begin with none
unfoldable pub char_len : List ℕ → ℕ
char_len bs = bytes_from between bs

-- the same as the code answers it: no character has 0 bytes
abbrev pub length_if : ℕ → Option ℕ
length_if zero = None
length_if (suc n) = Some (suc n)

-- how many bytes a state asks for
abbrev pub asks : Utf8State → ℕ
asks between = 0
asks tail1 = 1
asks tail2 = 2
asks tail3 = 3
asks after_e0 = 2
asks after_ed = 2
asks after_f0 = 3
asks after_f4 = 3
asks bad = 0

-- ---- a character and the rest

-- what is left behind n bytes is UTF-8; 0 bytes are no character
rest : ℕ → List ℕ → Bool
rest zero bs = false
rest (suc n) bs = is_between (utf8_from between (drop (suc n) bs))

from_bad : (bs : List ℕ) → is_between (utf8_from bad bs) ≡ false
unfolding utf8_from utf8_step is_between
from_bad [] = refl
from_bad (b ∷ bs) = from_bad bs

rest_more : (n b : ℕ) (bs : List ℕ) → rest n bs ≡ rest (one_more n) (b ∷ bs)
unfolding rest
rest_more zero b bs = refl
rest_more (suc n) b bs = refl

rest_by : (t : Utf8State) (b : ℕ) (bs : List ℕ) → (is_between t ≡ false → is_between (utf8_from t bs) ≡ rest (bytes_from t bs) bs)
    → is_between (utf8_from t bs) ≡ rest (bytes_by t (bytes_from t bs)) (b ∷ bs)
unfolding rest is_between
rest_by between b bs r = refl
rest_by tail1 b bs r = r refl ∙ rest_more (bytes_from tail1 bs) b bs
rest_by tail2 b bs r = r refl ∙ rest_more (bytes_from tail2 bs) b bs
rest_by tail3 b bs r = r refl ∙ rest_more (bytes_from tail3 bs) b bs
rest_by after_e0 b bs r = r refl ∙ rest_more (bytes_from after_e0 bs) b bs
rest_by after_ed b bs r = r refl ∙ rest_more (bytes_from after_ed bs) b bs
rest_by after_f0 b bs r = r refl ∙ rest_more (bytes_from after_f0 bs) b bs
rest_by after_f4 b bs r = r refl ∙ rest_more (bytes_from after_f4 bs) b bs
rest_by bad b bs r = from_bad bs

rest_from : (t : Utf8State) (bs : List ℕ) → is_between t ≡ false → is_between (utf8_from t bs) ≡ rest (bytes_from t bs) bs
unfolding utf8_from bytes_from rest
rest_from t [] h = h
rest_from t (b ∷ bs) h = rest_by (utf8_step t b) b bs (λ k. rest_from (utf8_step t b) bs k)

-- the bytes are UTF-8 where they begin with a character and the rest is UTF-8
utf8_char : (b : ℕ) (bs : List ℕ) → utf8 (b ∷ bs) ≡ rest (char_len (b ∷ bs)) (b ∷ bs)
unfolding utf8 utf8_from char_len bytes_from
utf8_char b bs = rest_by (utf8_step between b) b bs (λ k. rest_from (utf8_step between b) bs k)

by_le : (t : Utf8State) (n m : ℕ) → n ≤ m → bytes_by t n ≤ suc m
by_le between n m h = omega arith
by_le tail1 zero m h = omega arith
by_le tail1 (suc n) m h = omega arith
by_le tail2 zero m h = omega arith
by_le tail2 (suc n) m h = omega arith
by_le tail3 zero m h = omega arith
by_le tail3 (suc n) m h = omega arith
by_le after_e0 zero m h = omega arith
by_le after_e0 (suc n) m h = omega arith
by_le after_ed zero m h = omega arith
by_le after_ed (suc n) m h = omega arith
by_le after_f0 zero m h = omega arith
by_le after_f0 (suc n) m h = omega arith
by_le after_f4 zero m h = omega arith
by_le after_f4 (suc n) m h = omega arith
by_le bad n m h = omega arith

from_le : (t : Utf8State) (bs : List ℕ) → bytes_from t bs ≤ length bs
unfolding bytes_from
from_le t [] = omega arith
from_le t (b ∷ bs) = by_le (utf8_step t b) (bytes_from (utf8_step t b) bs) (length bs) (from_le (utf8_step t b) bs)

rest_some : (n : ℕ) → (n ≡ 0 → ⊥) → (bs : List ℕ) → rest n bs ≡ utf8 (drop n bs)
unfolding rest utf8
rest_some zero h bs = absurd (h refl)
rest_some (suc n) h bs = refl

pub utf8_end : (s : List ℕ) (at : ℕ) → length s ≤ at → utf8 (drop at s) ≡ true
unfolding utf8 utf8_from is_between
utf8_end s at h = rw (drop_of_length-le s h) refl

-- ---- the loop over characters, at the place `at`

module _ (s : List ℕ) (at n : ℕ) (e : n ≡ char_len (drop at s)) where
  pub char_fits : at ≤ length s → at + n ≤ length s
  unfolding char_len
  char_fits h = omega (arith, e, from_le between (drop at s), length-drop at s)

  at_char : at < length s → utf8 (drop at s) ≡ rest n (drop at s)
  at_char h =
      let c = drop-cons s at 0 h in
      ap utf8 c ∙ utf8_char (get_or s at 0) (drop (suc at) s) ∙ rw (← c, ← e) refl

  pub char_none : at < length s → n ≡ 0 → utf8 (drop at s) ≡ false
  unfolding rest
  char_none h z = at_char h ∙ ap (λ (k : ℕ). rest k (drop at s)) z

  pub char_next : at < length s → (n ≡ 0 → ⊥) → utf8 (drop at s) ≡ utf8 (drop (at + n) s)
  char_next h z = at_char h ∙ rest_some n z (drop at s) ∙ rw drop-drop refl

-- ---- the length, byte by byte

by_none : (t : Utf8State) → is_between t ≡ false → bytes_by t 0 ≡ 0
unfolding is_between
by_none between h = absurd (true≢false h)
by_none tail1 h = refl
by_none tail2 h = refl
by_none tail3 h = refl
by_none after_e0 h = refl
by_none after_ed h = refl
by_none after_f0 h = refl
by_none after_f4 h = refl
by_none bad h = refl

by_open : (t : Utf8State) (n : ℕ) → 0 < asks t → bytes_by t n ≡ one_more n
by_open between n h = absurd (omega arith)
by_open tail1 n h = refl
by_open tail2 n h = refl
by_open tail3 n h = refl
by_open after_e0 n h = refl
by_open after_ed n h = refl
by_open after_f0 n h = refl
by_open after_f4 n h = refl
by_open bad n h = absurd (omega arith)

-- fewer bytes than the state asks for
next_short : (w : Bool) (next : Utf8State) (bs : List ℕ) → is_between next ≡ false → bytes_from next bs ≡ 0
    → bytes_by (cond w next bad) (bytes_from (cond w next bad) bs) ≡ 0
next_short true next bs h z = ap (bytes_by next) z ∙ by_none next h
next_short false next bs h z = refl

from_short : (t : Utf8State) (bs : List ℕ) → length bs < asks t → bytes_from t bs ≡ 0
unfolding bytes_from utf8_step is_between
from_short t [] h = refl
from_short between (b ∷ bs) h = absurd (omega arith)
from_short tail1 (b ∷ bs) h = absurd (omega arith)
from_short tail2 (b ∷ bs) h = next_short (within 0x80 0xbf b) tail1 bs refl (from_short tail1 bs (omega arith))
from_short tail3 (b ∷ bs) h = next_short (within 0x80 0xbf b) tail2 bs refl (from_short tail2 bs (omega arith))
from_short after_e0 (b ∷ bs) h = next_short (within 0xa0 0xbf b) tail1 bs refl (from_short tail1 bs (omega arith))
from_short after_ed (b ∷ bs) h = next_short (within 0x80 0x9f b) tail1 bs refl (from_short tail1 bs (omega arith))
from_short after_f0 (b ∷ bs) h = next_short (within 0x90 0xbf b) tail2 bs refl (from_short tail2 bs (omega arith))
from_short after_f4 (b ∷ bs) h = next_short (within 0x80 0x8f b) tail2 bs refl (from_short tail2 bs (omega arith))
from_short bad (b ∷ bs) h = absurd (omega arith)

-- one byte, at the index i that the code has: it ends the character, it is none of it, or more follow from j on
module _ (s : List ℕ) (t : Utf8State) (i : ℕ) (h : i < length s) where
  from_at : bytes_from t (drop i s) ≡ bytes_by (utf8_step t (get_or s i 0)) (bytes_from (utf8_step t (get_or s i 0)) (drop (suc i) s))
  unfolding bytes_from
  from_at = ap (bytes_from t) (drop-cons s i 0 h)

  bytes_end : utf8_step t (get_or s i 0) ≡ between → bytes_from t (drop i s) ≡ 1
  bytes_end e = from_at ∙ rw e refl

  bytes_bad : utf8_step t (get_or s i 0) ≡ bad → bytes_from t (drop i s) ≡ 0
  bytes_bad e = from_at ∙ rw e refl

  bytes_more : (u : Utf8State) (j n : ℕ) → utf8_step t (get_or s i 0) ≡ u → j ≡ i + 1 → 0 < asks u → bytes_from u (drop j s) ≡ n
      → bytes_from t (drop i s) ≡ one_more n
  bytes_more u j n e k a r =
      let q : suc i ≡ j = omega arith in
      from_at ∙ rw (e, q, r) (by_open u n a)

-- a byte 80-BF behind `tail1`, the last one, and behind `tail2`
module _ (s : List ℕ) (i : ℕ) (h : i < length s) where
  last_tail : within 0x80 0xbf (get_or s i 0) ≡ true → bytes_from tail1 (drop i s) ≡ 1
  unfolding utf8_step
  last_tail w = bytes_end s tail1 i h (rw w refl)

  no_last : within 0x80 0xbf (get_or s i 0) ≡ false → bytes_from tail1 (drop i s) ≡ 0
  unfolding utf8_step
  no_last w = bytes_bad s tail1 i h (rw w refl)

  mid_tail : (n : ℕ) → within 0x80 0xbf (get_or s i 0) ≡ true → bytes_from tail1 (drop (i + 1) s) ≡ n → bytes_from tail2 (drop i s) ≡ one_more n
  unfolding utf8_step
  mid_tail n w r = bytes_more s tail2 i h tail1 (i + 1) n (rw w refl) refl (omega arith) r

  no_mid : within 0x80 0xbf (get_or s i 0) ≡ false → bytes_from tail2 (drop i s) ≡ 0
  unfolding utf8_step
  no_mid w = bytes_bad s tail2 i h (rw w refl)

-- ---- the character at `at`, for each way that the code returns

module _ (s : List ℕ) (at : ℕ) where
  pub len_1 : at < length s → utf8_first (get_or s at 0) ≡ between → 1 ≡ char_len (drop at s)
  unfolding char_len utf8_step
  len_1 h e = sym (bytes_end s between at h e)

  pub len_bad : at < length s → utf8_first (get_or s at 0) ≡ bad → 0 ≡ char_len (drop at s)
  unfolding char_len utf8_step
  len_bad h e = sym (bytes_bad s between at h e)

  -- the bytes end before the character does
  pub len_short : at < length s → 0 < asks (utf8_first (get_or s at 0)) → length s - at ≤ asks (utf8_first (get_or s at 0)) → 0 ≡ char_len (drop at s)
  unfolding char_len utf8_step
  len_short h a l =
      sym
      (bytes_more s between at h (utf8_first (get_or s at 0)) (at + 1) 0 refl refl a
      (from_short (utf8_first (get_or s at 0)) (drop (at + 1) s) (omega (arith, length-drop (at + 1) s))))

  -- what the second byte says, behind a first byte that asks for more
  second : (n : ℕ) → at < length s → 0 < asks (utf8_first (get_or s at 0)) → bytes_from (utf8_first (get_or s at 0)) (drop (at + 1) s) ≡ n
      → one_more n ≡ char_len (drop at s)
  unfolding char_len utf8_step
  second n h a r = sym (bytes_more s between at h (utf8_first (get_or s at 0)) (at + 1) n refl refl a r)

  module _ (h : at + 2 ≤ length s) (lead : utf8_first (get_or s at 0) ≡ tail1) where
    tail1_asks : 0 < asks (utf8_first (get_or s at 0))
    tail1_asks = rw lead (omega arith)

    pub two_whole : within 0x80 0xbf (get_or s (at + 1) 0) ≡ true → 2 ≡ char_len (drop at s)
    two_whole w = second 1 (omega arith) tail1_asks (rw lead (last_tail s (at + 1) (omega arith) w))

    pub two_second : within 0x80 0xbf (get_or s (at + 1) 0) ≡ false → 0 ≡ char_len (drop at s)
    two_second w = second 0 (omega arith) tail1_asks (rw lead (no_last s (at + 1) (omega arith) w))

  -- `ok` is what the code says of the second byte
  module _ (h : at + 3 ≤ length s) (lead : asks (utf8_first (get_or s at 0)) ≡ 2) (ok : Bool)
      (step : utf8_step (utf8_first (get_or s at 0)) (get_or s (at + 1) 0) ≡ cond ok tail1 bad) where
    at2 : at + 2 ≡ at + 1 + 1
    at2 = omega arith

    pub three_second : ok ≡ false → 0 ≡ char_len (drop at s)
    three_second e = second 0 (omega arith) (omega arith) (bytes_bad s (utf8_first (get_or s at 0)) (at + 1) (omega arith) (step ∙ rw e refl))

    pub three_third : ok ≡ true → within 0x80 0xbf (get_or s (at + 2) 0) ≡ false → 0 ≡ char_len (drop at s)
    three_third e w =
        second 0 (omega arith) (omega arith)
        (bytes_more s (utf8_first (get_or s at 0)) (at + 1) (omega arith) tail1 (at + 2) 0 (step ∙ rw e refl) at2 (omega arith) (no_last s (at + 2) (omega arith) w))

    pub three_whole : ok ≡ true → within 0x80 0xbf (get_or s (at + 2) 0) ≡ true → 3 ≡ char_len (drop at s)
    three_whole e w =
        second 2 (omega arith) (omega arith)
        (bytes_more s (utf8_first (get_or s at 0)) (at + 1) (omega arith) tail1 (at + 2) 1 (step ∙ rw e refl) at2 (omega arith) (last_tail s (at + 2) (omega arith) w))

  module _ (h : at + 4 ≤ length s) (lead : asks (utf8_first (get_or s at 0)) ≡ 3) (ok : Bool)
      (step : utf8_step (utf8_first (get_or s at 0)) (get_or s (at + 1) 0) ≡ cond ok tail2 bad) where
    at3 : at + 3 ≡ at + 2 + 1
    at3 = omega arith

    -- what the third byte says
    third : (n : ℕ) → ok ≡ true → bytes_from tail2 (drop (at + 2) s) ≡ n → one_more (one_more n) ≡ char_len (drop at s)
    third n e r =
        second (one_more n) (omega arith) (omega arith)
        (bytes_more s (utf8_first (get_or s at 0)) (at + 1) (omega arith) tail2 (at + 2) n (step ∙ rw e refl) (omega arith) (omega arith) r)

    pub four_second : ok ≡ false → 0 ≡ char_len (drop at s)
    four_second e = second 0 (omega arith) (omega arith) (bytes_bad s (utf8_first (get_or s at 0)) (at + 1) (omega arith) (step ∙ rw e refl))

    pub four_third : ok ≡ true → within 0x80 0xbf (get_or s (at + 2) 0) ≡ false → 0 ≡ char_len (drop at s)
    four_third e w = third 0 e (no_mid s (at + 2) (omega arith) w)

    pub four_fourth : ok ≡ true → within 0x80 0xbf (get_or s (at + 2) 0) ≡ true → within 0x80 0xbf (get_or s (at + 3) 0) ≡ false → 0 ≡ char_len (drop at s)
    four_fourth e w v = third 0 e (mid_tail s (at + 2) (omega arith) 0 w (rw (← at3) (no_last s (at + 3) (omega arith) v)))

    pub four_whole : ok ≡ true → within 0x80 0xbf (get_or s (at + 2) 0) ≡ true → within 0x80 0xbf (get_or s (at + 3) 0) ≡ true → 4 ≡ char_len (drop at s)
    four_whole e w v = third 2 e (mid_tail s (at + 2) (omega arith) 1 w (rw (← at3) (last_tail s (at + 3) (omega arith) v)))
