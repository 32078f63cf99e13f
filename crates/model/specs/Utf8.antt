-- RFC 3629: UTF-8 as a machine over the bytes, by the syntax of the RFC's section 4, and the places between characters.
use Rattle.std.specs.Prelude.{ℕ, Bool, true, false, cond, not, ◌&&◌, List, [], ◌∷◌, length, get_or, leb, eqb}

-- lo ≤ b ≤ hi
abbrev pub within : ℕ → ℕ → ℕ → Bool
within lo hi b = leb lo b && leb b hi

-- What the bytes read so far ask for.
pub data Utf8State : Type 0 where
  -- nothing: they are whole characters
  between : Utf8State
  -- one, two or three bytes UTF8-tail, 80-BF
  tail1 tail2 tail3 : Utf8State
  -- a second byte whose range is narrower, behind E0, ED, F0 and F4
  after_e0 after_ed after_f0 after_f4 : Utf8State
  -- they are no UTF-8
  bad : Utf8State

-- A first byte. UTF8-1 = 00-7F; UTF8-2 = C2-DF UTF8-tail;
-- UTF8-3 = E0 A0-BF UTF8-tail / E1-EC 2( UTF8-tail ) / ED 80-9F UTF8-tail / EE-EF 2( UTF8-tail );
-- UTF8-4 = F0 90-BF 2( UTF8-tail ) / F1-F3 3( UTF8-tail ) / F4 80-8F 2( UTF8-tail ).
unfoldable pub utf8_first : ℕ → Utf8State
utf8_first b =
    cond (within 0x00 0x7f b) between
    (cond (within 0xc2 0xdf b) tail1
    (cond (eqb b 0xe0) after_e0
    (cond (within 0xe1 0xec b) tail2
    (cond (eqb b 0xed) after_ed
    (cond (within 0xee 0xef b) tail2
    (cond (eqb b 0xf0) after_f0
    (cond (within 0xf1 0xf3 b) tail3
    (cond (eqb b 0xf4) after_f4 bad))))))))

-- A byte behind the first: `next` where it lies in lo..hi.
abbrev pub utf8_next : ℕ → ℕ → Utf8State → ℕ → Utf8State
utf8_next lo hi next b = cond (within lo hi b) next bad

-- One byte more.
unfoldable pub utf8_step : Utf8State → ℕ → Utf8State
utf8_step between b = utf8_first b
utf8_step tail1 b = utf8_next 0x80 0xbf between b
utf8_step tail2 b = utf8_next 0x80 0xbf tail1 b
utf8_step tail3 b = utf8_next 0x80 0xbf tail2 b
utf8_step after_e0 b = utf8_next 0xa0 0xbf tail1 b
utf8_step after_ed b = utf8_next 0x80 0x9f tail1 b
utf8_step after_f0 b = utf8_next 0x90 0xbf tail2 b
utf8_step after_f4 b = utf8_next 0x80 0x8f tail2 b
utf8_step bad b = bad

-- The state behind the bytes, from a state.
unfoldable pub utf8_from : Utf8State → List ℕ → Utf8State
utf8_from s [] = s
utf8_from s (b ∷ bs) = utf8_from (utf8_step s b) bs

-- whole characters
unfoldable pub is_between : Utf8State → Bool
is_between between = true
is_between tail1 = false
is_between tail2 = false
is_between tail3 = false
is_between after_e0 = false
is_between after_ed = false
is_between after_f0 = false
is_between after_f4 = false
is_between bad = false

-- RFC 3629, section 4: UTF8-octets = *( UTF8-char ).
unfoldable pub utf8 : List ℕ → Bool
utf8 bs = is_between (utf8_from between bs)

-- `is_char_boundary`: an offset at a text's end or at the first byte of a character; past the end, not.
unfoldable pub is_char_boundary : List ℕ → ℕ → Bool
is_char_boundary t o = leb o (length t) && not (within 0x80 0xbf (get_or t o 0))
