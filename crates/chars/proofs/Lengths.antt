-- What the first byte alone tells of a character's length.
use Rattle.std.proofs.Common.{◌≡◌, ap, Some, None, ℕ, ◌≤◌, ◌<◌, List, length, get_or, drop, sym}
use Rattle.chars.specs.Leads.{lead_1, lead_low, lead_high}
use Rattle.chars.specs.Chars.{char_len, length_if, len_1, len_bad}

module _ (at : ℕ) (s : List ℕ) where
  pub one_byte : at < length s → get_or s at 0 < 0x80 → length_if (char_len (drop at s)) ≡ Some 1
  one_byte h l = ap length_if (sym (len_1 s at h (lead_1 (get_or s at 0) l)))

  pub none_low : at < length s → 0x80 ≤ get_or s at 0 → get_or s at 0 < 0xc2 → length_if (char_len (drop at s)) ≡ None
  none_low h l g = ap length_if (sym (len_bad s at h (lead_low (get_or s at 0) l g)))

  pub none_high : at < length s → 0xf5 ≤ get_or s at 0 → length_if (char_len (drop at s)) ≡ None
  none_high h l = ap length_if (sym (len_bad s at h (lead_high (get_or s at 0) l)))
