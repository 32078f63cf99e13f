-- Returned numbers: a value, or a number of the table, and the chain in which conditions are tested.
use Rattle.std.specs.Prelude.{ℕ, Bool, true, false}

-- where each number's condition stands:
--    1  Tape.parse, WellFormed.check_reading      10  Region.has_ruby_format_dependency
--    2  WellFormed.texts_are_utf8, chosen_region  11  Region.is_whole
--    3  WellFormed.within_limits, chosen_region   12  Merge.new_region_text
--    4  WellFormed.ids_ok                         13  Merge.balanced_nodes
--    5  WellFormed.levels_ok                      14  Merge.is_unclosed, mark_at_empty_region
--    6  WellFormed.places_ok                      15  Merge.introduces_ruby_format_dependency
--    7  WellFormed.normalized_length_ok           16  Merge.cuts_ok
--    8  Region.edit_ok                            17  Merge.fitting
--    9  Region.edited                             18  Merge.result_ok
-- and of document 02's:
--   19  Desk.desk_ok                              20  Desk.charged

-- A value, or the number that refuses it.
pub data Checked (A : Type 0) : Type 0 where
  refused : ℕ → Checked A
  accepted : A → Checked A

-- What follows a step that may refuse.
infixl 20 ◌>>=◌
unfoldable pub ◌>>=◌ : {A B : Type 0} → Checked A → (A → Checked B) → Checked B
refused n >>= f = refused n
accepted a >>= f = f a

-- A line of the table: refuse with the number where the condition holds.
infix 25 refuse◌if◌
unfoldable pub refuse◌if◌ : ℕ → Bool → Checked (Unit {0})
refuse n if true = refused n
refuse n if false = accepted tt

-- The number of an answer: 0 where it is accepted.
unfoldable pub number_of : {A : Type 0} → Checked A → ℕ
number_of (refused n) = n
number_of (accepted a) = 0
