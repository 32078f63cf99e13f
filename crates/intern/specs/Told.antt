-- What a call of the code answers: model's `intern` of the state, or that there is no room.
use Rattle.std.specs.Prelude.{◌≡◌, cond, Option, Some, None, is_some, List, ℕ, eqb, length, take, drop}
use Rattle.model.specs.Intern.{StrInterner, Interned, table_hit, table_alloc}
use Rattle.span.specs.declared.StrId.{StrId}
use Rattle.stats.specs.declared.InternStats.{InternStats as Counters}
use Rattle.interner.specs.declared.StrInterner.{StrInterner as Interner}
use Rattle.interner.specs.State.{state_of, Good, has_room, with_slots, first_probe}

-- The code's id and its interner u are those of the defined answer a. Of the buffers nothing is changed below `used`, nor from word 15360 on.
pub record Answered (work strs : List ℕ) (st : Interner) (work' strs' : List ℕ) (u : Interner) (id : StrId) (a : Interned) : Type 0 where
  pub state : state_of work' strs' u ≡ a.state
  pub id_is : id.0 ≡ a.id
  pub base : u.base ≡ st.base
  pub kept : take st.used strs' ≡ take st.used strs
  pub free : drop 15360 work' ≡ drop 15360 work

-- Every answer: it is None exactly where the defined state has no room. That leaves the interner good, and as it was but for a table
-- that may have grown.
pub record Told (work strs : List ℕ) (st : Interner) (work' strs' : List ℕ) (u : Interner) (r : Option StrId) (a : Interned) : Type 0 where
  pub good : Good work' strs' u
  pub room : is_some r ≡ has_room (length strs) st.base a.state
  pub answered : (id : StrId) → r ≡ Some id → Answered work strs st work' strs' u id a
  pub refused : r ≡ None → u ≡ with_slots st u.slots

-- ---- the steps of a call

-- model's `table_call` of a state that has its table already
unfoldable pub probed_call : StrInterner → ℕ → List ℕ → Interned
probed_call t resized s =
    cond (eqb (first_probe t s).slot 0) (table_alloc t t.table resized (first_probe t s) s) (table_hit t t.table resized (first_probe t s))

-- the interner behind the answer for a string that is there, one less than `slot`; c are the counts behind it
abbrev pub known_state : Interner → ℕ → Counters → Interner
known_state st slot c = record { slots = st.slots; occupied = st.occupied; count = st.count; base = st.base; used = st.used; last = slot; stats = c }
