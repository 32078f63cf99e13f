-- The state that the code's numbers, words and bytes stand for, and what the steps of a call do with it.
use Rattle.std.specs.Prelude.{◌≡◌, Bool, ◌&&◌, ℕ, suc, ◌+◌, ◌*◌, ◌<◌, ◌≤◌, leb, length, get_or, take, drop}
use mathlib.Core.List.{List, [], ◌∷◌, ◌++◌, flatten}
use Rattle.model.specs.Intern.{InternStats, StrInterner, Probe, table_for, fresh_interner}
use Rattle.model.specs.Limits.{max_new_strings}
use Rattle.stats.specs.declared.InternStats.{InternStats as Counters}
use Rattle.stats.specs.Counts.{stats_of, Counted}
use Rattle.interner.specs.declared.StrInterner.{StrInterner as Interner}
use Rattle.laws.specs.Slots.{taken}
use Rattle.std.proofs.Props.{props}
use Rattle.table.specs.Layout.{table_of, starts_of, with_start, strings_up_to, Work, Entries}
use Rattle.table.specs.Sizes.{Size, Size-prop}
use Rattle.interner.specs.Row.{Row, row_of, far_in, probe_for}

-- ---- the state

abbrev pub state_of : List ℕ → List ℕ → Interner → StrInterner
state_of work strs st = record {
  strings = strings_up_to st.count (starts_of st.count work) strs;
  table = table_of st.slots work;
  occupied = st.occupied;
  last = st.last;
  stats = stats_of st.stats;
}

-- What holds between calls. `laid`: the strings stand one behind the other from `base` up to `used`.
pub record Good (work strs : List ℕ) (st : Interner) : Type 0 where
  pub words : Work work (length strs) st.count
  pub size : Size st.slots
  pub entries : Entries (table_of st.slots work) (st.count + 1)
  pub number : taken (table_of st.slots work) ≡ st.occupied
  pub most : st.occupied ≤ st.count
  pub known : st.last ≤ st.count
  pub end : get_or (starts_of st.count work) st.count 0 ≡ st.used
  pub fits : st.used ≤ length strs
  pub begins : st.base ≤ st.used
  pub laid : take st.used strs ≡ take st.base strs ++ flatten (strings_up_to st.count (starts_of st.count work) strs)
  pub counts : Counted st.stats
  pub row : 0 < st.slots → Row (strings_up_to st.count (starts_of st.count work) strs) (table_of st.slots work) work (row_of st.slots) (far_in work)

pub Good-prop : (work strs : List ℕ) (st : Interner) → IsProp (Good work strs st)
Good-prop work strs st = Prim.hlevel (props, Size-prop)

-- ---- room, and a new layer

-- Number 18's part: at most 3583 strings, whose bytes end within a buffer of `size` bytes.
unfoldable pub has_room : ℕ → ℕ → StrInterner → Bool
has_room size base t = leb (length t.strings) max_new_strings && leb (base + length (flatten t.strings)) size

-- the same interner over a table of n slots
abbrev pub with_slots : Interner → ℕ → Interner
with_slots st n = record { slots = n; occupied = st.occupied; count = st.count; base = st.base; used = st.used; last = st.last; stats = st.stats }

-- A new layer: no strings, from `base` on; its first start is written.
pub record Fresh (work strs : List ℕ) (base : ℕ) (work' : List ℕ) (r : Interner) : Type 0 where
  pub good : Good work' strs r
  pub state : state_of work' strs r ≡ fresh_interner
  pub begins : r.base ≡ base
  pub words : work' ≡ with_start work 0 base

-- ---- the steps of a call

abbrev pub with_table : StrInterner → List ℕ → StrInterner
with_table t table = record { strings = t.strings; table = table; occupied = t.occupied; last = t.last; stats = t.stats }

-- the table that a call probes is in its place, with room
pub record Ready (work strs : List ℕ) (st : Interner) (work' : List ℕ) (r : Interner) : Type 0 where
  pub good : Good work' strs r
  pub is : r ≡ with_slots st r.slots
  pub state : state_of work' strs r ≡ with_table (state_of work strs st) (table_for (state_of work strs st))
  pub some : 0 < r.slots
  pub roomy : r.occupied * 8 < r.slots * 7
  pub high : drop 8192 work' ≡ drop 8192 work

-- the probe of a state's own table
unfoldable pub first_probe : StrInterner → List ℕ → Probe
first_probe t s = probe_for (length t.table) t.strings t.table s

-- a new string, and the counts behind it
abbrev pub allocated : StrInterner → List ℕ → InternStats → StrInterner
allocated t s c = record { strings = t.strings ++ (s ∷ []); table = t.table; occupied = t.occupied; last = suc (length t.strings); stats = c }

-- the code's new string stands behind the others, and nothing else is changed
pub record Alloced (work strs : List ℕ) (st : Interner) (s : List ℕ) (c : Counters) (work' strs' : List ℕ) (r : Interner) : Type 0 where
  pub good : Good work' strs' r
  pub state : state_of work' strs' r ≡ allocated (state_of work strs st) s (stats_of c)
  pub slots : r.slots ≡ st.slots
  pub occupied : r.occupied ≡ st.occupied
  pub count : r.count ≡ st.count + 1
  pub base : r.base ≡ st.base
  pub kept : take st.used strs' ≡ take st.used strs
  pub table : table_of st.slots work' ≡ table_of st.slots work
  pub free : drop 15360 work' ≡ drop 15360 work

abbrev pub with_entry : Interner → Interner
with_entry st = record { slots = st.slots; occupied = st.occupied + 1; count = st.count; base = st.base; used = st.used; last = st.last; stats = st.stats }

-- a far string more is remembered, or none; nothing else is changed
pub record Remembered (work strs : List ℕ) (st : Interner) (work' : List ℕ) : Type 0 where
  pub good : Good work' strs st
  pub state : state_of work' strs st ≡ state_of work strs st
  pub high : drop 8192 work' ≡ drop 8192 work
