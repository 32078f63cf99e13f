-- The three ways to the table that a call probes. Assumes nothing.
use Rattle.std.specs.Prelude.{◌≡◌, Bool, true, false, not, ◌&&◌, ℕ, ◌+◌, ◌-◌, ◌*◌, ◌<◌, ◌≤◌, eqb, leb, length, get_or, take, drop, set, replicate}
use Rattle.std.proofs.Math.Path.{refl, ap, subst}
use Rattle.std.proofs.Common.{sym, ◌∙◌, arith, lit≤, lit<, length-set, drop-set-lt, get_or-set_same}
use mathlib.Core.List.{List, ◌++◌, flatten}
use borrow.Author.Tests.{eq-eqb, ne_eqb}
use Rattle.std.proofs.lemmas.List.{length-replicate}
use Rattle.model.specs.Lists.{is_empty}
use Rattle.model.specs.Intern.{grows, table_for, move_slots}
use Rattle.facts.specs.Lists.{is_empty_lem}
use Rattle.interner.specs.declared.StrInterner.{StrInterner as Interner}
use Rattle.laws.specs.Slots.{taken, taken_le, taken_zeros, moved_taken}
use Rattle.table.specs.Layout.{wide_words, table_of, starts_of, strings_up_to, strings_of, Starts, Entries}
use Rattle.interner.specs.State.{state_of, Good, Ready, with_slots, with_table}
use Rattle.interner.specs.Row.{Row, row_of, far_in, row_none}
use Rattle.table.specs.Sizes.{Size, size256, is_due, size_lo, size_grows, size_double, size_length, strings_all, due_full, due_not}
use Rattle.table.specs.Views.{part_high}
use Rattle.table.specs.Cleared.{cleared_length, cleared_part, cleared_high}
use Rattle.table.specs.Roomy.{entries_all, entries_zeros}

-- a test on the table is a test on its length
pub grows_is : (work strs : List ℕ) (st : Interner) → Good work strs st → grows (state_of work strs st) ≡ is_due st.slots st.occupied
unfolding grows
grows_is work strs st g =
    let len = size_length work g.size g.words.room in
    ap (λ (b : Bool). not b && leb (length (table_of st.slots work) * 7) (st.occupied * 8)) (is_empty_lem (table_of st.slots work))
    ∙ ap (λ (n : ℕ). not (eqb n 0) && leb (n * 7) (st.occupied * 8)) len

-- ---- the far strings forgotten
record Forgot (work v : List ℕ) : Type 0 where
  pub len : length (set v 8191 0) ≡ length work
  pub high : drop 8192 (set v 8191 0) ≡ drop 8192 work
  pub table : (n : ℕ) → n ≤ 4096 → table_of n (set v 8191 0) ≡ table_of n v
  pub row : {strings : List (List ℕ)} {t : List ℕ} {at : ℕ} → Row strings t (set v 8191 0) at (far_in (set v 8191 0))

forgot : (work v : List ℕ) → length v ≡ length work → drop 8192 v ≡ drop 8192 work → 16384 ≤ length work → Forgot work v
forgot work v len high room =
    record {
      len = length-set v 8191 0 ∙ len;
      high = drop-set-lt 8192 v 8191 0 (lit< tt) ∙ high;
      table = λ n le. part_high (n - 256) (n - 256 + n) v 8191 0 (omega arith) (omega arith);
      row = λ {strings} {t} {at}. subst (Row strings t (set v 8191 0) at) (sym (get_or-set_same v 8191 0 0 (omega (arith, len, room)))) row_none;
    }

-- ---- another table
module _ (work strs : List ℕ) (st : Interner) (v : List ℕ) (g : Good work strs st) (len : length v ≡ length work) (high : drop 8192 v ≡ drop 8192 work) (n : ℕ) where
  pub starts_same : starts_of st.count v ≡ starts_of st.count work
  starts_same = ap (λ (l : List ℕ). wide_words (take (8192 + 2 * st.count + 2 - 8192) l)) high

  pub retable : Size n → Entries (table_of n v) (st.count + 1) → taken (table_of n v) ≡ st.occupied
      → (0 < n → Row (strings_up_to st.count (starts_of st.count v) strs) (table_of n v) v (row_of n) (far_in v)) → Good v strs (with_slots st n)
  retable sz e number row =
      record {
        words = record { room = rw len g.words.room; few = g.words.few; starts = subst (λ (l : List ℕ). Starts l (length strs)) (sym starts_same) g.words.starts };
        size = sz;
        entries = e;
        number = number;
        most = g.most;
        known = g.known;
        end = ap (λ (l : List ℕ). get_or l st.count 0) starts_same ∙ g.end;
        fits = g.fits;
        begins = g.begins;
        laid = g.laid ∙ ap (λ (l : List ℕ). take st.base strs ++ flatten (strings_up_to st.count l strs)) (sym starts_same);
        counts = g.counts;
        row = row;
      }

  pub retabled : (t : List ℕ) → table_of n v ≡ t → state_of v strs (with_slots st n) ≡ with_table (state_of work strs st) t
  retabled t e = λ i. record { strings = strings_up_to st.count (starts_same i) strs; table = e i; occupied = st.occupied; last = st.last; stats = (state_of work strs st).stats }

module _ (work strs : List ℕ) (st : Interner) (g : Good work strs st) where
  table_len : length (table_of st.slots work) ≡ st.slots
  table_len = size_length work g.size g.words.room

  -- ---- the first table
  module _ (v : List ℕ) (r : Interner) (is : v ≡ take 0 work ++ (replicate (256 - 0) 0 ++ drop 256 work)) (none_yet : st.slots ≡ 0) (hr : r ≡ with_slots st 256) where
    first_room : 256 ≤ length work
    first_room = omega (arith, g.words.room)

    first_len : length v ≡ length work
    first_len = rw is (cleared_length work 0 256 (lit≤ tt) first_room)

    first_high : drop 8192 v ≡ drop 8192 work
    first_high = rw is (cleared_high work 0 256 (lit≤ tt) first_room 8192 (lit≤ tt))

    first_table : table_of 256 v ≡ replicate 256 0
    first_table = ap (λ (l : List ℕ). table_of 256 l) is ∙ cleared_part work 0 256 (lit≤ tt) first_room

    none_taken : {n : ℕ} → n ≡ 0 → taken (table_of n work) ≡ 0
    unfolding taken
    none_taken {n} e = ap (λ (k : ℕ). taken (table_of k work)) e

    no_entries : st.occupied ≡ 0
    no_entries = sym g.number ∙ none_taken none_yet

    table_is : table_for (state_of work strs st) ≡ replicate 256 0
    unfolding table_for
    table_is = rw (is_empty_lem (table_of st.slots work) ∙ eq-eqb _ _ (table_len ∙ none_yet)) refl

    pub first_ready : (u : List ℕ) → u ≡ set v 8191 0 → Ready work strs st u r
    first_ready u hu =
        let f = forgot work v first_len first_high g.words.room in
        let table : table_of 256 (set v 8191 0) ≡ replicate 256 0 = f.table 256 (lit≤ tt) ∙ first_table in
        rw hu (subst (Ready work strs st (set v 8191 0)) (sym hr)
        (record {
          good =
              retable work strs st (set v 8191 0) g f.len f.high 256 size256
              (subst (λ (l : List ℕ). Entries l (st.count + 1)) (sym table) (entries_zeros (st.count + 1) 256 (omega arith)))
              (ap taken table ∙ taken_zeros 256 ∙ sym no_entries) (λ _. f.row);
          is = refl;
          state = retabled work strs st (set v 8191 0) g f.len f.high 256 (table_for (state_of work strs st)) (table ∙ sym table_is);
          some = lit< tt;
          roomy = omega (arith, no_entries);
          high = f.high;
        }))

  module _ (ne : st.slots ≡ 0 → ⊥) where
    not_empty : is_empty (table_of st.slots work) ≡ false
    not_empty = is_empty_lem (table_of st.slots work) ∙ ne_eqb _ _ (λ e. ne (sym table_len ∙ e))

    -- ---- the table there is
    pub stay_ready : (r : Interner) → is_due st.slots st.occupied ≡ false → r ≡ with_slots st st.slots → Ready work strs st work r
    unfolding table_for
    stay_ready r not-due hr =
        let is : table_for (state_of work strs st) ≡ table_of st.slots work = rw (not_empty, grows_is work strs st g ∙ not-due) refl in
        subst (Ready work strs st work) (sym hr)
        (record {
          good = retable work strs st work g refl refl st.slots g.size g.entries g.number g.row;
          is = refl;
          state = retabled work strs st work g refl refl st.slots (table_for (state_of work strs st)) (sym is);
          some = omega (arith, size_lo g.size ne);
          roomy = due_not _ _ not-due ne;
          high = refl;
        })

    -- ---- a table of twice as many slots
    module _ (is-due : is_due st.slots st.occupied ≡ true) where
      pub grows_lo : 256 ≤ st.slots
      grows_lo = size_lo g.size ne

      pub grows_hi : st.slots ≤ 2048
      grows_hi =
          let a = g.most in
          let b = g.words.few in
          size_grows g.size st.occupied (omega arith) (due_full _ _ is-due)

      module _ (v : List ℕ) (r : Interner) (len : length v ≡ length work) (high : drop 8192 v ≡ drop 8192 work) (is : table_of (st.slots * 2) v ≡ move_slots (strings_of (starts_of st.count work) strs) (table_of st.slots work) (replicate (st.slots * 2) 0)) (hr : r ≡ with_slots st (st.slots * 2)) where
        abbrev zeros : List ℕ
        zeros = replicate (st.slots * 2) 0

        abbrev strings : List (List ℕ)
        strings = strings_up_to st.count (starts_of st.count work) strs

        new_is : table_of (st.slots * 2) v ≡ move_slots strings (table_of st.slots work) zeros
        new_is = is ∙ ap (λ (ss : List (List ℕ)). move_slots ss (table_of st.slots work) zeros) (strings_all work strs (length strs) st.count g.words)

        grown_is : table_for (state_of work strs st) ≡ move_slots strings (table_of st.slots work) zeros
        unfolding table_for
        grown_is =
            let e : table_for (state_of work strs st) ≡ move_slots strings (table_of st.slots work) (replicate (length (table_of st.slots work) * 2) 0) = rw (not_empty, grows_is work strs st g ∙ is-due) refl in
            e ∙ ap (λ (n : ℕ). move_slots strings (table_of st.slots work) (replicate (n * 2) 0)) table_len

        new_number : taken (table_of (st.slots * 2) v) ≡ st.occupied
        new_number =
            let z = taken_zeros (st.slots * 2) in
            let l : length zeros ≡ st.slots * 2 = length-replicate {A = ℕ} (st.slots * 2) 0 in
            ap taken new_is ∙ moved_taken strings (table_of st.slots work) zeros (omega (arith, z, l, taken_le (table_of st.slots work), table_len)) ∙ omega (arith, z, g.number)

        pub grown_ready : (u : List ℕ) → u ≡ set v 8191 0 → Ready work strs st u r
        grown_ready u hu =
            let f = forgot work v len high g.words.room in
            let table = f.table (st.slots * 2) (omega (arith, grows_hi)) in
            rw hu (subst (Ready work strs st (set v 8191 0)) (sym hr)
            (record {
              good =
                  retable work strs st (set v 8191 0) g f.len f.high (st.slots * 2) (size_double g.size ne grows_hi)
                  (subst (λ (l : List ℕ). Entries l (st.count + 1)) (sym (table ∙ new_is))
                  (entries_all strings (st.count + 1) (table_of st.slots work) zeros (entries_zeros (st.count + 1) (st.slots * 2) (omega arith)) g.entries))
                  (ap taken table ∙ new_number) (λ _. f.row);
              is = refl;
              state = retabled work strs st (set v 8191 0) g f.len f.high (st.slots * 2) (table_for (state_of work strs st)) (table ∙ new_is ∙ sym grown_is);
              some = omega (arith, grows_lo);
              roomy = omega (arith, taken_le (table_of st.slots work), g.number, table_len, grows_lo);
              high = f.high;
            }))
