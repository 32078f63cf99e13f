-- A new string: its bytes behind the others, and its end among the starts. Assumes nothing.
use Rattle.std.specs.Prelude.{◌≡◌, refl, ℕ, zero, suc, ◌+◌, ◌-◌, ◌<◌, ◌≤◌, length, get_or, take, drop}
use Rattle.std.proofs.Common.{sym, ◌∙◌, subst, arith, add-one, lit<, length-take-le, ext_get_or, take-take}
use Rattle.std.proofs.Math.Path.{ap}
use mathlib.Core.List.{List, [], ◌∷◌, ◌++◌, append_assoc, flatten}
use Rattle.std.proofs.Math.Decide.{ℕ_discrete}
use Rattle.std.proofs.lemmas.List.{take-append-le}
use Rattle.facts.specs.Lists.{flatten_snoc}
use Rattle.wire.specs.Overwrite.{overwrite, length_overwrite, take_overwrite, get_d_overwrite, get_d_before}
use Rattle.stats.specs.declared.InternStats.{InternStats as Counters}
use Rattle.stats.specs.Counts.{Counted, stats_of}
use Rattle.interner.specs.declared.StrInterner.{StrInterner as Interner}
use Rattle.laws.specs.Slots.{taken}
use Rattle.table.specs.Layout.{part, table_of, starts_of, start_in, with_start, string_at, strings_up_to, Starts, Entries}
use Rattle.interner.specs.State.{state_of, Good, allocated, Alloced}
use Rattle.interner.specs.Row.{Row, row_of, far_in, row_apart, row_more, row_words}
use Rattle.table.specs.Views.{length_part, get_d_part}
use Rattle.table.specs.Wide.{starts_number, start_is, length_start, start_put, start_other, start_low, start_below, start_high}
use Rattle.table.specs.Cleared.{part_ext}
use Rattle.table.specs.Strings.{length_strings, strings_ext}
use Rattle.table.specs.Sizes.{size_hi, starts_length}

-- ---- the bytes

module _ (strs s : List ℕ) (used : ℕ) (fits : used + length s ≤ length strs) where
  abbrev written : List ℕ
  written = overwrite strs used s

  written_length : length (part used (used + length s) written) ≡ length s
  written_length = length_part used (used + length s) written (omega arith) (omega (arith, length_overwrite strs used s fits)) ∙ omega arith

  written_part : part used (used + length s) written ≡ s
  written_part =
      ext_get_or 0 (part used (used + length s) written) s written_length
      (λ i lt.
      let small : i < length s = omega (arith, written_length) in
      get_d_part used (used + length s) written i 0 (omega arith) ∙ get_d_overwrite strs used s fits i small)

  written_kept : (n : ℕ) → n ≤ used → take n written ≡ take n strs
  written_kept n le =
      sym (take-take n (used + length s) written (omega arith))
      ∙ ap (λ (l : List ℕ). take n l) (take_overwrite strs used s fits)
      ∙ take-append-le n (take used strs) s (omega (arith, length-take-le used strs (omega arith)))
      ∙ take-take n used strs le

-- ---- the starts rise to the last
rise : (starts : List ℕ) (size : ℕ) → Starts starts size → (n k : ℕ) → k + n < length starts → get_or starts k 0 ≤ get_or starts (k + n) 0
rise starts size h zero k lt =
    let q : k + 0 ≡ k = omega arith in
    subst (λ (j : ℕ). get_or starts k 0 ≤ get_or starts j 0) (sym q) (omega arith)
rise starts size h (suc n) k lt =
    let q : k + suc n ≡ k + n + 1 = omega arith in
    subst (λ (j : ℕ). get_or starts k 0 ≤ get_or starts j 0) (sym q) (omega (arith, rise starts size h n k (omega arith), h (k + n) (omega arith)))

module _ (work strs s : List ℕ) (st : Interner) (g : Good work strs st) (few : st.count < 3583) (fits : st.used + length s ≤ length strs) (v : List ℕ) (is : v ≡ overwrite strs st.used s) (c : Counters) (counted : Counted c) where
  abbrev n : ℕ
  n = st.count

  abbrev new : List ℕ
  new = with_start work (n + 1) (st.used + length s)

  abbrev st' : Interner
  st' = record { slots = st.slots; occupied = st.occupied; count = n + 1; base = st.base; used = st.used + length s; last = n + 1; stats = c }

  abbrev old_starts : List ℕ
  old_starts = starts_of n work

  abbrev new_starts : List ℕ
  new_starts = starts_of (n + 1) new

  room : 16384 ≤ length work
  room = g.words.room

  bytes_length : length v ≡ length strs
  bytes_length = ap length is ∙ length_overwrite strs st.used s fits

  new_room : 16384 ≤ length new
  new_room = omega (arith, room, length_start work (n + 1) (st.used + length s))

  -- the starts: the old ones, and one more
  at_new : (k : ℕ) → k < n + 2 → get_or new_starts k 0 ≡ start_in new k
  at_new k lt = start_is new (n + 1) (omega (arith, new_room)) k (omega arith)

  kept : (k : ℕ) → k < n + 1 → get_or new_starts k 0 ≡ get_or old_starts k 0
  kept k lt = at_new k (omega arith) ∙ start_other work (n + 1) (st.used + length s) k (λ e. let z : ⊥ = omega (arith, e) in z) ∙ sym (start_is work n (omega (arith, room)) k (omega arith))

  added : get_or new_starts (n + 1) 0 ≡ st.used + length s
  added = at_new (n + 1) (omega arith) ∙ start_put work (n + 1) (st.used + length s) (omega (arith, room))

  last_start : get_or new_starts n 0 ≡ st.used
  last_start = kept n (omega arith) ∙ g.end

  old_length : length old_starts ≡ n + 1
  old_length = starts_length work (length strs) n g.words

  new_length_lem : length new_starts ≡ n + 1 + 1
  new_length_lem = starts_number new (n + 1) (omega (arith, new_room))

  rises : Starts new_starts (length v)
  rises k lt =
      elim (ℕ_discrete k n) [
        | yes e ↦ (let a : get_or new_starts k 0 ≡ st.used = ap (λ (j : ℕ). get_or new_starts j 0) e ∙ last_start in
            let b : get_or new_starts (k + 1) 0 ≡ st.used + length s = ap (λ (j : ℕ). get_or new_starts (j + 1) 0) e ∙ added in
            (omega (arith, a, b), omega (arith, b, bytes_length, fits)))
        | no ne ↦ (let small : k < n = omega (arith, ne, lt, new_length_lem) in
            let a = kept k (omega arith) in
            let b = kept (k + 1) (omega arith) in
            let o = g.words.starts k (omega (arith, old_length)) in
            (omega (arith, a, b, o), omega (arith, b, o, bytes_length)))
      ]

  table_same : table_of st.slots new ≡ table_of st.slots work
  table_same = start_low work (n + 1) (st.used + length s) (st.slots - 256) (st.slots - 256 + st.slots) (omega arith) (omega (arith, size_hi g.size))

  -- the strings: the old ones, and s
  string_kept : (k : ℕ) → k < n → string_at new_starts v k ≡ string_at old_starts strs k
  string_kept k lt =
      let a = kept k (omega arith) in
      let b = kept (k + 1) (omega arith) in
      let o = g.words.starts k (omega (arith, old_length)) in
      let q : k + 1 + (n - (k + 1)) ≡ n = omega arith in
      let up : get_or old_starts (k + 1) 0 ≤ st.used = subst (λ (x : ℕ). get_or old_starts (k + 1) 0 ≤ x) (ap (λ (j : ℕ). get_or old_starts j 0) q ∙ g.end) (rise old_starts (length strs) g.words.starts (n - (k + 1)) (k + 1) (omega (arith, old_length))) in
      ap (λ (x : ℕ). take (get_or new_starts (k + 1) 0 - x) (drop x v)) a
      ∙ ap (λ (x : ℕ). take (x - get_or old_starts k 0) (drop (get_or old_starts k 0) v)) b
      ∙ part_ext (get_or old_starts k 0) (get_or old_starts (k + 1) 0) strs v o.0 o.1 bytes_length
      (λ i l u. ap (λ (x : List ℕ). get_or x i 0) is ∙ get_d_before strs st.used s fits i (omega arith))

  string_new : string_at new_starts v n ≡ s
  string_new =
      ap (λ (x : ℕ). take (get_or new_starts (n + 1) 0 - x) (drop x v)) last_start
      ∙ ap (λ (x : ℕ). take (x - st.used) (drop st.used v)) added
      ∙ ap (λ (x : List ℕ). take (st.used + length s - st.used) (drop st.used x)) is
      ∙ written_part strs s st.used fits

  strings_more : strings_up_to (n + 1) new_starts v ≡ strings_up_to n old_starts strs ++ (s ∷ [])
  unfolding strings_up_to
  strings_more = ap (λ (m : ℕ). strings_up_to m new_starts v) (add-one n) ∙ (λ i. strings_ext new_starts old_starts v strs n string_kept i ++ (string_new i ∷ []))

  laid_more : take (st.used + length s) v ≡ take st.base v ++ flatten (strings_up_to (n + 1) new_starts v)
  laid_more =
      ap (λ (l : List ℕ). take (st.used + length s) l) is
      ∙ take_overwrite strs st.used s fits
      ∙ ap (λ (l : List ℕ). l ++ s) g.laid
      ∙ append_assoc (take st.base strs) (flatten (strings_up_to n old_starts strs)) s
      ∙ ap (λ (l : List ℕ). take st.base strs ++ l) (sym (flatten_snoc (strings_up_to n old_starts strs) s) ∙ ap flatten (sym strings_more))
      ∙ ap (λ (l : List ℕ). l ++ flatten (strings_up_to (n + 1) new_starts v)) (sym (ap (λ (l : List ℕ). take st.base l) is ∙ written_kept strs s st.used fits st.base g.begins))

  low_kept : (i : ℕ) → i < 8192 → get_or new i 0 ≡ get_or work i 0
  low_kept i lt = start_below work (n + 1) (st.used + length s) i lt

  row_added : 0 < st.slots → Row (strings_up_to (n + 1) new_starts v) (table_of st.slots new) new (row_of st.slots) (far_in new)
  row_added some =
      let len = length_strings old_starts strs n in
      let entries : Entries (table_of st.slots work) (length (strings_up_to n old_starts strs) + 1) = λ k lt. omega (arith, g.entries k lt, len) in
      let r = row_words (row_more (g.row some) (s ∷ []) entries) new (low_kept 8191 (lit< tt)) (λ i lo hi. low_kept i (omega (arith, (row_apart g.size).0))) in
      subst (λ (t : List ℕ). Row (strings_up_to (n + 1) new_starts v) t new (row_of st.slots) (far_in new)) (sym table_same)
      (subst (λ (ss : List (List ℕ)). Row ss (table_of st.slots work) new (row_of st.slots) (far_in new)) (sym strings_more) r)

  added_good : Good new v st'
  added_good =
      record {
        words = record { room = new_room; few = omega arith; starts = rises };
        size = g.size;
        entries = λ k lt. subst (λ (l : List ℕ). get_or l k 0 < n + 1 + 1) (sym table_same) (let h : get_or (table_of st.slots work) k 0 < n + 1 = g.entries k (subst (λ (l : List ℕ). k < length l) table_same lt) in omega arith);
        number = ap taken table_same ∙ g.number;
        most = omega (arith, g.most);
        known = omega arith;
        end = added;
        fits = omega (arith, bytes_length, fits);
        begins = omega (arith, g.begins);
        laid = laid_more;
        counts = counted;
        row = row_added;
      }

  added_state : state_of new v st' ≡ allocated (state_of work strs st) s (stats_of c)
  added_state = λ i. record { strings = strings_more i; table = table_same i; occupied = st.occupied; last = (let e : n + 1 ≡ suc (length (strings_up_to n old_starts strs)) = omega (arith, length_strings old_starts strs n) in e) i; stats = stats_of c }

  pub alloced : {work' : List ℕ} → work' ≡ new → Alloced work strs st s c work' v st'
  alloced e =
      rw e (record {
        good = added_good;
        state = added_state;
        slots = refl;
        occupied = refl;
        count = refl;
        base = refl;
        kept = ap (λ (l : List ℕ). take st.used l) is ∙ written_kept strs s st.used fits st.used (omega arith);
        table = table_same;
        free = start_high work (n + 1) (st.used + length s) 15360 (omega arith);
      })
