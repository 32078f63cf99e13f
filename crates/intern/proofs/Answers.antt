-- The ways of a call. Assumes nothing.
use Rattle.std.specs.Prelude.{◌≡◌, Option, Some, None, Bool, true, false, cond, ◌&&◌, List, [], ◌∷◌, ◌++◌, ℕ, suc, ◌+◌, ◌-◌, ◌*◌, ◌<◌, ◌≤◌, leb, length, get_or, take, drop, set}
use Rattle.std.proofs.Common.{refl, sym, ap, ◌∙◌, subst, ⊎_elim, arith, eq-eqb, ne_eqb, length-set, length-append, drop-set-lt, drop-drop, get_or-set_other}
use Rattle.std.proofs.lemmas.Bool.{lt-ltb, le-ltb}
use Rattle.std.proofs.lemmas.Option.{none-some, same_Some}
use mathlib.Core.List.{flatten}
use Rattle.model.specs.Intern.{StrInterner, InternStats, Interned, Probe, holds, grows, table_for, plus_stats, cache_hit, bypass, table_hit, table_alloc, table_call, intern}
use Rattle.model.specs.Limits.{max_new_strings}
use Rattle.span.specs.declared.StrId.{StrId}
use Rattle.table.specs.Layout.{wide_words, table_of, starts_of, strings_up_to, Starts, Entries}
use Rattle.table.specs.Views.{part_in}
use Rattle.table.specs.Strings.{length_strings}
use Rattle.laws.specs.Slots.{taken, taken_set}
use Rattle.table.specs.Roomy.{set_entries}
use Rattle.table.specs.Sizes.{size_hi, size_lo, size_length}
use Rattle.stats.specs.declared.InternStats.{InternStats as Counters}
use Rattle.stats.specs.Counts.{stats_of}
use Rattle.stats.specs.Ways.{Adds}
use Rattle.interner.specs.declared.StrInterner.{StrInterner as Interner}
use Rattle.interner.specs.State.{state_of, Good, has_room, Ready, Alloced, allocated, with_table, with_slots, with_entry, Remembered, first_probe}
use Rattle.interner.specs.Row.{Row, row_of, far_in, probe_for, row_apart, row_set, row_words}
use Rattle.interner.specs.Room.{room_same, room_more, count_is}
use Rattle.intern.specs.Told.{Told, known_state, probed_call}

module _ (work strs : List ℕ) (st : Interner) (g : Good work strs st) where
  abbrev strings : List (List ℕ)
  strings = strings_up_to st.count (starts_of st.count work) strs

  -- ---- a string that is there
  pub known_told : (slot : ℕ) (c : Counters) (one : InternStats) → Adds st.stats c one → slot ≤ st.count → (u : Interner) → u ≡ known_state st slot c → (r : StrId) → r.0 ≡ slot - 1
      → Told work strs st work strs u (Some r) (record { id = slot - 1; state = record { strings = strings; table = table_of st.slots work; occupied = st.occupied; last = slot; stats = plus_stats (stats_of st.stats) one } })
  unfolding has_room
  known_told slot c one adds le u is r id =
      subst (λ (x : Interner). Told work strs st work strs x (Some r) (record { id = slot - 1; state = record { strings = strings; table = table_of st.slots work; occupied = st.occupied; last = slot; stats = plus_stats (stats_of st.stats) one } })) (sym is)
      (record {
        good = record {
          words = g.words;
          size = g.size;
          entries = g.entries;
          number = g.number;
          most = g.most;
          known = le;
          end = g.end;
          fits = g.fits;
          begins = g.begins;
          laid = g.laid;
          counts = adds.counted;
          row = g.row;
        };
        room = room_same work strs st g;
        refused = λ e. absurd (none-some r (sym e));
        answered = λ k e. record {
          state = ap (λ (x : InternStats). record { strings = strings; table = table_of st.slots work; occupied = st.occupied; last = slot; stats = x }) adds.is;
          id_is = ap (λ (x : StrId). x.0) (sym (same_Some r k e)) ∙ id;
          base = refl;
          kept = refl;
          free = refl;
        };
      })

  -- ---- a new string
  refusal : (a : Interned) → false ≡ has_room (length strs) st.base a.state → Told work strs st work strs st None a
  refusal a no_room = record { good = g; room = no_room; answered = λ k e. absurd (none-some k e); refused = λ _. refl }

  module _ (s : List ℕ) (b : Bool) (room : b ≡ (leb (st.count + 1) max_new_strings && leb (st.used + length s) (length strs))) where
    pub bypass_refused : b ≡ false → Told work strs st work strs st None (bypass (state_of work strs st) s)
    unfolding bypass
    bypass_refused hb = refusal _ (sym hb ∙ room_more work strs st g b s room _ refl)

    pub alloc_refused : (resized : ℕ) (p : Probe) → b ≡ false → Told work strs st work strs st None (table_alloc (state_of work strs st) (table_of st.slots work) resized p s)
    unfolding table_alloc
    alloc_refused resized p hb = refusal _ (sym hb ∙ room_more work strs st g b s room _ refl)

    module _ (has : b ≡ true) (work' strs' : List ℕ) (c : Counters) (one : InternStats) (adds : Adds st.stats c one) (t : Interner) (a : Alloced work strs st s c work' strs' t) (r : StrId) (id : r.0 ≡ st.count) where
      pub bypass_told : one ≡ record { calls = 1; cache_hits = 0; table_hits = 0; allocs = 1; long_bypass = 1; resizes = 0; probe_steps = 0 } → Told work strs st work' strs' t (Some r) (bypass (state_of work strs st) s)
      unfolding bypass
      bypass_told hby =
          record {
            good = a.good;
            room = sym has ∙ room_more work strs st g b s room _ refl;
            refused = λ e. absurd (none-some r (sym e));
            answered = λ k e. record {
              state = a.state ∙ ap (allocated (state_of work strs st) s) (adds.is ∙ ap (plus_stats (stats_of st.stats)) hby);
              id_is = ap (λ (x : StrId). x.0) (sym (same_Some r k e)) ∙ id ∙ sym (count_is work strs st g);
              base = a.base;
              kept = a.kept;
              free = a.free;
            };
          }

      -- what `enter` asks
      pub enter_asks : (some : 0 < st.slots) (at : ℕ) → at < st.slots → (256 ≤ t.slots) × (t.slots ≤ 4096) × (at < t.slots) × (t.count ≤ 3583) × (t.occupied < t.count)
      enter_asks some at lt =
          (omega (arith, a.slots, size_lo g.size (λ e. omega (arith, e))), omega (arith, a.slots, size_hi g.size), omega (arith, a.slots), a.good.words.few, omega (arith, a.occupied, a.count, g.most))

      -- the entry
      module _ (at : ℕ) (lt : at < st.slots) (empty : get_or (table_of st.slots work) at 0 ≡ 0) where
        abbrev new : List ℕ
        new = set work' (t.slots - 256 + at) t.count

        lt_t : at < t.slots
        lt_t = omega (arith, a.slots)

        high : drop 8192 new ≡ drop 8192 work'
        high = drop-set-lt 8192 work' (t.slots - 256 + at) t.count (omega (arith, size_hi a.good.size, lt_t))

        starts : starts_of t.count new ≡ starts_of t.count work'
        starts = ap (λ (l : List ℕ). wide_words (take (8192 + 2 * t.count + 2 - 8192) l)) high

        table_new : table_of t.slots new ≡ set (table_of t.slots work') at t.count
        table_new = part_in (t.slots - 256) (t.slots - 256 + t.slots) work' at t.count (omega (arith, lt_t))

        empty_t : get_or (table_of t.slots work') at 0 ≡ 0
        empty_t = ap (λ (n : ℕ). get_or (table_of n work') at 0) a.slots ∙ ap (λ (l : List ℕ). get_or l at 0) a.table ∙ empty

        -- the row does not meet the table
        row_kept : (i : ℕ) → row_of t.slots ≤ i → i < row_of t.slots + 3840 → get_or new i 0 ≡ get_or work' i 0
        row_kept i lo hi =
            get_or-set_other work' (t.slots - 256 + at) i t.count 0
            (λ e. ⊎_elim (λ b. omega (arith, e, b, hi)) (λ b. omega (arith, e, b, lo, lt_t)) (row_apart a.good.size).1)

        entered_row : 0 < t.slots → Row (strings_up_to t.count (starts_of t.count new) strs') (table_of t.slots new) new (row_of t.slots) (far_in new)
        entered_row some =
            let number : far_in new ≡ far_in work' = get_or-set_other work' (t.slots - 256 + at) 8191 t.count 0 (λ e. omega (arith, e, lt_t, size_hi a.good.size)) in
            let r = row_words (row_set (a.good.row some) at t.count empty_t) new number row_kept in
            subst (λ (l : List ℕ). Row (strings_up_to t.count (starts_of t.count new) strs') l new (row_of t.slots) (far_in new)) (sym table_new)
            (subst (λ (l : List ℕ). Row (strings_up_to t.count l strs') (set (table_of t.slots work') at t.count) new (row_of t.slots) (far_in new)) (sym starts) r)

        entered_good : Good new strs' (with_entry t)
        entered_good =
            record {
              words = record { room = subst (λ (m : ℕ). 16384 ≤ m) (sym (length-set work' (t.slots - 256 + at) t.count)) a.good.words.room; few = a.good.words.few; starts = subst (λ (l : List ℕ). Starts l (length strs')) (sym starts) a.good.words.starts };
              size = a.good.size;
              entries = subst (λ (l : List ℕ). Entries l (t.count + 1)) (sym table_new) (set_entries (t.count + 1) (table_of t.slots work') at t.count a.good.entries (omega arith));
              number = ap taken table_new ∙ taken_set (table_of t.slots work') at t.count (subst (λ (m : ℕ). at < m) (sym (size_length work' a.good.size a.good.words.room)) lt_t) empty_t (λ e. omega (arith, e, a.count)) ∙ omega (arith, a.good.number);
              most = omega (arith, a.occupied, a.count, g.most);
              known = a.good.known;
              end = ap (λ (l : List ℕ). get_or l t.count 0) starts ∙ a.good.end;
              fits = a.good.fits;
              begins = a.good.begins;
              laid = a.good.laid ∙ ap (λ (l : List ℕ). take t.base strs' ++ flatten (strings_up_to t.count l strs')) (sym starts);
              counts = a.good.counts;
              row = entered_row;
            }

        abbrev entered : StrInterner → StrInterner
        entered x = record { strings = x.strings; table = set x.table at (length x.strings); occupied = x.occupied + 1; last = x.last; stats = x.stats }

        entered_state : state_of new strs' (with_entry t) ≡ entered (state_of work' strs' t)
        entered_state = λ i. record {
          strings = strings_up_to t.count (starts i) strs';
          table = (table_new ∙ ap (λ (k : ℕ). set (table_of t.slots work') at k) (sym (length_strings (starts_of t.count work') strs' t.count))) i;
          occupied = t.occupied + 1;
          last = t.last;
          stats = stats_of t.stats;
        }

        pub alloc_told : (u : Interner) (work'' : List ℕ) (resized : ℕ) (p : Probe) → p.at ≡ at → one ≡ record { calls = 1; cache_hits = 0; table_hits = 0; allocs = 1; long_bypass = 0; resizes = resized; probe_steps = p.steps } → work'' ≡ new
            → u ≡ with_entry t → Told work strs st work'' strs' u (Some r) (table_alloc (state_of work strs st) (table_of st.slots work) resized p s)
        unfolding table_alloc
        alloc_told u work'' resized p hat hby hw state =
            let more : length (strings ++ (s ∷ [])) ≡ suc (length strings) = length-append strings (s ∷ []) ∙ omega arith in
            subst (λ (w : List ℕ). Told work strs st w strs' u (Some r) (table_alloc (state_of work strs st) (table_of st.slots work) resized p s)) (sym hw)
            (record {
              good = subst (Good new strs') (sym state) entered_good;
              room = sym has ∙ room_more work strs st g b s room _ refl;
              refused = λ e. absurd (none-some r (sym e));
              answered = λ k e. record {
                state =
                    ap (state_of new strs') state ∙ entered_state ∙ ap entered a.state
                    ∙ (λ i. record { strings = strings ++ (s ∷ []); table = set (table_of st.slots work) (sym hat i) (more i); occupied = st.occupied + 1; last = suc (length strings); stats = (adds.is ∙ ap (plus_stats (stats_of st.stats)) hby) i });
                id_is = ap (λ (x : StrId). x.0) (sym (same_Some r k e)) ∙ id ∙ sym (count_is work strs st g);
                base = ap (λ (x : Interner). x.base) state ∙ a.base;
                kept = a.kept;
                free = drop-set-lt 15360 work' (t.slots - 256 + at) t.count (omega (arith, size_hi a.good.size, lt_t)) ∙ a.free;
              };
            })

  -- ---- words and numbers of the table changed before
  pub told_over : (w work' strs' : List ℕ) (u u' : Interner) (r : Option StrId) (a : Interned) → u ≡ with_slots st u.slots → drop 8192 w ≡ drop 8192 work → Told w strs u work' strs' u' r a → Told work strs st work' strs' u' r a
  told_over w work' strs' u u' r a is high h =
      let base : u.base ≡ st.base = ap (λ (x : Interner). x.base) is in
      let used : u.used ≡ st.used = ap (λ (x : Interner). x.used) is in
      let free : drop 15360 w ≡ drop 15360 work = sym (drop-drop 7168 8192 w) ∙ ap (λ (l : List ℕ). drop 7168 l) high ∙ drop-drop 7168 8192 work in
      record {
        good = h.good;
        refused = λ e. h.refused e ∙ ap (λ (x : Interner). with_slots x u'.slots) is;
        room = h.room ∙ ap (λ (n : ℕ). has_room (length strs) n a.state) base;
        answered = λ k e.
            let q = h.answered k e in
            record {
              state = q.state;
              id_is = q.id_is;
              base = q.base ∙ base;
              kept = subst (λ (n : ℕ). take n strs' ≡ take n strs) used q.kept;
              free = q.free ∙ free;
            };
      }

  -- ---- the table
  module _ (s : List ℕ) (resized : ℕ) (p : Probe) (is : p ≡ first_probe (state_of work strs st) s) where
    pub call_alloc : p.slot ≡ 0 → table_alloc (state_of work strs st) (table_of st.slots work) resized p s ≡ probed_call (state_of work strs st) resized s
    unfolding probed_call
    call_alloc e =
        let z : (first_probe (state_of work strs st) s).slot ≡ 0 = sym (ap (λ (q : Probe). q.slot) is) ∙ e in
        ap (λ (q : Probe). table_alloc (state_of work strs st) (table_of st.slots work) resized q s) is ∙ sym (rw (eq-eqb _ _ z) refl)

    pub call_hit : (p.slot ≡ 0 → ⊥) → table_hit (state_of work strs st) (table_of st.slots work) resized p ≡ probed_call (state_of work strs st) resized s
    unfolding probed_call
    call_hit ne =
        let z : (first_probe (state_of work strs st) s).slot ≡ 0 → ⊥ = λ e. ne (ap (λ (q : Probe). q.slot) is ∙ e) in
        ap (λ (q : Probe). table_hit (state_of work strs st) (table_of st.slots work) resized q) is ∙ sym (rw (ne_eqb _ _ z) refl)

    pub hit_told : (c : Counters) → Adds st.stats c (record { calls = 1; cache_hits = 0; table_hits = 1; allocs = 0; long_bypass = 0; resizes = resized; probe_steps = p.steps }) → (p.slot ≡ 0 → ⊥) → p.slot ≤ st.count
        → (u : Interner) → u ≡ known_state st p.slot c → (r : StrId) → r.0 ≡ p.slot - 1 → Told work strs st work strs u (Some r) (probed_call (state_of work strs st) resized s)
    unfolding table_hit
    hit_told c adds ne le u k r id = subst (λ (a : Interned). Told work strs st work strs u (Some r) a) (call_hit ne) (known_told p.slot c _ adds le u k r id)

  -- ---- the whole call
  module _ (s : List ℕ) (b : Bool) (is_last : b ≡ holds strings st.last s) where
    pub intern_cached : (c : Counters) → Adds st.stats c (record { calls = 1; cache_hits = 1; table_hits = 0; allocs = 0; long_bypass = 0; resizes = 0; probe_steps = 0 }) → b ≡ true
        → (u : Interner) → u ≡ known_state st st.last c → (r : StrId) → r.0 ≡ st.last - 1 → Told work strs st work strs u (Some r) (intern (state_of work strs st) s)
    unfolding intern cache_hit
    intern_cached c adds hb u k r id =
        let e : cache_hit (state_of work strs st) ≡ intern (state_of work strs st) s = sym (rw (sym is_last ∙ hb) refl) in
        subst (λ (a : Interned). Told work strs st work strs u (Some r) a) e (known_told st.last c _ adds g.known u k r id)

    pub intern_bypass : (work' strs' : List ℕ) (u : Interner) (r : Option StrId) → b ≡ false → 64 < length s → Told work strs st work' strs' u r (bypass (state_of work strs st) s) → Told work strs st work' strs' u r (intern (state_of work strs st) s)
    unfolding intern
    intern_bypass work' strs' u r hb lt h =
        let e : bypass (state_of work strs st) s ≡ intern (state_of work strs st) s = sym (rw (sym is_last ∙ hb, lt-ltb 64 (length s) lt) refl) in
        subst (λ (a : Interned). Told work strs st work' strs' u r a) e h

    intern_table : b ≡ false → length s ≤ 64 → table_call (state_of work strs st) (table_for (state_of work strs st)) s ≡ intern (state_of work strs st) s
    unfolding intern
    intern_table hb le = sym (rw (sym is_last ∙ hb, le-ltb 64 (length s) le) refl)

    ready_call : (w : List ℕ) (u : Interner) (resized : ℕ) → Ready work strs st w u → resized ≡ cond (grows (state_of work strs st)) 1 0 → probed_call (state_of w strs u) resized s ≡ table_call (state_of work strs st) (table_for (state_of work strs st)) s
    unfolding probed_call first_probe probe_for table_call table_alloc table_hit
    ready_call w u resized y hr =
        ap (λ (x : StrInterner). probed_call x resized s) y.state
        ∙ ap (λ (n : ℕ). probed_call (with_table (state_of work strs st) (table_for (state_of work strs st))) n s) hr

    pub intern_told : (w work' strs' : List ℕ) (u u' : Interner) (r : Option StrId) (resized : ℕ) → b ≡ false → length s ≤ 64 → Ready work strs st w u → resized ≡ cond (grows (state_of work strs st)) 1 0
        → Told w strs u work' strs' u' r (probed_call (state_of w strs u) resized s) → Told work strs st work' strs' u' r (intern (state_of work strs st) s)
    intern_told w work' strs' u u' r resized hb le y hr h =
        subst (λ (a : Interned). Told work strs st work' strs' u' r a) (ready_call w u resized y hr ∙ intern_table hb le) (told_over w work' strs' u u' r _ y.is y.high h)

-- ---- a far string
module _ (work strs : List ℕ) (st : Interner) (g : Good work strs st) (w : List ℕ) (m : Remembered work strs st w) where
  pub learnt_told : (s : List ℕ) (resized : ℕ) (p : Probe) → p ≡ first_probe (state_of work strs st) s
      → (c : Counters) → Adds st.stats c (record { calls = 1; cache_hits = 0; table_hits = 1; allocs = 0; long_bypass = 0; resizes = resized; probe_steps = p.steps })
      → (p.slot ≡ 0 → ⊥) → p.slot ≤ st.count → (u : Interner) → u ≡ known_state st p.slot c → (r : StrId) → r.0 ≡ p.slot - 1 → Told work strs st w strs u (Some r) (probed_call (state_of work strs st) resized s)
  learnt_told s resized p is c adds ne le u k r id =
      let h = hit_told w strs st m.good s resized p (is ∙ ap (λ (x : StrInterner). first_probe x s) (sym m.state)) c adds ne le u k r id in
      told_over work strs st g w w strs st u (Some r) (probed_call (state_of work strs st) resized s) refl m.high
      (subst (λ (x : StrInterner). Told w strs st w strs u (Some r) (probed_call x resized s)) m.state h)
