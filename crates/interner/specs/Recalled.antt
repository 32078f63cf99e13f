-- The far strings of a state: what a word says of its string, and one word more. Assumes nothing.
use Rattle.std.specs.Prelude.{◌≡◌, refl, ◌⊎◌, Bool, true, ℕ, ◌+◌, ◌-◌, ◌*◌, ◌/◌, ◌%◌, ◌<◌, ◌≤◌, set, drop}
use Rattle.std.proofs.Common.{sym, ◌∙◌, ⊎_elim, arith, lit<, length-set, get_or-set_same, drop-set-lt}
use Rattle.std.proofs.Math.Path.{ap, subst}
use mathlib.Core.List.{List, []}
use Rattle.std.proofs.Math.Nat.{mod-lt}
use Rattle.std.proofs.Math.ListN.{length, get_or}
use Rattle.std.proofs.Math.Seq.{get_or-set_other}
use Rattle.model.specs.Lists.{same}
use Rattle.model.specs.Intern.{Probe, fx_hash}
use Rattle.moves.specs.Words.{moved_up, moved_length, moved_before, moved_behind_lem, moved_drop}
use Rattle.laws.specs.Slots.{taken}
use Rattle.table.specs.Layout.{table_of, starts_of, strings_up_to, Entries}
use Rattle.table.specs.Views.{get_d_part}
use Rattle.table.specs.Cleared.{part_ext}
use Rattle.table.specs.Roomy.{Inside, inside}
use Rattle.table.specs.Sizes.{size_lo, size_hi, size_length}
use Rattle.interner.specs.declared.StrInterner.{StrInterner as Interner}
use Rattle.interner.specs.Row.{probe_for, probe_at, far_string, Far, far_found, far_made, Row, row_of, far_in, row_apart, row_words, row_put}
use Rattle.interner.specs.State.{state_of, Good, Remembered, first_probe}
use Rattle.interner.specs.Tables.{retable, retabled, starts_same}

module _ (work strs : List ℕ) (st : Interner) (g : Good work strs st) where
  abbrev strings : List (List ℕ)
  strings = strings_up_to st.count (starts_of st.count work) strs

  abbrev table : List ℕ
  table = table_of st.slots work

  len : length table ≡ st.slots
  len = size_length work g.size g.words.room

  apart : (row_of st.slots + 3840 ≤ 7680) × ((row_of st.slots + 3840 ≤ st.slots - 256) ⊎ (st.slots - 256 + st.slots ≤ row_of st.slots))
  apart = row_apart g.size

  -- ---- a word
  module _ (j : ℕ) (ask : (0 < st.slots) × (j < far_in work)) where
    abbrev word : ℕ
    word = get_or work (row_of st.slots + j) 0

    far : Far strings table word
    far = (g.row ask.0).all j ask.1

    -- the row has it, and the table its slot
    pub far_bounds : (row_of st.slots + j < 7680) × (256 ≤ st.slots) × (st.slots ≤ 4096) × (word % 4096 < st.slots)
    far_bounds =
        let i = far.inside in
        (omega (arith, apart.0, (g.row ask.0).room, ask.1), size_lo g.size (λ e. omega (arith, e, ask.0)), size_hi g.size, omega (arith, i, len))

    pub far_probed : (w row : ℕ) → row ≡ row_of st.slots → w ≡ get_or work (row + j) 0
        → record { at = w % 4096; slot = get_or work (st.slots - 256 + w % 4096) 0; steps = w / 4096 } ≡ probe_at table word
    far_probed w row hr hw =
        let b = far_bounds in
        let e : w ≡ word = hw ∙ ap (λ (k : ℕ). get_or work (k + j) 0) hr in
        let s : get_or work (st.slots - 256 + word % 4096) 0 ≡ get_or table (word % 4096) 0 = sym (get_d_part (st.slots - 256) (st.slots - 256 + st.slots) work (word % 4096) 0 (omega (arith, b))) in
        ap (λ (k : ℕ). record { at = k % 4096; slot = get_or work (st.slots - 256 + k % 4096) 0; steps = k / 4096 }) e
        ∙ (λ i. record { at = word % 4096; slot = s i; steps = word / 4096 })

    -- its slot names a string
    pub far_named : (p : Probe) → p ≡ probe_at table word → (0 < p.slot) × (p.slot - 1 < st.count)
    far_named p e =
        let s : p.slot ≡ get_or table (word % 4096) 0 = ap (λ (q : Probe). q.slot) e in
        let i = g.entries (word % 4096) far.inside in
        let n = far.some in
        (omega (arith, s, n), omega (arith, s, n, i))

    pub far_bytes : (p : Probe) → p ≡ probe_at table word → (bytes : List ℕ) → bytes ≡ get_or strings (p.slot - 1) [] → bytes ≡ far_string strings table word
    far_bytes p e bytes hb = hb ∙ ap (λ (q : Probe). get_or strings (q.slot - 1) []) e

    pub far_recalled : (s bytes : List ℕ) (b : Bool) (p : Probe) → bytes ≡ far_string strings table word → b ≡ same bytes s → b ≡ true → p ≡ probe_at table word → p ≡ first_probe (state_of work strs st) s
    unfolding first_probe
    far_recalled s bytes b p hs hb t hp = hp ∙ far_found far s (sym (hb ∙ ap (λ (l : List ℕ). same l s) hs) ∙ t)

  -- ---- one more
  pub remembered_none : Remembered work strs st work
  remembered_none = record { good = g; state = refl; high = refl }

  module _ (p : Probe) (some : 0 < p.slot) (slots : 0 < st.slots) (is : p ≡ first_probe (state_of work strs st) (get_or strings (p.slot - 1) [])) where
    -- its place and steps are small
    pub probe_small : (p.at < st.slots) × (p.at < 4096) × (p.steps ≤ 4096)
    unfolding first_probe probe_for
    probe_small =
        let s = get_or strings (p.slot - 1) [] in
        let from : fx_hash s % length table < length table = mod-lt (fx_hash s) (omega (arith, len)) in
        let i = subst (Inside table (st.count + 1) (length table + 0)) (sym is) (inside strings s table (st.count + 1) (length table) (fx_hash s % length table) 0 (omega arith) g.entries from) in
        let h = size_hi g.size in
        (omega (arith, i.at, len), omega (arith, i.at, len, h), omega (arith, i.steps, len, h))

    module _ (j row w : ℕ) (le : j ≤ far_in work) (fits : far_in work < 3840) (hr : row ≡ row_of st.slots) (hw : w ≡ p.at + 4096 * p.steps) where
      abbrev moved : List ℕ
      moved = moved_up work (row + j) (row + far_in work - (row + j))

      abbrev put : List ℕ
      put = set moved (row + j) w

      abbrev v : List ℕ
      v = set put 8191 (far_in work + 1)

      put_length : length put ≡ length work
      put_length = length-set moved (row + j) w ∙ moved_length work (row + j) (row + far_in work - (row + j))

      v_length : length v ≡ length work
      v_length = length-set put 8191 (far_in work + 1) ∙ put_length

      v_high : drop 8192 v ≡ drop 8192 work
      v_high =
          drop-set-lt 8192 put 8191 (far_in work + 1) (lit< tt)
          ∙ drop-set-lt 8192 moved (row + j) w (omega (arith, hr, apart.0))
          ∙ moved_drop work (row + j) (row + far_in work - (row + j)) 8192 (omega (arith, hr, apart.0))

      v_table : table_of st.slots v ≡ table
      v_table =
          let h = size_hi g.size in
          let l = g.words.room in
          part_ext (st.slots - 256) (st.slots - 256 + st.slots) work v (omega arith) (omega (arith, h, l)) v_length
          (λ i lo hi.
          get_or-set_other put 8191 i (far_in work + 1) 0 (λ e. omega (arith, e, hi, h))
          ∙ ⊎_elim
          (λ b. get_or-set_other moved (row + j) i w 0 (λ e. omega (arith, e, hr, b, lo)) ∙ moved_behind_lem work (row + j) (row + far_in work - (row + j)) i (omega (arith, hr, b, lo)))
          (λ b. get_or-set_other moved (row + j) i w 0 (λ e. omega (arith, e, hr, b, hi)) ∙ moved_before work (row + j) (row + far_in work - (row + j)) i (omega (arith, hr, b, hi)))
          apart.1)

      v_row : Row strings table v (row_of st.slots) (far_in v)
      unfolding first_probe
      v_row =
          let small = probe_small in
          let l = g.words.room in
          let at_p = far_made strings table p (λ e. omega (arith, e)) (get_or strings (p.slot - 1) []) is (omega (arith, small, len)) (omega (arith, len, size_hi g.size)) in
          let f : Far strings table w = subst (Far strings table) (sym hw) at_p in
          let r : Row strings table put (row_of st.slots) (far_in work + 1) =
          subst (λ (k : ℕ). Row strings table (set (moved_up work (k + j) (k + far_in work - (k + j))) (k + j) w) (row_of st.slots) (far_in work + 1)) (sym hr)
          (row_put (g.row slots) w j f le fits (omega (arith, l, apart.0))) in
          row_words r v (get_or-set_same put 8191 (far_in work + 1) 0 (omega (arith, put_length, l))) (λ i lo hi. get_or-set_other put 8191 i (far_in work + 1) 0 (λ e. omega (arith, e, hi, apart.0)))

      pub remembered_one : (far : ℕ) → far ≡ far_in work → {after : List ℕ} → after ≡ set (set (moved_up work (row + j) (row + far - (row + j))) (row + j) w) 8191 (far + 1) → Remembered work strs st after
      remembered_one far hf e =
          rw (e ∙ ap (λ (k : ℕ). set (set (moved_up work (row + j) (row + k - (row + j))) (row + j) w) 8191 (k + 1)) hf) (record {
            good =
                retable work strs st v g v_length v_high st.slots g.size
                (subst (λ (t : List ℕ). Entries t (st.count + 1)) (sym v_table) g.entries)
                (ap taken v_table ∙ g.number)
                (λ _.
                subst (λ (t : List ℕ). Row (strings_up_to st.count (starts_of st.count v) strs) t v (row_of st.slots) (far_in v)) (sym v_table)
                (subst (λ (l : List ℕ). Row (strings_up_to st.count l strs) table v (row_of st.slots) (far_in v)) (sym (starts_same work strs st v g v_length v_high st.slots)) v_row));
            state = retabled work strs st v g v_length v_high st.slots table v_table;
            high = v_high;
          })
