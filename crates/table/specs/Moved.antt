-- The loop that moves a table's entries into one of twice as many slots. Assumes nothing.
use Rattle.std.specs.Prelude.{◌≡◌, take, set, get_or, replicate}
use Rattle.std.proofs.Math.Path.{refl, sym}
use Rattle.std.proofs.Common.{ap, ◌∙◌, subst, length-set, drop-set-lt}
use mathlib.Core.List.{List, []}
use Prim.Native.Nat.{ℕ, zero, suc, ◌+◌, ◌-◌, ◌*◌, ◌%◌, ◌<◌, ◌≤◌}
use native.Mathlib.Omega.{arith}
use Rattle.std.proofs.Math.Numerals.{add-one}
use Rattle.std.proofs.Math.ListN.{length, drop, drop_of_length-le}
use Rattle.std.proofs.Math.Seq.{drop-cons}
use Rattle.model.specs.Intern.{fx_hash, empty_slot, move_slots}
use Rattle.table.specs.Layout.{Work, Starts, wide_words, strings_of, table_of, starts_of, slot_for}
use Rattle.table.specs.Views.{part_in, part_high, get_d_part, table_length}

-- the slot that the code found
pub slot_found : (strings : List (List ℕ)) (t bytes : List ℕ) (n id h p k : ℕ) → length t ≡ n → bytes ≡ get_or strings id [] → h ≡ fx_hash bytes → k ≡ h % n → p ≡ empty_slot (length t) t k → p ≡ slot_for strings t id
unfolding slot_for
slot_found strings t bytes n id h p k e eb eh ek ep = rw (ep, ek, eh, eb, e) refl

-- on lists alone: one entry more of the old table
module _ (strings : List (List ℕ)) (new old : List ℕ) (i : ℕ) (lt : i < length old) where
  next_none : get_or old i 0 ≡ 0 → move_slots strings (drop (i + 1) old) new ≡ move_slots strings (drop i old) new
  unfolding move_slots
  next_none e = rw (add-one, drop-cons old i 0, e) refl

  next_some : (e : ℕ) → get_or old i 0 ≡ e → (e ≡ 0 → ⊥) → move_slots strings (drop (i + 1) old) (set new (slot_for strings new (e - 1)) e) ≡ move_slots strings (drop i old) new
  unfolding move_slots slot_for
  next_some zero h ne = absurd (ne refl)
  next_some (suc d) h ne =
      let q : suc d - 1 ≡ d = omega arith in
      rw (q, add-one, drop-cons old i 0, h) refl

module _ (strs work₀ : List ℕ) (count n : ℕ) where
  abbrev strings₀ : List (List ℕ)
  strings₀ = strings_of (starts_of count work₀) strs

  -- i entries were moved
  pub record Moved (work : List ℕ) (i : ℕ) : Type 0 where
    pub few : i ≤ n
    pub len : length work ≡ length work₀
    pub old : table_of n work ≡ table_of n work₀
    pub high : drop 8192 work ≡ drop 8192 work₀
    pub done : move_slots (strings_of (starts_of count work₀) strs) (drop i (table_of n work₀)) (table_of (n * 2) work) ≡ move_slots (strings_of (starts_of count work₀) strs) (table_of n work₀) (table_of (n * 2) work₀)

  pub moved_first : Moved work₀ 0
  moved_first = record { few = omega arith; len = refl; old = refl; high = refl; done = refl }

  module _ (lo : 256 ≤ n) (hi : n ≤ 2048) (room : 16384 ≤ length work₀) (work : List ℕ) (i : ℕ) (m : Moved work i) where
    pub starts_same : starts_of count work ≡ starts_of count work₀
    starts_same = ap (λ (l : List ℕ). wide_words (take (8192 + 2 * count + 2 - 8192) l)) m.high

    pub moved_work : {size : ℕ} → Work work₀ size count → Work work size count
    moved_work {size} w = record { room = rw m.len w.room; few = w.few; starts = subst (λ (l : List ℕ). Starts l size) (sym starts_same) w.starts }

    pub moved_last : n ≤ i → table_of (n * 2) work ≡ move_slots strings₀ (table_of n work₀) (table_of (n * 2) work₀)
    unfolding move_slots
    moved_last h =
        let l = table_length n work₀ lo (omega arith) room in
        let g : length (table_of n work₀) ≤ i = omega arith in
        let d : drop i (table_of n work₀) ≡ [] = drop_of_length-le (table_of n work₀) g in
        sym (ap (λ (l : List ℕ). move_slots strings₀ l (table_of (n * 2) work)) d) ∙ m.done

    module _ (lt : i < n) where
      pub in_old_lem : i < length (table_of n work₀)
      in_old_lem = rw (table_length n work₀ lo (omega arith) room) lt

      pub entry : get_or (table_of n work₀) i 0 ≡ get_or work (n - 256 + i) 0
      entry = ap (λ (l : List ℕ). get_or l i 0) (sym m.old) ∙ get_d_part (n - 256) (n - 256 + n) work i 0 (omega arith)

      pub moved_skip : get_or work (n - 256 + i) 0 ≡ 0 → Moved work (i + 1)
      moved_skip e =
          record {
            few = omega arith;
            len = m.len;
            old = m.old;
            high = m.high;
            done = next_none _ _ (table_of n work₀) i in_old_lem (entry ∙ e) ∙ m.done;
          }

      pub moved_put : (e p : ℕ) → get_or work (n - 256 + i) 0 ≡ e → (e ≡ 0 → ⊥) → p ≡ slot_for (strings_of (starts_of count work) strs) (table_of (n * 2) work) (e - 1) → p < n * 2 → Moved (set work (n * 2 - 256 + p) e) (i + 1)
      moved_put e p he ne hp small =
          let q : p ≡ slot_for strings₀ (table_of (n * 2) work) (e - 1) = hp ∙ ap (λ (l : List ℕ). slot_for (strings_of l strs) (table_of (n * 2) work) (e - 1)) starts_same in
          record {
            few = omega arith;
            len = length-set work (n * 2 - 256 + p) e ∙ m.len;
            old = part_high (n - 256) (n - 256 + n) work (n * 2 - 256 + p) e (omega arith) (omega arith) ∙ m.old;
            high = drop-set-lt 8192 work (n * 2 - 256 + p) e (omega arith) ∙ m.high;
            done =
                ap (λ (l : List ℕ). move_slots strings₀ (drop (i + 1) (table_of n work₀)) l)
                (part_in (n * 2 - 256) (n * 2 - 256 + n * 2) work p e (omega arith) ∙ ap (λ (j : ℕ). set (table_of (n * 2) work) j e) q)
                ∙ next_some _ _ (table_of n work₀) i in_old_lem e (entry ∙ he) ne
                ∙ m.done;
          }

-- a table cleared, then filled
pub grown : (strs w v x : List ℕ) (count n : ℕ) → table_of n v ≡ table_of n w → drop 8192 v ≡ drop 8192 w → table_of (n * 2) v ≡ replicate (n * 2) 0 → x ≡ move_slots (strings_of (starts_of count v) strs) (table_of n v) (table_of (n * 2) v) → x ≡ move_slots (strings_of (starts_of count w) strs) (table_of n w) (replicate (n * 2) 0)
grown strs w v x count n old high new is =
    is
    ∙ ap (λ (l : List ℕ). move_slots (strings_of (wide_words (take (8192 + 2 * count + 2 - 8192) l)) strs) (table_of n v) (table_of (n * 2) v)) high
    ∙ ap (λ (l : List ℕ). move_slots (strings_of (starts_of count w) strs) l (table_of (n * 2) v)) old
    ∙ ap (λ (l : List ℕ). move_slots (strings_of (starts_of count w) strs) (table_of n w) l) new
