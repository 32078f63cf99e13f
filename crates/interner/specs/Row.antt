-- The row of the far strings: a word each, which remembers where the table's probe of the string ends. No order of the row is said: who finds a word
-- compares its string.
use Rattle.std.specs.Prelude.{◌≡◌, refl, ◌⊎◌, cond, ℕ, ◌+◌, ◌-◌, ◌*◌, ◌/◌, ◌%◌, ◌<◌, ◌≤◌, leb}
use Rattle.std.proofs.Math.Path.{sym, ap, subst}
use Rattle.std.proofs.Common.{◌∙◌, inl, inr, arith, le-leb, get_or-set_same, get_or-set_other}
use Rattle.std.proofs.Math.Bool.{true}
use mathlib.Core.List.{List, [], ◌++◌}
use Rattle.std.proofs.Math.Decide.{dec_lt}
use Rattle.std.proofs.lemmas.Bool.{lt-leb}
use Rattle.std.proofs.Math.ListN.{length, get_or, set, length-set, get_or-append, get_or-eq_default}
use Rattle.model.specs.Lists.{same}
use Rattle.model.specs.Intern.{Probe, fx_hash, holds, probe}
use Rattle.facts.specs.Lists.{same_eq}
use Rattle.moves.specs.Words.{moved_up, moved_length, moved_before, moved_at, by_place}
use Rattle.table.specs.Layout.{Entries}
use Rattle.table.specs.Slots.{holds_some}
use Rattle.laws.specs.Slots.{set_keeps}
use Rattle.laws.specs.Probe.{probe_grown, probe_set}
use Rattle.table.specs.Found.{found_there}
use Rattle.table.specs.Sizes.{Size, none, size256, size512, size1024, size2048, size4096}

-- ---- what a word remembers

-- the probe of s, of `most` slots
unfoldable pub probe_for : ℕ → List (List ℕ) → List ℕ → List ℕ → Probe
probe_for most strings table s = probe most strings table s (fx_hash s % length table) 0

-- a word is the place of a slot, and 4096 times the steps to it
abbrev pub probe_at : List ℕ → ℕ → Probe
probe_at table w = record { at = w % 4096; slot = get_or table (w % 4096) 0; steps = w / 4096 }

-- the string of its slot
abbrev pub far_string : List (List ℕ) → List ℕ → ℕ → List ℕ
far_string strings table w = get_or strings (get_or table (w % 4096) 0 - 1) []

-- the word is the probe of its string
pub record Far (strings : List (List ℕ)) (table : List ℕ) (w : ℕ) : Type 0 where
  pub inside : w % 4096 < length table
  pub some : get_or table (w % 4096) 0 ≡ 0 → ⊥
  pub is : probe_at table w ≡ probe_for (length table) strings table (far_string strings table w)

-- a string that is the word's is found where the word says
pub far_found : {strings : List (List ℕ)} {table : List ℕ} {w : ℕ} → Far strings table w → (s : List ℕ) → same (far_string strings table w) s ≡ true → probe_at table w ≡ probe_for (length table) strings table s
far_found {strings} {table} {w} f s e = f.is ∙ ap (probe_for (length table) strings table) (same_eq (far_string strings table w) s e)

-- a probe that found its string, as a word
module _ (strings : List (List ℕ)) (table : List ℕ) (p : Probe) (some : p.slot ≡ 0 → ⊥) where
  -- its slot names s
  pub found_string : (s : List ℕ) → p ≡ probe_for (length table) strings table s → get_or strings (p.slot - 1) [] ≡ s
  unfolding probe_for
  found_string s is =
      let t = found_there (length table) strings table s (fx_hash s % length table) 0 (λ e. some (ap (λ (q : Probe). q.slot) is ∙ e)) in
      let h : holds strings p.slot s ≡ true = ap (λ (q : Probe). holds strings q.slot s) is ∙ t.holds_s in
      same_eq (get_or strings (p.slot - 1) []) s (sym (holds_some strings p.slot s some) ∙ h)

  module _ (s : List ℕ) (is : p ≡ probe_for (length table) strings table s) (inside : p.at < length table) (few : length table ≤ 4096) where
    found_slot : get_or table p.at 0 ≡ p.slot
    unfolding probe_for
    found_slot =
        let t = found_there (length table) strings table s (fx_hash s % length table) 0 (λ e. some (ap (λ (q : Probe). q.slot) is ∙ e)) in
        subst (λ (q : Probe). get_or table q.at 0 ≡ q.slot) (sym is) t.slot

    pub far_made : Far strings table (p.at + 4096 * p.steps)
    far_made =
        let a : (p.at + 4096 * p.steps) % 4096 ≡ p.at = omega arith in
        let d : (p.at + 4096 * p.steps) / 4096 ≡ p.steps = omega arith in
        let g : get_or table ((p.at + 4096 * p.steps) % 4096) 0 ≡ p.slot = ap (λ (j : ℕ). get_or table j 0) a ∙ found_slot in
        let q : probe_at table (p.at + 4096 * p.steps) ≡ p = λ i. record { at = a i; slot = g i; steps = d i } in
        let z : far_string strings table (p.at + 4096 * p.steps) ≡ s = ap (λ (j : ℕ). get_or strings (j - 1) []) g ∙ found_string s is in
        record {
          inside = omega (arith, a, inside);
          some = λ e. some (sym g ∙ e);
          is = q ∙ is ∙ ap (probe_for (length table) strings table) (sym z);
        }

-- ---- what keeps it

-- a slot that is not empty names a string
below : (table : List ℕ) (N : ℕ) → Entries table N → (i : ℕ) → (get_or table i 0 ≡ 0 → ⊥) → get_or table i 0 < N
below table N entries i ne =
    elim (dec_lt i (length table)) [
      | yes lt ↦ entries i lt
      | no ge ↦ absurd (ne (get_or-eq_default table 0 {n = i} (omega (arith, ge))))
    ]

module _ {strings : List (List ℕ)} {table : List ℕ} {w : ℕ} (f : Far strings table w) where
  abbrev slot : ℕ
  slot = get_or table (w % 4096) 0

  found : (probe_for (length table) strings table (far_string strings table w)).slot ≡ 0 → ⊥
  found e = f.some (ap (λ (q : Probe). q.slot) f.is ∙ e)

  -- strings behind the others
  pub far_more : (more : List (List ℕ)) → Entries table (length strings + 1) → Far (strings ++ more) table w
  unfolding probe_for
  far_more more entries =
      let old : (e : ℕ) → (e ≡ 0 → ⊥) → e < length strings + 1 → get_or (strings ++ more) (e - 1) [] ≡ get_or strings (e - 1) [] =
      λ e ne lt. get_or-append strings more [] (e - 1) (omega (arith, ne, lt)) in
      let s = far_string strings table w in
      let z : far_string (strings ++ more) table w ≡ s = old slot f.some (entries (w % 4096) f.inside) in
      let names : (i : ℕ) → (get_or table i 0 ≡ 0 → ⊥) → get_or table i 0 ≤ length strings = λ i ne. omega (arith, below table (length strings + 1) entries i ne) in
      record {
        inside = f.inside;
        some = f.some;
        is =
            f.is
            ∙ sym (probe_grown (length table) strings more table s names (fx_hash s % length table) 0 found)
            ∙ ap (probe_for (length table) (strings ++ more) table) (sym z);
      }

  -- an empty slot filled
  pub far_set : (p v : ℕ) → get_or table p 0 ≡ 0 → Far strings (set table p v) w
  unfolding probe_for
  far_set p v empty =
      let u = set table p v in
      let len = length-set table p v in
      let s = far_string strings table w in
      let g : get_or u (w % 4096) 0 ≡ slot = set_keeps table p v empty (w % 4096) f.some in
      let z : far_string strings u w ≡ s = ap (λ (j : ℕ). get_or strings (j - 1) []) g in
      let q : probe_at u w ≡ probe_at table w = λ i. record { at = w % 4096; slot = g i; steps = w / 4096 } in
      let kept : probe (length table) strings u s (fx_hash s % length table) 0 ≡ probe (length table) strings table s (fx_hash s % length table) 0 =
      probe_set (length table) strings table s p v empty (fx_hash s % length table) 0 found in
      record {
        inside = omega (arith, len, f.inside);
        some = λ e. f.some (sym g ∙ e);
        is =
            q ∙ f.is ∙ sym kept
            ∙ ap (λ (n : ℕ). probe n strings u s (fx_hash s % n) 0) (sym len)
            ∙ ap (probe_for (length u) strings u) (sym z);
      }

-- ---- the row

-- where the row of a table of n slots stands: behind the tables of up to 2048 slots, before that of 4096
unfoldable pub row_of : ℕ → ℕ
row_of n = cond (leb n 2048) 3840 0

pub row_low : {n : ℕ} → n ≤ 2048 → 3840 ≡ row_of n
unfolding row_of
row_low {n} h = sym (rw (le-leb n 2048 h) refl)

pub row_high : {n : ℕ} → 2048 < n → 0 ≡ row_of n
unfolding row_of
row_high {n} h = sym (rw (lt-leb n 2048 h) refl)

-- word 8191 says how many far strings there are
abbrev pub far_in : List ℕ → ℕ
far_in work = get_or work 8191 0

-- its words do not meet the table
pub row_apart : {n : ℕ} → Size n → (row_of n + 3840 ≤ 7680) × ((row_of n + 3840 ≤ n - 256) ⊎ (n - 256 + n ≤ row_of n))
unfolding row_of
row_apart none = (omega arith, inr (omega arith))
row_apart size256 = (omega arith, inr (omega arith))
row_apart size512 = (omega arith, inr (omega arith))
row_apart size1024 = (omega arith, inr (omega arith))
row_apart size2048 = (omega arith, inr (omega arith))
row_apart size4096 = (omega arith, inl (omega arith))

-- the words of the far strings stand from `at` on
pub record Row (strings : List (List ℕ)) (table words : List ℕ) (at far : ℕ) : Type 0 where
  pub room : far ≤ 3840
  pub all : (j : ℕ) → j < far → Far strings table (get_or words (at + j) 0)

pub row_none : {strings : List (List ℕ)} {table words : List ℕ} {at : ℕ} → Row strings table words at 0
row_none = record { room = omega arith; all = λ j lt. absurd (omega arith) }

module _ {strings : List (List ℕ)} {table words : List ℕ} {at far : ℕ} (row : Row strings table words at far) where
  pub row_more : (more : List (List ℕ)) → Entries table (length strings + 1) → Row (strings ++ more) table words at far
  row_more more entries = record { room = row.room; all = λ j lt. far_more (row.all j lt) more entries }

  pub row_set : (p v : ℕ) → get_or table p 0 ≡ 0 → Row strings (set table p v) words at far
  row_set p v empty = record { room = row.room; all = λ j lt. far_set (row.all j lt) p v empty }

  pub row_words : (after : List ℕ) {n : ℕ} → n ≡ far → ((i : ℕ) → at ≤ i → i < at + 3840 → get_or after i 0 ≡ get_or words i 0) → Row strings table after at n
  row_words after {n} h e =
      record {
        room = omega (arith, h, row.room);
        all = λ j lt. subst (Far strings table) (sym (e (at + j) (omega arith) (omega (arith, lt, h, row.room)))) (row.all j (omega (arith, lt, h)));
      }

  -- one more, before the j-th
  module _ (w j : ℕ) (f : Far strings table w) (le : j ≤ far) (fits : far < 3840) (long : at + far < length words) where
    abbrev moved : List ℕ
    moved = moved_up words (at + j) (at + far - (at + j))

    abbrev after : List ℕ
    after = set moved (at + j) w

    own : get_or after (at + j) 0 ≡ w
    own = get_or-set_same moved (at + j) w 0 (omega (arith, moved_length words (at + j) (at + far - (at + j))))

    before : (i : ℕ) → i < j → get_or after (at + i) 0 ≡ get_or words (at + i) 0
    before i h = get_or-set_other moved (at + j) (at + i) w 0 (λ e. omega (arith, e, h)) ∙ moved_before words (at + j) (at + far - (at + j)) (at + i) (omega (arith, h))

    behind : (i : ℕ) → j ≤ i → i < far → get_or after (at + (i + 1)) 0 ≡ get_or words (at + i) 0
    behind i h lt =
        let e : at + (i + 1) ≡ at + i + 1 = omega arith in
        get_or-set_other moved (at + j) (at + (i + 1)) w 0 (λ z. omega (arith, z, h))
        ∙ ap (λ (k : ℕ). get_or moved k 0) e
        ∙ moved_at words (at + j) (at + far - (at + j)) (at + i) (omega arith) (omega arith) (omega arith)

    pub row_put : Row strings table after at (far + 1)
    row_put = record { room = omega arith; all = λ i lt. each i lt }
      where
        each : (i : ℕ) → i < far + 1 → Far strings table (get_or after (at + i) 0)
        each i lt =
            by_place i j
            (λ l. subst (Far strings table) (sym (before i l)) (row.all i (omega arith)))
            (λ e. subst (Far strings table) (sym (ap (λ (k : ℕ). get_or after (at + k) 0) e ∙ own)) f)
            (λ l.
            let e : i ≡ i - 1 + 1 = omega arith in
            subst (Far strings table) (sym (ap (λ (k : ℕ). get_or after (at + k) 0) e ∙ behind (i - 1) (omega arith) (omega arith))) (row.all (i - 1) (omega arith)))
