-- A list with the words from a up to e set to 0, and its parts. Assumes nothing.
use Rattle.std.specs.Prelude.{◌≡◌, List, ◌++◌, ℕ, ◌+◌, ◌-◌, ◌*◌, ◌<◌, ◌≤◌, length, take, drop, get_or, replicate}
use Rattle.std.proofs.Common.{sym, ap, ◌∙◌, append_assoc, arith, length-append, length-drop, length-take-le, get_or-take, drop_at, drop-drop, ext_get_or, take_at}
use Rattle.std.proofs.lemmas.List.{length-replicate}
use Rattle.std.proofs.Math.ListN.{get_or-append}
use Rattle.table.specs.Layout.{part, table_of}
use Rattle.table.specs.Views.{length_part, get_d_part}

-- two parts are equal if the words are
pub part_ext : (x y : ℕ) (l m : List ℕ) → x ≤ y → y ≤ length l → length m ≡ length l → ((i : ℕ) → x ≤ i → i < y → get_or m i 0 ≡ get_or l i 0) → part x y m ≡ part x y l
part_ext x y l m h k e f =
    ext_get_or 0 (part x y m) (part x y l)
    (length_part x y m h (omega arith) ∙ sym (length_part x y l h k))
    (λ i lt.
    let small : i < y - x = omega (arith, length_part x y m h (omega arith)) in
    get_d_part x y m i 0 small ∙ f (x + i) (omega arith) (omega arith) ∙ sym (get_d_part x y l i 0 small))

module _ (w : List ℕ) (a e : ℕ) (h : a ≤ e) (k : e ≤ length w) where
  pub cleared : List ℕ
  cleared = take a w ++ (replicate (e - a) 0 ++ drop e w)

  front : length (take a w ++ replicate (e - a) 0) ≡ e
  front = length-append (take a w) (replicate (e - a) 0) ∙ omega (arith, length-take-le a w (omega arith), length-replicate {A = ℕ} (e - a) 0)

  pub cleared_length : length (take a w ++ (replicate (e - a) 0 ++ drop e w)) ≡ length w
  cleared_length =
      ap length (sym (append_assoc (take a w) (replicate (e - a) 0) (drop e w))) ∙ length-append (take a w ++ replicate (e - a) 0) (drop e w)
      ∙ omega (arith, front, length-drop e w)

  pub cleared_low : (i : ℕ) → i < a → get_or (take a w ++ (replicate (e - a) 0 ++ drop e w)) i 0 ≡ get_or w i 0
  cleared_low i lt =
      get_or-append (take a w) (replicate (e - a) 0 ++ drop e w) 0 i (omega (arith, length-take-le a w (omega arith))) ∙ get_or-take a w i 0 lt

  pub cleared_part : part a e (take a w ++ (replicate (e - a) 0 ++ drop e w)) ≡ replicate (e - a) 0
  cleared_part =
      ap (λ (l : List ℕ). take (e - a) l) (drop_at (take a w) (replicate (e - a) 0 ++ drop e w) a (length-take-le a w (omega arith)))
      ∙ take_at (replicate (e - a) 0) (drop e w) (e - a) (length-replicate {A = ℕ} (e - a) 0)

  pub cleared_high : (j : ℕ) → e ≤ j → drop j (take a w ++ (replicate (e - a) 0 ++ drop e w)) ≡ drop j w
  cleared_high j le =
      let q : e + (j - e) ≡ j = omega arith in
      let l = take a w ++ (replicate (e - a) 0 ++ drop e w) in
      ap (λ (x : ℕ). drop x l) (sym q) ∙ sym (drop-drop (j - e) e l)
      ∙ ap (λ (x : List ℕ). drop (j - e) x) (ap (λ (x : List ℕ). drop e x) (sym (append_assoc (take a w) (replicate (e - a) 0) (drop e w))) ∙ drop_at (take a w ++ replicate (e - a) 0) (drop e w) e front)
      ∙ drop-drop (j - e) e w ∙ ap (λ (x : ℕ). drop x w) q

-- the work words with the table of n * 2 slots cleared
module _ (w : List ℕ) (n : ℕ) (lo : 256 ≤ n) (hi : n ≤ 2048) (room : 16384 ≤ length w) (v : List ℕ) (is : v ≡ take (n * 2 - 256) w ++ (replicate (n * 2 - 256 + n * 2 - (n * 2 - 256)) 0 ++ drop (n * 2 - 256 + n * 2) w)) where
  pub new_length_lem : length v ≡ length w
  new_length_lem = rw is (cleared_length w (n * 2 - 256) (n * 2 - 256 + n * 2) (omega arith) (omega arith))

  pub new_old : table_of n v ≡ table_of n w
  new_old =
      part_ext (n - 256) (n - 256 + n) w v (omega arith) (omega arith) new_length_lem
      (λ i l lt. ap (λ (x : List ℕ). get_or x i 0) is ∙ cleared_low w (n * 2 - 256) (n * 2 - 256 + n * 2) (omega arith) (omega arith) i (omega arith))

  pub new_high : drop 8192 v ≡ drop 8192 w
  new_high = rw is (cleared_high w (n * 2 - 256) (n * 2 - 256 + n * 2) (omega arith) (omega arith) 8192 (omega arith))

  pub new_table : table_of (n * 2) v ≡ replicate (n * 2) 0
  new_table =
      let q : n * 2 - 256 + n * 2 - (n * 2 - 256) ≡ n * 2 = omega arith in
      ap (λ (x : List ℕ). table_of (n * 2) x) is ∙ cleared_part w (n * 2 - 256) (n * 2 - 256 + n * 2) (omega arith) (omega arith) ∙ ap (λ (k : ℕ). replicate k 0) q
