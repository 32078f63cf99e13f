-- Section 3: one pool by the starts of its layers. What the code computes from the array, and that for the counts which the
-- starts stand for it is the model's `range_ok`, `id_ok`, and the layer that holds an item.
use Rattle.std.specs.Prelude.{◌≡◌, Bool, true, false, cond, ◌&&◌, ◌||◌, List, [], ◌∷◌, length, get_or, take, leb, ltb, eqb}
use Rattle.std.proofs.Math.Path.{refl, ap}
use Rattle.std.proofs.Common.{sym, ap₂, ◌∙◌, add-one, add-zero, zero-add, add_assoc, take_all}
use Prim.Native.Nat.{ℕ, zero, suc, ◌+◌, ◌-◌, ◌≤◌, ◌<◌}
use native.Mathlib.Omega.{arith}
use Rattle.std.proofs.Math.ListN.{get_or-append}
use borrow.Author.Tests.{le-leb, lt-leb, leb-true, leb-false, ltb-true, ltb-false}
use Rattle.model.specs.Lists.{sum, any, tabulate}
use Rattle.model.specs.Bytes.{zeros}
use Rattle.model.specs.Store.{layer_starts, in_one_layer, range_ok, id_ok}
use Rattle.facts.specs.Truth.{by_bool}
use Rattle.wire.specs.Overwrite.{padded}
use Rattle.wire.specs.Loops.{any_up_to, any_tabulate}

-- ---- what the code computes

-- where layer i begins, and past the last layer where the pool ends
abbrev pub start_or : List ℕ → ℕ → ℕ → ℕ → ℕ
start_or starts layers total i = cond (ltb i layers) (get_or starts i 0) total

-- what stands from start up to end lies in layer i
unfoldable pub in_layer : List ℕ → ℕ → ℕ → ℕ → ℕ → ℕ → Bool
in_layer starts layers total start end i = leb (get_or starts i 0) start && leb end (start_or starts layers total (i + 1))

unfoldable pub in_one : List ℕ → ℕ → ℕ → ℕ → ℕ → Bool
in_one starts layers total start end = any_up_to layers (in_layer starts layers total start end)

unfoldable pub range_in : List ℕ → ℕ → ℕ → ℕ → ℕ → Bool
range_in starts layers total start len = leb (start + len) total && (eqb len 0 || in_one starts layers total start (start + len))

-- the last layer below n that begins at or before item i
unfoldable pub layer_of : List ℕ → ℕ → ℕ → ℕ
layer_of starts zero i = 0
layer_of starts (suc n) i = cond (leb (get_or starts n 0) i) n (layer_of starts n i)

-- ---- a turn of `layer_of`, whose k has just become k - 1

module _ (starts : List ℕ) (k i : ℕ) (h : 0 < k) where
  pub layer_here : get_or starts (k - 1) 0 ≤ i → layer_of starts k i ≡ k - 1
  unfolding layer_of
  layer_here e = let q : k ≡ suc (k - 1) = omega arith in ap (λ (n : ℕ). layer_of starts n i) q ∙ rw (le-leb (get_or starts (k - 1) 0) i e) refl

  pub layer_below : i < get_or starts (k - 1) 0 → layer_of starts k i ≡ layer_of starts (k - 1) i
  unfolding layer_of
  layer_below e = let q : k ≡ suc (k - 1) = omega arith in ap (λ (n : ℕ). layer_of starts n i) q ∙ rw (lt-leb (get_or starts (k - 1) 0) i e) refl

pub layer_few : (starts : List ℕ) (n i : ℕ) → layer_of starts n i ≤ n
unfolding layer_of
layer_few starts zero i = omega arith
layer_few starts (suc n) i = go (layer_few starts n i) (leb (get_or starts n 0) i)
  where
    go : layer_of starts n i ≤ n → (x : Bool) → cond x n (layer_of starts n i) ≤ suc n
    go m true = omega arith
    go m false = omega arith

pub layer_none : (starts : List ℕ) (k i : ℕ) → k ≡ 0 → layer_of starts k i ≡ 0
unfolding layer_of
layer_none starts k i e = rw e refl

-- ---- the counts that starts stand for

-- the starts of layers with these counts, and zeros
unfoldable pub starts_of : List ℕ → List ℕ
starts_of counts = padded 32 (layer_starts 0 counts)

pub record Pool (counts starts : List ℕ) (layers total : ℕ) : Type 0 where
  pub is : starts ≡ starts_of counts
  pub count : layers ≡ length counts
  pub all : total ≡ sum counts

-- how many items the first i layers hold
abbrev pub before : List ℕ → ℕ → ℕ
before counts i = sum (take i counts)

pub before_mono : (counts : List ℕ) (i j : ℕ) → i ≤ j → before counts i ≤ before counts j
before_mono counts zero j h = omega arith
before_mono [] (suc i) j h = omega arith
before_mono (n ∷ ns) (suc i) zero h = absurd (omega arith)
before_mono (n ∷ ns) (suc i) (suc j) h = let m = before_mono ns i j (omega arith) in omega arith

pub before_all : (counts : List ℕ) (i : ℕ) → length counts ≤ i → before counts i ≡ sum counts
before_all counts i h = ap sum (take_all i counts h)

pub before_most : (counts : List ℕ) (i : ℕ) → before counts i ≤ sum counts
before_most counts i = let m = before_mono counts i (i + length counts) (omega arith) in omega (arith, m, before_all counts (i + length counts) (omega arith))

pub before_next : (counts : List ℕ) (i : ℕ) → before counts (suc i) ≡ before counts i + get_or counts i 0
before_next [] zero = refl
before_next [] (suc i) = refl
before_next (n ∷ ns) zero = omega arith
before_next (n ∷ ns) (suc i) = let m = before_next ns i in omega arith

pub length_starts : (counts : List ℕ) (from : ℕ) → length (layer_starts from counts) ≡ length counts
unfolding layer_starts
length_starts [] from = refl
length_starts (n ∷ ns) from = ap suc (length_starts ns (from + n))

pub start_at : (counts : List ℕ) (from i : ℕ) → i < length counts → get_or (layer_starts from counts) i 0 ≡ from + before counts i
unfolding layer_starts
start_at [] from i h = absurd (omega arith)
start_at (n ∷ ns) from zero h = omega arith
start_at (n ∷ ns) from (suc i) h = let m = start_at ns (from + n) i (omega arith) in omega arith

starts_at_lem : (counts : List ℕ) (i : ℕ) → i < length counts → get_or (starts_of counts) i 0 ≡ before counts i
unfolding starts_of
starts_at_lem counts i h =
    let l = length_starts counts 0 in
    let e = start_at counts 0 i h in
    get_or-append (layer_starts 0 counts) (zeros (32 - length (layer_starts 0 counts))) 0 i (omega arith) ∙ e ∙ zero-add (before counts i)

-- a test of each layer, by the layers' starts, is the model's
any_layers : (start len : ℕ) (counts : List ℕ) (from : ℕ) (P : ℕ → Bool) (f : ℕ → ℕ)
    → ((i : ℕ) → i < length counts → P (f i) ≡ (leb (from + before counts i) start && leb (start + len) (from + before counts (suc i))))
    → any P (tabulate (length counts) f) ≡ in_one_layer from counts start len
unfolding in_one_layer
any_layers start len [] from P f h = refl
any_layers start len (n ∷ ns) from P f h =
    let first : P (f 0) ≡ (leb from start && leb (start + len) (from + n)) =
    h 0 (omega arith) ∙ ap₂ (λ (x y : ℕ). leb x start && leb (start + len) y) (add-zero from) (ap (λ (k : ℕ). from + k) (add-zero n)) in
    let later = any_layers start len ns (from + n) P (λ (i : ℕ). f (suc i))
    (λ i l. h (suc i) (omega arith) ∙ ap₂ (λ (x y : ℕ). leb x start && leb (start + len) y) (sym (add_assoc from n (before ns i))) (sym (add_assoc from n (before ns (suc i))))) in
    ap₂ (λ (x y : Bool). x || y) first later

module _ {counts starts : List ℕ} {layers total : ℕ} (p : Pool counts starts layers total) where
  pub pool_start : (i : ℕ) → i < layers → get_or starts i 0 ≡ before counts i
  pool_start i h = rw p.is (starts_at_lem counts i (omega (arith, p.count, h)))

  pub pool_start_or : (i : ℕ) → start_or starts layers total i ≡ before counts i
  pool_start_or i =
      by_bool (ltb i layers)
      (λ e. rw e (pool_start i (ltb-true i layers e)))
      (λ e. rw e (p.all ∙ sym (before_all counts i (omega (arith, p.count, ltb-false i layers e)))))

  -- ---- ids and ranges

  pub pool_id : (id : ℕ) → ltb id total ≡ id_ok counts id
  unfolding id_ok
  pool_id id = ap (ltb id) p.all

  module _ (start len : ℕ) where
    layer_is : (i : ℕ) → i < layers → in_layer starts layers total start (start + len) i ≡ (leb (before counts i) start && leb (start + len) (before counts (suc i)))
    unfolding in_layer
    layer_is i h = rw (pool_start i h, pool_start_or (i + 1), add-one) refl

    one_is : in_one starts layers total start (start + len) ≡ in_one_layer 0 counts start len
    unfolding in_one
    one_is =
        any_tabulate (in_layer starts layers total start (start + len)) layers (λ (i : ℕ). i)
        ∙ ap (λ (n : ℕ). any (in_layer starts layers total start (start + len)) (tabulate n (λ (i : ℕ). i))) p.count
        ∙ any_layers start len counts 0 (in_layer starts layers total start (start + len)) (λ (i : ℕ). i) (λ i h. rw (zero-add, zero-add) (layer_is i (omega (arith, p.count, h))))

    pub pool_range : range_in starts layers total start len ≡ range_ok counts start len
    unfolding range_in range_ok
    pool_range = rw (one_is, p.all) refl

-- ---- the layer that holds an item

pub record Held (counts : List ℕ) (i k : ℕ) : Type 0 where
  pub inside : k < length counts
  pub low : before counts k ≤ i
  pub high : i < before counts (suc k)

-- there is only one
pub held_one : {counts : List ℕ} {i k m : ℕ} → Held counts i k → Held counts i m → k ≡ m
held_one {counts} {i} {k} {m} a b =
    by_bool (leb k m)
    (λ e. by_bool (leb m k) (λ f. omega (arith, leb-true k m e, leb-true m k f)) (λ f. absurd (apart a b (leb-false m k f))))
    (λ e. absurd (apart b a (leb-false k m e)))
  where
    apart : {x y : ℕ} → Held counts i x → Held counts i y → x < y → ⊥
    apart {x} {y} u v h = omega (arith, before_mono counts (suc x) y h, u.high, v.low)

module _ {counts starts : List ℕ} {layers total : ℕ} (p : Pool counts starts layers total) (i : ℕ) where
  held_below : (n : ℕ) → n ≤ layers → i < before counts n → Held counts i (layer_of starts n i)
  unfolding layer_of
  held_below zero h l = absurd (omega arith)
  held_below (suc n) h l =
      let e = pool_start p n (omega (arith, h)) in
      by_bool (leb (get_or starts n 0) i)
      (λ b. rw b (record { inside = omega (arith, p.count, h); low = omega (arith, e, leb-true (get_or starts n 0) i b); high = l }))
      (λ b. rw b (held_below n (omega (arith, h)) (omega (arith, e, leb-false (get_or starts n 0) i b))))

  pub pool_held : i < total → Held counts i (layer_of starts layers i)
  pool_held h = held_below layers (omega arith) (omega (arith, before_all counts layers (omega (arith, p.count)), p.all, h))
