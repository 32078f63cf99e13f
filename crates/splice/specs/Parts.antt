-- Section 7's three parts of a merged list as one definition, and a loop that writes one of them, whatever kind its records are.
use Rattle.std.specs.Prelude.{◌≡◌, Bool, true, false, cond, leb}
use Rattle.std.proofs.Math.Path.{refl, sym, ap}
use Rattle.std.proofs.Common.{◌∙◌, zero-add, mul-zero, mul-one, mul-suc, mul-le-mul_left}
use Prim.Native.Nat.{ℕ, zero, suc, ◌+◌, ◌*◌, ◌≤◌, ◌<◌}
use native.Mathlib.Omega.{arith}
use Rattle.std.proofs.Math.Nat.{mul-add}
use mathlib.Core.List.{List, [], ◌∷◌, ◌++◌, append-nil, map, flatten}
use Rattle.std.proofs.Math.ListN.{length, length-append, length-map}
use Rattle.std.specs.List.{filter, range_with_len}
use Rattle.model.specs.Lists.{keep, tabulate}
use Rattle.model.specs.Tape.{Codec, record_size, record_at, records_at, record_bytes, records_bytes}
use Rattle.model.specs.Merge.{MergeWindow, Located, kept_before, kept_behind}
use Rattle.facts.specs.Truth.{by_bool}
use Rattle.facts.specs.Lists.{map_append}
use Rattle.facts.specs.Keep.{keep_append}
use Rattle.laws.specs.Parts.{bytes_append}
use Rattle.wire.specs.Overwrite.{overwrite, Wrote, wrote_none, wrote_next, overwrite_nil, length_overwrite}
use Rattle.splice.specs.declared.Part.{Part}
use Rattle.splice.specs.declared.Part.TheVariants.{Before, Reading, Behind}
use Rattle.put_records.specs.Runs.{records_more, records_parts}

-- is what lies from start to end in this part, with the region from `from` to `to`?
unfoldable pub lies_in : Part → ℕ → ℕ → ℕ → ℕ → Bool
lies_in Before start end from to = leb end from
lies_in Reading start end from to = true
lies_in Behind start end from to = leb to start

module _ {A : Type 0} (l : Located A) (w : MergeWindow) where
  -- is an element of the list in this part, and how does it stand there?
  unfoldable pub is_in : Part → A → Bool
  is_in p x = lies_in p (l.place x).start (l.place x).end (l.window w).start (l.window w).end

  unfoldable pub as_in : Part → A → A
  as_in Before x = x
  as_in Reading x = l.placed w x
  as_in Behind x = l.moved w x

  unfoldable pub part_of : Part → List A → List A
  part_of p xs = map (as_in p) (keep (is_in p) xs)

  pub part_before : (xs : List A) → part_of Before xs ≡ kept_before l w xs
  unfolding part_of as_in is_in lies_in kept_before
  part_before xs = same (keep (is_in Before) xs)
    where
      same : (ys : List A) → map (as_in Before) ys ≡ ys
      same [] = refl
      same (y ∷ ys) = ap (λ (k : List A). y ∷ k) (same ys)

  pub part_reading : (xs : List A) → part_of Reading xs ≡ map (l.placed w) xs
  unfolding part_of as_in is_in lies_in
  part_reading xs = ap (map (l.placed w)) (same xs)
    where
      same : (ys : List A) → keep (is_in Reading) ys ≡ ys
      same [] = refl
      same (y ∷ ys) = ap (λ (k : List A). y ∷ k) (same ys)

  pub part_behind : (xs : List A) → part_of Behind xs ≡ map (l.moved w) (kept_behind l w xs)
  unfolding part_of as_in is_in lies_in kept_behind
  part_behind xs = refl

  part_append : (p : Part) (xs ys : List A) → part_of p (xs ++ ys) ≡ part_of p xs ++ part_of p ys
  unfolding part_of
  part_append p xs ys = ap (map (as_in p)) (keep_append (is_in p) xs ys) ∙ map_append (as_in p) (keep (is_in p) xs) (keep (is_in p) ys)

  one_kept : (p : Part) (x : A) → is_in p x ≡ true → part_of p (x ∷ []) ≡ as_in p x ∷ []
  unfolding part_of
  one_kept p x h = rw h refl

  one_left : (p : Part) (x : A) → is_in p x ≡ false → part_of p (x ∷ []) ≡ []
  unfolding part_of
  one_left p x h = rw h refl

-- as many numbers pass a test as the items at them do
kept_count : {A : Type 0} (test : A → Bool) (passes : ℕ → Bool) (n a : ℕ) (f : ℕ → A) → ((i : ℕ) → passes (a + i) ≡ test (f i)) → length (filter passes (range_with_len a n)) ≡ length (keep test (tabulate n f))
kept_count test passes zero a f h = refl
kept_count {A = A} test passes (suc n) a f h =
    let here : passes a ≡ test (f zero) = ap passes (omega arith) ∙ h zero in
    rw here (same (test (f zero)) _ _ (kept_count test passes n (a + 1) (λ i. f (suc i)) (λ i. ap passes (omega arith) ∙ h (suc i))))
  where
    same : (b : Bool) (xs : List ℕ) (ys : List A) → length xs ≡ length ys → length (cond b (a ∷ xs) xs) ≡ length (cond b (f zero ∷ ys) ys)
    same true xs ys e = ap suc e
    same false xs ys e = e

-- A kind of record: its size, which a part does not change.
pub record Kind {A : Type 0} (c : Codec A) (l : Located A) (z : ℕ) : Type 0 where
  pub size : record_size c ≡ z
  pub width : (t : List ℕ) (q : ℕ) (w : MergeWindow) (p : Part) → length (record_bytes c (as_in l w p (record_at c t q))) ≡ z

-- the bytes of one element in a part: none where it is not in it
unfoldable pub item_bytes : {A : Type 0} → Codec A → Located A → MergeWindow → Part → A → List ℕ
item_bytes c l w p x = records_bytes c (part_of l w p (x ∷ []))

module _ {A : Type 0} (c : Codec A) (l : Located A) (w : MergeWindow) (p : Part) (x : A) where
  pub item_kept : is_in l w p x ≡ true → record_bytes c (as_in l w p x) ≡ item_bytes c l w p x
  unfolding item_bytes records_bytes flatten
  item_kept h = sym (ap (records_bytes c) (one_kept l w p x h) ∙ append-nil (record_bytes c (as_in l w p x)))

  pub item_left : is_in l w p x ≡ false → [] ≡ item_bytes c l w p x
  unfolding item_bytes records_bytes flatten
  item_left h = sym (ap (records_bytes c) (one_left l w p x h))

-- one element written at `to` as it stands in a part, and r the place behind it
abbrev pub PutItem : {A : Type 0} → Codec A → Located A → MergeWindow → Part → A → ℕ → List ℕ → List ℕ → ℕ → Type 0
PutItem c l w p x to d d' r = (r ≡ to + length (item_bytes c l w p x)) × (d' ≡ overwrite d to (item_bytes c l w p x))

-- what a loop has written of the first i records of a run, and its next place
pub record PutUpTo {A : Type 0} (c : Codec A) (l : Located A) (w : MergeWindow) (p : Part) (t : List ℕ) (at : ℕ) (d : List ℕ) (to i next : ℕ) (out : List ℕ) : Type 0 where
  pub wrote : Wrote d to (records_bytes c (part_of l w p (records_at c t at i))) out
  pub place : next ≡ to + length (records_bytes c (part_of l w p (records_at c t at i)))
  pub long : length out ≡ length d

module _ {A : Type 0} {c : Codec A} {l : Located A} {z : ℕ} (k : Kind c l z) (w : MergeWindow) (p : Part) (t : List ℕ) (at : ℕ) where
  abbrev items : ℕ → List A
  items i = part_of l w p (records_at c t at i)

  abbrev item : ℕ → A
  item i = record_at c t (at + record_size c * i)

  items_more : (i : ℕ) → items (i + 1) ≡ items i ++ part_of l w p (item i ∷ [])
  items_more i = ap (part_of l w p) (records_more c t at i) ∙ part_append l w p (records_at c t at i) (item i ∷ [])

  items_first : (i n : ℕ) → i ≤ n → length (items i) ≤ length (items n)
  items_first i n h =
      let r = records_parts c t at i n h in
      let e = ap length (ap (part_of l w p) r.is ∙ part_append l w p (records_at c t at i) r.rest) ∙ length-append (items i) (part_of l w p r.rest) in
      omega (arith, e)

  -- the chain that counts
  pub counted : (n : ℕ) → length (filter (λ i. is_in l w p (record_at c t (at + z * i))) (range_with_len 0 n)) ≡ length (items n)
  unfolding records_at part_of
  counted n =
      kept_count (is_in l w p) (λ i. is_in l w p (record_at c t (at + z * i))) n 0 item (λ i. rw (zero-add i, k.size) refl)
      ∙ sym (length-map (keep (is_in l w p) (tabulate n item)) (as_in l w p))

  bytes_more : (i : ℕ) → records_bytes c (items (i + 1)) ≡ records_bytes c (items i) ++ item_bytes c l w p (item i)
  unfolding item_bytes
  bytes_more i = ap (records_bytes c) (items_more i) ∙ bytes_append c (items i) (part_of l w p (item i ∷ []))

  item_place : (i q : ℕ) → q ≡ at + z * i → q ≡ at + record_size c * i
  item_place i q e = rw k.size e

  -- ---- lengths

  item_long : (i : ℕ) → length (item_bytes c l w p (item i)) ≡ z * length (part_of l w p (item i ∷ []))
  item_long i =
      by_bool (is_in l w p (item i))
      (λ h. ap length (sym (item_kept c l w p (item i) h)) ∙ k.width t (at + record_size c * i) w p ∙ sym (ap (λ (x : List A). z * length x) (one_kept l w p (item i) h) ∙ mul-one z))
      (λ h. ap length (sym (item_left c l w p (item i) h)) ∙ sym (ap (λ (x : List A). z * length x) (one_left l w p (item i) h) ∙ mul-zero z))

  pub bytes_long : (i : ℕ) → length (records_bytes c (items i)) ≡ z * length (items i)
  unfolding records_at part_of records_bytes flatten
  bytes_long zero = sym (mul-zero z)
  bytes_long (suc i) =
      let e : suc i ≡ i + 1 = omega arith in
      let a = bytes_long i in
      let b = item_long i in
      let x = ap length (bytes_more i) ∙ length-append (records_bytes c (items i)) (item_bytes c l w p (item i)) in
      let y = ap (λ (v : List A). z * length v) (items_more i) ∙ ap (λ (v : ℕ). z * v) (length-append (items i) (part_of l w p (item i ∷ []))) ∙ mul-add z (length (items i)) (length (part_of l w p (item i ∷ []))) in
      ap (λ (v : ℕ). length (records_bytes c (items v))) e ∙ (x ∙ omega (arith, a, b, y)) ∙ ap (λ (v : ℕ). z * length (items v)) (sym e)

  bytes_in_lem : (i n : ℕ) → i ≤ n → length (records_bytes c (items i)) ≤ z * length (items n)
  bytes_in_lem i n h = let m = mul-le-mul_left z (items_first i n h) in let e = bytes_long i in omega (arith, m, e)

  -- ---- the loop

  module _ (d : List ℕ) (to : ℕ) where
    pub put_first : PutUpTo c l w p t at d to 0 to d
    unfolding records_at part_of records_bytes flatten
    put_first = record { wrote = wrote_none d to; place = omega arith; long = refl }

    module _ {i next : ℕ} {out : List ℕ} (u : PutUpTo c l w p t at d to i next out) where
      pub put_last : (n : ℕ) → i ≡ n → out ≡ overwrite d to (records_bytes c (items n))
      put_last n e = rw e at u.wrote.is

      module _ (n : ℕ) (h : i < n) (room : to + z * length (items n) ≤ length d) (q : ℕ) (e : q ≡ at + z * i) where
        here : record_at c t q ≡ item i
        here = ap (record_at c t) (item_place i q e)

        pub put_room : is_in l w p (record_at c t q) ≡ true → next + z ≤ length out
        put_room s =
            let v : is_in l w p (item i) ≡ true = rw here at s in
            let a = ap length (items_more i ∙ ap (λ (x : List A). items i ++ x) (one_kept l w p (item i) v)) ∙ length-append (items i) (as_in l w p (item i) ∷ []) in
            let b = items_first (i + 1) n (omega arith) in
            let f : suc (length (items i)) ≤ length (items n) = omega (arith, a, b) in
            let m = mul-le-mul_left z f in
            let g = mul-suc z (length (items i)) in
            let o = bytes_long i in
            omega (arith, m, g, o, u.place, u.long, room)

        pub put_more : {next' : ℕ} {out' : List ℕ} → next' ≡ next + length (item_bytes c l w p (record_at c t q)) → out' ≡ overwrite out next (item_bytes c l w p (record_at c t q))
            → PutUpTo c l w p t at d to (i + 1) next' out'
        put_more {next'} {out'} a b =
            let a' : next' ≡ next + length (item_bytes c l w p (item i)) = rw here at a in
            let b' : out' ≡ overwrite out next (item_bytes c l w p (item i)) = rw here at b in
            let m = bytes_more i in
            let x = ap length m ∙ length-append (records_bytes c (items i)) (item_bytes c l w p (item i)) in
            let y = bytes_in_lem (i + 1) n (omega arith) in
            record {
              wrote = rw m (wrote_next u.wrote next (item_bytes c l w p (item i)) b' u.place (omega (arith, u.place, x, y, room)));
              place = omega (arith, a', u.place, x);
              long = ap length b' ∙ length_overwrite out next (item_bytes c l w p (item i)) (omega (arith, u.place, u.long, x, y, room)) ∙ u.long;
            }

-- ---- one item, as the code writes it or leaves it

module _ {A : Type 0} {c : Codec A} {l : Located A} {z : ℕ} (k : Kind c l z) (w : MergeWindow) (p : Part) (t : List ℕ) (q : ℕ) (d : List ℕ) (to : ℕ) where
  pub item_none : is_in l w p (record_at c t q) ≡ false → PutItem c l w p (record_at c t q) to d d to
  item_none h = let e = item_left c l w p (record_at c t q) h in rw (← e) (omega arith, overwrite_nil d to)

  pub item_put : {bs d' : List ℕ} → is_in l w p (record_at c t q) ≡ true → d' ≡ overwrite d to bs → bs ≡ record_bytes c (as_in l w p (record_at c t q))
      → PutItem c l w p (record_at c t q) to d d' (to + z)
  item_put h e b =
      let i = item_kept c l w p (record_at c t q) h in
      (ap (λ (n : ℕ). to + n) (sym (k.width t q w p) ∙ ap length i), e ∙ ap (overwrite d to) (b ∙ i))
