-- Section 3. A resolved string is shown as a part of the old string bytes or of the new layer's, chosen by its id.
use Rattle.std.specs.Prelude.{◌≡◌, ℕ, suc, ◌+◌, ◌-◌, ◌≤◌, ◌<◌, ◌^◌, cond, List, ◌++◌, take, drop, ltb}
use Rattle.std.proofs.Math.Path.{refl, sym, ap}
use Rattle.std.proofs.Common.{ap₂, ◌∙◌, arith, length-drop, length-take-le, take-take, get_or-take, get_or-drop, lt-ltb, le-ltb, ltb-true, ltb-false}
use Rattle.std.proofs.Math.ListN.{length, get_or}
use Rattle.std.proofs.lemmas.List.{take-append-le, drop-append-le}
use Rattle.std.proofs.Math.Seq.{drop-append-add}
use Rattle.model.specs.Lists.{sum}
use Rattle.model.specs.Bytes.{part}
use Rattle.model.specs.Store.{resolve_str, string_span, shown_part}
use Rattle.model.specs.Tape.{places}
use Rattle.facts.specs.Truth.{by_bool}
use Rattle.places.specs.Found.{strings_in}
use Rattle.store.specs.declared.Store.{Store}
use Rattle.store.specs.Pools.{before_mono, before_next, before_most, pool_start_or}
use Rattle.store.specs.Standing.{string_start, string_pool, length_at, string_at_lem}
use Rattle.strings.specs.Starts.{lengths_in, start_in, store_in, OfTape, Readable, sum_between, strings_count}
use Rattle.strings.specs.Index.{Indexed}

-- ---- definitions

-- how many strings stand in all layers but the last
abbrev pub old_strings : Store → ℕ
old_strings st = string_start st (st.layers - 1)

-- `old` are the bytes of the strings of all layers but the last, `new` those of the last layer's.
pub record TwoSides (t : List ℕ) (st : Store) (old new : List ℕ) : Type 0 where
  pub store : OfTape t st
  pub layers : 0 < st.layers
  pub olds : length old ≡ start_in t (old_strings st)
  pub whole : length old + length new ≡ sum (lengths_in t)

-- what `resolve_str` asks
pub record Resolvable (t : List ℕ) (st : Store) (words old new : List ℕ) : Type 0 where
  pub sides : TwoSides t st old new
  pub indexed : Indexed (lengths_in t) words
  pub small : length old + length new < 2 ^ 63

-- Section 3. The string of a tape's store, shown as a part of one of the two.
abbrev pub shown_in : List ℕ → Store → List ℕ → List ℕ → ℕ → List ℕ
shown_in t st old new id = shown_part (take (old_strings st) (lengths_in t)) old (drop (old_strings st) (lengths_in t)) new id

-- a string of n bytes that begins at `start`, where the new side begins behind the old
unfoldable pub part_of : List ℕ → List ℕ → ℕ → ℕ → ℕ → ℕ → List ℕ
part_of old new olds id start n = cond (ltb id olds) (part old start n) (part new (start - length old) n)

-- and lies in one of the two
pub record Lies (old new : List ℕ) (olds id start n : ℕ) : Type 0 where
  pub first : id < olds → start + n ≤ length old
  pub second : olds ≤ id → length old ≤ start
  pub within : start + n ≤ length old + length new

module _ (old new : List ℕ) (olds id start n : ℕ) where
  part_old : id < olds → part old start n ≡ part_of old new olds id start n
  unfolding part_of
  part_old h = rw (lt-ltb id olds h) refl

  part_new : olds ≤ id → part new (start - length old) n ≡ part_of old new olds id start n
  unfolding part_of
  part_new h = rw (le-ltb id olds h) refl

  -- the returns of `resolve`, whose parts are n long
  pub cut_old : id < olds → part old start (start + n - start) ≡ part_of old new olds id start n
  cut_old h = let e : start + n - start ≡ n = omega arith in ap (part old start) e ∙ part_old h

  pub cut_new : olds ≤ id → (at : ℕ) → at ≡ start - length old → part new at (at + n - at) ≡ part_of old new olds id start n
  cut_new h at q = let e : at + n - at ≡ n = omega arith in ap₂ (λ (x y : ℕ). part new x y) q e ∙ part_new h

-- ---- one part of both

part_joined : {old new : List ℕ} {olds id start n : ℕ} → Lies old new olds id start n → part_of old new olds id start n ≡ part (old ++ new) start n
part_joined {old} {new} {olds} {id} {start} {n} l =
    by_bool (ltb id olds)
    (λ e.
    let m = l.first (ltb-true id olds e) in
    let d = length-drop start old in
    sym (part_old old new olds id start n (ltb-true id olds e))
    ∙ sym (take-append-le n (drop start old) new (omega (arith, m, d)))
    ∙ ap (take n) (sym (drop-append-le start old new (omega (arith, m)))))
    (λ e.
    let m = l.second (ltb-false id olds e) in
    let q : length old + (start - length old) ≡ start = omega (arith, m) in
    sym (part_new old new olds id start n (ltb-false id olds e))
    ∙ ap (take n) (sym (drop-append-add old new (start - length old)))
    ∙ ap (λ (k : ℕ). part (old ++ new) k n) q)

-- ---- the model's part, of strings with these lengths and bytes on each side

module _ (lengths old fresh new : List ℕ) (id start n : ℕ) where
  shown_old : id < length lengths → start ≡ sum (take id lengths) → n ≡ get_or lengths id 0 → part old start n ≡ shown_part lengths old fresh new id
  unfolding shown_part string_span
  shown_old h e f =
      let d : n ≡ sum (take id lengths) + get_or lengths id 0 - sum (take id lengths) = omega (arith, f) in
      rw (lt-ltb id (length lengths) h) (ap₂ (λ (x y : ℕ). part old x y) e d)

  shown_new : length lengths ≤ id → start ≡ sum (take (id - length lengths) fresh) → n ≡ get_or fresh (id - length lengths) 0
      → part new start n ≡ shown_part lengths old fresh new id
  unfolding shown_part string_span
  shown_new h e f =
      let i = id - length lengths in
      let d : n ≡ sum (take i fresh) + get_or fresh i 0 - sum (take i fresh) = omega (arith, f) in
      rw (le-ltb id (length lengths) h) (ap₂ (λ (x y : ℕ). part new x y) e d)

-- ---- the strings of a tape

module _ {t : List ℕ} {st : Store} {old new : List ℕ} (s : TwoSides t st old new) where
  olds_few : old_strings st ≤ length (lengths_in t)
  olds_few =
      let p = string_pool t st s.store.stored in
      let e = pool_start_or p (st.layers - 1) in
      let m = before_most (strings_in (places t).layers) (st.layers - 1) in
      let n = strings_count s.store in
      omega (arith, e, m, n, p.all)

  module _ (id : ℕ) {olds start n : ℕ} (o : olds ≡ old_strings st) (e : start ≡ start_in t id) (f : n ≡ get_or (lengths_in t) id 0) where
    pub string_lies : Lies old new olds id start n
    string_lies =
        let next = before_next (lengths_in t) id in
        let most = before_most (lengths_in t) (suc id) in
        record {
          first = λ h. let m = before_mono (lengths_in t) (suc id) (old_strings st) (omega (arith, h, o)) in omega (arith, next, m, e, f, s.olds);
          second = λ h. let m = before_mono (lengths_in t) (old_strings st) id (omega (arith, h, o)) in omega (arith, m, e, s.olds);
          within = omega (arith, next, most, e, f, s.whole);
        }

    pub string_shown : part_of old new olds id start n ≡ shown_in t st old new id
    string_shown =
        let ns = lengths_in t in
        let k = old_strings st in
        let l : length (take k ns) ≡ k = length-take-le k ns olds_few in
        by_bool (ltb id olds)
        (λ b.
        let h : id < k = let m = ltb-true id olds b in omega (arith, m, o) in
        sym (part_old old new olds id start n (ltb-true id olds b))
        ∙ shown_old (take k ns) old (drop k ns) new id start n (omega (arith, h, l))
        (e ∙ ap sum (sym (take-take id k ns (omega (arith, h)))))
        (f ∙ sym (get_or-take k ns id 0 h)))
        (λ b.
        let h : k ≤ id = let m = ltb-false id olds b in omega (arith, m, o) in
        let q : k + (id - k) ≡ id = omega (arith, h) in
        let z = sum_between ns k id h in
        let x = ap (λ (y : ℕ). sum (take (id - y) (drop k ns))) l in
        sym (part_new old new olds id start n (ltb-false id olds b))
        ∙ shown_new (take k ns) old (drop k ns) new id (start - length old) n (omega (arith, h, l))
        (omega (arith, z, x, e, s.olds))
        (f ∙ ap (λ (y : ℕ). get_or ns y 0) (sym q) ∙ sym (get_or-drop k ns (id - k) 0) ∙ ap (λ (y : ℕ). get_or (drop k ns) (id - y) 0) (sym l)))

  -- What is shown is the model's string.
  pub shown_str : (id : ℕ) → id < st.totals.strings → shown_in t st old new id ≡ resolve_str (store_in t (old ++ new)) id
  unfolding resolve_str
  shown_str id h =
      sym (string_shown id refl refl refl)
      ∙ part_joined (string_lies id refl refl refl)
      ∙ ap (λ (n : ℕ). part (old ++ new) (start_in t id) n) (length_at t st s.store.stored id h)
      ∙ sym (string_at_lem t st s.store.stored (old ++ new) id h)

-- the bytes of all strings, parted
pub two_sides : {t : List ℕ} {st : Store} → OfTape t st → 0 < st.layers → (b : List ℕ) → length b ≡ sum (lengths_in t)
    → TwoSides t st (take (start_in t (old_strings st)) b) (drop (start_in t (old_strings st)) b)
two_sides {t} {st} f h b e =
    let n = start_in t (old_strings st) in
    let m = before_most (lengths_in t) (old_strings st) in
    let l : length (take n b) ≡ n = length-take-le n b (omega (arith, m, e)) in
    let r = length-drop n b in
    record { store = f; layers = h; olds = l; whole = omega (arith, l, r, m, e) }

pub span_of_start : (lengths : List ℕ) (id : ℕ) {r : ℕ} → r ≡ (string_span lengths id).start → r ≡ sum (take id lengths)
unfolding string_span
span_of_start lengths id e = e

pub sides_readable : {t : List ℕ} {st : Store} {words old new : List ℕ} → Resolvable t st words old new → Readable t st (length old + length new)
sides_readable r = record { store = r.sides.store; bytes = omega (arith, r.sides.whole); small = r.small }

-- by another index
pub by_index : {t : List ℕ} {st : Store} {words old new : List ℕ} → Resolvable t st words old new → {index : List ℕ} → Indexed (lengths_in t) index
    → Resolvable t st index old new
by_index r i = record { sides = r.sides; indexed = i; small = r.small }
