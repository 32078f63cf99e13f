-- The reach at the offsets of a window: each pair's end is noted at the first of them behind its start; the greatest so far at each is the reach.
use Rattle.std.specs.Prelude.{ℕ, zero, suc, ◌+◌, ◌-◌, ◌*◌, ◌/◌, ◌%◌, ◌≤◌, ◌<◌, min, max, ◌≡◌, cond, List, [], ◌∷◌, ◌++◌, length, get_or, set, take, ltb, leb, eqb}
use native.Mathlib.Omega.{arith}
use Rattle.std.proofs.Common.{mod-lt, mod-eq_of_lt, sym, ap, ◌∙◌, length-set, length-append, get_or-set_same, get_or-set_other}
use Rattle.std.proofs.Math.Path.{refl}
use Rattle.std.proofs.Math.ListN.{get_or-append}
use Rattle.std.proofs.lemmas.List.{get_or-replicate, length-replicate}
use borrow.Author.Tests.{lt-ltb, le-ltb, ltb-true, ltb-false, leb-false, le-leb, lt-leb, eq-eqb, ne_eqb, eqb-true, eqb-false}
use Rattle.model.specs.Bytes.{zeros}
use Rattle.model.specs.Types.{PairLink}
use Rattle.model.specs.Tape.{record_at, pair_codec}
use Rattle.facts.specs.Truth.{by_bool}
use Rattle.places.specs.declared.Run.{Run}
use Rattle.cuts.specs.Pairs.{reach, reach_of, pairs_from, pairs_none, pairs_more}

-- a pair noted in the window that begins at `from`: at the first offset behind its start
unfoldable pub noted : List ℕ → ℕ → ℕ → ℕ → List ℕ
noted l from start end = cond (ltb (start + 1 - from) (length l)) (set l (start + 1 - from) (max (get_or l (start + 1 - from) 0) end)) l

-- the greatest end of the pairs that are noted at the offset numbered k
unfoldable pub end_at : List PairLink → ℕ → ℕ → ℕ
end_at [] from k = 0
end_at (p ∷ ps) from k = max (end_at ps from k) (cond (eqb (p.opening.start + 1 - from) k) p.closing.end 0)

pub record Noted (ps : List PairLink) (from : ℕ) (l : List ℕ) : Type 0 where
  pub at : (k : ℕ) → k < length l → get_or l k 0 ≡ end_at ps from k

-- the greatest of the first k
unfoldable pub top_of : List ℕ → ℕ → ℕ
top_of l zero = 0
top_of l (suc k) = max (top_of l k) (get_or l k 0)

pub record Reaches (ps : List PairLink) (from : ℕ) (l : List ℕ) : Type 0 where
  pub at : (k : ℕ) → k < length l → get_or l k 0 ≡ reach ps (from + k)

-- the words: where the window begins, how many offsets it has, the reach at each
pub record Window (ps : List PairLink) (l : List ℕ) : Type 0 where
  pub at : (k : ℕ) → k < get_or l 1 0 → (2 + k < length l) × (get_or l (2 + k) 0 ≡ reach ps (get_or l 0 0 + k))

-- ---- noting

pub noted_zeros : (n from : ℕ) (l : List ℕ) → l ≡ zeros n → Noted [] from l
unfolding end_at
noted_zeros n from l e = record {
  at = λ k h. let z : ℕ = 0 in ap (λ (x : List ℕ). get_or x k 0) e ∙ get_or-replicate n k 0 0 (omega (arith, h, ap length e, length-replicate n z));
}

pub noted_length : (l : List ℕ) (from start end : ℕ) → length (noted l from start end) ≡ length l
unfolding noted
noted_length l from start end =
    by_bool (ltb (start + 1 - from) (length l)) (λ e. rw e (length-set l (start + 1 - from) (max (get_or l (start + 1 - from) 0) end))) (λ e. rw e refl)

-- the code's answers, of the place k
module _ (l : List ℕ) (from start end k : ℕ) (q : k ≡ start + 1 - from) where
  pub noted_past : length l ≤ k → l ≡ noted l from start end
  unfolding noted
  noted_past h = rw (← q, le-ltb k (length l) h) refl

  pub noted_there : k < length l → (x : ℕ) → x ≡ max (get_or l k 0) end → set l k x ≡ noted l from start end
  unfolding noted
  noted_there h x e = rw (← q, lt-ltb k (length l) h, e) refl

noted_at : (l : List ℕ) (from start end k : ℕ) → k < length l → get_or (noted l from start end) k 0 ≡ max (get_or l k 0) (cond (eqb (start + 1 - from) k) end 0)
unfolding noted
noted_at l from start end k h =
    let j = start + 1 - from in
    by_bool (eqb j k)
    (λ e.
    let q = eqb-true j k e in
    let b : j < length l = omega arith in
    rw (lt-ltb j (length l) b, e) (ap (λ (x : ℕ). get_or (set l j (max (get_or l j 0) end)) x 0) (sym q) ∙ get_or-set_same l j (max (get_or l j 0) end) 0 b ∙ ap (λ (x : ℕ). max (get_or l x 0) end) q))
    (λ e.
    let ne = eqb-false j k e in
    by_bool (ltb j (length l))
    (λ f. rw (f, e) (get_or-set_other l j k (max (get_or l j 0) end) 0 (λ z. ne (sym z)) ∙ top_zero (get_or l k 0)))
    (λ f. rw (f, e) (top_zero (get_or l k 0))))
  where
    top_zero : (x : ℕ) → x ≡ max x 0
    top_zero x = omega arith

pub noted_more : (p : PairLink) (ps : List PairLink) (from : ℕ) (l l' : List ℕ) → Noted ps from l → (a b : ℕ) → a ≡ p.opening.start → b ≡ p.closing.end
    → l' ≡ noted l from a b → Noted (p ∷ ps) from l'
unfolding end_at
noted_more p ps from l l' n a b f g e = record {
  at = λ k h.
      let m : k < length l = omega (arith, h, ap length e, noted_length l from a b) in
      ap (λ (x : List ℕ). get_or x k 0) e ∙ noted_at l from a b k m ∙ rw (n.at k m, f, g) refl;
}

pub noted_pairs : (t : List ℕ) (r : Run) (from i : ℕ) (l l' : List ℕ) → Noted (pairs_from t r i) from l → i ≤ r.count → (j : ℕ) → j ≡ i - 1 → 0 < i → (a b : ℕ)
    → a ≡ (record_at pair_codec t (r.at + 18 * j)).opening.start → b ≡ (record_at pair_codec t (r.at + 18 * j)).closing.end
    → l' ≡ noted l from a b → Noted (pairs_from t r j) from l'
noted_pairs t r from i l l' n h j q g a b f e s =
    rw (pairs_more t r i j q g h) (noted_more (record_at pair_codec t (r.at + 18 * j)) (pairs_from t r i) from l l' n a b f e s)

pub noted_start : (t : List ℕ) (r : Run) (from n : ℕ) (l : List ℕ) → l ≡ zeros n → Noted (pairs_from t r r.count) from l
noted_start t r from n l e = rw (pairs_none t r) (noted_zeros n from l e)

-- ---- the greatest so far

-- each word is the greatest of those up to it
pub record Risen (l l' : List ℕ) : Type 0 where
  pub same : length l' ≡ length l
  pub at : (k : ℕ) → k < length l → get_or l' k 0 ≡ top_of l (k + 1)

-- k words are done
pub record Rising (l₀ l : List ℕ) (k far : ℕ) : Type 0 where
  pub within : k ≤ length l₀
  pub same : length l ≡ length l₀
  pub top : far ≡ top_of l₀ k
  pub done : (j : ℕ) → j < k → get_or l j 0 ≡ top_of l₀ (j + 1)
  pub left : (j : ℕ) → k ≤ j → get_or l j 0 ≡ get_or l₀ j 0

pub rising_none : (l : List ℕ) → Rising l l 0 0
unfolding top_of
rising_none l = record { within = omega arith; same = refl; top = refl; done = λ j h. absurd (omega arith); left = λ j h. refl }

top_next : (l : List ℕ) (k : ℕ) → top_of l (k + 1) ≡ max (top_of l k) (get_or l k 0)
unfolding top_of
top_next l k = let q : k + 1 ≡ suc k = omega arith in rw q refl

top_none : (l : List ℕ) → top_of l 0 ≡ 0
unfolding top_of
top_none l = refl

module _ {l₀ l : List ℕ} {k far : ℕ} (w : Rising l₀ l k far) where
  pub rising_more : k < length l₀ → (x : ℕ) → x ≡ max far (get_or l k 0) → Rising l₀ (set l k x) (k + 1) x
  rising_more h x e =
      let q : x ≡ top_of l₀ (k + 1) = e ∙ rw (w.top, w.left k (omega arith)) (sym (top_next l₀ k)) in
      record {
        within = omega arith;
        same = length-set l k x ∙ w.same;
        top = q;
        done = λ j g.
            by_bool (eqb j k)
            (λ t. let s = eqb-true j k t in rw s (get_or-set_same l k x 0 (omega (arith, w.same)) ∙ q))
            (λ t. let ne = eqb-false j k t in get_or-set_other l k j x 0 ne ∙ w.done j (omega (arith, ne)));
        left = λ j g. get_or-set_other l k j x 0 (λ z. omega arith) ∙ w.left j (omega arith);
      }

-- ---- the greatest so far of the ends is the reach

end_first : (ps : List PairLink) (from : ℕ) → max 0 (end_at ps from 0) ≡ reach ps (from + 0)
unfolding end_at reach reach_of
end_first [] from = refl
end_first (p ∷ ps) from =
    let a = p.opening.start in
    let q : from + 0 ≡ from = omega arith in
    let ih : max 0 (end_at ps from 0) ≡ reach ps from = end_first ps from ∙ ap (reach ps) q in
    by_bool (ltb a from)
    (λ e. rw (q, e, eq-eqb (a + 1 - from) 0 (omega (arith, ltb-true a from e))) (omega (arith, ih)))
    (λ e. rw (q, e, ne_eqb (a + 1 - from) 0 (λ z. omega (arith, ltb-false a from e))) (omega (arith, ih)))

end_next : (ps : List PairLink) (from k : ℕ) → max (reach ps (from + k)) (end_at ps from (suc k)) ≡ reach ps (from + suc k)
unfolding end_at reach reach_of
end_next [] from k = refl
end_next (p ∷ ps) from k =
    let a = p.opening.start in
    let ih = end_next ps from k in
    by_bool (ltb a (from + k))
    (λ e.
    let h = ltb-true a (from + k) e in
    rw (e, lt-ltb a (from + suc k) (omega arith), ne_eqb (a + 1 - from) (suc k) (λ z. omega arith)) (omega (arith, ih)))
    (λ e.
    let h = ltb-false a (from + k) e in
    by_bool (ltb a (from + suc k))
    (λ f. let g = ltb-true a (from + suc k) f in rw (e, f, eq-eqb (a + 1 - from) (suc k) (omega arith)) (omega (arith, ih)))
    (λ f. let g = ltb-false a (from + suc k) f in rw (e, f, ne_eqb (a + 1 - from) (suc k) (λ z. omega arith)) (omega (arith, ih))))

module _ (ps : List PairLink) (from : ℕ) (l : List ℕ) (n : Noted ps from l) where
  top_reach : (k : ℕ) → k < length l → top_of l (k + 1) ≡ reach ps (from + k)
  top_reach zero h = top_next l 0 ∙ rw (top_none l, n.at 0 h) (end_first ps from)
  top_reach (suc k) h =
      let q : suc k ≡ k + 1 = omega arith in
      let e : top_of l (suc k) ≡ reach ps (from + k) = ap (top_of l) q ∙ top_reach k (omega arith) in
      top_next l (suc k) ∙ rw (e, n.at (suc k) h) (end_next ps from k)

  pub reaches_of : (l' : List ℕ) → Risen l l' → Reaches ps from l'
  reaches_of l' r = record { at = λ k h. let b : k < length l = omega (arith, r.same) in r.at k b ∙ top_reach k b }

-- ---- the window

pub no_window : (ps : List PairLink) (l : List ℕ) → length l < 2 → Window ps l
no_window ps [] h = record { at = λ k b. absurd (omega arith) }
no_window ps (x ∷ []) h = record { at = λ k b. absurd (omega arith) }
no_window ps (x ∷ y ∷ l) h = absurd (omega arith)

pub window_gone : (ps : List PairLink) (l : List ℕ) → 2 ≤ length l → Window ps (set l 1 0)
window_gone ps l h = record { at = λ k b. absurd (omega (arith, b, get_or-set_same l 1 0 0 (omega arith))) }

-- filled: the two words in front, then the part
pub window_filled : (ps : List PairLink) (l ys zs : List ℕ) (from size : ℕ) → 2 ≤ length l → length ys ≡ size → Reaches ps from ys
    → (d m : List ℕ) → d ≡ set (set l 0 from) 1 size → m ≡ take 2 d ++ (ys ++ zs) → Window ps m × (get_or m 0 0 ≡ from) × (get_or m 1 0 ≡ size)
window_filled ps [] ys zs from size h e r d m s q = absurd (omega arith)
window_filled ps (x ∷ []) ys zs from size h e r d m s q = absurd (omega arith)
window_filled ps (x ∷ y ∷ l) ys zs from size h e r d m s q = rw (q, s) (
  record { at = λ k b. (simp length-append (omega arith), let g : 2 + k ≡ suc (suc k) = omega arith in rw g (get_or-append ys zs 0 k (omega arith) ∙ r.at k (omega arith))) },
  refl,
  refl,
)

module _ {ps : List PairLink} {l : List ℕ} (w : Window ps l) (o : ℕ) where
  -- the window was filled for it
  pub window_here : (from size j : ℕ) → get_or l 0 0 ≡ from → get_or l 1 0 ≡ size → j < size → from + j ≡ o → (2 + j < length l) × (get_or l (2 + j) 0 ≡ reach ps o)
  window_here from size j e f h s = let v = w.at j (omega arith) in (v.0, v.1 ∙ ap (reach ps) (ap (λ (x : ℕ). x + j) e ∙ s))

-- how many offsets the next window has: sixteen times as many, as far as there are words
unfoldable pub next_size : ℕ → ℕ → ℕ
next_size room size = cond (leb (room / 16) size) room (16 * size + 1)

module _ (room size : ℕ) where
  pub size_all : room / 16 ≤ size → room ≡ next_size room size
  unfolding next_size
  size_all h = rw (le-leb (room / 16) size h) refl

  pub size_grows : size < room / 16 → 16 * size + 1 ≡ next_size room size
  unfolding next_size
  size_grows h = rw (lt-leb (room / 16) size h) refl

  pub size_fits : 1 ≤ room → (1 ≤ next_size room size) × (next_size room size ≤ room)
  unfolding next_size
  size_fits h =
      by_bool (leb (room / 16) size)
      (λ e. rw e (h, omega arith))
      (λ e. let b = leb-false (room / 16) size e in rw e (omega arith, omega arith))

-- the window that is filled for an offset: it fits into the words, and the offset lies in it
pub window_fits : (len room size n o : ℕ) → 3 ≤ len → room ≡ min (len - 2) 16777216 → n ≡ next_size room size
    → (0 < n) × (2 + n ≤ len) × (n < 4294967296) × (o % n < n) × (o % n ≤ o)
window_fits len room size n o h q e =
    let f = size_fits room size (omega arith) in
    let m = mod-lt o {m = n} (omega (arith, f, e)) in
    let l : o % n ≤ o
    = by_bool (ltb o n) (λ t. let s = mod-eq_of_lt (ltb-true o n t) in omega (arith, s)) (λ t. omega (arith, m, ltb-false o n t)) in
    (omega (arith, f, e), omega (arith, f, e), omega (arith, f, e), m, l)
