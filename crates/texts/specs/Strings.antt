-- Number 2, the strings of one layer: what a loop over them knows before string i, whose bytes stand at `place`.
use Rattle.std.specs.Prelude.{◌≡◌, ℕ, suc, ◌+◌, ◌≤◌, ◌<◌, Bool, true, false, cond, ◌&&◌, List, [], ◌∷◌, length, get_or, take, drop, Option, Some, None}
use Rattle.std.proofs.Common.{refl, sym, ap, ◌∙◌, arith, add-one, drop-cons, drop-drop, drop_of_length-le}
use Rattle.model.specs.Lists.{all, sum}
use Rattle.model.specs.Utf8.{utf8}
use Rattle.model.specs.Tape.{records_at, record_at, operands_at, string_codec, pieces}
use Rattle.facts.specs.Truth.{both, by_bool}
use Rattle.facts.specs.Lists.{get_d_tabulate}
use Rattle.laws.specs.Records.{run_length}
use Rattle.laws.specs.Utf8.{utf8_behind}
use Rattle.places.specs.Runs.{length_at}

-- strings of these lengths, the first at the head of b
abbrev pub pieces_utf8 : List ℕ → List ℕ → Bool
pieces_utf8 ns b = all utf8 (pieces ns b)

-- the place behind strings that stand at `from`, if each string is UTF-8
unfoldable pub strings_end : List ℕ → List ℕ → ℕ → Option ℕ
strings_end ns d from = cond (pieces_utf8 ns (drop from d)) (Some (from + sum ns)) None

module _ (ns d : List ℕ) (from : ℕ) where
  end_good : pieces_utf8 ns (drop from d) ≡ true → strings_end ns d from ≡ Some (from + sum ns)
  unfolding strings_end
  end_good e = rw e refl

  end_bad : pieces_utf8 ns (drop from d) ≡ false → strings_end ns d from ≡ None
  unfolding strings_end
  end_bad e = rw e refl

  -- what the place says
  module _ {o : Option ℕ} (q : o ≡ strings_end ns d from) where
    pub end_none : ((r : ℕ) → o ≡ Some r → ⊥) → pieces_utf8 ns (drop from d) ≡ false
    end_none n = by_bool (pieces_utf8 ns (drop from d)) (λ e. absurd (n (from + sum ns) (q ∙ end_good e))) (λ e. e)

    pub end_some : {r : ℕ} → o ≡ Some r → (pieces_utf8 ns (drop from d) ≡ true) × (r ≡ from + sum ns)
    end_some {r} s =
        by_bool (pieces_utf8 ns (drop from d)) (λ e. (e, let x : Some r ≡ Some (from + sum ns) = sym s ∙ q ∙ end_good e in cc))
        (λ e. let x : Some r ≡ None = sym s ∙ q ∙ end_bad e in cc)

-- where each string is UTF-8 the bytes behind them decide
pub pieces_behind : (ns b : List ℕ) → pieces_utf8 ns b ≡ true → utf8 b ≡ utf8 (drop (sum ns) b)
unfolding pieces
pieces_behind [] b e = refl
pieces_behind (n ∷ ns) b e =
    let w = both (utf8 (take n b)) (pieces_utf8 ns (drop n b)) e in
    utf8_behind n b w.0 ∙ pieces_behind ns (drop n b) w.1 ∙ ap utf8 (drop-drop (sum ns) n b)

-- ---- the lengths

length_here : (t : List ℕ) (at count i : ℕ) → i < count → get_or (records_at string_codec t at count) i 0 ≡ length_at t at i
unfolding records_at record_at operands_at string_codec
length_here t at count i h = get_d_tabulate count i (length_at t at) 0 h

-- the lengths from string i on
lengths_left : (t : List ℕ) (at count i n : ℕ) → i < count → n ≡ length_at t at i
    → drop i (records_at string_codec t at count) ≡ n ∷ drop (i + 1) (records_at string_codec t at count)
lengths_left t at count i n h e =
    let ns = records_at string_codec t at count in
    let l = run_length string_codec t at count in
    drop-cons ns i 0 (omega (arith, l, h))
    ∙ ap (λ (x : ℕ). x ∷ drop (suc i) ns) (length_here t at count i h ∙ sym e)
    ∙ ap (λ (k : ℕ). n ∷ drop k ns) (sym (add-one i))

-- ---- the loop

pub record StringsLeft (t : List ℕ) (at count : ℕ) (d : List ℕ) (from i place : ℕ) : Type 0 where
  pub is : pieces_utf8 (records_at string_codec t at count) (drop from d) ≡ pieces_utf8 (drop i (records_at string_codec t at count)) (drop place d)
  pub bytes : from + sum (records_at string_codec t at count) ≡ place + sum (drop i (records_at string_codec t at count))
  pub whole : utf8 (drop place d) ≡ true

pub strings_none : (t : List ℕ) (at count : ℕ) (d : List ℕ) (from : ℕ) → utf8 (drop from d) ≡ true → StringsLeft t at count d from 0 from
strings_none t at count d from w = record { is = refl; bytes = refl; whole = w }

module _ {t : List ℕ} {at count : ℕ} {d : List ℕ} {from i place : ℕ} (s : StringsLeft t at count d from i place) where
  module _ {n : ℕ} (h : i < count) (e : n ≡ length_at t at i) where
    pub strings_fit_lem : from + sum (records_at string_codec t at count) ≤ length d → place + n ≤ length d
    strings_fit_lem m = let q = ap sum (lengths_left t at count i n h e) in omega (arith, m, q, s.bytes)

    here : pieces_utf8 (records_at string_codec t at count) (drop from d)
        ≡ (utf8 (take n (drop place d)) && pieces_utf8 (drop (i + 1) (records_at string_codec t at count)) (drop (place + n) d))
    unfolding pieces
    here =
        let ns = drop (i + 1) (records_at string_codec t at count) in
        s.is ∙ ap (λ (x : List ℕ). all utf8 (pieces x (drop place d))) (lengths_left t at count i n h e)
        ∙ ap (λ (x : List ℕ). utf8 (take n (drop place d)) && all utf8 (pieces ns x)) (drop-drop n place d)

    pub strings_bad : {r : Bool} → r ≡ utf8 (take n (drop place d)) → r ≡ false → None ≡ strings_end (records_at string_codec t at count) d from
    strings_bad {r} q f = sym (end_bad _ d from (here ∙ rw (sym q ∙ f) refl))

    pub strings_more : {r : Bool} → r ≡ utf8 (take n (drop place d)) → r ≡ true → StringsLeft t at count d from (i + 1) (place + n)
    strings_more {r} q f =
        let z = ap sum (lengths_left t at count i n h e) in
        record {
          is = here ∙ rw (sym q ∙ f) refl;
          bytes = omega (arith, z, s.bytes);
          whole = ap utf8 (sym (drop-drop n place d)) ∙ sym (utf8_behind n (drop place d) (sym q ∙ f)) ∙ s.whole;
        }

  pub strings_all : count ≤ i → Some place ≡ strings_end (records_at string_codec t at count) d from
  unfolding pieces
  strings_all h =
      let ns = records_at string_codec t at count in
      let l = run_length string_codec t at count in
      let none : drop i ns ≡ [] = drop_of_length-le ns {i = i} (omega (arith, l, h)) in
      let g = end_good ns d from (s.is ∙ ap (λ (x : List ℕ). all utf8 (pieces x (drop place d))) none) in
      let z = ap sum none in
      let p : place ≡ from + sum ns = omega (arith, z, s.bytes) in
      ap (λ (x : ℕ). Some x) p ∙ sym g
