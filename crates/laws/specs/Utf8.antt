-- A text of which a part between two characters is replaced by UTF-8 is UTF-8, and which parts of UTF-8 are. Number 2.
use Rattle.std.specs.Prelude.{◌≡◌, refl, ℕ, ◌+◌, ◌≤◌, Bool, true, false, not, ◌&&◌, List, [], ◌∷◌, ◌++◌, length, get_or, take, drop, leb}
use Rattle.std.proofs.Common.{sym, ap, ◌∙◌, arith, add-zero, take-append-drop, get_or-drop, leb-true, le-leb, ne_eqb}
use Rattle.std.proofs.Math.Bool.{and-false}
use Rattle.std.proofs.lemmas.Bool.{false≢true, not-true, lt-leb}
use Rattle.model.specs.Utf8.{within, Utf8State, Utf8State.between, Utf8State.tail1, Utf8State.tail2, Utf8State.tail3, Utf8State.after_e0, Utf8State.after_ed, Utf8State.after_f0, Utf8State.after_f4, Utf8State.bad, utf8_first, utf8_step, utf8_from, is_between, utf8, is_char_boundary}
use Rattle.facts.specs.Truth.{both, join}
use Rattle.laws.specs.Splice.{splice}

from_append : (s : Utf8State) (a b : List ℕ) → utf8_from s (a ++ b) ≡ utf8_from (utf8_from s a) b
unfolding utf8_from
from_append s [] b = refl
from_append s (x ∷ a) b = from_append (utf8_step s x) a b

-- no UTF-8 stays none
bad_stays : (bs : List ℕ) → utf8_from bad bs ≡ bad
unfolding utf8_from utf8_step
bad_stays [] = refl
bad_stays (b ∷ bs) = bad_stays bs

-- no byte of a range inside 80..BF
not_within : (lo hi c : ℕ) → 0x80 ≤ lo → hi ≤ 0xbf → within 0x80 0xbf c ≡ false → within lo hi c ≡ false
not_within lo hi c h k e = go (leb lo c) refl (leb c hi) refl
  where
    go : (x : Bool) → leb lo c ≡ x → (y : Bool) → leb c hi ≡ y → x && y ≡ false
    go true p true q =
        let a = leb-true lo c p in
        let b = leb-true c hi q in
        absurd (false≢true (sym e ∙ join (leb 0x80 c) (leb c 0xbf) (le-leb 0x80 c (omega arith)) (le-leb c 0xbf (omega arith))))
    go true p false q = refl
    go false p y q = refl

-- a byte that is none of 80..BF is wrong in the middle of a character
step_bad : (s : Utf8State) (c : ℕ) → within 0x80 0xbf c ≡ false → (s ≡ between → ⊥) → utf8_step s c ≡ bad
unfolding utf8_step
step_bad between c e n = absurd (n refl)
step_bad tail1 c e n = rw e
step_bad tail2 c e n = rw e
step_bad tail3 c e n = rw e
step_bad after_e0 c e n = rw (not_within 0xa0 0xbf c (omega arith) (omega arith) e)
step_bad after_ed c e n = rw (not_within 0x80 0x9f c (omega arith) (omega arith) e)
step_bad after_f0 c e n = rw (not_within 0x90 0xbf c (omega arith) (omega arith) e)
step_bad after_f4 c e n = rw (not_within 0x80 0x8f c (omega arith) (omega arith) e)
step_bad bad c e n = refl

is_between_lem : (s : Utf8State) → is_between s ≡ true → s ≡ between
unfolding is_between
is_between_lem between e = refl
is_between_lem tail1 e = absurd (false≢true e)
is_between_lem tail2 e = absurd (false≢true e)
is_between_lem tail3 e = absurd (false≢true e)
is_between_lem after_e0 e = absurd (false≢true e)
is_between_lem after_ed e = absurd (false≢true e)
is_between_lem after_f0 e = absurd (false≢true e)
is_between_lem after_f4 e = absurd (false≢true e)
is_between_lem bad e = absurd (false≢true e)

-- a state from which bytes that begin a character, or none, end between characters
starts_between : (s : Utf8State) (l : List ℕ) → is_between (utf8_from s l) ≡ true → within 0x80 0xbf (get_or l 0 0) ≡ false → s ≡ between
unfolding utf8_from is_between
starts_between s [] w e = is_between_lem s w
starts_between s (c ∷ l) w e = go (is_between s) refl
  where
    wrong : (s ≡ between → ⊥) → false ≡ true
    wrong n = sym (ap is_between (ap (λ (x : Utf8State). utf8_from x l) (step_bad s c e n) ∙ bad_stays l)) ∙ w

    go : (t : Bool) → is_between s ≡ t → s ≡ between
    go true q = is_between_lem s q
    go false q = absurd (false≢true (wrong (λ p. false≢true (sym q ∙ ap is_between p))))

-- between two characters nothing is asked for
boundary_state : (t : List ℕ) (a : ℕ) → utf8 t ≡ true → is_char_boundary t a ≡ true → utf8_from between (take a t) ≡ between
unfolding utf8 is_char_boundary
boundary_state t a u b =
    let whole : is_between (utf8_from (utf8_from between (take a t)) (drop a t)) ≡ true =
    ap is_between (sym (from_append between (take a t) (drop a t)) ∙ ap (utf8_from between) (take-append-drop a t)) ∙ u in
    let here : get_or (drop a t) 0 0 ≡ get_or t a 0 = get_or-drop a t 0 0 ∙ ap (λ (k : ℕ). get_or t k 0) (add-zero a) in
    let free = not-true (within 0x80 0xbf (get_or t a 0)) (both (leb a (length t)) (not (within 0x80 0xbf (get_or t a 0))) b).1 in
    starts_between (utf8_from between (take a t)) (drop a t) whole (ap (within 0x80 0xbf) here ∙ free)

pub splice_utf8 : (a b : ℕ) (r t : List ℕ) → utf8 t ≡ true → utf8 r ≡ true → is_char_boundary t a ≡ true → is_char_boundary t b ≡ true → utf8 (splice a b r t) ≡ true
unfolding utf8
splice_utf8 a b r t u v p q =
    let rest : utf8_from between (drop b t) ≡ utf8_from between t =
    ap (λ (s : Utf8State). utf8_from s (drop b t)) (sym (boundary_state t b u q)) ∙ sym (from_append between (take b t) (drop b t)) ∙ ap (utf8_from between) (take-append-drop b t) in
    ap is_between
    (from_append between (take a t) (r ++ drop b t) ∙ ap (λ (s : Utf8State). utf8_from s (r ++ drop b t)) (boundary_state t a u p)
    ∙ from_append between r (drop b t) ∙ ap (λ (s : Utf8State). utf8_from s (drop b t)) (is_between_lem (utf8_from between r) v) ∙ rest)
    ∙ u

-- ---- parts of a text

-- behind UTF-8 the rest decides
pub utf8_append : (a b : List ℕ) → utf8 a ≡ true → utf8 (a ++ b) ≡ utf8 b
unfolding utf8
utf8_append a b u = ap is_between (from_append between a b ∙ ap (λ (s : Utf8State). utf8_from s b) (is_between_lem (utf8_from between a) u))

pub utf8_behind : (n : ℕ) (t : List ℕ) → utf8 (take n t) ≡ true → utf8 t ≡ utf8 (drop n t)
utf8_behind n t u = ap utf8 (sym (take-append-drop n t)) ∙ utf8_append (take n t) (drop n t) u

-- 80..BF begins no character
tail_first : (c : ℕ) → within 0x80 0xbf c ≡ true → utf8_first c ≡ bad
unfolding utf8_first
tail_first c e =
    let w = both (leb 0x80 c) (leb c 0xbf) e in
    let l = leb-true 0x80 c w.0 in
    let h = leb-true c 0xbf w.1 in
    rw (
      lt-leb c 0x7f (omega arith),
      and-false,
      lt-leb 0xc2 c (omega arith),
      ne_eqb c 0xe0 (λ k. omega arith),
      lt-leb 0xe1 c (omega arith),
      ne_eqb c 0xed (λ k. omega arith),
      lt-leb 0xee c (omega arith),
      ne_eqb c 0xf0 (λ k. omega arith),
      lt-leb 0xf1 c (omega arith),
      ne_eqb c 0xf4 (λ k. omega arith),
    )
    refl

tail_bad : (l : List ℕ) → within 0x80 0xbf (get_or l 0 0) ≡ true → is_between (utf8_from between l) ≡ false
unfolding utf8_from utf8_step is_between
tail_bad [] e = absurd (false≢true e)
tail_bad (c ∷ l) e = ap is_between (ap (λ (s : Utf8State). utf8_from s l) (tail_first c e) ∙ bad_stays l)

-- the first n bytes of UTF-8 are UTF-8 where no character lies across
start_utf8 : (n : ℕ) (t : List ℕ) → utf8 t ≡ true → not (within 0x80 0xbf (get_or t n 0)) ≡ utf8 (take n t)
unfolding utf8 is_between
start_utf8 n t u = go (within 0x80 0xbf (get_or t n 0)) refl (is_between state) refl
  where
    state : Utf8State
    state = utf8_from between (take n t)

    whole : is_between (utf8_from state (drop n t)) ≡ true
    whole = ap is_between (sym (from_append between (take n t) (drop n t)) ∙ ap (utf8_from between) (take-append-drop n t)) ∙ u

    here : get_or (drop n t) 0 0 ≡ get_or t n 0
    here = get_or-drop n t 0 0 ∙ ap (λ (k : ℕ). get_or t k 0) (add-zero n)

    go : (w : Bool) → within 0x80 0xbf (get_or t n 0) ≡ w → (x : Bool) → is_between state ≡ x → not w ≡ x
    go true e true q =
        absurd (false≢true (sym (tail_bad (drop n t) (ap (within 0x80 0xbf) here ∙ e)) ∙ ap (λ (s : Utf8State). is_between (utf8_from s (drop n t))) (sym (is_between_lem state q)) ∙ whole))
    go true e false q = refl
    go false e x q = sym (sym q ∙ ap is_between (starts_between state (drop n t) whole (ap (within 0x80 0xbf) here ∙ e)))

-- the same of the bytes from a on
pub part_utf8 : (a n : ℕ) (t : List ℕ) → a + n ≤ length t → utf8 (drop a t) ≡ true → is_char_boundary t (a + n) ≡ utf8 (take n (drop a t))
unfolding is_char_boundary
part_utf8 a n t h u = rw (le-leb (a + n) (length t) h) (ap (λ (k : ℕ). not (within 0x80 0xbf k)) (sym (get_or-drop a t n 0)) ∙ start_utf8 n (drop a t) u)
