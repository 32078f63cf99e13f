-- What is left of a room, where what is found in place is taken off it.
use Rattle.std.specs.Prelude.{◌≡◌, refl, ℕ, zero, suc, ◌+◌, ◌-◌, ◌≤◌, ◌<◌, ◌^◌, Bool, true, false, cond, ◌&&◌, leb, Option, Some, None, IsSome}
use Rattle.std.proofs.Math.Path.{sym, ap}
use Rattle.std.proofs.Common.{ap₂, ◌∙◌, add-zero, arith, true≢false}
use Rattle.std.proofs.Math.Bool.{and-false}
use borrow.Author.Tests.{le-leb, lt-leb, leb-true, leb-false}
use Rattle.model.specs.Lists.{tabulate}
use Rattle.facts.specs.Truth.{leb_left, both, by_bool}
use Rattle.sizes.specs.Added.{Added, nothing, add, add_all, add_nothing, add_comm}
use Rattle.sizes.specs.declared.Room.{Room}
use Rattle.sizes.specs.declared.Left.{Left}
use Rattle.sizes.specs.declared.Sizes.{Sizes}

-- is there room for so much?
unfoldable pub fits : Room → Added → Bool
fits m a = leb a.contents m.contents && leb a.segments m.segments

-- Number 3. None exactly if there is not room for so much; else the numbers themselves.
unfoldable pub sizes_in : Room → Added → Option Sizes
sizes_in m a = cond (fits m a) (Some (record { contents = a.contents; segments = a.segments; calls = a.calls })) None

abbrev pub room_of : Left → Room
room_of t = record { contents = t.contents; segments = t.segments }

-- what is left; a count of calls stops at 0
abbrev pub remainder : Left → Added → Left
remainder t a = record { contents = t.contents - a.contents; segments = t.segments - a.segments; calls = t.calls - a.calls }

-- so much taken off
unfoldable pub less : Left → Added → Option Left
less t a = cond (fits (room_of t) a) (Some (remainder t a)) None

-- ---- what is left

pub fits_room_lem : (m : Room) (a : Added) → fits m a ≡ true → (a.contents ≤ m.contents) × (a.segments ≤ m.segments)
unfolding fits
fits_room_lem m a h =
    let b = both (leb a.contents m.contents) (leb a.segments m.segments) h in
    (leb-true a.contents m.contents b.0, leb-true a.segments m.segments b.1)

both_or : (a b : Bool) → (a && b) ≡ false → (x y : Bool) → (a ≡ false → x ≡ false) → (b ≡ false → y ≡ false) → (x && y) ≡ false
both_or true b h x y f g = rw (g h, and-false) refl
both_or false b h x y f g = rw (f refl) refl

less_leb : (n m k : ℕ) → leb n m ≡ false → leb (n + k) m ≡ false
less_leb n m k h = let l = leb-false n m h in lt-leb (n + k) m (omega (arith, l))

fits_add : (m : Room) (a b : Added) → fits m a ≡ false → fits m (add a b) ≡ false
unfolding fits add
fits_add m a b h =
    both_or (leb a.contents m.contents) (leb a.segments m.segments) h
    (leb (a.contents + b.contents) m.contents) (leb (a.segments + b.segments) m.segments)
    (less_leb a.contents m.contents b.contents) (less_leb a.segments m.segments b.segments)

-- where there is room for a sum, there is room for its parts
pub fits_left : (m : Room) (a b : Added) → fits m (add a b) ≡ true → fits m a ≡ true
fits_left m a b h = by_bool (fits m a) (λ x. x) (λ x. absurd (true≢false (sym h ∙ fits_add m a b x)))

pub fits_right : (m : Room) (a b : Added) → fits m (add a b) ≡ true → fits m b ≡ true
fits_right m a b h = fits_left m b a (sym (ap (fits m) (add_comm a b)) ∙ h)

-- what the answer says
pub less_some : (t : Left) (a : Added) {u : Left} → Some u ≡ less t a → (fits (room_of t) a ≡ true) × (u ≡ remainder t a)
unfolding less
less_some t a {u} e =
    by_bool (fits (room_of t) a)
    (λ f. (f, let q : Some u ≡ Some (remainder t a) = rw f at e in cc))
    (λ f. let q : Some u ≡ None = rw f at e in cc)

pub less_none : (t : Left) (a : Added) → None ≡ less t a → fits (room_of t) a ≡ false
unfolding less
less_none t a e =
    by_bool (fits (room_of t) a) (λ f. let q : None ≡ Some (remainder t a) = rw f at e in cc) (λ f. f)

pub less_nothing : (t : Left) → less t nothing ≡ Some t
unfolding less fits
less_nothing t =
    let x : t.contents - 0 ≡ t.contents = omega arith in
    let y : t.segments - 0 ≡ t.segments = omega arith in
    let z : t.calls - 0 ≡ t.calls = omega arith in
    rw (le-leb 0 t.contents (omega arith), le-leb 0 t.segments (omega arith)) (λ i. Some (record { contents = x i; segments = y i; calls = z i }))

fits_then : (t : Left) (a b : Added) → fits (room_of t) a ≡ true → fits (room_of (remainder t a)) b ≡ fits (room_of t) (add a b)
unfolding fits add
fits_then t a b h =
    let l = fits_room_lem (room_of t) a h in
    ap₂ (λ (x y : Bool). x && y) (leb_left a.contents b.contents t.contents l.0) (leb_left a.segments b.segments t.segments l.1)

-- so much, and then so much more
pub less_then : (t : Left) (a : Added) {u : Left} → Some u ≡ less t a → (b : Added) → less u b ≡ less t (add a b)
unfolding less add
less_then t a {u} e b =
    let w = less_some t a e in
    let x : t.contents - a.contents - b.contents ≡ t.contents - (a.contents + b.contents) = omega arith in
    let y : t.segments - a.segments - b.segments ≡ t.segments - (a.segments + b.segments) = omega arith in
    let z : t.calls - a.calls - b.calls ≡ t.calls - (a.calls + b.calls) = omega arith in
    ap (λ (v : Left). less v b) w.1 ∙ λ i. cond (fits_then t a b w.0 i) (Some (record { contents = x i; segments = y i; calls = z i })) None

-- where there is no room for so much, there is none for more
pub less_stop : (t : Left) (a : Added) → None ≡ less t a → (b : Added) → None ≡ less t (add a b)
unfolding less
less_stop t a e b = rw (fits_add (room_of t) a b (less_none t a e)) refl

-- ---- the code's answers

module _ (t : Left) (a : Added) where
  pub less_contents : t.contents < a.contents → None ≡ less t a
  unfolding less fits
  less_contents l = rw (lt-leb a.contents t.contents l) refl

  pub less_segments : t.segments < a.segments → None ≡ less t a
  unfolding less fits
  less_segments l = rw (lt-leb a.segments t.segments l, and-false) refl

  pub less_exact : (u : Left) → (a.contents ≤ t.contents) × (u.contents ≡ t.contents - a.contents) → (a.segments ≤ t.segments) × (u.segments ≡ t.segments - a.segments) → u.calls ≡ t.calls - a.calls
      → Some u ≡ less t a
  unfolding less fits
  less_exact u x y z = rw (le-leb a.contents t.contents x.0, le-leb a.segments t.segments y.0) (λ i. Some (record { contents = x.1 i; segments = y.1 i; calls = z i }))

-- ---- any number of items

abbrev pub any_left : Left
any_left = record { contents = 4294967295; segments = 4294967295; calls = 4294967295 }

module _ (a : Added) (x : a.contents < 2 ^ 32) (y : a.segments < 2 ^ 32) {r : Option Left} (e : r ≡ less any_left a) where
  exact : r ≡ Some (remainder any_left a)
  unfolding less fits
  exact = e ∙ rw (le-leb a.contents 4294967295 (omega (arith, x)), le-leb a.segments 4294967295 (omega (arith, y))) refl

  pub inner_some : IsSome r
  inner_some = rw exact refl

  module _ {u : Left} (is : r ≡ Some u) where
    left_is : u ≡ remainder any_left a
    left_is = let q : Some u ≡ Some (remainder any_left a) = sym is ∙ exact in cc

    pub inner_contents : 4294967295 - u.contents ≡ a.contents
    inner_contents = omega (arith, ap (λ (v : Left). v.contents) left_is, x)

    pub inner_segments : 4294967295 - u.segments ≡ a.segments
    inner_segments = omega (arith, ap (λ (v : Left). v.segments) left_is, y)

-- ---- a run: its own items, then what lies below them

module _ (t : Left) (own inner : Added) where
  pub run_over : None ≡ less t own → None ≡ less t (add own inner)
  run_over e = less_stop t own e inner

  module _ {u : Left} (e : Some u ≡ less t own) where
    pub run_empty : inner ≡ nothing → Some u ≡ less t (add own inner)
    run_empty z = e ∙ sym (ap (λ (x : Added). less t (add own x)) z ∙ ap (less t) (add_nothing own))

    pub run_then : {r : Option Left} → r ≡ less u inner → r ≡ less t (add own inner)
    run_then q = q ∙ less_then t own e inner

-- ---- a loop that takes off g 0, g 1, ..

unfoldable pub add_from : (ℕ → Added) → ℕ → ℕ → Added
add_from g zero i = nothing
add_from g (suc n) i = add (g i) (add_from g n (i + 1))

-- with u left, what is still to be taken off gives what a gives from t
pub record Taking (t : Left) (a : Added) (g : ℕ → Added) (n i : ℕ) (u : Left) : Type 0 where
  pub left : less u (add_from g (n - i) i) ≡ less t a

pub taking_none : (t : Left) {a : Added} (g : ℕ → Added) (n : ℕ) → add_from g n 0 ≡ a → Taking t a g n 0 t
taking_none t g n e = let q : n - 0 ≡ n = omega arith in record { left = ap (λ (k : ℕ). less t (add_from g k 0)) q ∙ ap (less t) e }

module _ {t : Left} {a : Added} {g : ℕ → Added} {n i : ℕ} {u : Left} (b : Taking t a g n i u) where
  module _ (h : i < n) where
    next_left : less u (add (g i) (add_from g (n - (i + 1)) (i + 1))) ≡ less t a
    unfolding add_from
    next_left = let q : n - i ≡ suc (n - (i + 1)) = omega arith in ap (λ (k : ℕ). less u (add_from g k i)) (sym q) ∙ b.left

    pub taking_more : {r : Left} → Some r ≡ less u (g i) → Taking t a g n (i + 1) r
    taking_more e = record { left = less_then u (g i) e (add_from g (n - (i + 1)) (i + 1)) ∙ next_left }

    pub taking_over : None ≡ less u (g i) → None ≡ less t a
    taking_over e = less_stop u (g i) e (add_from g (n - (i + 1)) (i + 1)) ∙ next_left

  pub taking_all : n ≤ i → Some u ≡ less t a
  unfolding add_from
  taking_all h = let q : n - i ≡ 0 = omega arith in sym (less_nothing u) ∙ ap (λ (k : ℕ). less u (add_from g k i)) (sym q) ∙ b.left

-- what is added from a list that is tabulated
pub added_tabulate : {A : Type 0} (f : A → Added) (n i : ℕ) (h : ℕ → A) → add_all f (tabulate n (λ (k : ℕ). h (i + k))) ≡ add_from (λ (k : ℕ). f (h k)) n i
unfolding add_all add_from
added_tabulate f zero i h = refl
added_tabulate f (suc n) i h =
    ap₂ (λ (x y : Added). add x y) (ap (λ (k : ℕ). f (h k)) (add-zero i))
    ((λ j. add_all f (tabulate n (λ (k : ℕ). h (next i k j)))) ∙ added_tabulate f n (i + 1) h)
  where
    next : (i k : ℕ) → i + suc k ≡ i + 1 + k
    next i k = omega arith
