-- Items that are alike, one behind the other: what the first adds, each of them adds.
use Rattle.std.specs.Prelude.{◌≡◌, refl, ℕ, zero, suc, ◌+◌, ◌-◌, ◌*◌, ◌≤◌, ◌<◌, cond, ◌&&◌, List, leb, Option, Some, None}
use Rattle.std.proofs.Math.Path.{sym, ap}
use Rattle.std.proofs.Common.{ap₂, ◌∙◌, arith}
use Rattle.model.specs.Types.{Body}
use Rattle.model.specs.Tape.{record_at, content_codec}
use Rattle.records.specs.Values.{body_at, segment_body}
use Rattle.alike.specs.Alike.{Alike}
use Rattle.store.specs.declared.Store.{Store}
use Rattle.sizes.specs.Added.{Added, add, add_nothing, nothing_add, add_assoc}
use Rattle.sizes.specs.Capped.{fits, fits_room_lem, room_of, less, less_some, less_nothing, less_then, less_stop, add_from, Taking, taking_more}
use Rattle.sizes.specs.InPlace.{content_adds, content_from, segment_from}
use Rattle.sizes.specs.declared.Left.{Left}
use Rattle.sizes.specs.declared.Sizes.{Sizes}

-- what was taken off from t to r
abbrev pub taken : Left → Left → Sizes
taken t r = record { contents = t.contents - r.contents; segments = t.segments - r.segments; calls = t.calls - r.calls }

abbrev pub added_of : Sizes → Added
added_of s = record { contents = s.contents; segments = s.segments; calls = s.calls }

abbrev pub difference : Left → Left → Added
difference t r = added_of (taken t r)

-- so much, k times
abbrev pub times : Added → ℕ → Added
times a k = add_from (λ (i : ℕ). a) k 0

-- an Option is None or Some, and what is shown in both cases holds
by_option : {A X : Type 0} (o : Option A) → (o ≡ None → X) → ((x : A) → o ≡ Some x → X) → X
by_option None n s = n refl
by_option (Some x) n s = s x refl

alike_less : (t : Left) (p q : Added) → p.contents ≡ q.contents → p.segments ≡ q.segments → t.calls - p.calls ≡ t.calls - q.calls → less t p ≡ less t q
unfolding less fits
alike_less t p q x y z =
    λ i. cond (leb (x i) t.contents && leb (y i) t.segments) (Some (record { contents = t.contents - x i; segments = t.segments - y i; calls = z i })) None

-- ---- what one item took off is what lies between

module _ (t r : Left) (a : Added) (e : Some r ≡ less t a) where
  abbrev there : (a.contents ≤ t.contents) × (a.segments ≤ t.segments)
  there = fits_room_lem (room_of t) a (less_some t a e).0

  contents_left : r.contents ≡ t.contents - a.contents
  contents_left = ap (λ (s : Left). s.contents) (less_some t a e).1

  segments_left : r.segments ≡ t.segments - a.segments
  segments_left = ap (λ (s : Left). s.segments) (less_some t a e).1

  pub exact_contents : t.contents - r.contents ≡ a.contents
  exact_contents = omega (arith, contents_left, there.0)

  pub exact_segments : t.segments - r.segments ≡ a.segments
  exact_segments = omega (arith, segments_left, there.1)

  pub exact_calls : r.calls ≡ t.calls - a.calls
  exact_calls = ap (λ (s : Left). s.calls) (less_some t a e).1

  fewer_calls : r.calls ≤ t.calls
  fewer_calls = omega (arith, exact_calls)

  -- the same again, of whatever is left
  pub again_less : (v : Left) → v.calls ≤ r.calls → less v (difference t r) ≡ less v a
  again_less v low =
      let z : v.calls - (t.calls - r.calls) ≡ v.calls - a.calls = omega (arith, exact_calls, low) in
      alike_less v (difference t r) a exact_contents exact_segments z

-- ---- k times more

times_same : (g : ℕ → Added) (b : Added) (k s z : ℕ) → ((j : ℕ) → j < k → g (s + j) ≡ b) → add_from (λ (i : ℕ). b) k z ≡ add_from g k s
unfolding add_from
times_same g b zero s z h = refl
times_same g b (suc k) s z h =
    let x : s + 0 ≡ s = omega arith in
    ap₂ (λ (p q : Added). add p q) (sym (h 0 (omega arith)) ∙ ap g x)
    (times_same g b k (s + 1) (z + 1) (λ j l. let y : s + 1 + j ≡ s + (j + 1) = omega arith in ap g y ∙ h (j + 1) (omega (arith, l))))

times_next : (a : Added) (k z : ℕ) → add_from (λ (i : ℕ). a) (k + 1) z ≡ add (add_from (λ (i : ℕ). a) k z) a
unfolding add_from
times_next a zero z = add_nothing a ∙ sym (nothing_add a)
times_next a (suc k) z =
    let x : suc k + 1 ≡ suc (k + 1) = omega arith in
    ap (λ (n : ℕ). add_from (λ (i : ℕ). a) n z) x ∙ ap (add a) (times_next a k (z + 1)) ∙ sym (add_assoc a (add_from (λ (i : ℕ). a) k (z + 1)) a)

in_parts : (g : ℕ → Added) (k l s : ℕ) → add_from g (k + l) s ≡ add (add_from g k s) (add_from g l (s + k))
unfolding add_from
in_parts g zero l s =
    let w : 0 + l ≡ l = omega arith in
    let x : s ≡ s + 0 = omega arith in
    ap (λ (n : ℕ). add_from g n s) w ∙ ap (add_from g l) x ∙ sym (nothing_add (add_from g l (s + 0)))
in_parts g (suc k) l s =
    let w : suc k + l ≡ suc (k + l) = omega arith in
    let x : s + 1 + k ≡ s + suc k = omega arith in
    ap (λ (n : ℕ). add_from g n s) w ∙ ap (add (g s)) (in_parts g k l (s + 1)) ∙ sym (add_assoc (g s) (add_from g k (s + 1)) (add_from g l (s + 1 + k)))
    ∙ ap (λ (y : ℕ). add (add (g s) (add_from g k (s + 1))) (add_from g l y)) x

-- ---- the loop goes on behind the items that are alike

module _ {t : Left} {a : Added} {g : ℕ → Added} {n i : ℕ} {u : Left} (b : Taking t a g n i u) (h : i < n) {r : Left} (e : Some r ≡ less u (g i))
    {k : ℕ} (few : k ≤ n - i - 1) (same : (j : ℕ) → j < k → g (i + 1 + j) ≡ g i) where
  abbrev rest : Added
  rest = add_from g (n - (i + (1 + k))) (i + (1 + k))

  again_left : less r (add (times (g i) k) rest) ≡ less t a
  again_left =
      let x : i + (1 + k) ≡ i + 1 + k = omega arith in
      let y : k + (n - (i + (1 + k))) ≡ n - (i + 1) = omega (arith, few, h) in
      ap (less r) (ap₂ (λ (p q : Added). add p q) (times_same g (g i) k (i + 1) 0 same) (ap (add_from g (n - (i + (1 + k)))) x) ∙ sym (in_parts g k (n - (i + (1 + k))) (i + 1)))
      ∙ ap (λ (w : ℕ). less r (add_from g w (i + 1))) y ∙ (taking_more b h e).left

  pub taking_again : {v : Left} → Some v ≡ less r (times (g i) k) → Taking t a g n (i + (1 + k)) v
  taking_again f = record { left = less_then r (times (g i) k) f rest ∙ again_left }

  pub again_over : None ≡ less r (times (g i) k) → None ≡ less t a
  again_over f = less_stop r (times (g i) k) f rest ∙ again_left

-- ---- `again`: so far j times

pub times_none : (r : Left) (d : Added) → Some r ≡ less r (times d 0)
unfolding add_from
times_none r d = sym (less_nothing r)

pub times_more : (r : Left) (d : Added) (j : ℕ) {u : Left} → Some u ≡ less r (times d j) → less u d ≡ less r (times d (j + 1))
times_more r d j e = less_then r (times d j) e d ∙ ap (less r) (sym (times_next d j 0))

-- where the next is over, so is the whole
pub times_over : (r : Left) (d : Added) (j k : ℕ) {u : Left} → j < k → Some u ≡ less r (times d j) → None ≡ less u d → None ≡ less r (times d k)
times_over r d j k h e o =
    let q : (j + 1) + (k - (j + 1)) ≡ k = omega arith in
    less_stop r (times d (j + 1)) (o ∙ times_more r d j e) (add_from (λ (i : ℕ). d) (k - (j + 1)) (0 + (j + 1)))
    ∙ ap (less r) (sym (in_parts (λ (i : ℕ). d) (j + 1) (k - (j + 1)) 0)) ∙ ap (λ (i : ℕ). less r (times d i)) q

-- what lies between, k times, is what was taken off there, k times
pub times_agree : (t r : Left) (a : Added) → Some r ≡ less t a → (k : ℕ) → less r (times (difference t r) k) ≡ less r (times a k)
unfolding add_from
times_agree t r a e zero = refl
times_agree t r a e (suc k) =
    let d = difference t r in
    let n : suc k ≡ k + 1 = omega arith in
    let both = times_agree t r a e k in
    ap (λ (i : ℕ). less r (times d i)) n
    ∙ by_option (less r (times d k))
    (λ o.
    sym (less_stop r (times d k) (sym o) d ∙ ap (less r) (sym (times_next d k 0)))
    ∙ less_stop r (times a k) (sym o ∙ both) a ∙ ap (less r) (sym (times_next a k 0)))
    (λ u o.
    sym (times_more r d k (sym o)) ∙ again_less t r a e u (fewer_calls r u (times d k) (sym o)) ∙ times_more r a k (sym o ∙ both))
    ∙ ap (λ (i : ℕ). less r (times a i)) (sym n)

-- ---- items of a run that are alike

-- the items from i on are as item i
pub contents_same : (inner : Body → Added) (t : List ℕ) (st : Store) (at i : ℕ) {most k : ℕ} → Alike (λ (j : ℕ). record_at content_codec t (at + 10 * i + 10 * j)) most k
    → (j : ℕ) → j < k → content_from inner t st at (i + 1 + j) ≡ content_from inner t st at i
unfolding content_from
contents_same inner t st at i a j h =
    let p : at + 10 * (i + 1 + j) ≡ at + 10 * i + 10 * (j + 1) = omega arith in
    let q : at + 10 * i + 10 * 0 ≡ at + 10 * i = omega arith in
    ap (content_adds inner t st) (ap (record_at content_codec t) p ∙ a.same j h ∙ ap (record_at content_codec t) q)

pub segments_same : (inner : Body → Added) (t : List ℕ) (at i : ℕ) {most k : ℕ} → Alike (λ (j : ℕ). body_at t (at + 37 * i + 37 * j + 3)) most k
    → (j : ℕ) → j < k → segment_from inner t at (i + 1 + j) ≡ segment_from inner t at i
unfolding segment_from
segments_same inner t at i a j h =
    let p : at + 37 * i + 37 * (j + 1) ≡ at + 37 * (i + 1 + j) = omega arith in
    let q : at + 37 * i + 37 * 0 ≡ at + 37 * i = omega arith in
    ap inner (sym (segment_body t (at + 37 * (i + 1 + j))) ∙ ap (λ (n : ℕ). body_at t (n + 3)) (sym p) ∙ a.same j h ∙ ap (λ (n : ℕ). body_at t (n + 3)) q ∙ segment_body t (at + 37 * i))
