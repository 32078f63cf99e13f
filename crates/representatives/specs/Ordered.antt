-- Pairs written in the order of their ids.
use Rattle.std.specs.Prelude.{◌≡◌, ℕ, ◌+◌, ◌*◌, ◌≤◌, ◌<◌, List, length, get_or, replicate, ltb}
use Rattle.std.proofs.Common.{ap, ◌∙◌, arith, ltb-true, ltb-false}
use Rattle.std.proofs.lemmas.List.{get_or-replicate}
use Rattle.facts.specs.Truth.{by_bool}
use Rattle.representatives.specs.Pairs.{pairs_in, pair_put, put_other, put_first, put_count}
use Rattle.representatives.specs.Bisection.{Rising}

-- n pairs, counted in the first word, their ids rising and below `bound`
pub record Ordered (words : List ℕ) (n bound : ℕ) : Type 0 where
  pub count : get_or words 0 0 ≡ n
  pub below : (j : ℕ) → j < n → get_or words (2 * j + 1) 0 < bound
  pub rising : Rising words n

pub ordered_none : {words : List ℕ} (n : ℕ) → words ≡ replicate n 0 → 0 < n → (bound : ℕ) → Ordered words 0 bound
ordered_none n e h bound = record {
  count = ap (λ (l : List ℕ). get_or l 0 0) e ∙ get_or-replicate n 0 0 0 h;
  below = λ j g. absurd (omega (arith, g));
  rising = record { below = λ i j g l. absurd (omega (arith, l)) };
}

pub ordered_later : {words : List ℕ} {n bound : ℕ} → Ordered words n bound → {later : ℕ} → bound ≤ later → Ordered words n later
ordered_later o h = record { count = o.count; below = λ j g. let b = o.below j g in omega (arith, b, h); rising = o.rising }

-- all pairs that the words have
pub ordered_all : {words : List ℕ} {n bound : ℕ} → Ordered words n bound → Rising words (pairs_in words)
ordered_all o = record { below = λ i j g l. o.rising.below i j g (omega (arith, l, o.count)) }

module _ (words : List ℕ) (n id representative : ℕ) (h : 2 * n + 2 < length words) (o : Ordered words n id) where
  abbrev after : List ℕ
  after = pair_put words n id representative

  kept_id : (j : ℕ) → j < n → get_or after (2 * j + 1) 0 ≡ get_or words (2 * j + 1) 0
  kept_id j g = put_other words n id representative h (2 * j + 1) (λ z. omega (arith, z)) (λ z. omega (arith, z, g)) (λ z. omega (arith, z))

  put_below : (j : ℕ) → j < n + 1 → get_or after (2 * j + 1) 0 < id + 1
  put_below j g =
      by_bool (ltb j n)
      (λ t. let l = ltb-true j n t in let e = kept_id j l in let b = o.below j l in omega (arith, e, b))
      (λ f.
      let l = ltb-false j n f in
      let z : j ≡ n = omega (arith, l, g) in
      let e = ap (λ (k : ℕ). get_or after (2 * k + 1) 0) z ∙ put_first words n id representative h in
      omega (arith, e))

  put_rising : (i j : ℕ) → i < j → j < n + 1 → get_or after (2 * i + 1) 0 < get_or after (2 * j + 1) 0
  put_rising i j g l =
      let e = kept_id i (omega (arith, g, l)) in
      by_bool (ltb j n)
      (λ t. let k = ltb-true j n t in let d = kept_id j k in let b = o.rising.below i j g k in omega (arith, e, d, b))
      (λ f.
      let k = ltb-false j n f in
      let z : j ≡ n = omega (arith, k, l) in
      let d = ap (λ (k : ℕ). get_or after (2 * k + 1) 0) z ∙ put_first words n id representative h in
      let b = o.below i (omega (arith, g, l)) in
      omega (arith, e, d, b))

  pub ordered_put : {l : List ℕ} → l ≡ after → Ordered l (n + 1) (id + 1)
  ordered_put q = rw q (record { count = put_count words n id representative h; below = put_below; rising = record { below = put_rising } })
