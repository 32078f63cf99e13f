-- The first byte of a character: the state that it leads to, by its range.
use Rattle.std.specs.Prelude.{ℕ, ◌≤◌, ◌<◌, ◌≡◌, leb, eqb}
use Rattle.std.proofs.Math.Path.{refl}
use Rattle.std.proofs.Common.{ap, arith}
use Rattle.std.proofs.Math.Bool.{and-false}
use borrow.Author.Tests.{le-leb, lt-leb, ne_eqb, eqb-true, eqb-false, leb-false}
use Rattle.model.specs.Utf8.{between, tail1, tail2, tail3, after_e0, after_ed, after_f0, after_f4, bad, utf8_first}
use Rattle.facts.specs.Truth.{by_bool}
use Rattle.chars.specs.Chars.{asks}

module _ (a : ℕ) where
  pub lead_1 : a < 0x80 → utf8_first a ≡ between
  unfolding utf8_first
  lead_1 h = rw (le-leb 0 a (omega arith), le-leb a 0x7f (omega arith)) refl

  pub lead_2 : 0xc2 ≤ a → a < 0xe0 → utf8_first a ≡ tail1
  unfolding utf8_first
  lead_2 l h = rw (lt-leb a 0x7f (omega arith), and-false, le-leb 0xc2 a l, le-leb a 0xdf (omega arith)) refl

  pub lead_low : 0x80 ≤ a → a < 0xc2 → utf8_first a ≡ bad
  unfolding utf8_first
  lead_low l h =
      rw (
        lt-leb a 0x7f (omega arith),
        and-false,
        lt-leb 0xc2 a (omega arith),
        ne_eqb a 0xe0 (λ e. omega arith),
        lt-leb 0xe1 a (omega arith),
        ne_eqb a 0xed (λ e. omega arith),
        lt-leb 0xee a (omega arith),
        ne_eqb a 0xf0 (λ e. omega arith),
        lt-leb 0xf1 a (omega arith),
        ne_eqb a 0xf4 (λ e. omega arith),
      )
      refl

  pub lead_high : 0xf5 ≤ a → utf8_first a ≡ bad
  unfolding utf8_first
  lead_high l =
      rw (
        lt-leb a 0x7f (omega arith),
        and-false,
        lt-leb a 0xdf (omega arith),
        and-false,
        ne_eqb a 0xe0 (λ e. omega arith),
        lt-leb a 0xec (omega arith),
        and-false,
        ne_eqb a 0xed (λ e. omega arith),
        lt-leb a 0xef (omega arith),
        and-false,
        ne_eqb a 0xf0 (λ e. omega arith),
        lt-leb a 0xf3 (omega arith),
        and-false,
        ne_eqb a 0xf4 (λ e. omega arith),
      )
      refl

  -- E1-EC and EE-EF
  pub lead_3 : 0xe0 ≤ a → a < 0xf0 → (a ≡ 0xe0 → ⊥) → (a ≡ 0xed → ⊥) → utf8_first a ≡ tail2
  unfolding utf8_first
  lead_3 l h n m =
      by_bool (leb a 0xec)
      (λ t.
      rw (
        lt-leb a 0x7f (omega arith),
        and-false,
        lt-leb a 0xdf (omega arith),
        and-false,
        ne_eqb a 0xe0 n,
        le-leb 0xe1 a (omega (arith, n)),
        t,
      )
      refl)
      (λ f.
      let g : 0xec < a = leb-false a 0xec f in
      rw (
        lt-leb a 0x7f (omega arith),
        and-false,
        lt-leb a 0xdf (omega arith),
        and-false,
        ne_eqb a 0xe0 n,
        f,
        and-false,
        ne_eqb a 0xed m,
        le-leb 0xee a (omega (arith, m)),
        le-leb a 0xef (omega arith),
      )
      refl)

  -- F1-F3
  pub lead_4 : 0xf0 ≤ a → a < 0xf5 → (a ≡ 0xf0 → ⊥) → (a ≡ 0xf4 → ⊥) → utf8_first a ≡ tail3
  unfolding utf8_first
  lead_4 l h n m =
      rw (
        lt-leb a 0x7f (omega arith),
        and-false,
        lt-leb a 0xdf (omega arith),
        and-false,
        ne_eqb a 0xe0 (λ e. omega arith),
        lt-leb a 0xec (omega arith),
        and-false,
        ne_eqb a 0xed (λ e. omega arith),
        lt-leb a 0xef (omega arith),
        and-false,
        ne_eqb a 0xf0 n,
        le-leb 0xf1 a (omega (arith, n)),
        le-leb a 0xf3 (omega (arith, m)),
      )
      refl

  pub lead_e0 : a ≡ 0xe0 → utf8_first a ≡ after_e0
  unfolding utf8_first
  lead_e0 e = rw e refl

  pub lead_ed : a ≡ 0xed → utf8_first a ≡ after_ed
  unfolding utf8_first
  lead_ed e = rw e refl

  pub lead_f0 : a ≡ 0xf0 → utf8_first a ≡ after_f0
  unfolding utf8_first
  lead_f0 e = rw e refl

  pub lead_f4 : a ≡ 0xf4 → utf8_first a ≡ after_f4
  unfolding utf8_first
  lead_f4 e = rw e refl

  pub asks_3 : 0xe0 ≤ a → a < 0xf0 → asks (utf8_first a) ≡ 2
  asks_3 l h =
      by_bool (eqb a 0xe0)
      (λ t. ap asks (lead_e0 (eqb-true a 0xe0 t)))
      (λ f. by_bool (eqb a 0xed) (λ t. ap asks (lead_ed (eqb-true a 0xed t))) (λ g. ap asks (lead_3 l h (eqb-false a 0xe0 f) (eqb-false a 0xed g))))

  pub asks_4 : 0xf0 ≤ a → a < 0xf5 → asks (utf8_first a) ≡ 3
  asks_4 l h =
      by_bool (eqb a 0xf0)
      (λ t. ap asks (lead_f0 (eqb-true a 0xf0 t)))
      (λ f. by_bool (eqb a 0xf4) (λ t. ap asks (lead_f4 (eqb-true a 0xf4 t))) (λ g. ap asks (lead_4 l h (eqb-false a 0xf0 f) (eqb-false a 0xf4 g))))
