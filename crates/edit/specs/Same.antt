-- The new text equals the old exactly if the replacement is what it replaces.
use Rattle.std.specs.Prelude.{◌≡◌, refl, ℕ, ◌+◌, ◌-◌, ◌≤◌, Bool, false, ◌&&◌, List, [], ◌∷◌, ◌++◌, length, eqb}
use Rattle.std.proofs.Math.Path.{sym, ap}
use Rattle.std.proofs.Common.{◌∙◌, arith, take-append-drop, drop-drop, eq-eqb, eqb-true}
use Rattle.std.proofs.lemmas.Bool.{eqb-false}
use Rattle.std.proofs.Math.ListN.{take, drop, length-append, length-drop}
use Rattle.std.proofs.Math.Seq.{length-take-le}
use Rattle.model.specs.Lists.{same}
use Rattle.model.specs.Region.{Edit, edited}
use Rattle.facts.specs.Truth.{by_bool}
use Rattle.facts.specs.Lists.{same_eq, same_refl}
use Rattle.compare.specs.Compare.{same_length}

same_behind : (a b c : List ℕ) → same (a ++ b) (a ++ c) ≡ same b c
same_behind [] b c = refl
same_behind (x ∷ a) b c = rw (eq-eqb x x refl) (same_behind a b c)

same_before : (a b c : List ℕ) → length a ≡ length b → same (a ++ c) (b ++ c) ≡ same a b
same_before [] [] c e = same_refl c
same_before [] (y ∷ b) c e = absurd (omega (arith, e))
same_before (x ∷ a) [] c e = absurd (omega (arith, e))
same_before (x ∷ a) (y ∷ b) c e = ap (λ (z : Bool). eqb x y && z) (same_before a b c (omega (arith, e)))

-- a text in three parts
pub parts : (t : List ℕ) (s e : ℕ) → s ≤ e → t ≡ take s t ++ (take (e - s) (drop s t) ++ drop e t)
parts t s e h =
    let whole : s + (e - s) ≡ e = omega arith in
    sym (ap (λ (x : List ℕ). take s t ++ x)
    (ap (λ (x : List ℕ). take (e - s) (drop s t) ++ x) (ap (λ (k : ℕ). drop k t) (sym whole) ∙ sym (drop-drop (e - s) s t))
    ∙ take-append-drop (e - s) (drop s t))
    ∙ take-append-drop s t)

module _ (t : List ℕ) (e : Edit) (h : e.start ≤ e.end) (k : e.end ≤ length t) where
  pub edited_length : length (edited t e) ≡ e.start + length e.replacement + (length t - e.end)
  unfolding edited
  edited_length =
      let a = length-append (take e.start t) (e.replacement ++ drop e.end t) in
      let b = length-append e.replacement (drop e.end t) in
      let c = length-take-le e.start t (omega (arith, h, k)) in
      let d = length-drop e.end t in
      omega (arith, a, b, c, d)

  pub unchanged_length : (length e.replacement ≡ e.end - e.start → ⊥) → false ≡ same (edited t e) t
  unchanged_length n =
      by_bool (same (edited t e) t)
      (λ s. absurd (n (let l = ap length (same_eq (edited t e) t s) in omega (arith, edited_length, l, h, k))))
      (λ s. sym s)

  pub unchanged_part : length e.replacement ≡ e.end - e.start → same (edited t e) t ≡ same e.replacement (take (e.end - e.start) (drop e.start t))
  unfolding edited
  unchanged_part q =
      let old = take (e.end - e.start) (drop e.start t) in
      let d = length-drop e.start t in
      let l = length-take-le (e.end - e.start) (drop e.start t) (omega (arith, d, h, k)) in
      ap (same (take e.start t ++ (e.replacement ++ drop e.end t))) (parts t e.start e.end h)
      ∙ same_behind (take e.start t) (e.replacement ++ drop e.end t) (old ++ drop e.end t)
      ∙ same_before e.replacement old (drop e.end t) (q ∙ sym l)

  -- whatever their lengths
  pub unchanged_here : same (edited t e) t ≡ same e.replacement (take (e.end - e.start) (drop e.start t))
  unchanged_here =
      let old = take (e.end - e.start) (drop e.start t) in
      let d = length-drop e.start t in
      let l = length-take-le (e.end - e.start) (drop e.start t) (omega (arith, d, h, k)) in
      by_bool (eqb (length e.replacement) (e.end - e.start))
      (λ q. unchanged_part (eqb-true (length e.replacement) (e.end - e.start) q))
      (λ q.
      let n = eqb-false (length e.replacement) (e.end - e.start) q in
      sym (unchanged_length n) ∙ sym (same_length e.replacement old (λ z. n (z ∙ l))))
