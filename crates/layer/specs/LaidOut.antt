-- A layer's bytes: written as if it had no strings, moved up, and the strings' records before them.
use Rattle.std.specs.Prelude.{◌≡◌, ℕ, ◌+◌, ◌≤◌, List, [], ◌∷◌, ◌++◌, length, take, drop}
use Rattle.std.proofs.Common.{ap, ap₂, ◌∙◌, arith, append_assoc, length-append, length-drop, length-take-le}
use Rattle.wire.specs.Overwrite.{overwrite, length_overwrite, overwrite_next}
use Rattle.wire.specs.Apart.{overwrite_swap, overwrite_covered, overwrite_part}
use Rattle.graft.specs.Blocks.{blocks}

-- the n bytes behind the place `at` moved up, and rs between them and a byte there
pub moved_up_lem : (d : List ℕ) (at n : ℕ) (rs : List ℕ) → at + 1 + n + length rs ≤ length d → {d₁ d₂ d₃ : List ℕ} (by v : ℕ) → by ≡ length rs
    → d₁ ≡ overwrite d (at + 1 + by) (take n (drop (at + 1) d)) → d₂ ≡ overwrite d₁ at (v ∷ []) → d₃ ≡ overwrite d₂ (at + 1) rs → d₃ ≡ overwrite d at (v ∷ (rs ++ take n (drop (at + 1) d)))
moved_up_lem d at n rs h {d₁} by v e w₁ w₂ w₃ =
    let xs = take n (drop (at + 1) d) in
    let m : length xs ≡ n = length-take-le n (drop (at + 1) d) (rw length-drop (omega (arith, h))) in
    let l : length d₁ ≡ length d = ap length w₁ ∙ length_overwrite d (at + 1 + by) xs (omega (arith, e, m, h)) in
    w₃ ∙ ap (λ (x : List ℕ). overwrite x (at + 1) rs) w₂ ∙ overwrite_next d₁ at (v ∷ []) (omega (arith, h, l)) (at + 1) rs (omega arith) (omega (arith, h, l))
    ∙ ap (λ (x : List ℕ). overwrite x at (v ∷ rs)) w₁
    ∙ overwrite_swap d at (v ∷ rs) (at + 1 + by) xs (omega (arith, e)) (omega (arith, e, m, h))
    ∙ overwrite_next d at (v ∷ rs) (omega (arith, h)) (at + 1 + by) xs (omega (arith, e)) (omega (arith, e, m, h))

-- where those n bytes were written before, all of it is one write
pub moved_written : (d : List ℕ) (at : ℕ) (rs xs : List ℕ) → at + 1 + length rs + length xs ≤ length d → {d₁ d₂ : List ℕ} (n v : ℕ) → n ≡ length xs
    → d₁ ≡ overwrite d (at + 1) xs → d₂ ≡ overwrite d₁ at (v ∷ (rs ++ take n (drop (at + 1) d₁))) → d₂ ≡ overwrite d at (v ∷ (rs ++ xs))
moved_written d at rs xs h {d₁} n v e w₁ w₂ =
    let f : at + 1 + length xs ≤ length d = omega (arith, h) in
    let x : take n (drop (at + 1) d₁) ≡ xs = ap (λ (l : List ℕ). take n (drop (at + 1) l)) w₁ ∙ overwrite_part d (at + 1) xs f n e in
    w₂ ∙ ap₂ (λ (l y : List ℕ). overwrite l at (v ∷ (rs ++ y))) w₁ x
    ∙ overwrite_covered d (at + 1) xs f at (v ∷ (rs ++ xs)) (omega arith) (omega (arith, length-append rs xs))

-- three blocks, each right behind the last
pub three_blocks : (d : List ℕ) (a : ℕ) (xs ys zs : List ℕ) → a + length xs + length ys + length zs ≤ length d → (b k : ℕ) → b ≡ a + length xs → k ≡ b + length ys
    → overwrite (blocks d a b xs ys) k zs ≡ overwrite d a (xs ++ (ys ++ zs))
unfolding blocks
three_blocks d a xs ys zs h b k e f =
    ap (λ (l : List ℕ). overwrite l k zs) (overwrite_next d a xs (omega (arith, h)) b ys e (omega (arith, e, h)))
    ∙ overwrite_next d a (xs ++ ys) (omega (arith, length-append xs ys, h)) k zs (omega (arith, length-append xs ys, e, f)) (omega (arith, e, f, h))
    ∙ ap (overwrite d a) (append_assoc xs ys zs)
