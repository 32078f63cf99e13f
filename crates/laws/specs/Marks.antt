-- Wish 5: on which side of a region a diagnostic counts. Only a mark of no width at an empty region counts on both.
use Rattle.std.specs.Prelude.{◌≡◌, ℕ, ◌≤◌, Bool, true, false, not, ◌&&◌, List, leb, eqb}
use Rattle.std.proofs.Math.Path.{refl}
use native.Mathlib.Omega.{arith}
use Rattle.std.proofs.lemmas.Bool.{false≢true}
use borrow.Author.Tests.{leb-true, eqb-false, not-true, eq-eqb}
use Rattle.model.specs.Lists.{all, any}
use Rattle.model.specs.Types.{Diagnostic}
use Rattle.model.specs.WellFormed.{diagnostic_ok}
use Rattle.model.specs.Merge.{MergeWindow, diagnostic_located, is_mark_at, mark_at_empty_region}
use Rattle.facts.specs.Truth.{both}
use Rattle.facts.specs.Keep.{all_and, all_map, any_all}
use Rattle.laws.specs.Located.{is_before, is_behind, one_side}
use Rattle.laws.specs.Nodes.{diagnostic_facts}

module _ (w : MergeWindow) (size : ℕ) (rising : w.source.start ≤ w.source.end) where
  -- one that counts on both sides is a mark of no width at an empty region
  both_sides : (d : Diagnostic) → diagnostic_ok size d ≡ true → is_before diagnostic_located w d && is_behind diagnostic_located w d ≡ true
      → (w.source.start ≡ w.source.end) × (is_mark_at w.source.start d ≡ true)
  unfolding diagnostic_located is_mark_at
  both_sides d o h =
      let s = both (leb d.span.end w.source.start) (leb w.source.end d.span.start) h in
      let a = leb-true d.span.end w.source.start s.0 in
      let b = leb-true w.source.end d.span.start s.1 in
      let g = (diagnostic_facts size d o).0 in
      (omega arith, rw (eq-eqb d.span.start w.source.start (omega arith), eq-eqb d.span.end w.source.start (omega arith)) refl)

  unmarked_side : (d : Diagnostic) → diagnostic_ok size d ≡ true → (w.source.start ≡ w.source.end → is_mark_at w.source.start d ≡ false) → one_side diagnostic_located w d ≡ true
  unmarked_side d o h = go (is_before diagnostic_located w d && is_behind diagnostic_located w d) refl
    where
      go : (t : Bool) → is_before diagnostic_located w d && is_behind diagnostic_located w d ≡ t → not t ≡ true
      go true e = let s = both_sides d o e in absurd (false≢true (let z : false ≡ true = rw (h s.0) at s.1 in z))
      go false e = refl

  -- Where number 14 has passed, none does.
  pub unmarked_sides : (old : List Diagnostic) → mark_at_empty_region old w.source ≡ false → all (diagnostic_ok size) old ≡ true → all (one_side diagnostic_located w) old ≡ true
  unfolding mark_at_empty_region
  unmarked_sides old h a = go (eqb w.source.start w.source.end) refl h
    where
      go : (t : Bool) → eqb w.source.start w.source.end ≡ t → t && any (is_mark_at w.source.start) old ≡ false → all (one_side diagnostic_located w) old ≡ true
      go true e k =
          all_map (λ d. diagnostic_ok size d && not (is_mark_at w.source.start d)) (one_side diagnostic_located w)
          (λ d t. let s = both (diagnostic_ok size d) (not (is_mark_at w.source.start d)) t in unmarked_side d s.0 (λ q. not-true (is_mark_at w.source.start d) s.1))
          old (all_and (diagnostic_ok size) (λ d. not (is_mark_at w.source.start d)) old a (any_all (is_mark_at w.source.start) old k))
      go false e k = all_map (diagnostic_ok size) (one_side diagnostic_located w) (λ d t. unmarked_side d t (λ q. absurd (eqb-false w.source.start w.source.end e q))) old a
