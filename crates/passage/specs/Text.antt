-- The text of the new region: the passage with the edit made in it. That is a part of the passage, the replacement and a part of the
-- passage; a reading's text is compared with the three, one behind the other.
use Rattle.std.specs.Prelude.{◌≡◌, refl, ℕ, ◌+◌, ◌-◌, ◌≤◌, Bool, true, false, ◌&&◌, take, eqb}
use Rattle.std.proofs.Math.Path.{sym, ap, ap₂}
use Rattle.std.proofs.Common.{◌∙◌, length-drop, take_all, take-take, drop-drop}
use native.Mathlib.Omega.{arith}
use Rattle.std.proofs.Math.Nat.{sub-zero}
use Rattle.std.proofs.Math.Bool.{and_assoc}
use mathlib.Core.List.{List, [], ◌∷◌, ◌++◌}
use Rattle.std.proofs.Math.ListN.{length, drop}
use Rattle.std.proofs.Math.Seq.{length-take-le, drop-append-le}
use Rattle.model.specs.Lists.{same}
use Rattle.model.specs.Bytes.{part}
use Rattle.model.specs.Offset.{Span}
use Rattle.model.specs.Types.{LexOutput, RegionOutput}
use Rattle.model.specs.Region.{Edit, edited, behind_edit, region_text, edit_of}
use Rattle.model.specs.Merge.{new_region_text}
use Rattle.facts.specs.Lists.{part_length}
use Rattle.laws.specs.Splice.{splice, drop_take, take_splice_rest}
use Rattle.compare.specs.Compare.{same_length}
use Rattle.edit.specs.Same.{parts, edited_length}

-- ---- a text with an edit in it, compared for each return of the code

-- joined lists, part by part
same_parts : (a b c d : List ℕ) → length a ≡ length b → same (a ++ c) (b ++ d) ≡ same a b && same c d
same_parts [] [] c d e = refl
same_parts [] (y ∷ b) c d e = absurd (omega (arith, e))
same_parts (x ∷ a) [] c d e = absurd (omega (arith, e))
same_parts (x ∷ a) (y ∷ b) c d e = rw (same_parts a b c d (omega (arith, e))) (sym (and_assoc (eqb x y) (same a b) (same c d)))

-- a part of a text up to its end
part_end : (t : List ℕ) (at : ℕ) → part t at (length t - at) ≡ drop at t
part_end t at = let n = length-drop at t in take_all (length t - at) (drop at t) (omega (arith, n))

module _ (t : List ℕ) (start end : ℕ) (replacement : List ℕ) (h : (start ≤ end) × (end ≤ length t)) (r : List ℕ) where
  abbrev new : List ℕ
  new = edited t (edit_of start end replacement)

  new_length_lem : length new ≡ start + length replacement + (length t - end)
  unfolding edit_of
  new_length_lem = edited_length t (edit_of start end replacement) h.0 h.1

  pub text_length_lem : (length r ≡ start + length replacement + (length t - end) → ⊥) → false ≡ same r new
  text_length_lem n = sym (same_length r new (λ e. n (e ∙ new_length_lem)))

  module _ (e : length r ≡ start + length replacement + (length t - end)) (there : ℕ) (q : there ≡ length r - (length t - end)) where
    abbrev first : Bool
    first = same (take (start - 0) r) (take (start - 0) t)

    abbrev second : Bool
    second = same (part r start (there - start)) replacement

    abbrev third : Bool
    third = same (part r there (length r - there)) (part t end (length t - end))

    text_same : same r new ≡ first && (second && third)
    unfolding edited edit_of
    text_same =
        let m = length-take-le start r (omega (arith, e)) in
        let n = length-take-le start t (omega (arith, h)) in
        let k = part_length r start (there - start) (omega (arith, q, e)) in
        rw (sub-zero start, part_end r there, part_end t end)
        (ap (λ (l : List ℕ). same l (take start t ++ (replacement ++ drop end t))) (parts r start there (omega (arith, q, e)))
        ∙ same_parts (take start r) (take start t) (part r start (there - start) ++ drop there r) (replacement ++ drop end t) (omega (arith, m, n))
        ∙ ap (λ (b : Bool). same (take start r) (take start t) && b) (same_parts (part r start (there - start)) replacement (drop there r) (drop end t) (omega (arith, k, q, e))))

    module _ {x : Bool} (a : x ≡ first) where
      pub text_first : x ≡ false → false ≡ same r new
      text_first f = sym (text_same ∙ rw (← a, f) refl)

      module _ (f : x ≡ true) {y : Bool} (b : y ≡ second) where
        pub text_second : y ≡ false → false ≡ same r new
        text_second g = sym (text_same ∙ rw (← a, f, ← b, g) refl)

        pub text_third : y ≡ true → {z : Bool} → z ≡ third → z ≡ same r new
        text_third g c = c ∙ sym (text_same ∙ rw (← a, f, ← b, g) refl)

-- ---- number 12

pub region_length : (b : LexOutput) (r : Span) → r.start ≤ r.end → r.end ≤ length b.sanitized → length (region_text b r) ≡ r.end - r.start
unfolding region_text
region_length b r h k = part_length b.sanitized r.start (r.end - r.start) (omega (arith, h, k))

-- an edit within a region, in offsets of the region's text
abbrev pub edit_within : Span → Edit → Edit
edit_within r e = edit_of (e.start - r.start) (e.end - r.start) e.replacement

-- the new region's text is the passage with the edit made in it
module _ (old : LexOutput) (e : Edit) (r : Span) (h : (r.start ≤ e.start) × (e.start ≤ e.end) × (e.end ≤ r.end) × (r.end ≤ length old.sanitized)) where
  abbrev t : List ℕ
  t = old.sanitized

  abbrev three : List ℕ
  three = part t r.start (e.start - r.start) ++ (e.replacement ++ part t e.end (r.end - e.end))

  new_parts : new_region_text old e r ≡ three
  unfolding new_region_text edited behind_edit
  new_parts =
      let s = splice e.start e.end e.replacement t in
      let n = r.end + length e.replacement - (e.end - e.start) - r.start in
      let f : r.start + n ≡ e.start + length e.replacement + (r.end - e.end) = omega arith in
      let g : e.start ≡ r.start + (e.start - r.start) = omega arith in
      let l = length-take-le e.start t (omega arith) in
      let behind = e.replacement ++ part t e.end (r.end - e.end) in
      sym (drop_take r.start n s)
      ∙ ap (λ (k : ℕ). drop r.start (take k s)) f
      ∙ ap (drop r.start) (take_splice_rest e.start e.end e.replacement t h.1 (omega arith) (r.end - e.end))
      ∙ drop-append-le r.start (take e.start t) behind (omega (arith, l))
      ∙ ap (λ (l : List ℕ). l ++ behind) (ap (λ (k : ℕ). drop r.start (take k t)) g ∙ drop_take r.start (e.start - r.start) t)

  edited_parts : edited (region_text old r) (edit_within r e) ≡ three
  unfolding edited region_text edit_of
  edited_parts =
      let passage = drop r.start t in
      let f : r.end - r.start ≡ e.end - r.start + (r.end - e.end) = omega arith in
      let g : r.start + (e.end - r.start) ≡ e.end = omega arith in
      ap₂ (λ (x y : List ℕ). x ++ (e.replacement ++ y)) (take-take (e.start - r.start) (r.end - r.start) passage (omega arith))
      (ap (λ (k : ℕ). drop (e.end - r.start) (take k passage)) f
      ∙ drop_take (e.end - r.start) (r.end - e.end) passage
      ∙ ap (take (r.end - e.end)) (drop-drop (e.end - r.start) r.start t ∙ ap (λ (k : ℕ). drop k t) g))

  pub new_region_text_lem : new_region_text old e r ≡ edited (region_text old r) (edit_within r e)
  new_region_text_lem = new_parts ∙ sym edited_parts

-- Number 12, of a passage of the old text and a reading's text.
pub text_book : (old : LexOutput) (reading : RegionOutput) (e : Edit) (r : Span) → (r.start ≤ e.start) × (e.start ≤ e.end) × (e.end ≤ r.end) × (r.end ≤ length old.sanitized)
    → {passage own : List ℕ} → passage ≡ region_text old r → own ≡ reading.sanitized
    → {x : Bool} → x ≡ same own (edited passage (edit_within r e)) → x ≡ same reading.sanitized (new_region_text old e r)
text_book old reading e r h f g q = q ∙ ap₂ same g (ap (λ (l : List ℕ). edited l (edit_within r e)) f ∙ sym (new_region_text_lem old e r h))
