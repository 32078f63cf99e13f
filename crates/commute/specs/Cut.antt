-- Section 6 on two books that agree up to a cut, and on two that agree behind one: which offsets are safe, and the region's start
-- and end.
use Rattle.std.specs.Prelude.{◌≡◌, Bool, ◌&&◌, ◌||◌, get_or, ltb, eqb}
use Rattle.std.proofs.Math.Path.{refl, ap}
use Rattle.std.proofs.Common.{sym, ◌∙◌}
use Prim.Native.Nat.{ℕ, zero, suc, ◌+◌, ◌-◌, ◌≤◌, ◌<◌}
use native.Mathlib.Omega.{arith}
use Rattle.std.proofs.Math.Bool.{true, false, cond}
use Rattle.std.proofs.Math.ListN.{length}
use mathlib.Core.List.{List}
use Rattle.std.proofs.Math.Dec.{leb}
use borrow.Author.Tests.{leb-true, leb-false, ltb-true, ltb-false, eqb-true, eqb-false, le-leb, eq-eqb, ne_eqb}
use Rattle.model.specs.Types.{LexOutput}
use Rattle.model.specs.Region.{Edit, edited, behind_edit, newline_at, nodes_allow_cut, pairs_allow_cut, blank_line_before, safe_cut, region_start, end_cut, region_end}
use Rattle.facts.specs.Truth.{both}
use Rattle.laws.specs.Splice.{splice, byte_front, byte_inner, byte_rest}

-- what section 6 asks of an offset inside a text
abbrev pub allows : LexOutput → ℕ → Bool
allows b o = blank_line_before b.sanitized o && nodes_allow_cut b.source_nodes o && pairs_allow_cut b.pairs o

-- ---- bounds of a region's start and end, and that they are safe

pub length_safe : (b : LexOutput) → safe_cut b (length b.sanitized) ≡ true
unfolding safe_cut
length_safe b = rw (eq-eqb (length b.sanitized) (length b.sanitized) refl) (go (eqb (length b.sanitized) 0))
  where
    go : (s : Bool) → s || true || allows b (length b.sanitized) ≡ true
    go true = refl
    go false = refl

-- a region's start x for an edit that starts at o
pub record Starts (b : LexOutput) (o x : ℕ) : Type 0 where
  pub before : x ≤ o
  pub safe : safe_cut b x ≡ true

pub starts : (b : LexOutput) (o : ℕ) → Starts b o (region_start b o)
unfolding region_start safe_cut
starts b zero = record { before = omega arith; safe = refl }
starts b (suc o) = go (newline_at b.sanitized o && safe_cut b (suc o)) refl (starts b o)
  where
    go : (t : Bool) → newline_at b.sanitized o && safe_cut b (suc o) ≡ t → Starts b o (region_start b o) → Starts b (suc o) (cond t (suc o) (region_start b o))
    go true e r = record { before = omega arith; safe = (both (newline_at b.sanitized o) (safe_cut b (suc o)) e).1 }
    go false e r = record { before = omega arith; safe = r.safe }

-- a region's end x for an edit that ends at o
pub record Ends (b : LexOutput) (o x : ℕ) : Type 0 where
  pub behind : o ≤ x
  pub inside : x ≤ length b.sanitized
  pub strictly : o < length b.sanitized → o < x
  pub safe : safe_cut b x ≡ true

pub ends : (b : LexOutput) (e : Edit) (n o : ℕ) → o + n ≡ length b.sanitized → Ends b o (region_end b e n o)
unfolding region_end end_cut
ends b e zero o h = record { behind = omega arith; inside = omega arith; strictly = λ k. k; safe = length_safe b }
ends b e (suc n) o h = go (newline_at b.sanitized o && end_cut b e (o + 1)) refl (ends b e n (o + 1) (omega arith))
  where
    go : (t : Bool) → newline_at b.sanitized o && end_cut b e (o + 1) ≡ t → Ends b (o + 1) (region_end b e n (o + 1)) → Ends b o (cond t (o + 1) (region_end b e n (o + 1)))
    go true q r = record {
      behind = omega arith;
      inside = omega arith;
      strictly = λ k. omega arith;
      safe = (both (safe_cut b (o + 1)) _ (both (newline_at b.sanitized o) (end_cut b e (o + 1)) q).1).0;
    }
    go false q r = record { behind = omega arith; inside = r.inside; strictly = λ k. omega arith; safe = r.safe }

-- ---- two books that agree up to a cut c

pub record SameBefore (c : ℕ) (b b' : LexOutput) : Type 0 where
  pub text : (i : ℕ) → i < c → get_or b'.sanitized i 0 ≡ get_or b.sanitized i 0
  pub nodes : (o : ℕ) → o ≤ c → nodes_allow_cut b'.source_nodes o ≡ nodes_allow_cut b.source_nodes o
  pub pairs : (o : ℕ) → o ≤ c → pairs_allow_cut b'.pairs o ≡ pairs_allow_cut b.pairs o

module _ {c : ℕ} {b b' : LexOutput} (h : SameBefore c b b') where
  allows_before : (o : ℕ) → o ≤ c → allows b' o ≡ allows b o
  unfolding blank_line_before
  allows_before o l = rw (h.nodes o l, h.pairs o l) (go (leb 2 o) refl)
    where
      go : (t : Bool) → leb 2 o ≡ t
          → t && newline_at b'.sanitized (o - 2) && newline_at b'.sanitized (o - 1) && nodes_allow_cut b.source_nodes o && pairs_allow_cut b.pairs o
          ≡ t && newline_at b.sanitized (o - 2) && newline_at b.sanitized (o - 1) && nodes_allow_cut b.source_nodes o && pairs_allow_cut b.pairs o
      go true e = let k = leb-true 2 o e in rw (h.text (o - 2) (omega arith), h.text (o - 1) (omega arith))
      go false e = refl

  -- the start of a region that begins before both ends
  pub start_before : (o : ℕ) → o ≤ c → o < length b.sanitized → o < length b'.sanitized → region_start b' o ≡ region_start b o
  unfolding region_start safe_cut
  start_before zero l s s' = refl
  start_before (suc o) l s s' =
      rw (h.text o (omega arith), start_before o (omega arith) (omega arith) (omega arith), allows_before (suc o) l, ne_eqb (suc o) (length b.sanitized) (omega arith), ne_eqb (suc o) (length b'.sanitized) (omega arith))

-- ---- two books that agree behind a cut, c in the one and d in the other

pub record SameBehind (c d : ℕ) (b b' : LexOutput) : Type 0 where
  pub size : length b'.sanitized + c ≡ length b.sanitized + d
  pub inside : c < length b.sanitized → 1 ≤ c
  pub inside' : c < length b.sanitized → 1 ≤ d
  pub last : c < length b.sanitized → get_or b'.sanitized (d - 1) 0 ≡ get_or b.sanitized (c - 1) 0
  pub text : (k : ℕ) → get_or b'.sanitized (d + k) 0 ≡ get_or b.sanitized (c + k) 0
  pub nodes : (k : ℕ) → c < length b.sanitized → nodes_allow_cut b'.source_nodes (d + suc k) ≡ nodes_allow_cut b.source_nodes (c + suc k)
  pub pairs : (k : ℕ) → pairs_allow_cut b'.pairs (d + suc k) ≡ pairs_allow_cut b.pairs (c + suc k)

module _ {c d : ℕ} {b b' : LexOutput} (h : SameBehind c d b b') (some : c < length b.sanitized) where
  allows_behind : (k : ℕ) → allows b' (d + suc k) ≡ allows b (c + suc k)
  unfolding blank_line_before
  allows_behind zero =
      let l = h.inside some in
      let m = h.inside' some in
      let e₁ : c + 1 - 2 ≡ c - 1 = omega arith in
      let e₂ : d + 1 - 2 ≡ d - 1 = omega arith in
      let e₃ : c + 1 - 1 ≡ c + 0 = omega arith in
      let e₄ : d + 1 - 1 ≡ d + 0 = omega arith in
      rw (le-leb 2 (c + 1) (omega arith), le-leb 2 (d + 1) (omega arith), e₁, e₂, e₃, e₄, h.last some, h.text 0, h.nodes 0 some, h.pairs 0)
  allows_behind (suc k) =
      let e₁ : c + suc (suc k) - 2 ≡ c + k = omega arith in
      let e₂ : d + suc (suc k) - 2 ≡ d + k = omega arith in
      let e₃ : c + suc (suc k) - 1 ≡ c + suc k = omega arith in
      let e₄ : d + suc (suc k) - 1 ≡ d + suc k = omega arith in
      rw (le-leb 2 (c + suc (suc k)) (omega arith), le-leb 2 (d + suc (suc k)) (omega arith), e₁, e₂, e₃, e₄, h.text k, h.text (suc k), h.nodes (suc k) some, h.pairs (suc k))

  same_length : (k : ℕ) → eqb (d + suc k) (length b'.sanitized) ≡ eqb (c + suc k) (length b.sanitized)
  same_length k = go (eqb (c + suc k) (length b.sanitized)) refl
    where
      go : (t : Bool) → eqb (c + suc k) (length b.sanitized) ≡ t → eqb (d + suc k) (length b'.sanitized) ≡ t
      go true e = let q = eqb-true (c + suc k) (length b.sanitized) e in eq-eqb (d + suc k) (length b'.sanitized) (omega (arith, h.size))
      go false e = let q = eqb-false (c + suc k) (length b.sanitized) e in ne_eqb (d + suc k) (length b'.sanitized) (omega (arith, h.size))

  pub safe_behind : (k : ℕ) → safe_cut b' (d + suc k) ≡ safe_cut b (c + suc k)
  unfolding safe_cut
  safe_behind k = rw (ne_eqb (d + suc k) 0 (omega arith), ne_eqb (c + suc k) 0 (omega arith), same_length k, allows_behind k)

  -- a byte from the last one before the cut on
  byte_from : (x x' : ℕ) → c ≤ x + 1 → x' + c ≡ x + d → get_or b'.sanitized x' 0 ≡ get_or b.sanitized x 0
  byte_from x x' l q = go (leb c x) refl
    where
      go : (t : Bool) → leb c x ≡ t → get_or b'.sanitized x' 0 ≡ get_or b.sanitized x 0
      go true e =
          let g = leb-true c x e in
          let e₁ : x' ≡ d + (x - c) = omega arith in
          let e₂ : c + (x - c) ≡ x = omega arith in
          ap (λ (k : ℕ). get_or b'.sanitized k 0) e₁ ∙ h.text (x - c) ∙ ap (λ (k : ℕ). get_or b.sanitized k 0) e₂
      go false e =
          let g = leb-false c x e in
          let m = h.inside' some in
          let e₁ : x' ≡ d - 1 = omega arith in
          let e₂ : c - 1 ≡ x = omega arith in
          ap (λ (k : ℕ). get_or b'.sanitized k 0) e₁ ∙ h.last some ∙ ap (λ (k : ℕ). get_or b.sanitized k 0) e₂

-- an edit at or behind the cut, and the same edit of the other book
pub record SameEdit (c d : ℕ) (e e' : Edit) : Type 0 where
  pub behind : c ≤ e.start
  pub rising : e.start ≤ e.end
  pub start : e'.start + c ≡ e.start + d
  pub end : e'.end + c ≡ e.end + d
  pub replacement : e'.replacement ≡ e.replacement

module _ {c d : ℕ} {b b' : LexOutput} (h : SameBehind c d b b') {e e' : Edit} (m : SameEdit c d e e') (inside : e.end ≤ length b.sanitized) where
  -- wish 1: the same byte of the new texts, from the last one before the cut on
  edited_from : c < length b.sanitized → (x x' : ℕ) → c ≤ x + 1 → x' + c ≡ x + d → get_or (edited b'.sanitized e') x' 0 ≡ get_or (edited b.sanitized e) x 0
  unfolding edited
  edited_from some x x' l q = rw m.replacement (go (ltb x e.start) refl (ltb x (e.start + length e.replacement)) refl)
    where
      t : List ℕ
      t = b.sanitized

      t' : List ℕ
      t' = b'.sanitized

      within' : e'.end ≤ length t'
      within' = omega (arith, h.size, m.end)

      rising' : e'.start ≤ e'.end
      rising' = omega (arith, m.start, m.end, m.rising)

      go : (u : Bool) → ltb x e.start ≡ u → (v : Bool) → ltb x (e.start + length e.replacement) ≡ v
          → get_or (splice e'.start e'.end e.replacement t') x' 0 ≡ get_or (splice e.start e.end e.replacement t) x 0
      go true y v z =
          let k = ltb-true x e.start y in
          byte_front e'.start e'.end e.replacement t' rising' within' x' (omega (arith, m.start)) ∙ byte_from h some x x' l q
          ∙ sym (byte_front e.start e.end e.replacement t m.rising inside x k)
      go false y true z =
          let k = ltb-false x e.start y in
          let g = ltb-true x (e.start + length e.replacement) z in
          let i : ℕ = x - e.start in
          let e₁ : x' ≡ e'.start + i = omega (arith, m.start) in
          let e₂ : e.start + i ≡ x = omega arith in
          ap (λ (n : ℕ). get_or (splice e'.start e'.end e.replacement t') n 0) e₁
          ∙ byte_inner e'.start e'.end e.replacement t' rising' within' i (omega arith)
          ∙ sym (byte_inner e.start e.end e.replacement t m.rising inside i (omega arith))
          ∙ ap (λ (n : ℕ). get_or (splice e.start e.end e.replacement t) n 0) e₂
      go false y false z =
          let g = ltb-false x (e.start + length e.replacement) z in
          let i : ℕ = x - (e.start + length e.replacement) in
          let e₁ : x' ≡ e'.start + length e.replacement + i = omega (arith, m.start) in
          let e₂ : e.start + length e.replacement + i ≡ x = omega arith in
          ap (λ (n : ℕ). get_or (splice e'.start e'.end e.replacement t') n 0) e₁
          ∙ byte_rest e'.start e'.end e.replacement t' rising' within' i
          ∙ byte_from h some (e.end + i) (e'.end + i) (omega (arith, m.behind, m.rising)) (omega (arith, m.end))
          ∙ sym (byte_rest e.start e.end e.replacement t m.rising inside i)
          ∙ ap (λ (n : ℕ). get_or (splice e.start e.end e.replacement t) n 0) e₂

  -- the blank line before a place behind the cut, in the new texts
  blank_from : c < length b.sanitized → (x x' : ℕ) → c + 1 ≤ x → x' + c ≡ x + d → blank_line_before (edited b'.sanitized e') x' ≡ blank_line_before (edited b.sanitized e) x
  unfolding blank_line_before
  blank_from some x x' g q =
      let i = h.inside some in
      let j = h.inside' some in
      rw (le-leb 2 x (omega arith), le-leb 2 x' (omega arith), edited_from some (x - 2) (x' - 2) (omega arith) (omega arith), edited_from some (x - 1) (x' - 1) (omega arith) (omega arith))

  blank_behind : c < length b.sanitized → (k : ℕ) → e.end ≤ c + k
      → blank_line_before (edited b'.sanitized e') (behind_edit e' (d + suc k)) ≡ blank_line_before (edited b.sanitized e) (behind_edit e (c + suc k))
  unfolding behind_edit
  blank_behind some k l =
      let n = ap length m.replacement in
      let j = m.rising in
      let i = m.behind in
      let s = m.start in
      let t = m.end in
      blank_from some (behind_edit e (c + suc k)) (behind_edit e' (d + suc k)) (omega arith) (omega arith)

  pub end_cut_behind : c < length b.sanitized → (k : ℕ) → e.end ≤ c + k → end_cut b' e' (d + suc k) ≡ end_cut b e (c + suc k)
  unfolding end_cut
  end_cut_behind some k l = rw (safe_behind h some k, same_length h some k, blank_behind some k l)

  -- the end of a region whose edit ends at or behind the cut
  pub end_behind : (n k : ℕ) → e.end ≤ c + k → c + k + n ≡ length b.sanitized → region_end b' e' n (d + k) + c ≡ region_end b e n (c + k) + d
  unfolding region_end
  end_behind zero k l s = h.size
  end_behind (suc n) k l s =
      let e₁ : d + k + 1 ≡ d + suc k = omega arith in
      let e₂ : c + k + 1 ≡ c + suc k = omega arith in
      rw (h.text k, e₁, e₂, end_cut_behind (omega arith) k l) (go (newline_at b.sanitized (c + k) && end_cut b e (c + suc k)) (end_behind n (suc k) (omega arith) (omega arith)))
    where
      go : (t : Bool) → region_end b' e' n (d + suc k) + c ≡ region_end b e n (c + suc k) + d → cond t (d + suc k) (region_end b' e' n (d + suc k)) + c ≡ cond t (c + suc k) (region_end b e n (c + suc k)) + d
      go true r = omega arith
      go false r = r
