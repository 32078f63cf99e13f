-- Section 6 over the three lists of a book that it asks: text, nodes and pairs. A cut depends on nothing else.
use Rattle.std.specs.Prelude.{ℕ, ◌+◌, ◌-◌, ◌≡◌, Bool, false, ◌&&◌, ◌||◌, List, length, eqb}
use native.Mathlib.Omega.{arith}
use Rattle.std.proofs.Math.Path.{refl, sym}
use Rattle.std.proofs.Common.{◌∙◌}
use Rattle.std.proofs.Math.Bool.{and-false, true≢false}
use borrow.Author.Tests.{ne_eqb}
use Rattle.model.specs.Types.{SourceNode, PairLink, LexOutput}
use Rattle.model.specs.Region.{newline_at, blank_line_before, nodes_allow_cut, pairs_allow_cut, safe_cut}
use Rattle.facts.specs.Truth.{by_bool}

-- Section 6. Two newline bytes before it, no node across, both depths 0, no pair across.
unfoldable pub cut_allowed : List ℕ → List SourceNode → List PairLink → ℕ → Bool
cut_allowed text ns ps o = blank_line_before text o && nodes_allow_cut ns o && pairs_allow_cut ps o

-- Section 6. `safe_cut`: 0 and the length always; elsewhere text, nodes and pairs allow it.
unfoldable pub safe_cut_in : List ℕ → List SourceNode → List PairLink → ℕ → Bool
safe_cut_in text ns ps o = eqb o 0 || eqb o (length text) || cut_allowed text ns ps o

-- ---- the test of both ends at an offset c behind the byte k: that a cut is allowed, unless c is the length behind a newline

module _ (text : List ℕ) (ns : List SourceNode) (ps : List PairLink) where
  blank_newline : (c k : ℕ) → c ≡ k + 1 → newline_at text k ≡ false → cut_allowed text ns ps c ≡ false
  unfolding cut_allowed blank_line_before
  blank_newline c k q e = let s : c - 1 ≡ k = omega arith in rw (s, e, and-false) refl

  pub safe_test : (c k : ℕ) → c ≡ k + 1 → (c ≡ length text → newline_at text k ≡ false) → newline_at text k && safe_cut_in text ns ps c ≡ cut_allowed text ns ps c
  unfolding safe_cut_in
  safe_test c k q h =
      by_bool (newline_at text k)
      (λ t. rw (t, ne_eqb c 0 (λ z. omega arith), ne_eqb c (length text) (λ z. true≢false (sym t ∙ h z))) refl)
      (λ t. rw (t, blank_newline c k q t) refl)

-- ---- of a book

module _ (b : LexOutput) where
  pub safe_book : (o : ℕ) → safe_cut_in b.sanitized b.source_nodes b.pairs o ≡ safe_cut b o
  unfolding safe_cut_in cut_allowed safe_cut
  safe_book o = refl
