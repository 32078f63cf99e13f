-- What a word of a body is for: the rule from model's table of fields, the code's table, and that it follows the rule.
use Rattle.std.specs.Prelude.{ℕ, zero, suc, ◌+◌, ◌%◌, ◌<◌, ◌≡◌, Bool, not, ◌&&◌, ◌||◌, List, [], ◌∷◌, length, get_or, ltb, eqb}
use native.Mathlib.Omega.{arith}
use Rattle.std.proofs.Math.Path.{refl}
use Rattle.std.proofs.Common.{sym, ap, ◌∙◌, true≢false, ltb-true, ltb-false, eqb-true, eq-eqb, ne_eqb}
use Rattle.std.proofs.Math.Bool.{true, false, cond}
use Rattle.model.specs.Lists.{all, any, tabulate}
use Rattle.model.specs.Tape.{Field, Field.str, Field.opt_str, Field.content_range, Field.seg_range, field_table, uses_word, unused_zero}
use Rattle.facts.specs.Truth.{by_bool}
use Rattle.wire.specs.Loops.{all_up_to, all_tabulate}
use Rattle.records.specs.declared.Use.{Use}
use Rattle.records.specs.declared.Use.TheVariants.{Unused, Str, OptStr, Contents, ContentsLen, Segments, SegmentsLen}

-- ---- the rule

-- 0 unused, 1 a string, 2 a string that may be missing, 3 and 4 start and length of contents, 5 and 6 of segments
unfoldable pub use_of : ℕ → Field → ℕ
use_of i (str p) = cond (eqb i p) 1 0
use_of i (opt_str p) = cond (eqb i p) 2 0
use_of i (content_range p) = cond (eqb i p) 3 (cond (eqb i (p + 1)) 4 0)
use_of i (seg_range p) = cond (eqb i p) 5 (cond (eqb i (p + 1)) 6 0)

-- the use that the first field has for the word
unfoldable pub use_in : ℕ → List Field → ℕ
use_in i [] = 0
use_in i (f ∷ fs) = cond (eqb (use_of i f) 0) (use_in i fs) (use_of i f)

-- the fields of a kind with a tag; none where the body has no words
unfoldable pub fields_for : Bool → ℕ → ℕ → List Field
fields_for used kind tag = cond used (get_or (field_table tag) kind []) []

unfoldable pub word_use : ℕ → ℕ → ℕ → ℕ
word_use kind tag i = use_in i (get_or (field_table tag) kind [])

-- Section 4. An unused word is 0.
unfoldable pub word_fits : List Field → ℕ → ℕ → Bool
word_fits fs i w = any (uses_word i) fs || eqb w 0

-- ---- the code's uses

-- a use as the rule's number
abbrev pub use_number : Use → ℕ
use_number Unused = 0
use_number Str = 1
use_number OptStr = 2
use_number Contents = 3
use_number ContentsLen = 4
use_number Segments = 5
use_number SegmentsLen = 6

-- the number of word i
abbrev pub use_among : List Use → ℕ → ℕ
use_among us i = use_number (get_or us i Unused)

-- six words
abbrev six : Use → Use → Use → Use → Use → Use → List Use
six a b c d e f = a ∷ b ∷ c ∷ d ∷ e ∷ f ∷ []

unfoldable pub format_uses : ℕ → List Use
format_uses tag = six Contents ContentsLen (cond (ltb (tag % 4) 2) Unused Str) Unused Unused Unused

unfoldable pub gaiji_uses : ℕ → List Use
gaiji_uses tag = six Str (cond (eqb tag 2) OptStr Unused) Unused Unused Unused Unused

unfoldable pub image_uses : ℕ → List Use
image_uses tag =
    six Str OptStr OptStr OptStr (cond (eqb tag 1) Str (cond (eqb tag 2) Segments Unused)) (cond (eqb tag 1) Unused (cond (eqb tag 2) SegmentsLen Unused))

-- kinds whose tag says nothing of their words: one string, one range of contents, or two
unfoldable pub other_uses : ℕ → List Use
other_uses kind =
    let string = six Str Unused Unused Unused Unused Unused in
    let one = six Contents ContentsLen Unused Unused Unused Unused in
    let two = six Contents ContentsLen Contents ContentsLen Unused Unused in
    cond (eqb kind 0) string (cond (eqb kind 1) two (cond (eqb kind 9) one (cond (eqb kind 10) string
    (cond (eqb kind 12) string (cond (eqb kind 13) string (cond (eqb kind 14) one (cond (eqb kind 15) two (six Unused Unused Unused Unused Unused Unused))))))))

unfoldable pub uses_of : ℕ → ℕ → List Use
uses_of kind tag = cond (eqb kind 2) (format_uses tag) (cond (eqb kind 3) (gaiji_uses tag) (cond (eqb kind 11) (image_uses tag) (other_uses kind)))

-- the tags that matter
unfoldable pub variant_of : ℕ → ℕ → ℕ
variant_of kind tag = cond (eqb kind 2) (tag % 4) (cond (ltb tag 3) tag 3)

-- ---- that it follows the rule

-- other kinds than Format tell tags 1 and 2 apart at most
past_format : (k t w : ℕ) → (k ≡ 2 → ⊥) → eqb t 1 ≡ eqb w 1 → eqb t 2 ≡ eqb w 2 → get_or (field_table t) k [] ≡ get_or (field_table w) k []
unfolding field_table
past_format zero t w ne a b = refl
past_format (suc zero) t w ne a b = refl
past_format (suc (suc zero)) t w ne a b = absurd (ne refl)
past_format (suc (suc (suc k))) t w ne a b = cc

format_fields : (t : ℕ) → get_or (field_table t) 2 [] ≡ get_or (field_table (t % 4)) 2 []
unfolding field_table
format_fields t = let e : t % 4 % 4 ≡ t % 4 = omega arith in rw e refl

-- tags from 3 on are as 3
pub few : (t n : ℕ) → n < 3 → eqb t n ≡ eqb (cond (ltb t 3) t 3) n
few t n h = by_bool (ltb t 3) (λ s. rw s refl) (λ s. let b = ltb-false t 3 s in rw (s, ne_eqb t n (λ e. omega arith), ne_eqb 3 n (λ e. omega arith)) refl)

pub same_fields : (k t : ℕ) → get_or (field_table t) k [] ≡ get_or (field_table (variant_of k t)) k []
unfolding variant_of
same_fields k t =
    by_bool (eqb k 2) (λ e. let q : k ≡ 2 = eqb-true k 2 e in rw (e, q) (format_fields t))
    (λ e. rw e (past_format k t (cond (ltb t 3) t 3) (λ q. true≢false (sym (eq-eqb k 2 q) ∙ e)) (few t 1 (omega arith)) (few t 2 (omega arith))))

pub variant_small : (k t : ℕ) → variant_of k t < 4
unfolding variant_of
variant_small k t =
    by_bool (eqb k 2) (λ e. rw e (omega arith))
    (λ e. rw e (by_bool (ltb t 3) (λ s. rw s (omega (arith, ltb-true t 3 s))) (λ s. rw s (omega arith))))

pub same_use : (k t i : ℕ) → word_use k t i ≡ word_use k (variant_of k t) i
unfolding word_use
same_use k t i = ap (use_in i) (same_fields k t)

-- a field uses a word where it has a use for it
uses_one : (i : ℕ) (f : Field) → uses_word i f ≡ not (eqb (use_of i f) 0)
unfolding use_of
uses_one i (str p) = by_bool (eqb i p) (λ e. rw e refl) (λ e. rw e refl)
uses_one i (opt_str p) = by_bool (eqb i p) (λ e. rw e refl) (λ e. rw e refl)
uses_one i (content_range p) = by_bool (eqb i p) (λ e. rw e refl) (λ e. rw e (by_bool (eqb i (p + 1)) (λ a. rw a refl) (λ a. rw a refl)))
uses_one i (seg_range p) = by_bool (eqb i p) (λ e. rw e refl) (λ e. rw e (by_bool (eqb i (p + 1)) (λ a. rw a refl) (λ a. rw a refl)))

pub uses_word_lem : (i : ℕ) (fs : List Field) → any (uses_word i) fs ≡ not (eqb (use_in i fs) 0)
unfolding use_in
uses_word_lem i [] = refl
uses_word_lem i (f ∷ fs) =
    rw (uses_one i f, uses_word_lem i fs)
    (by_bool (eqb (use_of i f) 0) (λ e. rw e refl) (λ e. rw (e, e) refl))

-- ---- the words in their order

module _ (fs : List Field) where
  words_from : (j : ℕ) (ws : List ℕ) → all (λ b. b) (tabulate (length ws) (λ (i : ℕ). word_fits fs (j + i) (get_or ws i 0))) ≡ unused_zero fs j ws
  unfolding unused_zero word_fits
  words_from j [] = refl
  words_from j (w ∷ ws) =
      let first : j + 0 ≡ j = omega arith in
      let next = λ (i : ℕ). (let e : j + suc i ≡ j + 1 + i = omega arith in e) in
      rw first (ap (λ (f : ℕ → Bool). word_fits fs j w && all (λ b. b) (tabulate (length ws) f)) (λ k i. word_fits fs (next i k) (get_or ws i 0))
      ∙ ap (λ (b : Bool). word_fits fs j w && b) (words_from (j + 1) ws))

  pub words_all : (ws : List ℕ) → all_up_to (length ws) (λ (i : ℕ). word_fits fs i (get_or ws i 0)) ≡ unused_zero fs 0 ws
  words_all ws =
      let from = λ (i : ℕ). (let e : i ≡ 0 + i = omega arith in e) in
      all_tabulate (λ b. b) (length ws) (λ (i : ℕ). word_fits fs i (get_or ws i 0))
      ∙ ap (λ (f : ℕ → Bool). all (λ b. b) (tabulate (length ws) f)) (λ k i. word_fits fs (from i k) (get_or ws i 0))
      ∙ words_from 0 ws

-- ---- the code's answers

-- a word by the number of its use
unfoldable pub use_fits : Bool → ℕ → ℕ → Bool
use_fits used u w = cond (eqb w 0) true (cond used (not (eqb u 0)) false)
