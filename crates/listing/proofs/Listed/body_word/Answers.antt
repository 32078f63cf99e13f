use Rattle.std.specs.Prelude.{◌≡◌, ◌<◌, ◌≤◌}
use Rattle.std.proofs.Common.{refl, sym, ap, ◌∙◌, ⊎_elim, arith}
use Rattle.std.proofs.Math.Logic.{◌⊎◌}
use Rattle.records.specs.Uses.{use_number}
use Rattle.records.specs.declared.Use.{Use}
use Rattle.records.specs.declared.Use.TheVariants.{Unused, Str, OptStr, Contents, ContentsLen, Segments, SegmentsLen}
use Rattle.listing.specs.Pieces.{word_unused, word_string, word_number}
use Rattle.listing.proofs.Listed.body_word.Goals as goal

string_use : (u : Use) → (u ≡ Str) ⊎ (u ≡ OptStr) → (0 < use_number u) × (use_number u ≤ 2)
string_use u =
    ⊎_elim (λ e. let q : use_number u ≡ 1 = ap use_number e in (omega (arith, q), omega (arith, q)))
    (λ e. let q : use_number u ≡ 2 = ap use_number e in (omega (arith, q), omega (arith, q)))

other_use : (u : Use) → (u ≡ Unused → ⊥) → (u ≡ Str → ⊥) → (u ≡ OptStr → ⊥) → 2 < use_number u
other_use Unused a b d = absurd (a refl)
other_use Str a b d = absurd (b refl)
other_use OptStr a b d = absurd (d refl)
other_use Contents a b d = omega arith
other_use ContentsLen a b d = omega arith
other_use Segments a b d = omega arith
other_use SegmentsLen a b d = omega arith

pub returns-in-Unused : goal.returns-in-Unused
returns-in-Unused c = rw (← c.byte_at-kind.ensures, ← c.byte_at-tag.ensures) (word_unused _ _ _ _ (sym c.word_use.ensures ∙ ap use_number c.in-Unused.is))

pub returns-in-Str : goal.returns-in-Str
returns-in-Str c =
    let n = string_use c.word_use.result c.in-Str.is in
    rw (← c.byte_at-kind.ensures, ← c.byte_at-tag.ensures)
    (word_string _ _ _ _ (λ e. omega (arith, n, e, c.word_use.ensures)) c.word_label-label.ensures c.u32_or_zero-word.ensures (omega (arith, n, c.word_use.ensures)))

pub returns-in_default : goal.returns-in_default
returns-in_default c =
    let n = other_use c.word_use.result c.in_default.not-Unused c.in_default.not-Str c.in_default.not-OptStr in
    rw (← c.byte_at-kind.ensures, ← c.byte_at-tag.ensures)
    (word_number _ _ _ _ (λ e. omega (arith, n, e, c.word_use.ensures)) c.word_label-label.ensures c.u32_or_zero-word.ensures (omega (arith, n, c.word_use.ensures)))
