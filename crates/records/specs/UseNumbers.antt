-- Uses of one number are one use.
use Rattle.std.specs.Prelude.{◌≡◌, ℕ, [], ◌∷◌, get_or}
use Rattle.std.proofs.Common.{refl, sym, ap, ◌∙◌}
use Rattle.records.specs.Uses.{use_number}
use Rattle.records.specs.declared.Use.{Use}
use Rattle.records.specs.declared.Use.TheVariants.{Unused, Str, OptStr, Contents, ContentsLen, Segments, SegmentsLen}

abbrev named : ℕ → Use
named n = get_or (Unused ∷ Str ∷ OptStr ∷ Contents ∷ ContentsLen ∷ Segments ∷ SegmentsLen ∷ []) n Unused

named_number : (u : Use) → named (use_number u) ≡ u
named_number Unused = refl
named_number Str = refl
named_number OptStr = refl
named_number Contents = refl
named_number ContentsLen = refl
named_number Segments = refl
named_number SegmentsLen = refl

pub number_same : (u v : Use) → use_number u ≡ use_number v → u ≡ v
number_same u v e = sym (named_number u) ∙ ap named e ∙ named_number v
