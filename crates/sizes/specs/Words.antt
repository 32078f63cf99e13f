-- The words of a field as the definitions have them, by the number of their use.
use Rattle.std.specs.Prelude.{ℕ}
use Rattle.records.specs.Uses.{use_number}
use Rattle.sizes.specs.declared.FieldWords.{FieldWords}

pub record UsedWords : Type 0 where
  pub usage : ℕ
  pub first : ℕ
  pub second : ℕ

abbrev pub words_of : FieldWords → UsedWords
words_of f = record { usage = use_number f.usage; first = f.first; second = f.second }
