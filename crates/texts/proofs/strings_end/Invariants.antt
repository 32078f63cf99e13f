use Rattle.texts.specs.Strings.{StringsLeft}
use Rattle.texts.proofs.strings_end.Given as goal

abbrev pub invariant-loop-i : goal.invariant-loop-i
invariant-loop-i l = StringsLeft l.tape l.strings.at l.strings.count l.bytes l.from l.i l.place
