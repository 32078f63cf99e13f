-- What is lent, as the model has it.
use Rattle.model.specs.Merge.{Stored as MStored, stored_of}
use Rattle.model.specs.Demand3.{Correction as MCorrection, correction_of}
use Rattle.books.specs.declared.Stored.{Stored}
use Rattle.books.specs.declared.Correction.{Correction}

abbrev pub stored_value : Stored → MStored
stored_value s = stored_of s.tape.now s.bytes.now

abbrev pub correction_value : Correction → MCorrection
correction_value c = correction_of c.edit.start.0 c.edit.end.0 c.edit.replacement.now c.reading.tape.now c.reading.bytes.now
