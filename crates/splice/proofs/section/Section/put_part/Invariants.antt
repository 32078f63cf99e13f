use Rattle.splice.specs.Parts.{PutUpTo}
use Rattle.splice.specs.Window.{window_value}
use Rattle.splice.proofs.section.Section.put_part.Given as goal

abbrev pub invariant-loop-i : goal.invariant-loop-i
invariant-loop-i g l = PutUpTo g.K.Spliced.codec g.K.Spliced.located (window_value l.w) l.part l.self.tape.now l.self.run.at l.initial.out l.to l.i l.next l.out
