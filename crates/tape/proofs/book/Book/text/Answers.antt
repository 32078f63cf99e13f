use Rattle.std.proofs.Common.{ap, ◌∙◌, arith, ℕ, take}
use Rattle.std.proofs.Math.Nat.{sub-zero}
use Rattle.tape.specs.Held.{held_text, held_texts_inside}
use Rattle.tape.proofs.book.Book.text.Goals as goal

pub slice_bounds-result-end : goal.slice_bounds-result-end
slice_bounds-result-end c = let i = held_texts_inside c.args.self.now.held in omega (arith, i)

pub returns : goal.returns
returns c = ap (λ (n : ℕ). take n c.args.self.now.bytes.now) (sub-zero c.args.self.now.places.text.0) ∙ held_text c.args.self.now.held
