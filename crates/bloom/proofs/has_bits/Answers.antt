use Rattle.std.proofs.Common.{length, arith}
use Rattle.bloom.specs.Filter.{place_inside, has_at}
use Rattle.bloom.proofs.has_bits.Goals as goal

pub offset_bounds-words-i : goal.offset_bounds-words-i
offset_bounds-words-i c =
    let p = place_inside (length c.args.words.now) c.args.x c.requires.0 c.requires.1 in omega (arith, p, c.place_of-i.ensures)

pub bounds-words-i : goal.bounds-words-i
bounds-words-i c =
    let p = place_inside (length c.args.words.now) c.args.x c.requires.0 c.requires.1 in omega (arith, p, c.place_of-i.ensures)

pub returns : goal.returns
returns c = has_at c.args.words.now c.args.x c.args.bits c.place_of-i.ensures
