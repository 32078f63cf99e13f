use Rattle.std.proofs.Common.{arith}
use Rattle.model.specs.Region.{edit_of}
use Rattle.tape.specs.Held.{held_texts_inside}
use Rattle.fitting.specs.Inside.{inside, lengths_read, limits_read}
use Rattle.merged_lists.proofs.new_lengths.Goals as goal

pub overflow_cast-text : goal.overflow_cast-text
unfolding edit_of
overflow_cast-text c = let i = inside c.args.m.now.fits in omega (arith, i.rising, i.ends, i.limit, i.short)

pub overflow_add-text : goal.overflow_add-text
unfolding edit_of
overflow_add-text c = let i = inside c.args.m.now.fits in omega (arith, i.rising, i.ends, i.limit, i.short)

pub overflow_cast-text-3 : goal.overflow_cast-text-3
unfolding edit_of
overflow_cast-text-3 c = let i = inside c.args.m.now.fits in omega (arith, i.rising, i.ends, i.limit, i.short)

pub overflow_sub-text : goal.overflow_sub-text
unfolding edit_of
overflow_sub-text c = let i = inside c.args.m.now.fits in omega (arith, i.rising, i.ends, i.limit, i.short)

pub overflow_add-text-2 : goal.overflow_add-text-2
unfolding edit_of
overflow_add-text-2 c = let i = inside c.args.m.now.fits in omega (arith, i.rising, i.ends, i.limit, i.short)

pub overflow_sub-normalized : goal.overflow_sub-normalized
unfolding edit_of
overflow_sub-normalized c = let i = inside c.args.m.now.fits in omega (arith, i.normal_ends)

pub overflow_sub-strings : goal.overflow_sub-strings
overflow_sub-strings c = omega (arith, held_texts_inside c.args.m.now.book.held)

pub overflow_add-result : goal.overflow_add-result
unfolding edit_of
overflow_add-result c =
    let m = c.args.m.now in
    let i = inside m.fits in
    let l = lengths_read m.fits in
    let y = limits_read m.fits in
    omega (arith, i.normal_rising, i.normal_ends, i.limit, i.normal_short, l.normalized, y.normalized, m.book.bytes_small)

pub overflow_add-result-2 : goal.overflow_add-result-2
unfolding edit_of
overflow_add-result-2 c =
    let m = c.args.m.now in
    let i = inside m.fits in
    let l = lengths_read m.fits in
    let y = limits_read m.fits in
    omega (arith, i.normal_rising, i.normal_ends, i.limit, i.normal_short, l.normalized, y.normalized, m.book.bytes_small)
