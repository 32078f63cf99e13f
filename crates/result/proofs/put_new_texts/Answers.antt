use Rattle.std.proofs.Common.{refl, ◌+◌, arith}
use Rattle.model.specs.Region.{edit_of}
use Rattle.tape.specs.Held.{held_texts_inside}
use Rattle.fitting.specs.Inside.{inside}
use Rattle.result.specs.Stages.{texts_sliced, texts_asked}
use Rattle.result.proofs.put_new_texts.Goals as goal

pub slice_bounds-new_text-end : goal.slice_bounds-new_text-end
slice_bounds-new_text-end c = omega (arith, held_texts_inside c.args.m.now.book.held)

pub slice_bounds-new_normalized-end : goal.slice_bounds-new_normalized-end
slice_bounds-new_normalized-end c = omega (arith, held_texts_inside c.args.m.now.book.held)

pub slice_bounds-new_normalized-end-2 : goal.slice_bounds-new_normalized-end-2
slice_bounds-new_normalized-end-2 c = omega (arith, held_texts_inside c.args.m.now.reading.held)

pub invariant_of-new_text : goal.invariant_of-new_text
unfolding edit_of
invariant_of-new_text c =
    let m = c.args.m.now in
    let i = inside m.fits in
    record {
      inside = (texts_asked m.book.places m.reading.places m.edit.start.0 m.edit.end.0 m.edit.replacement.now m.window.normalized.start.0 m.window.normalized.end.0
          m.book.bytes.now m.reading.bytes.now _ (i.rising, i.ends, i.normal_rising, i.normal_ends) (held_texts_inside m.book.held) (held_texts_inside m.reading.held) c.requires).0;
    }

pub invariant_of-new_normalized : goal.invariant_of-new_normalized
unfolding edit_of
invariant_of-new_normalized c =
    let m = c.args.m.now in
    let i = inside m.fits in
    record {
      inside = (texts_asked m.book.places m.reading.places m.edit.start.0 m.edit.end.0 m.edit.replacement.now m.window.normalized.start.0 m.window.normalized.end.0
          m.book.bytes.now m.reading.bytes.now _ (i.rising, i.ends, i.normal_rising, i.normal_ends) (held_texts_inside m.book.held) (held_texts_inside m.reading.held) c.requires).1;
    }

pub put_texts-requires : goal.put_texts-requires
unfolding edit_of
put_texts-requires c =
    let m = c.args.m.now in
    let i = inside m.fits in
    (texts_asked m.book.places m.reading.places m.edit.start.0 m.edit.end.0 m.edit.replacement.now m.window.normalized.start.0 m.window.normalized.end.0
    m.book.bytes.now m.reading.bytes.now _ (i.rising, i.ends, i.normal_rising, i.normal_ends) (held_texts_inside m.book.held) (held_texts_inside m.reading.held) c.requires).2

pub returns : goal.returns
returns c =
    let m = c.args.m.now in
    let p = m.book.places in
    let q = m.reading.places in
    let e = m.edit in
    let n = m.window.normalized in
    texts_sliced p q e.start.0 e.end.0 e.replacement.now n.start.0 n.end.0 m.book.bytes.now m.reading.bytes.now c.args.out.now
    p.text.0 (p.text.0 + p.normalized.0) q.text.0 refl refl refl (held_texts_inside m.book.held) c.put_texts.ensures
