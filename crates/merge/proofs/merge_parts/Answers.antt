use mathlib.Core.Path.{◌≡◌}
use lib.ListN.{length}
use borrow.Author.Rules.{rules}
use Rattle.runs.specs.Input.{asked_answer}
use Rattle.merge.proofs.merge_parts.Goals as goal

pub returns : goal.returns
returns c =
    let tape : length c.args.out_tape.now ≡ 65536 = search rules in
    let bytes : length c.args.out_bytes.now ≡ 65536 = search rules in
    let words : length c.args.work.now ≡ 16384 = search rules in
    asked_answer _ c.u32_at.ensures c.u32_at-2.ensures c.u32_at-6.ensures c.u32_at-7.ensures c.u32_at-3.ensures c.u32_at-4.ensures c.u32_at-5.ensures
    c.between.ensures c.between-2.ensures c.between-3.ensures c.between-4.ensures c.between-5.ensures tape bytes words
    (rw (c.new-book.ensures, c.new-reading.ensures) at c.merge.ensures)
