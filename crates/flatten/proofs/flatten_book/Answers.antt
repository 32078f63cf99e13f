use Rattle.std.proofs.Common.{ap, ◌∙◌}
use Rattle.model.specs.Bytes.{zeros}
use Rattle.flatten.specs.Answer.{within, flattened}
use Rattle.flatten.proofs.flatten_book.Goals as goal

pub clear_rest-requires : goal.clear_rest-requires
clear_rest-requires c = within _ c.flatten_checked-r.ensures c.taken-tape_end.ensures

pub returns : goal.returns
returns c =
    let same = c.flatten_checked-r.auto in
    let f = flattened _ c.flatten_checked-r.ensures c.taken-tape_end.ensures same.out_tape same.out_bytes c.clear_rest.ensures.0 c.clear_rest.ensures.1 in
    (f.0, f.1, f.2, c.clear_rest.ensures.2 ∙ ap zeros same.work)
