use Rattle.std.proofs.Common.{refl}
use Rattle.model.specs.Merge.{room_of, result_checked}
use Rattle.refusal.specs.Refusal.{handed_on}
use Rattle.result.specs.Stages.{written_refused}
use Rattle.incremental.specs.Merging.{merge_refused, merge_result, written_later}
use Rattle.incremental.proofs.merge_opened.Goals as goal

pub returns-in_err-m : goal.returns-in_err-m
returns-in_err-m c =
    rw (handed_on _ c.from_residual.ensures.1) (written_refused _ _ _ _ (merge_refused _ _ _ _ c.in_err-m.ensures) refl refl c.fit_opened.auto.work)

pub returns : goal.returns
returns c =
    let room = room_of c.args.out_tape.now c.args.out_bytes.now c.args.work.now in
    written_later _ _ (result_checked _ _ _ _) (merge_result _ _ _ room c.in_ok-m.ensures) c.fit_opened.auto.work c.put_result.ensures
