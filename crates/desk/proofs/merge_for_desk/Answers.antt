use Rattle.refusal.specs.Refusal.{handed_on}
use Rattle.desk.specs.Charging.{no_desk, desk_inside, merge_refused, total_full, merge_charged}
use Rattle.desk.proofs.merge_for_desk.Goals as goal

pub returns-in_default : goal.returns-in_default
returns-in_default c = no_desk _ _ _ _ _ _ _ c.in_default.ensures c.refuse.ensures

pub returns-in_err-merged : goal.returns-in_err-merged
returns-in_err-merged c = rw (handed_on _ c.from_residual.ensures.1) (merge_refused _ _ _ _ _ _ _ c.in-Some.ensures c.in_err-merged.ensures)

pub charged-requires : goal.charged-requires
charged-requires c = desk_inside _ _ c.in-Some.ensures

pub returns-in_default-charged : goal.returns-in_default-charged
returns-in_default-charged c =
    total_full _ _ _ _ _ _ _ c.in-Some.ensures c.in_ok-merged.ensures c.in_default-charged.ensures c.refuse-in_default-charged.ensures c.merge.auto.out_tape c.merge.auto.out_bytes c.merge.auto.work

pub returns : goal.returns
returns c = merge_charged _ _ _ _ _ _ _ c.in-Some.ensures c.in_ok-merged.ensures c.in-Some-charged.ensures c.copy_from_slice.ensures.after
