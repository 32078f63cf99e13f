use Rattle.std.proofs.Common.{ℕ, ◌+◌, ◌*◌, refl, ◌∙◌, rules}
use Rattle.model.specs.Tape.{record_at}
use Rattle.wire.proofs.Ranges.{range_all}
use Rattle.records.specs.Runs.{run_all}
use Rattle.records.proofs.all_shaped.Goals as goal

pub returns : goal.returns
returns g c =
    let r = g.R.Shaped in
    let t = c.args.tape.now in
    range_all _ _ _ _ (λ (i : ℕ). r.test (record_at r.codec t (c.args.at + r.SIZE * i))) refl (λ x b q k. search rules) _ c.all.ensures.ran
    ∙ run_all r.codec r.test t c.args.at c.args.count r.SIZE g.met.R.Shaped.size
