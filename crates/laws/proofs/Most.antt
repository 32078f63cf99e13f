-- Wish 7. How great m may be where it is not known.
use Rattle.std.specs.Prelude.{◌≡◌, ◌*◌, ◌≤◌, length}
use Rattle.std.proofs.Common.{ap, arith, mul-le-mul_left}
use Rattle.model.specs.Limits.{max_new_strings}
use Rattle.model.specs.Refusal.{Checked.accepted}
use Rattle.model.specs.Intern.{StrInterner}
use Rattle.model.specs.Tree.{shown_nodes}
use Rattle.model.specs.Graft.{layered, graft_calls}
use Rattle.model.specs.Region.{Edit}
use Rattle.model.specs.Merge.{Stored, Room, IncrementalOutput, grafted, merge}
use Rattle.model.specs.Ceiling.{distinct_short, reading_calls}
use Rattle.laws.specs.Checks.{merge_accepted}
use Rattle.laws.specs.Calls.{graft_calls_lem}
use Rattle.laws.proofs.Ceiling.{distinct_strings, reading_calls_lem, merge_ceiling}

-- so m is at most 3583, by number 18, and the calls alone bound the probes
pub merge_most : (s : Stored) (e : Edit) (rs : Stored) (room : Room) (m : IncrementalOutput) → merge s e rs room ≡ accepted m → m.stats.probe_steps ≤ m.stats.calls * max_new_strings
unfolding grafted layered
merge_most s e rs room m q =
    let a = merge_accepted s e rs room m q in
    let ns = shown_nodes a.reading in
    let c = merge_ceiling s e rs room m q in
    let l = ap distinct_short (reading_calls_lem rs a.reading a.read) in
    let d = distinct_strings (graft_calls ns) in
    let i = ap (λ (t : StrInterner). length t.strings) (graft_calls_lem ns (layered a.old.layers)) in
    let few : distinct_short (reading_calls rs) ≤ max_new_strings = omega (arith, l, d, i, a.facts.new_strings) in
    let more = mul-le-mul_left m.stats.calls few in
    omega (arith, c.probes, more)
