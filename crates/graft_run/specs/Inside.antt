-- Where the records of the grafted layer and of its nodes end.
use Rattle.std.specs.Prelude.{◌≡◌, Option, Some, None, IfSome, ℕ, ◌+◌, ◌*◌, ◌≤◌, List, length}
use Rattle.std.proofs.Common.{refl, sym, arith}
use Rattle.places.specs.declared.Places.{Places}
use Rattle.store.specs.declared.Store.{Store}
use Rattle.store.specs.Lengths.{book_lengths}
use Rattle.store.specs.declared.Totals.{Totals}
use Rattle.tape.specs.Held.{Held}
use Rattle.layer.specs.declared.Grafted.{Grafted}
use Rattle.layer.specs.Layered.{grafted_into, layer_sizes, layer_fits_lem}
use Rattle.layer.specs.Answers.{LayerTold}

pub records_inside : {t d : List ℕ} {p : Places} {st : Store} → Held t d p st → {out strs out' strs' : List ℕ} {o : Totals} (n : ℕ) → n ≡ length out
    → (r : Option Grafted) → LayerTold out strs out' strs' 0 0 o r (grafted_into t d o) → IfSome r (λ (l : Grafted). l.len + 49 * p.nodes.count ≤ n)
records_inside f n e None told = tt
records_inside {t} {d} {p} f {out} {strs} {o = o} n e (Some l) told =
    let z = layer_sizes t d o (book_lengths t d p f.accepted.framing f.is).nodes in
    let g = layer_fits_lem (length out) (length strs) 0 0 o (grafted_into t d o) (sym told.room) in
    omega (arith, e, z.layer, z.bytes, g.tape, (told.made l refl).len)
