-- Number 5 of a whole tape: its layers one after the other.
use Rattle.std.specs.Prelude.{◌≡◌, refl, ℕ, Bool, true, List, [], ◌∷◌}
use Rattle.std.proofs.Math.Path.{sym, ap}
use Rattle.std.proofs.Common.{◌∙◌, arith}
use Rattle.model.specs.Lists.{all, sum}
use Rattle.model.specs.Tape.{records_at, segment_codec, LayerPlaces, places}
use Rattle.places.specs.declared.LayerRuns.{LayerRuns}
use Rattle.places.specs.Found.{layer_runs, segments_in}
use Rattle.places.specs.Walked.{all_layers}
use Rattle.store.specs.declared.Store.{Store}
use Rattle.store.specs.Stored.{OfTape, store_at}
use Rattle.levels.specs.Below.{level_in}

-- the segments of a layer
unfoldable pub run_levels : List ℕ → Store → LayerRuns → Bool
run_levels t st l = all (level_in t st) (records_at segment_codec t l.segments.at l.segments.count)

abbrev pub levels_in : List ℕ → Store → Bool
levels_in t st = all_layers (run_levels t st) t

-- ---- a book without segments

no_runs : (t : List ℕ) (st : Store) (ls : List LayerPlaces) → sum (segments_in ls) ≡ 0 → true ≡ all (λ (l : LayerPlaces). run_levels t st (layer_runs l)) ls
unfolding run_levels records_at
no_runs t st [] h = refl
no_runs t st (l ∷ ls) h =
    let e : l.segment_count ≡ 0 = omega (arith, h) in
    let f : sum (segments_in ls) ≡ 0 = omega (arith, h) in
    rw e (no_runs t st ls f)

pub no_segments : {t : List ℕ} {st : Store} → OfTape t st → st.totals.segments ≡ 0 → true ≡ levels_in t st
unfolding all_layers store_at
no_segments {t} {st} fits e = no_runs t st (places t).layers (sym (ap (λ (s : Store). s.totals.segments) fits.stored) ∙ e)

-- ---- its layers

-- a run's answer is that of its layer
pub run_said : (t : List ℕ) (st : Store) (l : LayerRuns) {r : Bool} → r ≡ all (level_in t st) (records_at segment_codec t l.segments.at l.segments.count) → r ≡ run_levels t st l
unfolding run_levels
run_said t st l e = e
