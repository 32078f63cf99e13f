-- Demand 3, proved: two corrections of separate passages commute. Section 7, its second paragraph.
use Rattle.std.specs.Prelude.{◌≡◌, refl, ℕ, ◌+◌, ◌≤◌, ◌<◌, Bool, true, false, cond, List, [], ◌∷◌, ◌++◌, take, drop}
use Rattle.std.proofs.Common.{sym, ap, ap₂, ◌∙◌, subst, add_comm, append_assoc, append-nil, take-append-drop}
use native.Mathlib.Omega.{arith}
use Rattle.std.proofs.lemmas.Bool.{false≢true}
use Rattle.std.proofs.Math.ListN.{length}
use Rattle.model.specs.Lists.{is_empty, same}
use Rattle.model.specs.Offset.{Span}
use Rattle.model.specs.Types.{Layer, LexOutput, RegionOutput}
use Rattle.model.specs.WellFormed.{ids_ok}
use Rattle.model.specs.Graft.{layer_of}
use Rattle.model.specs.Region.{Edit, edited, balanced_region}
use Rattle.model.specs.Merge.{IncrementalOutput, window_of, grafted, merged_layers, merged_book, answer}
use Rattle.model.specs.Demand3.{shown, KeptReferences, moved_behind, region_behind, Demand3}
use Rattle.facts.specs.Lists.{same_refl}
use Rattle.laws.specs.Checks.{checked_book, checked_reading, Chosen, chosen_facts, merge_accepted, merged_of}
use Rattle.laws.specs.ReadFits.{read_fits_lem}
use Rattle.laws.proofs.Kept.{kept_references}
use Rattle.commute.specs.Merged.{Fit, same_behind, length_sum}
use Rattle.commute.specs.Passage.{region_again, region_moved}
use Rattle.commute.specs.Orders.{FourMerges}
use Rattle.commute.proofs.Before.{same_before}
use Rattle.commute.proofs.Orders.{texts_agree, normalized_agree, pairs_agree, containers_agree, diagnostics_agree, nodes_agree}
use Rattle.commute.specs.Step.{Step, step_of, twelve, fit_of}
use Rattle.commute.specs.Book.{merged_book_lem, output_again}

-- ---- the regions of the second merges

-- an insertion at a text's end that changes it is not empty: number 9
inserts : (b : LexOutput) (e : Edit) (r : Span) → Chosen b e r → e.start ≡ length b.sanitized → 1 ≤ length e.replacement
unfolding edited
inserts b e r c h = go e.replacement refl
  where
    go : (l : List ℕ) → e.replacement ≡ l → 1 ≤ length l
    go [] q =
        let n : e.end ≡ e.start = let x = c.rising in omega arith in
        let z : same (take e.start b.sanitized ++ (e.replacement ++ drop e.end b.sanitized)) b.sanitized ≡ true = rw (q, n, take-append-drop e.start b.sanitized) (same_refl b.sanitized) in
        absurd (false≢true (sym c.changes ∙ z))
    go (x ∷ l) q = omega arith

module _ {b : LexOutput} {E L : Edit} {RE RL : RegionOutput} {m₁ m₂ m₃ m₄ : IncrementalOutput} (apart : (balanced_region b E).end ≤ (balanced_region b L).start)
    (s₁ : Step b E (balanced_region b E) RE m₁) (s₃ : Step b L (balanced_region b L) RL m₃)
    (s₂ : Step (merged_of b E RE (balanced_region b E)) (moved_behind E L) (balanced_region (merged_of b E RE (balanced_region b E)) (moved_behind E L)) RL m₂)
    (s₄ : Step (merged_of b L RL (balanced_region b L)) E (balanced_region (merged_of b L RL (balanced_region b L)) E) RE m₄) where
  abbrev r_e : Span
  r_e = balanced_region b E

  abbrev r_l : Span
  r_l = balanced_region b L

  abbrev b_e : LexOutput
  b_e = merged_of b E RE r_e

  abbrev b_l : LexOutput
  b_l = merged_of b L RL r_l

  fit_e : Fit b E RE r_e
  fit_e = fit_of s₁

  fit_l : Fit b L RL r_l
  fit_l = fit_of s₃

  -- the earlier edit finds its region again
  again : balanced_region b_l E ≡ r_e
  unfolding balanced_region
  again =
      let x = fit_l.inside in
      let y = fit_l.starts_before in
      let n = length_sum fit_l in
      region_again (same_before fit_l) E RE s₁.chosen.rising s₁.chosen.inside s₄.chosen.inside (omega arith) apart grown (twelve s₁) (twelve s₄)
    where
      grown : E.end ≡ length b.sanitized → length b.sanitized < length b_l.sanitized
      grown q =
          let x = fit_e.ends_behind in
          let y = fit_l.starts_before in
          let i = inserts b L r_l s₃.chosen (omega arith) in
          let n = length_sum fit_l in
          omega arith

  -- the later edit, moved, finds its own moved
  moved : balanced_region b_e (moved_behind E L) ≡ region_behind E r_l
  unfolding balanced_region
  moved =
      region_moved E L r_e (same_behind fit_e) RL s₁.chosen.rising fit_e.ends_behind s₃.chosen.rising s₃.chosen.inside apart
      (twelve s₃) (twelve s₂)

-- ---- kept references

layers_on : (old : LexOutput) (e : Edit) (reading : RegionOutput) (r : Span) → (more : List Layer) × ((merged_of old e reading r).layers ≡ old.layers ++ more)
unfolding merged_book merged_layers
layers_on old e reading r = go (is_empty reading.source_nodes)
  where
    go : (t : Bool) → (more : List Layer) × (cond t old.layers (old.layers ++ (layer_of (grafted old reading).1 ∷ [])) ≡ old.layers ++ more)
    go true = ([], sym (append-nil old.layers))
    go false = (layer_of (grafted old reading).1 ∷ [], refl)

kept_twice : (b : LexOutput) (e e' : Edit) (reading reading' : RegionOutput) (r r' : Span) → ids_ok b ≡ true → KeptReferences b (merged_of (merged_of b e reading r) e' reading' r')
kept_twice b e e' reading reading' r r' ids =
    let c = merged_of b e reading r in
    let x = layers_on b e reading r in
    let y = layers_on c e' reading' r' in
    kept_references b (merged_of c e' reading' r') (x.0 ++ y.0) (y.1 ∙ ap (λ (l : List Layer). l ++ y.0) x.1 ∙ append_assoc b.layers x.0 y.0) ids

-- ---- the theorem

pub demand3 : Demand3
unfolding Demand3 answer window_of shown
demand3 stored b bytes hb earlier later bytesE bytesL sep o =
    let E = earlier.edit in
    let L = later.edit in
    let r_e = balanced_region b E in
    let r_l = balanced_region b L in
    let m₁ = o.earlier_first in
    let m₂ = o.later_second in
    let m₃ = o.later_first in
    let m₄ = o.earlier_second in
    -- the readings
    let aE = merge_accepted stored E earlier.reading o.room₁ m₁ o.merge₁ in
    let aL = merge_accepted stored L later.reading o.room₃ m₃ o.merge₃ in
    let RE = aE.reading in
    let RL = aL.reading in
    let fb = read_fits_lem stored.tape bytes.tape stored.bytes b (checked_book stored.tape stored.bytes b hb).0 in
    let fE = read_fits_lem earlier.reading.tape bytesE.tape earlier.reading.bytes RE (checked_reading earlier.reading.tape earlier.reading.bytes RE aE.read).0 in
    let fL = read_fits_lem later.reading.tape bytesL.tape later.reading.bytes RL (checked_reading later.reading.tape later.reading.bytes RL aL.read).0 in
    -- the four merges
    let s₁ = step_of stored b E earlier.reading RE o.room₁ m₁ fb fE hb aE.read o.merge₁ in
    let s₃ = step_of stored b L later.reading RL o.room₃ m₃ fb fL hb aL.read o.merge₃ in
    let b_e = merged_of b E RE r_e in
    let b_l = merged_of b L RL r_l in
    let L' = moved_behind E L in
    let rL' = region_behind E r_l in
    let n₂ = step_of m₁.output b_e L' later.reading RL o.room₂ m₂ (merged_book_lem s₁).0 fL (output_again s₁) aL.read o.merge₂ in
    let n₄ = step_of m₃.output b_l E earlier.reading RE o.room₄ m₄ (merged_book_lem s₃).0 fE (output_again s₃) aE.read o.merge₄ in
    let cE = (chosen_facts b E sep.earlier_region sep.earlier_chosen).region in
    let cL = (chosen_facts b L sep.later_region sep.later_chosen).region in
    let apart : r_e.end ≤ r_l.start = subst (λ (r : Span). r_e.end ≤ r.start) cL (subst (λ (r : Span). r.end ≤ sep.later_region.start) cE sep.apart) in
    let s₂ : Step b_e L' rL' RL m₂ = subst (λ (r : Span). Step b_e L' r RL m₂) (moved apart s₁ s₃ n₂ n₄) n₂ in
    let s₄ : Step b_l E r_e RE m₄ = subst (λ (r : Span). Step b_l E r RE m₄) (again apart s₁ s₃ n₂ n₄) n₄ in
    let four : FourMerges b E L RE RL r_e r_l = record {
      first_e = fit_of s₁;
      first_l = fit_of s₃;
      apart = apart;
      second_l = fit_of s₂;
      second_e = fit_of s₄;
      unmarked_l = s₂.facts.unmarked;
      unmarked_e = s₄.facts.unmarked;
    } in
    let t = texts_agree four in
    let n = normalized_agree four in
    let k = nodes_agree four s₁ s₂ s₃ s₄ in
    let p = pairs_agree four in
    let c = containers_agree four in
    let d = diagnostics_agree four in
    let ids = s₁.old_formed.ids in
    record {
      final₁ = merged_of b_e L' RL rL';
      final₂ = merged_of b_l E RE r_e;
      holds₁ = output_again s₂;
      holds₂ = output_again s₄;
      earlier_passage = ap (λ (q : IncrementalOutput). q.region) s₄.facts.result ∙ sym (ap (λ (q : IncrementalOutput). q.region) s₁.facts.result);
      later_passage = ap (λ (q : IncrementalOutput). q.region) s₂.facts.result ∙ sym (ap (λ (q : IncrementalOutput). region_behind E q.region) s₃.facts.result);
      equal_books = λ i. record { sanitized = t i; normalized = n i; source_nodes = k i; pairs = p i; container_pairs = c i; diagnostics = d i };
      equal_totals =
          ap₂ (λ (q r : IncrementalOutput). q.reparsed_nodes + r.reparsed_nodes) s₁.facts.result s₂.facts.result
          ∙ add_comm (length RE.source_nodes) (length RL.source_nodes)
          ∙ sym (ap₂ (λ (q r : IncrementalOutput). q.reparsed_nodes + r.reparsed_nodes) s₃.facts.result s₄.facts.result);
      kept₁ = kept_twice b E L' RE RL r_e rL' ids;
      kept₂ = kept_twice b L E RL RE r_l r_e ids;
    }
