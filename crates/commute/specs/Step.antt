-- One accepted merge of a book and a reading whose numbers fit their tapes: what is known of it, and its numbers.
use Rattle.std.specs.Prelude.{◌≡◌, ◌+◌, ◌-◌, ◌≤◌, true, ◌++◌}
use Rattle.std.proofs.Common.{sym, ◌∙◌, subst}
use Rattle.std.proofs.Math.Path.{ap}
use native.Mathlib.Omega.{arith}
use Rattle.std.proofs.Math.ListN.{length, take, drop, length-drop}
use Rattle.std.proofs.Math.Seq.{length-take-le}
use Rattle.model.specs.Limits.{max_text}
use Rattle.model.specs.Offset.{Span}
use Rattle.model.specs.Types.{LexOutput, RegionOutput}
use Rattle.model.specs.Refusal.{Checked.accepted}
use Rattle.model.specs.WellFormed.{check_book, check_reading}
use Rattle.model.specs.Region.{Edit, edited, behind_edit, balanced_region, chosen_region}
use Rattle.model.specs.Merge.{Stored, Room, IncrementalOutput, new_region_text, balanced_nodes, merge}
use Rattle.laws.specs.Checks.{WellFormed, LimitFacts, limit_facts, same_accepted, checked_book, checked_reading, Chosen, chosen_facts, MergeFacts, merge_accepted, merged_of}
use Rattle.laws.specs.Fits.{fits}
use Rattle.laws.specs.Splice.{splice_length}
use Rattle.laws.specs.Nodes.{sound_of, safe_facts}
use Rattle.commute.specs.Merged.{Fit}
use Rattle.commute.specs.Passage.{Bounds, bounds, Twelve, behind_is}

-- What is known of a merge once 12 and 13 have passed.
pub record Begun (old : LexOutput) (e : Edit) (r : Span) (reading : RegionOutput) : Type 0 where
  pub old_formed : WellFormed old
  pub reading_formed : WellFormed reading
  pub chosen : Chosen old e r
  pub region_text : reading.sanitized ≡ new_region_text old e r
  pub balanced : balanced_nodes reading.source_nodes ≡ true

pub record Step (old : LexOutput) (e : Edit) (r : Span) (reading : RegionOutput) (m : IncrementalOutput) : Type 0 where
  pub room : Room
  pub old_fits : fits old ≡ true
  pub reading_fits : fits reading ≡ true
  pub old_formed : WellFormed old
  pub reading_formed : WellFormed reading
  pub chosen : Chosen old e r
  pub facts : MergeFacts old e r reading room m

-- An accepted merge of a stored book that is known.
pub step_of : (s : Stored) (b : LexOutput) (e : Edit) (rs : Stored) (reading : RegionOutput) (room : Room) (m : IncrementalOutput) → fits b ≡ true → fits reading ≡ true
    → check_book s.tape s.bytes ≡ accepted b → check_reading rs.tape rs.bytes ≡ accepted reading → merge s e rs room ≡ accepted m → Step b e (balanced_region b e) reading m
step_of s b e rs reading room m fb fr hb hr q =
    let a = merge_accepted s e rs room m q in
    let p = same_accepted a.old b (sym a.book ∙ hb) in
    let p' = same_accepted a.reading reading (sym a.read ∙ hr) in
    let c = chosen_facts b e a.region (ap (λ (o : LexOutput). chosen_region o e) (sym p) ∙ a.chosen) in
    let f = subst (λ (x : RegionOutput). MergeFacts b e a.region x room m) p' (subst (λ (o : LexOutput). MergeFacts o e a.region a.reading room m) p a.facts) in
    record {
      room = room;
      old_fits = fb;
      reading_fits = fr;
      old_formed = (checked_book s.tape s.bytes b hb).1;
      reading_formed = (checked_reading rs.tape rs.bytes reading hr).2;
      chosen = subst (Chosen b e) c.region c;
      facts = subst (λ (r : Span). MergeFacts b e r reading room m) c.region f;
    }

module _ {old : LexOutput} {e : Edit} {r : Span} {reading : RegionOutput} (s : Begun old e r reading) where
  around : Bounds old e r
  around = subst (Bounds old e) (sym s.chosen.region) (bounds old e s.chosen.inside)

  -- number 12, as lengths
  pub begun_size : Twelve e reading r
  unfolding new_region_text edited
  begun_size =
      let a = around.starts.before in
      let b = around.ends.behind in
      let d = around.ends.inside in
      let x = s.chosen.rising in
      let n = splice_length e.start e.end e.replacement old.sanitized x s.chosen.inside in
      let k = behind_is e r.end x b in
      let t = take e.start old.sanitized ++ (e.replacement ++ drop e.end old.sanitized) in
      let l₁ = length-drop r.start t in
      let l₂ = length-take-le (behind_edit e r.end - r.start) (drop r.start t) (omega arith) in
      let l₃ = ap length s.region_text in
      omega arith

  limit : length old.sanitized + (length e.replacement + e.start) ≤ max_text + e.end
  unfolding edited
  limit =
      let n = splice_length e.start e.end e.replacement old.sanitized s.chosen.rising s.chosen.inside in
      omega arith

  pub begun_fit : Fit old e reading r
  begun_fit =
      let sound = sound_of old s.old_formed in
      record {
        old_sound = sound;
        reading_sound = sound_of reading s.reading_formed;
        starts_before = around.starts.before;
        rising = s.chosen.rising;
        ends_behind = around.ends.behind;
        inside = around.ends.inside;
        strictly = around.ends.strictly;
        size = begun_size;
        limit = limit;
        start_safe = safe_facts sound r.start around.starts.safe;
        end_safe = safe_facts sound r.end around.ends.safe;
        balanced = s.balanced;
      }

module _ {old : LexOutput} {e : Edit} {r : Span} {reading : RegionOutput} {m : IncrementalOutput} (s : Step old e r reading m) where
  begun : Begun old e r reading
  begun = record { old_formed = s.old_formed; reading_formed = s.reading_formed; chosen = s.chosen; region_text = s.facts.region_text; balanced = s.facts.balanced }

  pub twelve : Twelve e reading r
  twelve = begun_size begun

  pub fit_of : Fit old e reading r
  fit_of = begun_fit begun

  pub limits : LimitFacts (merged_of old e reading r)
  limits = limit_facts (merged_of old e reading r) s.facts.limits
