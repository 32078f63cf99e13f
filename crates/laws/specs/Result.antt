-- Number 18 part by part, of a merged book or a flat one.
use Rattle.std.specs.Prelude.{◌≡◌, refl, ◌≤◌, Bool, true, false, cond, not, length, leb}
use borrow.Author.Tests.{leb-true, le-leb}
use Rattle.model.specs.Limits.{max_new_strings, min_work_words}
use Rattle.model.specs.Types.{SourceNode, LexOutput}
use mathlib.Core.List.{List}
use Rattle.model.specs.Refusal.{Checked.refused, Checked.accepted, ◌>>=◌, refuse◌if◌}
use Rattle.model.specs.Tape.{tape_of, bytes_of}
use Rattle.model.specs.WellFormed.{within_limits}
use Rattle.model.specs.Graft.{With}
use Rattle.model.specs.Merge.{Room, stored_book, fits_room, result_ok}
use Rattle.facts.specs.Truth.{both}
use Rattle.laws.specs.Checks.{LimitFacts, limit_facts}

-- the end of a call that 18 alone can still refuse
pub result_if : {A : Type 0} (ok : Bool) (a : A) → ((refuse◌if◌ 18 (not ok)) >>= λ _. accepted a) ≡ cond ok (accepted a) (refused 18)
unfolding refuse◌if◌ ◌>>=◌
result_if true a = refl
result_if false a = refl

pub within_limits_lem : (new : LexOutput) → LimitFacts new → within_limits new ≡ true
unfolding within_limits
within_limits_lem new l =
    rw (
      le-leb _ _ l.sanitized,
      le-leb _ _ l.normalized,
      le-leb _ _ l.strings,
      le-leb _ _ l.contents,
      le-leb _ _ l.segments,
      le-leb _ _ l.source_nodes,
      le-leb _ _ l.pairs,
      le-leb _ _ l.container_pairs,
      le-leb _ _ l.diagnostics,
      le-leb _ _ l.layers,
    ) refl

pub record ResultFacts (room : Room) (g : With (List SourceNode)) (new : LexOutput) : Type 0 where
  pub limits : LimitFacts new
  pub new_strings : length g.1.interner.strings ≤ max_new_strings
  pub tape : length (tape_of new) ≤ room.tape_bytes
  pub bytes : length (bytes_of new) ≤ room.text_bytes
  pub work : min_work_words ≤ room.work_words

module _ (room : Room) (g : With (List SourceNode)) (new : LexOutput) where
  pub result_facts : result_ok room g new (stored_book new) ≡ true → ResultFacts room g new
  unfolding result_ok fits_room stored_book
  result_facts q =
      let u₃ = both _ (leb min_work_words room.work_words) q in
      let u₂ = both _ (fits_room room (stored_book new)) u₃.0 in
      let u₁ = both (within_limits new) (leb (length g.1.interner.strings) max_new_strings) u₂.0 in
      let f = both (leb (length (tape_of new)) room.tape_bytes) (leb (length (bytes_of new)) room.text_bytes) u₂.1 in
      record {
        limits = limit_facts new u₁.0;
        new_strings = leb-true (length g.1.interner.strings) max_new_strings u₁.1;
        tape = leb-true (length (tape_of new)) room.tape_bytes f.0;
        bytes = leb-true (length (bytes_of new)) room.text_bytes f.1;
        work = leb-true min_work_words room.work_words u₃.1;
      }

  pub result_ok_lem : ResultFacts room g new → result_ok room g new (stored_book new) ≡ true
  unfolding result_ok fits_room stored_book
  result_ok_lem f = rw (within_limits_lem new f.limits, le-leb _ _ f.new_strings, le-leb _ _ f.tape, le-leb _ _ f.bytes, le-leb _ _ f.work) refl
