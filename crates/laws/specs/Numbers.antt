-- Demand 1, of the definitions: whatever is asked, the answer is a result or one number of the table.
use Rattle.std.specs.Prelude.{ℕ, ◌≤◌, Bool, List}
use native.Mathlib.Omega.{arith}
use Rattle.std.proofs.Math.Bool.{true, false}
use Rattle.std.proofs.Math.Option.{Option, none, some}
use Rattle.model.specs.Offset.{Span}
use Rattle.model.specs.Types.{LexOutput, RegionOutput}
use Rattle.model.specs.Refusal.{Checked, Checked.refused, Checked.accepted, ◌>>=◌, refuse◌if◌}
use Rattle.model.specs.Tape.{parse}
use Rattle.model.specs.WellFormed.{laid_out, well_formed, check_book, check_reading}
use Rattle.model.specs.Region.{Edit, chosen_region, choose_region}
use Rattle.model.specs.Merge.{Stored, Room, fitting, result_checked, merge_books, merge, fitted}
use Rattle.model.specs.Estimate.{estimate}
use Rattle.model.specs.Demand3.{Correction, merge_of}
use Rattle.model.specs.Desk.{merge_for_desk, charged}
use Rattle.model.specs.Lookup.{copy_book}
use Rattle.model.specs.Runs.{asked, program}

-- an answer whose number, if it is refused, is 1 to `last`
abbrev pub UpTo : {A : Type 0} → ℕ → Checked A → Type 0
UpTo last (refused n) = (1 ≤ n) × (n ≤ last)
UpTo last (accepted a) = Unit {0}

module _ (last : ℕ) where
  bind_up_to : {A B : Type 0} (x : Checked A) (f : A → Checked B) → UpTo last x → ((a : A) → UpTo last (f a)) → UpTo last (x >>= f)
  unfolding ◌>>=◌
  bind_up_to (refused n) f h g = h
  bind_up_to (accepted a) f h g = g a

  -- a line of a chain
  line : {B : Type 0} (n : ℕ) (t : Bool) (f : Unit {0} → Checked B) → 1 ≤ n → n ≤ last → UpTo last (f tt) → UpTo last (refuse◌if◌ n t >>= f)
  unfolding ◌>>=◌ refuse◌if◌
  line n true f lo hi h = (lo, hi)
  line n false f lo hi h = h

  laid_out_up_to : 1 ≤ last → (b : Option LexOutput) → UpTo last (laid_out b)
  unfolding laid_out
  laid_out_up_to h none = (omega arith, h)
  laid_out_up_to h (some b) = tt

  well_formed_up_to : 7 ≤ last → (b : LexOutput) → UpTo last (well_formed b)
  unfolding well_formed
  well_formed_up_to h b =
      line 2 _ _ (omega arith) (omega arith) (line 3 _ _ (omega arith) (omega arith) (line 4 _ _ (omega arith) (omega arith)
      (line 5 _ _ (omega arith) (omega arith) (line 6 _ _ (omega arith) (omega arith) (line 7 _ _ (omega arith) h tt)))))

  pub book_up_to : 7 ≤ last → (t d : List ℕ) → UpTo last (check_book t d)
  unfolding check_book
  book_up_to h t d = bind_up_to (laid_out (parse t d)) _ (laid_out_up_to (omega arith) (parse t d)) (λ b. well_formed_up_to h b)

  pub reading_up_to : 7 ≤ last → (t d : List ℕ) → UpTo last (check_reading t d)
  unfolding check_reading
  reading_up_to h t d =
      bind_up_to (laid_out (parse t d)) _ (laid_out_up_to (omega arith) (parse t d)) (λ b. line 1 _ _ (omega arith) (omega arith) (well_formed_up_to h b))

  pub chosen_up_to : 11 ≤ last → (b : LexOutput) (e : Edit) → UpTo last (chosen_region b e)
  unfolding chosen_region
  chosen_up_to h b e =
      line 8 _ _ (omega arith) (omega arith) (line 2 _ _ (omega arith) (omega arith) (line 3 _ _ (omega arith) (omega arith)
      (line 9 _ _ (omega arith) (omega arith) (line 10 _ _ (omega arith) (omega arith) (line 11 _ _ (omega arith) h tt)))))

  fitting_up_to : 17 ≤ last → (old : LexOutput) (e : Edit) (r : Span) (reading : RegionOutput) → UpTo last (fitting old e r reading)
  unfolding fitting
  fitting_up_to h old e r reading =
      line 12 _ _ (omega arith) (omega arith) (line 13 _ _ (omega arith) (omega arith) (line 14 _ _ (omega arith) (omega arith)
      (line 15 _ _ (omega arith) (omega arith) (line 16 _ _ (omega arith) (omega arith) (line 17 _ _ (omega arith) h tt)))))

  merge_books_up_to : 18 ≤ last → (old : LexOutput) (e : Edit) (r : Span) (reading : RegionOutput) (room : Room) → UpTo last (merge_books old e r reading room)
  unfolding merge_books result_checked
  merge_books_up_to h old e r reading room = bind_up_to (fitting old e r reading) _ (fitting_up_to (omega arith) old e r reading) (λ w. line 18 _ _ (omega arith) h tt)

-- Choosing the region alone runs up to 11.
pub choose_region_numbers : (t d : List ℕ) (e : Edit) → UpTo 11 (choose_region t d e)
unfolding choose_region
choose_region_numbers t d e = bind_up_to 11 (check_book t d) _ (book_up_to 11 (omega arith) t d) (λ b. chosen_up_to 11 (omega arith) b e)

-- The merge answers a result or a number 1 to 18.
pub merge_numbers : (s : Stored) (e : Edit) (rs : Stored) (room : Room) → UpTo 18 (merge s e rs room)
unfolding merge
merge_numbers s e rs room =
    bind_up_to 18 (check_book s.tape s.bytes) _ (book_up_to 18 (omega arith) s.tape s.bytes) (λ old.
    bind_up_to 18 (chosen_region old e) _ (chosen_up_to 18 (omega arith) old e) (λ r.
    bind_up_to 18 (check_reading rs.tape rs.bytes) _ (reading_up_to 18 (omega arith) rs.tape rs.bytes) (λ reading.
    merge_books_up_to 18 (omega arith) old e r reading room)))

-- Its estimate (wish 2) has no 18.
pub estimate_numbers : (s : Stored) (e : Edit) (rs : Stored) → UpTo 17 (estimate s e rs)
unfolding estimate fitted
estimate_numbers s e rs =
    bind_up_to 17 (fitted s e rs) _
    (bind_up_to 17 (check_book s.tape s.bytes) _ (book_up_to 17 (omega arith) s.tape s.bytes) (λ old.
    bind_up_to 17 (chosen_region old e) _ (chosen_up_to 17 (omega arith) old e) (λ r.
    bind_up_to 17 (check_reading rs.tape rs.bytes) _ (reading_up_to 17 (omega arith) rs.tape rs.bytes) (λ reading.
    bind_up_to 17 (fitting old e r reading) _ (fitting_up_to 17 (omega arith) old e r reading) (λ w. tt))))) (λ f. tt)

up_to_more : {A : Type 0} (n m : ℕ) (x : Checked A) → n ≤ m → UpTo n x → UpTo m x
up_to_more n m (refused k) h u = (u.0, omega (arith, u.1))
up_to_more n m (accepted a) h u = tt

-- A merge for a desk (wish 4) has 19 and 20 too.
pub merge_for_desk_numbers : (desk : ℕ) (ledger : List ℕ) (s : Stored) (c : Correction) (room : Room) → UpTo 20 (merge_for_desk desk ledger s c room)
unfolding merge_for_desk charged
merge_for_desk_numbers desk ledger s c room =
    line 20 19 _ _ (omega arith) (omega arith) (
    bind_up_to 20 (merge_of s c room) _ (up_to_more 18 20 (merge_of s c room) (omega arith) (merge_numbers s c.edit c.reading room)) (λ m.
    line 20 20 _ _ (omega arith) (omega arith) tt))

pub copy_book_numbers : (s : Stored) (room : Room) → UpTo 18 (copy_book s room)
unfolding copy_book
copy_book_numbers s room =
    bind_up_to 18 (check_book s.tape s.bytes) _ (book_up_to 18 (omega arith) s.tape s.bytes) (λ b. line 18 18 _ _ (omega arith) (omega arith) tt)

pub program_numbers : (s : List ℕ) → UpTo 18 (program s)
unfolding program asked
program_numbers s =
    line 18 1 _ _ (omega arith) (omega arith) (line 18 3 _ _ (omega arith) (omega arith) (line 18 1 _ _ (omega arith) (omega arith) (merge_numbers _ _ _ _)))
