-- Sums over records that stand one behind the other.
use Rattle.std.specs.Prelude.{◌≡◌, ℕ, ◌+◌, ◌*◌, ◌≤◌, List, [], ◌∷◌}
use Rattle.std.proofs.Math.Path.{ap}
use Rattle.std.proofs.Common.{◌∙◌}
use Rattle.model.specs.Tape.{Codec, record_size, record_at, records_at}
use Rattle.sizes.specs.Added.{Added, add, add_all, all_append, add_nothing}
use Rattle.put_records.specs.Runs.{records_more, records_parts}

module _ {A : Type 0} (k : Codec A) (t : List ℕ) (at : ℕ) where
  -- the sum over the first i, the next, and the rest
  pub records_add : (f : A → Added) (i n : ℕ) (h : i + 1 ≤ n) → add_all f (records_at k t at n)
      ≡ add (add (add_all f (records_at k t at i)) (f (record_at k t (at + record_size k * i)))) (add_all f (records_parts k t at (i + 1) n h).rest)
  unfolding add_all
  records_add f i n h =
      let x = record_at k t (at + record_size k * i) in
      let r = records_parts k t at (i + 1) n h in
      let q : add_all f (records_at k t at (i + 1)) ≡ add (add_all f (records_at k t at i)) (f x)
      = ap (add_all f) (records_more k t at i) ∙ all_append f (records_at k t at i) (x ∷ []) ∙ ap (add (add_all f (records_at k t at i))) (add_nothing (f x)) in
      ap (add_all f) r.is ∙ all_append f (records_at k t at (i + 1)) r.rest ∙ ap (λ (y : Added). add y (add_all f r.rest)) q
