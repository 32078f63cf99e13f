-- The three parts one behind the other are section 7's splice; how long each is; and records that stand in a result, read.
use Rattle.std.specs.Prelude.{◌≡◌, ℕ, ◌+◌, ◌*◌, ◌≤◌, length}
use Rattle.std.proofs.Math.Path.{sym, ap}
use Rattle.std.proofs.Common.{◌∙◌, arith}
use mathlib.Core.List.{List, ◌++◌, append_assoc, map}
use Rattle.std.proofs.Math.ListN.{length-append, length-map}
use Rattle.model.specs.Tape.{Codec, records_at, records_bytes}
use Rattle.model.specs.Merge.{MergeWindow, Located, kept_before, kept_behind, spliced}
use Rattle.laws.specs.Records.{run_length}
use Rattle.laws.specs.Parts.{bytes_append}
use Rattle.wire.specs.Overwrite.{overwrite, Wrote, wrote_next}
use Rattle.splice.specs.Parts.{Kind, part_before, part_reading, part_behind, bytes_long}
use Rattle.splice.specs.declared.Part.TheVariants.{Before, Reading, Behind}

-- ---- lengths

module _ {A : Type 0} {c : Codec A} {l : Located A} {z : ℕ} (k : Kind c l z) (w : MergeWindow) (t : List ℕ) (at n : ℕ) where
  abbrev run : List A
  run = records_at c t at n

  pub before_long : length (records_bytes c (kept_before l w run)) ≡ z * length (kept_before l w run)
  before_long = rw (part_before l w run) at (bytes_long k w Before t at n)

  pub placed_long : length (records_bytes c (map (l.placed w) run)) ≡ z * n
  placed_long =
      let e : length (records_bytes c (map (l.placed w) run)) ≡ z * length (map (l.placed w) run) = rw (part_reading l w run) at (bytes_long k w Reading t at n) in
      e ∙ ap (λ (m : ℕ). z * m) (length-map run (l.placed w) ∙ run_length c t at n)

  pub behind_long : length (records_bytes c (map (l.moved w) (kept_behind l w run))) ≡ z * length (kept_behind l w run)
  behind_long =
      let e : length (records_bytes c (map (l.moved w) (kept_behind l w run))) ≡ z * length (map (l.moved w) (kept_behind l w run)) = rw (part_behind l w run) at (bytes_long k w Behind t at n) in
      e ∙ ap (λ (m : ℕ). z * m) (length-map (kept_behind l w run) (l.moved w))

-- ---- the splice

module _ {A : Type 0} (c : Codec A) (l : Located A) (w : MergeWindow) (old reading : List A) where
  abbrev before : List ℕ
  before = records_bytes c (kept_before l w old)

  abbrev placed : List ℕ
  placed = records_bytes c (map (l.placed w) reading)

  abbrev behind : List ℕ
  behind = records_bytes c (map (l.moved w) (kept_behind l w old))

  pub spliced_bytes : records_bytes c (spliced l w old reading) ≡ (before ++ placed) ++ behind
  unfolding spliced
  spliced_bytes =
      let a = kept_before l w old in
      let b = map (l.placed w) reading in
      let d = map (l.moved w) (kept_behind l w old) in
      bytes_append c a (b ++ d) ∙ ap (λ (x : List ℕ). records_bytes c a ++ x) (bytes_append c b d) ∙ sym (append_assoc (records_bytes c a) (records_bytes c b) (records_bytes c d))

  pub spliced_length : length (spliced l w old reading) ≡ length (kept_before l w old) + length reading + length (kept_behind l w old)
  unfolding spliced
  spliced_length =
      let a = kept_before l w old in
      let b = map (l.placed w) reading in
      let d = map (l.moved w) (kept_behind l w old) in
      omega (arith, length-append a (b ++ d), length-append b d, length-map reading (l.placed w), length-map (kept_behind l w old) (l.moved w))

  -- three writes, each right behind the last
  pub spliced_written : (d : List ℕ) (to : ℕ) {x y z : List ℕ} (m n : ℕ) → x ≡ overwrite d to before → m ≡ to + length before → y ≡ overwrite x m placed
      → n ≡ m + length placed → z ≡ overwrite y n behind → n + length behind ≤ length d → z ≡ overwrite d to (records_bytes c (spliced l w old reading))
  spliced_written d to {x} m n e f g h i fits =
      let w1 : Wrote d to before x = record { is = e } in
      let w2 = wrote_next w1 m placed g f (omega arith) in
      let w3 = wrote_next w2 n behind i (omega (arith, f, h, length-append before placed)) fits in
      rw spliced_bytes w3.is
