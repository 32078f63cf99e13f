-- One law for every kind of record: a record or a run of records that was read and is written again is the same bytes, and one
-- that was written and is read again is the same value. Section 4.
use Rattle.std.specs.Prelude.{◌≡◌, true, drop}
use Rattle.std.proofs.Math.Path.{refl, sym, ap, ap₂}
use Rattle.std.proofs.Common.{◌∙◌, mul-le-mul_left, mul-zero, mul-suc, add-zero, add_comm, add_assoc, length-append, drop-cons, drop-drop}
use Prim.Native.Nat.{ℕ, zero, suc, ◌+◌, ◌-◌, ◌*◌, ◌≤◌, ◌<◌}
use native.Mathlib.Omega.{arith}
use Rattle.std.proofs.Math.Decide.{dec_le, ℕ_discrete}
use Rattle.std.proofs.Math.Nat.{lt_of_not-le}
use Rattle.std.proofs.lemmas.Bool.{false≢true}
use mathlib.Core.List.{List, [], ◌∷◌, ◌++◌, append_assoc, map, flatten}
use Rattle.std.proofs.Math.ListN.{length, drop_of_length-le}
use borrow.Author.Tests.{eq-eqb, ne_eqb, ltb-true}
use Rattle.model.specs.Lists.{all, tabulate, sum}
use Rattle.model.specs.Bytes.{AreBytes, byte_at, part}
use Rattle.model.specs.Tape.{Operand, Operand.byte, Operand.word, operand_size, value_at, value_bytes, Codec, record_size, operands_at, record_at, operand_bytes, record_bytes, records_at, records_bytes, records_in, count_at}
use Rattle.model.specs.Tape.{string_codec, content_codec, segment_codec, node_codec, pair_codec, container_codec, diagnostic_codec}
use Rattle.facts.specs.Truth.{both}
use Rattle.facts.specs.Lists.{part_cons, part_add, tabulate_same, length_tabulate}
use Rattle.facts.specs.Words.{word_length}
use Rattle.laws.specs.Words.{word_read, Stands, stands_behind, stands_at, byte_stands, word_stands}
use Rattle.laws.specs.Fits.{operand_fits, operands_fit, record_fits}

-- ---- the two laws of a codec, which hold by computation

pub record Lawful {A : Type 0} (c : Codec A) : Type 0 where
  pub read : (t : List ℕ) (p : ℕ) → c.encode (record_at c t p) ≡ operands_at c.operands t p 1
  pub written : (a : A) → c.decode (c.encode a) ≡ a

pub string_lawful : Lawful string_codec
unfolding string_codec record_at operands_at
string_lawful = record { read = λ t p. refl; written = λ a. refl }

pub content_lawful : Lawful content_codec
unfolding content_codec record_at operands_at
content_lawful = record { read = λ t p. refl; written = λ a. refl }

pub segment_lawful : Lawful segment_codec
unfolding segment_codec record_at operands_at
segment_lawful = record { read = λ t p. refl; written = λ a. refl }

pub node_lawful : Lawful node_codec
unfolding node_codec record_at operands_at
node_lawful = record { read = λ t p. refl; written = λ a. refl }

pub pair_lawful : Lawful pair_codec
unfolding pair_codec record_at operands_at
pair_lawful = record { read = λ t p. refl; written = λ a. refl }

pub container_lawful : Lawful container_codec
unfolding container_codec record_at operands_at
container_lawful = record { read = λ t p. refl; written = λ a. refl }

pub diagnostic_lawful : Lawful diagnostic_codec
unfolding diagnostic_codec record_at operands_at
diagnostic_lawful = record { read = λ t p. refl; written = λ a. refl }

-- ---- one record

abbrev operands_size : List Operand → ℕ
operands_size os = sum (map operand_size os)

value_read : (o : Operand) (t : List ℕ) (p : ℕ) → AreBytes t → p + operand_size o ≤ length t → value_bytes o (value_at o t p) ≡ part t p (operand_size o)
value_read byte t p b h = sym (part_cons t p 0 (omega arith))
value_read word t p b h = word_read t p b h

operands_read : (os : List Operand) (t : List ℕ) (p k : ℕ) → AreBytes t → p + k + operands_size os ≤ length t → operand_bytes os (operands_at os t p k) ≡ part t (p + k) (operands_size os)
unfolding operand_bytes operands_at
operands_read [] t p k b h = refl
operands_read (o ∷ os) t p k b h =
    let e : p + (k + operand_size o) ≡ p + k + operand_size o = omega arith in
    ap₂ (λ (x y : List ℕ). x ++ y) (value_read o t (p + k) b (omega arith)) (operands_read os t p (k + operand_size o) b (omega arith) ∙ ap (λ (q : ℕ). part t q (operands_size os)) e)
    ∙ sym (part_add t (p + k) (operand_size o) (operands_size os))

value_stands : (o : Operand) (v : ℕ) → operand_fits o v ≡ true → (t : List ℕ) (p : ℕ) (l : List ℕ) → Stands t p (value_bytes o v ++ l) → value_at o t p ≡ v
value_stands byte v f t p l h = byte_stands t p (v ∷ l) h
value_stands word v f t p l h = word_stands t p v l (ltb-true v 4294967296 f) h

value_length : (o : Operand) (v : ℕ) → length (value_bytes o v) ≡ operand_size o
value_length byte v = refl
value_length word v = word_length v

operands_stand : (os : List Operand) (vs : List ℕ) → operands_fit os vs ≡ true → (t : List ℕ) (p k : ℕ) (l : List ℕ) → Stands t (p + k) (operand_bytes os vs ++ l)
    → (operands_at os t p k ≡ vs) × (length (operand_bytes os vs) ≡ operands_size os)
unfolding operands_fit operand_bytes operands_at
operands_stand [] [] f t p k l h = (refl, refl)
operands_stand [] (v ∷ vs) f t p k l h = absurd (false≢true f)
operands_stand (o ∷ os) [] f t p k l h = absurd (false≢true f)
operands_stand (o ∷ os) (v ∷ vs) f t p k l h =
    let g = both (operand_fits o v) (operands_fit os vs) f in
    let here : Stands t (p + k) (value_bytes o v ++ (operand_bytes os vs ++ l)) = h ∙ append_assoc (value_bytes o v) (operand_bytes os vs) l in
    let next = stands_at t (p + k + operand_size o) (p + (k + operand_size o)) (operand_bytes os vs ++ l) (omega arith) (stands_behind t (p + k) (operand_size o) (value_bytes o v) (operand_bytes os vs ++ l) (value_length o v) here) in
    let rest = operands_stand os vs g.1 t p (k + operand_size o) l next in (
      ap₂ (λ (x : ℕ) (xs : List ℕ). x ∷ xs) (value_stands o v g.0 t (p + k) (operand_bytes os vs ++ l) here) rest.0,
      length-append (value_bytes o v) (operand_bytes os vs) ∙ ap₂ (λ (x y : ℕ). x + y) (value_length o v) rest.1,
    )

-- how long what fits is, wherever it stands
operands_length : (os : List Operand) (vs : List ℕ) → operands_fit os vs ≡ true → length (operand_bytes os vs) ≡ operands_size os
operands_length os vs f = (operands_stand os vs f (operand_bytes os vs ++ []) 0 0 [] refl).1

module _ {A : Type 0} (c : Codec A) (lawful : Lawful c) where
  pub record_read : (t : List ℕ) (p : ℕ) → AreBytes t → byte_at t p ≡ c.command → p + record_size c ≤ length t → record_bytes c (record_at c t p) ≡ part t p (record_size c)
  unfolding record_bytes
  record_read t p b e h =
      ap₂ (λ (x : ℕ) (l : List ℕ). x ∷ l) (sym e) (ap (operand_bytes c.operands) (lawful.read t p) ∙ operands_read c.operands t p 1 b (omega arith))
      ∙ sym (part_add t p 1 (operands_size c.operands) ∙ ap (λ (l : List ℕ). l ++ part t (p + 1) (operands_size c.operands)) (part_cons t p 0 (omega arith)))

  pub record_length : (a : A) → record_fits c a ≡ true → length (record_bytes c a) ≡ record_size c
  unfolding record_bytes record_fits
  record_length a f = let e = operands_length c.operands (c.encode a) f in omega arith

  pub record_stands : (t : List ℕ) (a : A) → record_fits c a ≡ true → (p : ℕ) (l : List ℕ) → Stands t p (record_bytes c a ++ l) → record_at c t p ≡ a
  unfolding record_bytes record_fits record_at
  record_stands t a f p l h =
      ap c.decode (operands_stand c.operands (c.encode a) f t p 1 l (stands_behind t p 1 (c.command ∷ []) (operand_bytes c.operands (c.encode a) ++ l) refl h)).0
      ∙ lawful.written a

-- ---- how many records stand one behind the other

-- passing bytes and dropping them is the same
pub records_skip : (command size k : ℕ) (t : List ℕ) → records_in command size k t ≡ records_in command size 0 (drop k t)
unfolding records_in
records_skip command size zero t = refl
records_skip command size (suc k) [] = refl
records_skip command size (suc k) (b ∷ t) = records_skip command size k t

module _ {A : Type 0} (c : Codec A) where
  -- at the end there is none
  pub count_end : (t : List ℕ) (p : ℕ) → length t ≤ p → count_at c t p ≡ 0
  unfolding count_at records_in
  count_end t p h = rw (drop_of_length-le t h)

  -- another command: none
  pub count_no : (t : List ℕ) (p : ℕ) → p < length t → (byte_at t p ≡ c.command → ⊥) → count_at c t p ≡ 0
  unfolding count_at records_in
  count_no t p h e = rw (drop-cons t p 0 h, ne_eqb (byte_at t p) c.command e)

  -- the command: one more than from the next record on
  pub count_yes : (t : List ℕ) (p : ℕ) → p < length t → byte_at t p ≡ c.command → count_at c t p ≡ suc (count_at c t (p + record_size c))
  unfolding count_at records_in
  count_yes t p h e =
      rw (drop-cons t p 0 h, eq-eqb (byte_at t p) c.command e, records_skip c.command (record_size c) (record_size c - 1) (drop (suc p) t), drop-drop)
      (ap (λ (k : ℕ). suc (records_in c.command (record_size c) 0 (drop k t))) next)
    where
      next : suc p + (record_size c - 1) ≡ p + record_size c
      next = omega arith

  -- a run that is not empty stands inside the tape, and begins with its command
  count_first : (t : List ℕ) (p : ℕ) → 0 < count_at c t p → (p < length t) × (byte_at t p ≡ c.command)
  count_first t p h = elim (dec_le (length t) p) [ yes out ↦ absurd (outside out) | no inside ↦ (lt_of_not-le inside, begins (lt_of_not-le inside)) ]
    where
      outside : length t ≤ p → ⊥
      outside out = let z = count_end t p out in omega arith

      other : p < length t → (byte_at t p ≡ c.command → ⊥) → ⊥
      other hp ne = let z = count_no t p hp ne in omega arith

      begins : p < length t → byte_at t p ≡ c.command
      begins hp = elim (ℕ_discrete (byte_at t p) c.command) [ yes e ↦ e | no ne ↦ absurd (other hp ne) ]

  next_place : (p i : ℕ) → p + record_size c * suc i ≡ p + record_size c + record_size c * i
  next_place p i = ap (λ (k : ℕ). p + k) (mul-suc (record_size c) i ∙ add_comm (record_size c * i) (record_size c)) ∙ sym (add_assoc p (record_size c) (record_size c * i))

  first_place : (p : ℕ) → p + record_size c * 0 ≡ p
  first_place p = ap (λ (k : ℕ). p + k) (mul-zero (record_size c)) ∙ add-zero p

  -- each record of a run begins with its command
  pub count_command : (t : List ℕ) (i p : ℕ) → i < count_at c t p → byte_at t (p + record_size c * i) ≡ c.command
  count_command t zero p h = ap (λ (k : ℕ). byte_at t k) (first_place p) ∙ (count_first t p h).1
  count_command t (suc j) p h =
      let f = count_first t p (omega arith) in
      let y = count_yes t p f.0 f.1 in
      ap (λ (k : ℕ). byte_at t k) (next_place p j) ∙ count_command t j (p + record_size c) (omega arith)

  record_fits_in : (t : List ℕ) (n i p : ℕ) → i < n → p + record_size c * n ≤ length t → p + record_size c * i + record_size c ≤ length t
  record_fits_in t n i p hi h =
      let m : record_size c * suc i ≤ record_size c * n = mul-le-mul_left (record_size c) hi in
      let e = mul-suc (record_size c) i in
      omega arith

-- ---- a run read and written again

module _ {A : Type 0} (c : Codec A) (lawful : Lawful c) (t : List ℕ) (b : AreBytes t) where
  run_read : (n p : ℕ) (read : ℕ → A) → ((i : ℕ) → i < n → record_bytes c (read i) ≡ part t (p + record_size c * i) (record_size c))
      → records_bytes c (tabulate n read) ≡ part t p (record_size c * n)
  unfolding records_bytes flatten
  run_read zero p read h = ap (λ (k : ℕ). part t p k) (sym (mul-zero (record_size c)))
  run_read (suc n) p read h =
      let first : record_bytes c (read zero) ≡ part t p (record_size c) = h zero (omega arith) ∙ ap (λ (k : ℕ). part t k (record_size c)) (first_place c p) in
      let later : (i : ℕ) → i < n → record_bytes c (read (suc i)) ≡ part t (p + record_size c + record_size c * i) (record_size c) =
      λ i hi. h (suc i) (omega arith) ∙ ap (λ (k : ℕ). part t k (record_size c)) (next_place c p i) in
      ap₂ (λ (x y : List ℕ). x ++ y) first (run_read n (p + record_size c) (λ i. read (suc i)) later)
      ∙ sym (part_add t p (record_size c) (record_size c * n))
      ∙ ap (λ (k : ℕ). part t p k) (add_comm (record_size c) (record_size c * n) ∙ sym (mul-suc (record_size c) n))

  -- the run that stands at p, written again
  pub records_read : (p : ℕ) → p + record_size c * count_at c t p ≤ length t → records_bytes c (records_at c t p (count_at c t p)) ≡ part t p (record_size c * count_at c t p)
  unfolding records_at
  records_read p h =
      run_read (count_at c t p) p (λ i. record_at c t (p + record_size c * i))
      (λ i hi. record_read c lawful t (p + record_size c * i) b (count_command c t i p hi) (record_fits_in c t (count_at c t p) i p hi h))

-- ---- a run written and read again

pub run_length : {A : Type 0} (c : Codec A) (t : List ℕ) (p n : ℕ) → length (records_at c t p n) ≡ n
unfolding records_at
run_length c t p n = length_tabulate n (λ i. record_at c t (p + record_size c * i))

-- what is read of a run at p: how many records, which, and what stands behind them
pub record RunStands {A : Type 0} (c : Codec A) (t : List ℕ) (p : ℕ) (xs : List A) (l : List ℕ) : Type 0 where
  pub count : count_at c t p ≡ length xs
  pub records : records_at c t p (count_at c t p) ≡ xs
  pub rest : Stands t (p + record_size c * count_at c t p) l

module _ {A : Type 0} (c : Codec A) (t : List ℕ) where
  -- what stands at p begins with another command: no record
  stands_no : (p : ℕ) (l : List ℕ) → Stands t p l → (byte_at l 0 ≡ c.command → ⊥) → count_at c t p ≡ 0
  unfolding count_at records_in
  stands_no p [] e n = rw e
  stands_no p (x ∷ l) e n = rw (e, ne_eqb x c.command n)

  -- a record stands at p: one more than from the next place on
  stands_yes : (p : ℕ) (x : A) (l : List ℕ) → Stands t p (record_bytes c x ++ l) → count_at c t p ≡ suc (count_at c t (p + record_size c))
  unfolding record_bytes
  stands_yes p x l s = count_yes c t p inside (byte_stands t p (record_bytes c x ++ l) s)
    where
      inside : p < length t
      inside = elim (dec_le (length t) p) [ yes out ↦ absurd (let z = ap length (sym s ∙ drop_of_length-le t out) in omega arith) | no here ↦ lt_of_not-le here ]

  -- what begins with a run, and goes on with another command than k, begins with another command than k
  pub not_head : (k : ℕ) → (c.command ≡ k → ⊥) → (xs : List A) (l : List ℕ) → (byte_at l 0 ≡ k → ⊥) → byte_at (records_bytes c xs ++ l) 0 ≡ k → ⊥
  unfolding records_bytes flatten record_bytes
  not_head k other [] l ne e = ne e
  not_head k other (x ∷ xs) l ne e = other e

module _ {A : Type 0} (c : Codec A) (lawful : Lawful c) (t : List ℕ) where
  -- A run of known length is read where it stands, whatever follows.
  pub records_stand : (xs : List A) → all (record_fits c) xs ≡ true → (p : ℕ) (l : List ℕ) → Stands t p (records_bytes c xs ++ l) → records_at c t p (length xs) ≡ xs
  unfolding records_bytes flatten records_at
  records_stand [] ok p l h = refl
  records_stand (x ∷ xs) ok p l h =
      let f = both (record_fits c x) (all (record_fits c) xs) ok in
      let tail = records_bytes c xs ++ l in
      let here : Stands t p (record_bytes c x ++ tail) = h ∙ append_assoc (record_bytes c x) (records_bytes c xs) l in
      let first : record_at c t (p + record_size c * 0) ≡ x = ap (record_at c t) (first_place c p) ∙ record_stands c lawful t x f.0 p tail here in
      let later = tabulate_same (length xs) (λ i. record_at c t (p + record_size c * suc i)) (λ i. record_at c t (p + record_size c + record_size c * i)) (λ i h. ap (record_at c t) (next_place c p i)) in
      ap₂ (λ y ys. y ∷ ys) first (later ∙ records_stand xs f.1 (p + record_size c) l (stands_behind t p (record_size c) (record_bytes c x) tail (record_length c lawful x f.0) here))

  -- How long it is says the command of what follows, if it is another.
  run_count : (xs : List A) → all (record_fits c) xs ≡ true → (p : ℕ) (l : List ℕ) → (byte_at l 0 ≡ c.command → ⊥) → Stands t p (records_bytes c xs ++ l)
      → (count_at c t p ≡ length xs) × Stands t (p + record_size c * count_at c t p) l
  unfolding records_bytes flatten
  run_count [] ok p l ne h =
      let none = stands_no c t p l h ne in
      (none, stands_at t p (p + record_size c * count_at c t p) l (sym (ap (λ (n : ℕ). p + record_size c * n) none ∙ first_place c p)) h)
  run_count (x ∷ xs) ok p l ne h =
      let f = both (record_fits c x) (all (record_fits c) xs) ok in
      let tail = records_bytes c xs ++ l in
      let here : Stands t p (record_bytes c x ++ tail) = h ∙ append_assoc (record_bytes c x) (records_bytes c xs) l in
      let more = run_count xs f.1 (p + record_size c) l ne (stands_behind t p (record_size c) (record_bytes c x) tail (record_length c lawful x f.0) here) in
      let one = stands_yes c t p x tail here in
      let count = count_at c t (p + record_size c) in
      (one ∙ ap suc more.0, stands_at t (p + record_size c + record_size c * count) (p + record_size c * count_at c t p) l (sym (ap (λ (n : ℕ). p + record_size c * n) one ∙ next_place c p count)) more.1)

  pub run_stands : (xs : List A) → all (record_fits c) xs ≡ true → (p : ℕ) (l : List ℕ) → (byte_at l 0 ≡ c.command → ⊥) → Stands t p (records_bytes c xs ++ l) → RunStands c t p xs l
  run_stands xs ok p l ne h =
      let n = run_count xs ok p l ne h in
      record { count = n.0; records = ap (records_at c t p) n.0 ∙ records_stand xs ok p l h; rest = n.1 }
