-- The lengths of the interner's strings, by the places where they start among the work words, and their records.
use Rattle.std.specs.Prelude.{◌≡◌, get_or, drop}
use Rattle.std.proofs.Math.Path.{refl, ap, ap₂}
use Rattle.std.proofs.Common.{sym, ◌∙◌, arith, length-drop, length-take-le}
use Prim.Native.Nat.{ℕ, zero, suc, ◌+◌, ◌-◌, ◌*◌, ◌%◌, ◌≤◌, ◌<◌}
use mathlib.Core.List.{List, [], ◌∷◌, ◌++◌, map, append-nil, flatten}
use Rattle.std.proofs.Math.ListN.{length}
use Rattle.model.specs.Bytes.{word_bytes}
use Rattle.model.specs.Tape.{record_bytes, operand_bytes, records_bytes, string_codec}
use Rattle.facts.specs.Lists.{map_append}
use Rattle.laws.specs.Parts.{records_width, bytes_append}
use Rattle.wire.specs.Overwrite.{overwrite, overwrite_next, overwrite_nil, Wrote}
use Rattle.wire.specs.Loops.{list_to, list_more, length_list_to}
use Rattle.table.specs.Layout.{start_in, starts_of, string_at, strings_up_to}
use Rattle.table.specs.Wide.{starts_number, start_is}
use Rattle.interner.specs.declared.StrInterner.{StrInterner as Interner}
use Rattle.interner.specs.State.{state_of, Good}
use Rattle.put_records.specs.Written.{word_rest}

-- the length of string k
abbrev pub new_length : List ℕ → ℕ → ℕ
new_length work k = start_in work (k + 1) - start_in work k

-- the lengths of the first count strings
unfoldable pub new_lengths : List ℕ → ℕ → List ℕ
new_lengths work count = list_to count (new_length work)

-- count strings start one behind the other
pub record Rising (work : List ℕ) (count : ℕ) : Type 0 where
  pub room : 8192 + 2 * count + 2 ≤ length work
  pub order : (k : ℕ) → k < count → start_in work k ≤ start_in work (k + 1)

-- ---- a record

pub string_written : (d l : List ℕ) (at n : ℕ) → Wrote d at ((3 ∷ []) ++ word_bytes n) l → l ≡ overwrite d at (record_bytes string_codec n)
unfolding record_bytes operand_bytes string_codec
string_written d l at n w = w.is ∙ ap (overwrite d at) (ap (λ (x : List ℕ). 3 ∷ x) (sym (append-nil (word_bytes n))))

one : (n : ℕ) → records_bytes string_codec (n ∷ []) ≡ record_bytes string_codec n
unfolding records_bytes flatten
one n = append-nil (record_bytes string_codec n)

-- only 32 bits of a length are written
word_record : (n : ℕ) → record_bytes string_codec (n % 4294967296) ≡ record_bytes string_codec n
unfolding record_bytes operand_bytes string_codec
word_record n = ap (λ (bs : List ℕ). 3 ∷ (bs ++ [])) (word_rest n)

string_width : (n : ℕ) → length (record_bytes string_codec n) ≡ 5
unfolding record_bytes operand_bytes string_codec word_bytes
string_width n = refl

pub strings_width : (ns : List ℕ) → length (records_bytes string_codec ns) ≡ 5 * length ns
unfolding string_codec
strings_width = records_width string_codec (λ n. refl)

-- ---- the loop

length_lengths : (work : List ℕ) (count : ℕ) → length (new_lengths work count) ≡ count
unfolding new_lengths
length_lengths work count = length_list_to (new_length work) count

pub lengths_width : (work : List ℕ) (count : ℕ) → length (records_bytes string_codec (new_lengths work count)) ≡ 5 * count
lengths_width work count = strings_width (new_lengths work count) ∙ ap (λ (k : ℕ). 5 * k) (length_lengths work count)

module _ (d : List ℕ) (at : ℕ) (work : List ℕ) where
  pub lengths_none : d ≡ overwrite d at (records_bytes string_codec (new_lengths work 0))
  unfolding new_lengths list_to records_bytes flatten
  lengths_none = overwrite_nil d at

  pub lengths_more : {l l' : List ℕ} (i v n : ℕ) → v ≡ new_length work i % 4294967296 → n ≡ at + 5 * i → at + 5 * (i + 1) ≤ length d
      → l ≡ overwrite d at (records_bytes string_codec (new_lengths work i)) → l' ≡ overwrite l n (record_bytes string_codec v)
      → l' ≡ overwrite d at (records_bytes string_codec (new_lengths work (i + 1)))
  unfolding new_lengths
  lengths_more i v n e f h w w' =
      let bs = records_bytes string_codec (list_to i (new_length work)) in
      let z : length bs ≡ 5 * i = strings_width (list_to i (new_length work)) ∙ ap (λ (k : ℕ). 5 * k) (length_list_to (new_length work) i) in
      let x : records_bytes string_codec (list_to (i + 1) (new_length work)) ≡ bs ++ record_bytes string_codec v
      = ap (records_bytes string_codec) (list_more (new_length work) i) ∙ bytes_append string_codec (list_to i (new_length work)) (new_length work i ∷ [])
      ∙ ap (λ (l : List ℕ). bs ++ l) (one (new_length work i)) ∙ ap (λ (l : List ℕ). bs ++ l) (sym (ap (record_bytes string_codec) e ∙ word_record (new_length work i))) in
      w' ∙ ap (λ (l : List ℕ). overwrite l n (record_bytes string_codec v)) w
      ∙ overwrite_next d at bs (omega (arith, z, h)) n (record_bytes string_codec v) (omega (arith, z, f)) (omega (arith, string_width v, f, h)) ∙ ap (overwrite d at) (sym x)

-- ---- the interner's strings

module _ {work strs : List ℕ} {st : Interner} (g : Good work strs st) where
  room : 8192 + 2 * st.count + 2 ≤ length work
  room = omega (arith, g.words.room, g.words.few)

  start_at : (k : ℕ) → k ≤ st.count → get_or (starts_of st.count work) k 0 ≡ start_in work k
  start_at k h = start_is work st.count room k h

  long : length (starts_of st.count work) ≡ st.count + 1
  long = starts_number work st.count room

  pub good_rising : Rising work st.count
  good_rising = record {
    room = room;
    order = λ k h. (let x = (g.words.starts k (omega (arith, long, h))).0 in omega (arith, x, start_at k (omega (arith, h)), start_at (k + 1) (omega (arith, h))));
  }

  string_long : (k : ℕ) → k < st.count → length (string_at (starts_of st.count work) strs k) ≡ new_length work k
  string_long k h =
      let starts = starts_of st.count work in
      let x = g.words.starts k (omega (arith, long, h)) in
      let n = length-drop (get_or starts k 0) strs in
      length-take-le (get_or starts (k + 1) 0 - get_or starts k 0) (drop (get_or starts k 0) strs) (omega (arith, x.0, x.1, n))
      ∙ omega (arith, start_at k (omega (arith, h)), start_at (k + 1) (omega (arith, h)))

  lengths_to : (n : ℕ) → n ≤ st.count → map length (strings_up_to n (starts_of st.count work) strs) ≡ list_to n (new_length work)
  unfolding strings_up_to list_to
  lengths_to zero h = refl
  lengths_to (suc n) h =
      let starts = starts_of st.count work in
      map_append length (strings_up_to n starts strs) (string_at starts strs n ∷ [])
      ∙ ap₂ (λ (l : List ℕ) (k : ℕ). l ++ (k ∷ [])) (lengths_to n (omega (arith, h))) (string_long n (omega (arith, h)))

  pub string_lengths_lem : map length (state_of work strs st).strings ≡ new_lengths work st.count
  unfolding new_lengths
  string_lengths_lem = lengths_to st.count (omega arith)
