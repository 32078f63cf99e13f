-- A tape and its bytes as their parts, one behind the other: the head of nine bytes, the layers, the nodes, the other lists; both texts, the
-- strings. How long the records are: 49 bytes a node, whose body has six words, 18 a pair, 13 a container, 18 a diagnostic. Section 4.
use Rattle.std.specs.Prelude.{◌≡◌, refl, ℕ, ◌+◌, ◌-◌, ◌*◌, ◌≤◌, Bool, true, length, take, drop, eqb}
use Rattle.std.proofs.Common.{sym, ap, ◌∙◌, arith, mul-suc, length-append, take_at, drop_at, eqb-true}
use Rattle.std.proofs.Math.Option.{some}
use mathlib.Core.List.{List, [], ◌∷◌, ◌++◌, append_assoc, map, flatten}
use Rattle.model.specs.Lists.{all, sum}
use Rattle.model.specs.Bytes.{AreBytes, word_bytes, part}
use Rattle.model.specs.Types.{Layer, SourceNode, PairLink, ContainerPair, Diagnostic, LexOutput}
use Rattle.model.specs.Tape.{Operand, Operand.byte, Operand.word, operand_size, Codec, record_size, operands_at, record_at, operand_bytes, record_bytes, records_at, records_bytes, count_at, node_codec, pair_codec, container_codec, diagnostic_codec}
use Rattle.model.specs.Tape.{places, book_at, parse, layer_bytes, tape_of, bytes_of}
use Rattle.facts.specs.Truth.{both}
use Rattle.facts.specs.Lists.{flatten_append, map_append, part_length, parted}
use Rattle.facts.specs.Keep.{all_tabulated}
use Rattle.facts.specs.Words.{word_length}
use Rattle.laws.specs.Records.{Lawful, records_read, node_lawful, pair_lawful, container_lawful, diagnostic_lawful}
use Rattle.laws.specs.RoundTrip.{parse_laid_out, read_write}

-- ---- widths

-- as many values as operands
operands_width : (os : List Operand) (vs : List ℕ) → length vs ≡ length os → length (operand_bytes os vs) ≡ sum (map operand_size os)
unfolding operand_bytes word_bytes
operands_width [] [] e = refl
operands_width [] (v ∷ vs) e = absurd (omega arith)
operands_width (o ∷ os) [] e = absurd (omega arith)
operands_width (byte ∷ os) (v ∷ vs) e = let n = operands_width os vs (omega (arith, e)) in omega (arith, n)
operands_width (word ∷ os) (v ∷ vs) e = let n = operands_width os vs (omega (arith, e)) in omega (arith, n)

module _ {A : Type 0} (c : Codec A) where
  record_width : (a : A) → length (c.encode a) ≡ length c.operands → length (record_bytes c a) ≡ record_size c
  unfolding record_bytes
  record_width a e = let n = operands_width c.operands (c.encode a) e in omega (arith, n)

  records_more : (a : A) (xs : List A) → length (c.encode a) ≡ length c.operands → length (records_bytes c xs) ≡ record_size c * length xs
      → length (records_bytes c (a ∷ xs)) ≡ record_size c * length (a ∷ xs)
  unfolding records_bytes flatten
  records_more a xs e more =
      let n = record_width a e in
      length-append (record_bytes c a) (records_bytes c xs) ∙ omega (arith, n, more, mul-suc (record_size c) (length xs))

  -- of a kind whose records have as many values, each
  pub records_width : ((a : A) → length (c.encode a) ≡ length c.operands) → (xs : List A) → length (records_bytes c xs) ≡ record_size c * length xs
  unfolding records_bytes flatten
  records_width e [] = omega arith
  records_width e (a ∷ xs) = records_more a xs (e a) (records_width e xs)

-- a run behind another
pub bytes_append : {A : Type 0} (c : Codec A) (xs ys : List A) → records_bytes c (xs ++ ys) ≡ records_bytes c xs ++ records_bytes c ys
unfolding records_bytes
bytes_append c xs ys = ap flatten (map_append (record_bytes c) xs ys) ∙ flatten_append (map (record_bytes c) xs) (map (record_bytes c) ys)

pub pairs_width : (xs : List PairLink) → length (records_bytes pair_codec xs) ≡ 18 * length xs
unfolding pair_codec
pairs_width = records_width pair_codec (λ x. refl)

pub containers_width : (xs : List ContainerPair) → length (records_bytes container_codec xs) ≡ 13 * length xs
unfolding container_codec
containers_width = records_width container_codec (λ x. refl)

pub diagnostics_width : (xs : List Diagnostic) → length (records_bytes diagnostic_codec xs) ≡ 18 * length xs
unfolding diagnostic_codec
diagnostics_width = records_width diagnostic_codec (λ x. refl)

-- ---- nodes

unfoldable pub six_words : SourceNode → Bool
six_words n = eqb (length n.body.words) 6

pub nodes_width : (ns : List SourceNode) → all six_words ns ≡ true → length (records_bytes node_codec ns) ≡ 49 * length ns
unfolding six_words node_codec records_bytes flatten
nodes_width [] h = refl
nodes_width (n ∷ ns) h =
    let s = both (six_words n) (all six_words ns) h in
    records_more node_codec n ns (let e = eqb-true (length n.body.words) 6 s.0 in omega (arith, e)) (nodes_width ns s.1)

-- nodes that were read
read_six : (t : List ℕ) (p : ℕ) → six_words (record_at node_codec t p) ≡ true
unfolding six_words record_at node_codec operands_at
read_six t p = refl

pub nodes_six : (t : List ℕ) (p n : ℕ) → all six_words (records_at node_codec t p n) ≡ true
unfolding records_at
nodes_six t p n = all_tabulated six_words n (λ i. record_at node_codec t (p + record_size node_codec * i)) (λ i. read_six t (p + record_size node_codec * i))

-- ---- the parts of a tape

-- command 1 and the lengths of both texts
unfoldable pub head_bytes : ℕ → ℕ → List ℕ
head_bytes text normalized = (1 ∷ []) ++ word_bytes text ++ word_bytes normalized

pub head_length : (n m : ℕ) → length (head_bytes n m) ≡ 9
unfolding head_bytes
head_length n m = let a = word_length n in let b = word_length m in let c = length-append ((1 ∷ []) ++ word_bytes n) (word_bytes m) in let d = length-append (1 ∷ []) (word_bytes n) in omega (arith, a, b, c, d)

abbrev pub layers_bytes : LexOutput → List ℕ
layers_bytes b = flatten (map layer_bytes b.layers)

-- the four lists, and command 10
unfoldable pub list_bytes : LexOutput → List ℕ
list_bytes b =
    records_bytes node_codec b.source_nodes ++ records_bytes pair_codec b.pairs ++ records_bytes container_codec b.container_pairs ++ records_bytes diagnostic_codec b.diagnostics ++ (10 ∷ [])

-- the lists behind the nodes, and command 10
unfoldable pub rest_bytes : LexOutput → List ℕ
rest_bytes b = records_bytes pair_codec b.pairs ++ records_bytes container_codec b.container_pairs ++ records_bytes diagnostic_codec b.diagnostics ++ (10 ∷ [])

flat : (x y l n p c g : List ℕ) → x ++ (y ++ (l ++ (n ++ (p ++ (c ++ (g ++ (10 ∷ []))))))) ≡ (x ++ y) ++ (l ++ (n ++ p ++ c ++ g ++ (10 ∷ [])))
flat x y l n p c g = simp append_assoc

pub tape_parts : (b : LexOutput) → tape_of b ≡ head_bytes (length b.sanitized) (length b.normalized) ++ (layers_bytes b ++ list_bytes b)
unfolding tape_of head_bytes list_bytes flatten
tape_parts b =
    ap (λ (l : List ℕ). 1 ∷ l)
    (flat (word_bytes (length b.sanitized)) (word_bytes (length b.normalized)) (layers_bytes b) (records_bytes node_codec b.source_nodes) (records_bytes pair_codec b.pairs)
    (records_bytes container_codec b.container_pairs) (records_bytes diagnostic_codec b.diagnostics))

behind : (n p c g e : List ℕ) → n ++ p ++ c ++ g ++ e ≡ n ++ (p ++ c ++ g ++ e)
behind n p c g e = simp append_assoc

pub list_parts : (b : LexOutput) → list_bytes b ≡ records_bytes node_codec b.source_nodes ++ rest_bytes b
unfolding list_bytes rest_bytes
list_parts b =
    behind (records_bytes node_codec b.source_nodes) (records_bytes pair_codec b.pairs) (records_bytes container_codec b.container_pairs) (records_bytes diagnostic_codec b.diagnostics) (10 ∷ [])

pub rest_length : (b : LexOutput) → length (rest_bytes b) ≡ 18 * length b.pairs + 13 * length b.container_pairs + 18 * length b.diagnostics + 1
unfolding rest_bytes
rest_length b =
    let p = records_bytes pair_codec b.pairs in
    let c = records_bytes container_codec b.container_pairs in
    let g = records_bytes diagnostic_codec b.diagnostics in
    let x₁ = length-append p c in
    let x₂ = length-append (p ++ c) g in
    let x₃ = length-append (p ++ c ++ g) (10 ∷ []) in
    omega (arith, x₁, x₂, x₃, pairs_width b.pairs, containers_width b.container_pairs, diagnostics_width b.diagnostics)

pub list_length : (b : LexOutput) → all six_words b.source_nodes ≡ true
    → length (list_bytes b) ≡ 49 * length b.source_nodes + 18 * length b.pairs + 13 * length b.container_pairs + 18 * length b.diagnostics + 1
list_length b six =
    let x = length-append (records_bytes node_codec b.source_nodes) (rest_bytes b) in
    omega (arith, ap length (list_parts b), x, nodes_width b.source_nodes six, rest_length b)

-- ---- the parts of its bytes

abbrev pub strings_bytes : LexOutput → List ℕ
strings_bytes b = flatten (map (λ (l : Layer). flatten l.strings) b.layers)

pub bytes_parts : (b : LexOutput) → bytes_of b ≡ (b.sanitized ++ b.normalized) ++ strings_bytes b
unfolding bytes_of
bytes_parts b = sym (append_assoc b.sanitized b.normalized (strings_bytes b))

-- ---- where the parts of a book that was read stand

module _ (t d : List ℕ) (are : AreBytes t) (e : parse t d ≡ some (book_at t (places t) d)) where
  abbrev b : LexOutput
  b = book_at t (places t) d

  again : (tape_of b ≡ t) × (bytes_of b ≡ d)
  again = read_write t d b are e

  tape_is : t ≡ head_bytes (length b.sanitized) (length b.normalized) ++ (layers_bytes b ++ list_bytes b)
  tape_is = sym again.0 ∙ tape_parts b

  -- as long as the place that it has
  run_length : {A : Type 0} (c : Codec A) → Lawful c → (p : ℕ) → p + record_size c * count_at c t p ≤ length t
      → length (records_bytes c (records_at c t p (count_at c t p))) ≡ record_size c * count_at c t p
  run_length c l p h = ap length (records_read c l t are p h) ∙ part_length t p (record_size c * count_at c t p) h

  pub rest_count : length (rest_bytes b) + (places t).pairs_at ≡ length t
  unfolding places book_at rest_bytes node_codec pair_codec container_codec diagnostic_codec
  rest_count =
      let size : length t ≡ (places t).end_at + 1 = (parse_laid_out t d b e).0.size in
      let pairs_at = (places t).pairs_at in
      let containers_at = (places t).containers_at in
      let diagnostics_at = (places t).diagnostics_at in
      let p = records_bytes pair_codec b.pairs in
      let c = records_bytes container_codec b.container_pairs in
      let g = records_bytes diagnostic_codec b.diagnostics in
      let x₁ = length-append p c in
      let x₂ = length-append (p ++ c) g in
      let x₃ = length-append (p ++ c ++ g) (10 ∷ []) in
      let y₁ = run_length pair_codec pair_lawful pairs_at (omega (arith, size)) in
      let y₂ = run_length container_codec container_lawful containers_at (omega (arith, size)) in
      let y₃ = run_length diagnostic_codec diagnostic_lawful diagnostics_at (omega (arith, size)) in
      omega (arith, size, x₁, x₂, x₃, y₁, y₂, y₃)

  pub list_count : length (list_bytes b) + (places t).nodes_at ≡ length t
  unfolding places book_at node_codec
  list_count =
      let n = records_bytes node_codec b.source_nodes in
      let x = length-append n (rest_bytes b) in
      let r = rest_count in
      let y = run_length node_codec node_lawful (places t).nodes_at (omega (arith, r)) in
      omega (arith, ap length (list_parts b), x, y, r)

  pub layers_count : length (layers_bytes b) + 9 ≡ (places t).nodes_at
  layers_count =
      let h = head_bytes (length b.sanitized) (length b.normalized) in
      let x₁ = length-append h (layers_bytes b ++ list_bytes b) in
      let x₂ = length-append (layers_bytes b) (list_bytes b) in
      omega (arith, ap length tape_is, head_length (length b.sanitized) (length b.normalized), x₁, x₂, list_count)

  pub head_stands : take 9 t ≡ head_bytes (length b.sanitized) (length b.normalized)
  head_stands = ap (take 9) tape_is ∙ take_at _ (layers_bytes b ++ list_bytes b) 9 (head_length (length b.sanitized) (length b.normalized))

  pub layers_stand : part t 9 ((places t).nodes_at - 9) ≡ layers_bytes b
  layers_stand =
      ap (λ (l : List ℕ). part l 9 ((places t).nodes_at - 9)) tape_is
      ∙ ap (take ((places t).nodes_at - 9)) (drop_at _ (layers_bytes b ++ list_bytes b) 9 (head_length (length b.sanitized) (length b.normalized)))
      ∙ take_at (layers_bytes b) (list_bytes b) ((places t).nodes_at - 9) (omega (arith, layers_count))

  pub rest_stands : drop (places t).pairs_at t ≡ rest_bytes b
  rest_stands =
      let n = records_bytes node_codec b.source_nodes in
      let h = head_bytes (length b.sanitized) (length b.normalized) in
      let before = h ++ (layers_bytes b ++ n) in
      let split : t ≡ before ++ rest_bytes b =
      tape_is ∙ ap (λ (l : List ℕ). h ++ (layers_bytes b ++ l)) (list_parts b) ∙ parted h (layers_bytes b) n (rest_bytes b) in
      let x = length-append before (rest_bytes b) in
      ap (drop (places t).pairs_at) split ∙ drop_at before (rest_bytes b) (places t).pairs_at (omega (arith, ap length split, x, rest_count))

  bytes_are : d ≡ (b.sanitized ++ b.normalized) ++ strings_bytes b
  bytes_are = sym again.1 ∙ bytes_parts b

  pub texts_stand : take (length b.sanitized + length b.normalized) d ≡ b.sanitized ++ b.normalized
  texts_stand =
      let n = length-append b.sanitized b.normalized in
      ap (take (length b.sanitized + length b.normalized)) bytes_are ∙ take_at (b.sanitized ++ b.normalized) (strings_bytes b) _ (omega (arith, n))

  pub strings_stand : drop (length b.sanitized + length b.normalized) d ≡ strings_bytes b
  strings_stand =
      let n = length-append b.sanitized b.normalized in
      ap (drop (length b.sanitized + length b.normalized)) bytes_are ∙ drop_at (b.sanitized ++ b.normalized) (strings_bytes b) _ (omega (arith, n))
