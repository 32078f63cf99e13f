-- The bodies of merged nodes have six words, as many as of a reading are grafted, and records read at another place are the same.
use Rattle.std.specs.Prelude.{◌≡◌, ℕ, suc, ◌+◌, ◌*◌, ◌≤◌, ◌<◌, true, length, get_or, drop}
use Rattle.std.proofs.Math.Path.{refl, ap, ap₂}
use Rattle.std.proofs.Common.{sym, ◌∙◌, arith, mul-le-mul_left, mul-suc, add_assoc, get_or-take, get_or-drop, eq-eqb}
use mathlib.Core.List.{List, [], ◌∷◌, map}
use Rattle.std.proofs.lemmas.List.{length-map}
use Rattle.model.specs.Lists.{all, sum}
use Rattle.model.specs.Bytes.{byte_at, word_at, part}
use Rattle.model.specs.Types.{SourceNode, LexOutput, RegionOutput}
use Rattle.model.specs.Tape.{Operand, Operand.byte, Operand.word, operand_size, value_at, Codec, record_size, operands_at, record_at, records_at}
use Rattle.model.specs.Store.{store_of}
use Rattle.model.specs.Tree.{ShownNode, shown_node, shown_nodes}
use Rattle.model.specs.Graft.{NewLayer, layered, graft_node_ref, graft_node_refs}
use Rattle.model.specs.Merge.{MergeWindow, spliced, node_located, grafted}
use Rattle.facts.specs.Truth.{join}
use Rattle.facts.specs.Lists.{tabulate_same}
use Rattle.laws.specs.Located.{spliced_all}
use Rattle.laws.specs.Parts.{six_words}
use Rattle.graft.specs.Widths.{node_six}
use Rattle.graft.specs.NodeItems.{length_refs}

-- ---- nodes that were grafted
refs_six : (ns : List ShownNode) (f : NewLayer) → all six_words (graft_node_refs ns f).0 ≡ true
unfolding graft_node_refs graft_node_ref six_words
refs_six [] f = refl
refs_six (n ∷ ns) f =
    let r = graft_node_ref n f in
    join (six_words r.0) _ (eq-eqb (length r.0.body.words) 6 (node_six n.body f).is) (refs_six ns r.1)

pub grafted_six : (old : LexOutput) (reading : RegionOutput) → all six_words (grafted old reading).0 ≡ true
unfolding grafted
grafted_six old reading = refs_six (shown_nodes reading) (layered old.layers)

pub length_grafted : (old : LexOutput) (reading : RegionOutput) → length (grafted old reading).0 ≡ length reading.source_nodes
unfolding grafted shown_nodes
length_grafted old reading = length_refs (shown_nodes reading) (layered old.layers) ∙ length-map reading.source_nodes (shown_node (store_of reading.layers))

pub spliced_six : (w : MergeWindow) (old reading : List SourceNode) → all six_words old ≡ true → all six_words reading ≡ true → all six_words (spliced node_located w old reading) ≡ true
unfolding node_located six_words
spliced_six w old reading a b = spliced_all node_located w six_words six_words six_words (λ n o h. o) (λ n o. o) (λ n o h. o) old reading a b

-- ---- the same bytes at another place are the same records

module _ (t t' : List ℕ) (p p' n : ℕ) (e : part t p n ≡ part t' p' n) where
  byte_moved : (i : ℕ) → i < n → byte_at t (p + i) ≡ byte_at t' (p' + i)
  byte_moved i h =
      sym (get_or-take n (drop p t) i 0 h ∙ get_or-drop p t i 0) ∙ ap (λ (l : List ℕ). get_or l i 0) e ∙ (get_or-take n (drop p' t') i 0 h ∙ get_or-drop p' t' i 0)

  byte_next : (i j : ℕ) → i + j < n → byte_at t (p + i + j) ≡ byte_at t' (p' + i + j)
  byte_next i j h = ap (byte_at t) (add_assoc p i j) ∙ byte_moved (i + j) h ∙ ap (byte_at t') (sym (add_assoc p' i j))

  value_moved : (o : Operand) (i : ℕ) → i + operand_size o ≤ n → value_at o t (p + i) ≡ value_at o t' (p' + i)
  unfolding word_at
  value_moved byte i h = byte_moved i (omega (arith, h))
  value_moved word i h = omega (arith, byte_moved i (omega (arith, h)), byte_next i 1 (omega (arith, h)), byte_next i 2 (omega (arith, h)), byte_next i 3 (omega (arith, h)))

  operands_moved : (os : List Operand) (q k : ℕ) → q + k + sum (map operand_size os) ≤ n → operands_at os t (p + q) k ≡ operands_at os t' (p' + q) k
  unfolding operands_at
  operands_moved [] q k h = refl
  operands_moved (o ∷ os) q k h =
      ap₂ (λ x xs. x ∷ xs) (ap (value_at o t) (add_assoc p q k) ∙ value_moved o (q + k) (omega (arith, h)) ∙ ap (value_at o t') (sym (add_assoc p' q k)))
      (operands_moved os q (k + operand_size o) (omega (arith, h)))

  record_moved : {A : Type 0} (c : Codec A) (q : ℕ) → q + record_size c ≤ n → record_at c t (p + q) ≡ record_at c t' (p' + q)
  unfolding record_at
  record_moved c q h = ap c.decode (operands_moved c.operands q 1 (omega (arith, h)))

pub records_moved : {A : Type 0} (c : Codec A) (t t' : List ℕ) (p p' n : ℕ) → part t p (record_size c * n) ≡ part t' p' (record_size c * n) → records_at c t p n ≡ records_at c t' p' n
unfolding records_at
records_moved c t t' p p' n e =
    tabulate_same n (λ i. record_at c t (p + record_size c * i)) (λ i. record_at c t' (p' + record_size c * i))
    (λ i h. record_moved t t' p p' (record_size c * n) e c (record_size c * i)
    (let m : record_size c * suc i ≤ record_size c * n = mul-le-mul_left (record_size c) h in omega (arith, m, mul-suc (record_size c) i)))
