-- The flat book's tape and bytes as the parts that are written, and number 18 by what the code tests.
use Rattle.std.specs.Prelude.{◌≡◌, refl, ℕ, ◌+◌, ◌-◌, ◌*◌, ◌≤◌, take, drop}
use Rattle.std.proofs.Common.{sym, ap, ap₂, ◌∙◌, subst, arith, length-drop, length-take-le}
use mathlib.Core.List.{List, ◌++◌, append-nil, flatten}
use Rattle.std.proofs.Math.ListN.{length, length-append}
use Rattle.model.specs.Limits.{min_work_words}
use Rattle.model.specs.Bytes.{AreBytes}
use Rattle.model.specs.Types.{SourceNode, LexOutput}
use Rattle.model.specs.Refusal.{Checked.refused, Checked.accepted, ◌>>=◌, refuse◌if◌}
use Rattle.model.specs.Store.{string_counts, content_counts, segment_counts}
use Rattle.model.specs.Tape.{records_bytes, node_codec, layer_bytes, places, book_at, tape_of, bytes_of}
use Rattle.model.specs.Tree.{shown_nodes}
use Rattle.model.specs.Graft.{layer_of, With, graft_node_refs}
use Rattle.model.specs.Merge.{Room, stored_book, result_ok}
use Rattle.model.specs.Demand3.{shown}
use Rattle.model.specs.Flatten.{flat_graft, flat_book, flat_checked}
use Rattle.facts.specs.Truth.{by_bool}
use Rattle.facts.specs.Lists.{parted}
use Rattle.laws.specs.Checks.{limit_facts}
use Rattle.laws.specs.Parts.{tape_parts, list_parts, rest_bytes, bytes_parts, rest_count, list_count, layers_count, head_stands, rest_stands, texts_stand}
use Rattle.laws.specs.Result.{ResultFacts, result_facts, result_ok_lem}
use Rattle.places.specs.declared.Places.{Places}
use Rattle.places.specs.Found.{found}
use Rattle.places.specs.Again.{lists_inside}
use Rattle.store.specs.declared.Store.{Store}
use Rattle.store.specs.declared.Totals.{Totals}
use Rattle.store.specs.Lengths.{book_lengths}
use Rattle.tape.specs.Held.{Held, held_texts_inside}
use Rattle.layer.specs.Layered.{grafted_into, source_adds, layer_records, new_layered, LayerSizes, LayerFits}
use Rattle.layer.specs.Walked.{source_sizes}

abbrev pub zero_totals : Totals
zero_totals = record { strings = 0; contents = 0; segments = 0 }

-- the graft that `graft_layer` makes above no layers
pub same_graft : (t d : List ℕ) → grafted_into t d zero_totals ≡ flat_graft (shown_nodes (book_at t (places t) d))
unfolding flat_graft grafted_into string_counts content_counts segment_counts
same_graft t d = ap (graft_node_refs (shown_nodes (book_at t (places t) d))) (new_layered (record { strings = refl; contents = refl; segments = refl }))

module _ {t d : List ℕ} {p : Places} {st : Store} (are : AreBytes t) (h : Held t d p st) where
  abbrev pub old : LexOutput
  old = book_at t (places t) d

  abbrev pub new : LexOutput
  new = flat_book (shown old)

  abbrev pub g : With (List SourceNode)
  g = flat_graft (shown_nodes old)

  abbrev strings : List (List ℕ)
  strings = g.1.interner.strings

  -- ---- the old parts

  pairs_at : p.pairs.at ≡ (places t).pairs_at
  unfolding found
  pairs_at = ap (λ (x : Places). x.pairs.at) h.is

  nodes_at : p.nodes.at ≡ (places t).nodes_at
  unfolding found
  nodes_at = ap (λ (x : Places). x.nodes.at) h.is

  node_count : p.nodes.count ≡ (places t).node_count
  unfolding found
  node_count = ap (λ (x : Places). x.nodes.count) h.is

  pub nodes_end : p.nodes.at + 49 * p.nodes.count ≡ p.pairs.at
  nodes_end = let i = lists_inside t in omega (arith, nodes_at, node_count, pairs_at, i.nodes)

  pub inside : (9 ≤ length t) × (p.pairs.at ≤ length t)
  inside =
      let e = h.accepted.parsed in
      (omega (arith, layers_count t d are e, list_count t d are e), omega (arith, pairs_at, rest_count t d are e))

  lists_there : drop p.pairs.at t ≡ rest_bytes old
  lists_there = ap (λ (n : ℕ). drop n t) pairs_at ∙ rest_stands t d are h.accepted.parsed

  abbrev pub first : ℕ
  first = p.text.0 + p.normalized.0

  texts_there : take first d ≡ old.sanitized ++ old.normalized
  texts_there =
      let l = book_lengths t d p h.accepted.framing h.is in
      ap₂ (λ (n m : ℕ). take (n + m) d) (sym l.text) (sym l.normalized) ∙ texts_stand t d are h.accepted.parsed

  -- ---- the flat parts

  pub flat_tape : tape_of new ≡ (take 9 t ++ layer_records g) ++ drop p.pairs.at t
  unfolding flat_book shown layer_records rest_bytes flatten
  flat_tape =
      let ns = records_bytes node_codec g.0 in
      tape_parts new
      ∙ ap₂ (λ (x y : List ℕ). x ++ y) (sym (head_stands t d are h.accepted.parsed))
      (ap₂ (λ (x y : List ℕ). x ++ y) (append-nil (layer_bytes (layer_of g.1))) (list_parts new ∙ ap (λ (l : List ℕ). ns ++ l) (sym lists_there)))
      ∙ parted (take 9 t) (layer_bytes (layer_of g.1)) ns (drop p.pairs.at t)

  pub flat_bytes : bytes_of new ≡ take first d ++ flatten strings
  unfolding flat_book shown layer_of flatten
  flat_bytes = bytes_parts new ∙ ap₂ (λ (x y : List ℕ). x ++ y) (sym texts_there) (append-nil (flatten strings))

  pub flat_tape_length : length (tape_of new) ≡ 9 + length (layer_records g) + (length t - p.pairs.at)
  flat_tape_length =
      let x₁ = length-append (take 9 t ++ layer_records g) (drop p.pairs.at t) in
      let x₂ = length-append (take 9 t) (layer_records g) in
      omega (arith, ap length flat_tape, x₁, x₂, length-take-le 9 t inside.0, length-drop p.pairs.at t)

  pub flat_bytes_length : length (bytes_of new) ≡ first + length (flatten strings)
  flat_bytes_length =
      let x = length-append (take first d) (flatten strings) in
      omega (arith, ap length flat_bytes, x, length-take-le first d (held_texts_inside h))

  -- ---- number 18

  pub sizes : LayerSizes g (source_adds t d) p.nodes.count
  sizes = subst (λ (x : With (List SourceNode)). LayerSizes x (source_adds t d) p.nodes.count) (same_graft t d) (source_sizes h zero_totals)

  -- what it asks
  pub record FlatFits (room : Room) : Type 0 where
    pub layer : LayerFits room.tape_bytes room.text_bytes 9 first zero_totals g
    pub tape : 9 + length (layer_records g) + (length t - p.pairs.at) ≤ room.tape_bytes
    pub words : min_work_words ≤ room.work_words

  module _ (room : Room) where
    flat_fits : ResultFacts room g new → FlatFits room
    unfolding flat_book shown layer_of string_counts content_counts segment_counts
    flat_fits f =
        let x = flat_tape_length in
        record {
          layer = record {
            few = f.new_strings;
            strings = omega (arith, f.limits.strings);
            contents = omega (arith, f.limits.contents);
            segments = omega (arith, f.limits.segments);
            tape = omega (arith, f.tape, x);
            bytes = omega (arith, f.bytes, flat_bytes_length);
          };
          tape = omega (arith, f.tape, x);
          words = f.work;
        }

    fits_flat : FlatFits room → ResultFacts room g new
    unfolding flat_book shown layer_of string_counts content_counts segment_counts
    fits_flat f =
        let o = limit_facts old h.accepted.limits in
        let l = book_lengths t d p h.accepted.framing h.is in
        record {
          limits = record {
            sanitized = o.sanitized;
            normalized = o.normalized;
            strings = omega (arith, f.layer.strings);
            contents = omega (arith, f.layer.contents);
            segments = omega (arith, f.layer.segments);
            source_nodes = omega (arith, o.source_nodes, sizes.count, l.nodes);
            pairs = o.pairs;
            container_pairs = o.container_pairs;
            diagnostics = o.diagnostics;
            layers = omega arith;
          };
          new_strings = f.layer.few;
          tape = omega (arith, f.tape, flat_tape_length);
          bytes = omega (arith, f.layer.bytes, flat_bytes_length);
          work = f.words;
        }

    pub flat_accepted : FlatFits room → flat_checked (shown old) room ≡ accepted (stored_book new)
    unfolding flat_checked shown refuse◌if◌ ◌>>=◌
    flat_accepted f = rw (result_ok_lem room g new (fits_flat f)) refl

    pub flat_refused : (FlatFits room → ⊥) → flat_checked (shown old) room ≡ refused 18
    unfolding flat_checked shown refuse◌if◌ ◌>>=◌
    flat_refused f =
        by_bool (result_ok room g new (stored_book new)) (λ y. absurd (f (flat_fits (result_facts room g new y)))) (λ y. rw y refl)
