-- An opened book whose nodes are counted and grafted: what follows for the code that does.
use Rattle.std.specs.Prelude.{◌≡◌, ℕ, ◌+◌, ◌≤◌, true, List}
use Rattle.std.proofs.Math.Path.{sym, ap}
use Rattle.std.proofs.Common.{◌∙◌, arith}
use Rattle.std.proofs.Math.ListN.{drop}
use Rattle.model.specs.Lists.{all}
use Rattle.model.specs.Limits.{max_list}
use Rattle.model.specs.Bytes.{word_at}
use Rattle.model.specs.Tape.{records_at, node_codec, places, book_at}
use Rattle.model.specs.Tree.{shown_nodes}
use Rattle.facts.specs.Truth.{both}
use Rattle.laws.specs.Checks.{limit_facts}
use Rattle.laws.specs.Layers.{ids_pools}
use Rattle.places.specs.declared.Places.{Places}
use Rattle.places.specs.Found.{found}
use Rattle.store.specs.declared.Store.{Store}
use Rattle.store.specs.Lengths.{book_lengths}
use Rattle.ids.specs.Tests.{node_in}
use Rattle.ids.specs.Whole.{ids_in, layers_in, content_ok_lem, segment_ok_lem}
use Rattle.tape.specs.Held.{Held, held_tape}
use Rattle.sizes.specs.Calls.{held_ids}
use Rattle.graft.specs.Walk.{Source}
use Rattle.graft.specs.NodeItems.{shown_of, shown_map}

module _ {t d : List ℕ} {p : Places} {st : Store} (f : Held t d p st) where
  -- ---- its lists

  pub source_few : p.nodes.count ≤ max_list
  source_few = let l = limit_facts (book_at t (places t) d) f.accepted.limits in let b = book_lengths t d p f.accepted.framing f.is in omega (arith, l.source_nodes, b.nodes)

  nodes_at_lem : p.nodes.at ≡ (places t).nodes_at
  unfolding found
  nodes_at_lem = ap (λ (x : Places). x.nodes.at) f.is

  node_count_lem : p.nodes.count ≡ (places t).node_count
  unfolding found
  node_count_lem = ap (λ (x : Places). x.nodes.count) f.is

  pub source_shown : shown_nodes (book_at t (places t) d) ≡ shown_of t d (records_at node_codec t p.nodes.at p.nodes.count)
  unfolding shown_nodes book_at
  source_shown =
      sym (shown_map t d (records_at node_codec t (places t).nodes_at (places t).node_count)) ∙ (λ i. shown_of t d (records_at node_codec t (sym nodes_at_lem i) (sym node_count_lem i)))

  -- ---- number 4

  pub source_nodes_lem : all (node_in st) (records_at node_codec t p.nodes.at p.nodes.count) ≡ true
  unfolding ids_in
  source_nodes_lem = rw (nodes_at_lem, node_count_lem) (both (layers_in t st) (all (node_in st) (records_at node_codec t (places t).nodes_at (places t).node_count)) (held_ids f)).1

  pub source_of : Source t d st
  unfolding book_at
  source_of =
      let rest = drop (word_at t 1 + word_at t 5) d in
      let pools = ids_pools (book_at t (places t) d) f.accepted.ids in
      record {
        fit = held_tape f;
        framing = f.accepted.framing;
        contents = rw (content_ok_lem t st f.stored rest) pools.0;
        segments = rw (segment_ok_lem t st f.stored rest) pools.1;
      }
