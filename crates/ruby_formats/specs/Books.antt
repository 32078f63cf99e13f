-- The nodes of an opened book, with its strings.
use Rattle.std.specs.Prelude.{◌≡◌, ℕ, ◌+◌, ◌*◌, ◌^◌, ◌≤◌, ◌<◌, Bool, true, List, [], length}
use Rattle.std.proofs.Math.Path.{sym, ap, ap₂}
use Rattle.std.proofs.Common.{◌∙◌, subst}
use Rattle.model.specs.Lists.{all}
use Rattle.model.specs.Types.{Layer}
use Rattle.model.specs.Store.{store_of}
use Rattle.model.specs.Tape.{records_at, node_codec}
use Rattle.model.specs.WellFormed.{content_ok, node_ok}
use Rattle.model.specs.Region.{depends_from, has_ruby_format_dependency, edit_of}
use Rattle.laws.specs.Checks.{id_facts}
use Rattle.laws.specs.Layers.{ids_pools}
use Rattle.strings.specs.declared.lent.Strings.{Strings}
use Rattle.tape.specs.declared.book.Book.{Book}
use Rattle.tape.specs.Held.{held_nodes, held_runs}
use Rattle.tape.specs.StringBytes.{book_of, StringsOf}
use Rattle.ruby_formats.specs.declared.nodes.Nodes.{Nodes}
use Rattle.ruby_formats.specs.Sound.{Sound}
use Rattle.ruby_formats.specs.Nodes.{nodes_store, first_nodes}

pub record NodesOf (b : Book) (ns : Nodes) : Type 0 where
  pub strings : StringsOf b ns.strings
  pub run : ns.run ≡ b.places.nodes

module _ {b : Book} {ss : Strings} (s : StringsOf b ss) where
  pub strings_sound : Sound ss b.places.nodes.at b.places.nodes.count
  strings_sound =
      let ids = b.held.accepted.ids in
      let own = book_of b in
      record {
        contents = subst (λ (ls : List Layer). all (content_ok ls) (store_of ls).contents ≡ true) (sym s.layers) (ids_pools own ids).0;
        nodes =
            subst (λ (ls : List Layer). all (node_ok ls) (records_at node_codec ss.tape.now b.places.nodes.at b.places.nodes.count) ≡ true) (sym s.layers)
            (ap (all (node_ok own.layers)) (ap (λ (t : List ℕ). records_at node_codec t b.places.nodes.at b.places.nodes.count) s.tape ∙ held_nodes b.held) ∙ (id_facts own ids).source_nodes);
        inside = subst (λ (t : List ℕ). b.places.nodes.at + 49 * b.places.nodes.count ≤ length t) (sym s.tape) (held_runs b.held).0;
        small = subst (λ (t : List ℕ). length t < 2 ^ 63) (sym s.tape) b.tape_small;
      }

-- number 10, by the nodes of the tape
pub book_depends : (b : Book) (start : ℕ) {x : Bool}
    → x ≡ depends_from (store_of (book_of b).layers) start [] (records_at node_codec b.tape.now b.places.nodes.at b.places.nodes.count)
    → (end : ℕ) (replacement : List ℕ) → x ≡ has_ruby_format_dependency (book_of b) (edit_of start end replacement)
unfolding has_ruby_format_dependency edit_of
book_depends b start q end replacement = q ∙ ap (depends_from (store_of (book_of b).layers) start []) (held_nodes b.held)

module _ {b : Book} {ns : Nodes} (s : NodesOf b ns) where
  -- the model's store, and the model's nodes
  pub nodes_store_lem : nodes_store ns ≡ store_of (book_of b).layers
  nodes_store_lem = ap store_of s.strings.layers

  pub nodes_are : first_nodes ns ns.run.count ≡ (book_of b).source_nodes
  nodes_are = ap₂ (λ t run. records_at node_codec t run.at run.count) s.strings.tape s.run ∙ held_nodes b.held

  -- number 10
  pub nodes_depend : (start : ℕ) {x : Bool} → x ≡ depends_from (nodes_store ns) start [] (first_nodes ns ns.run.count)
      → (end : ℕ) (replacement : List ℕ) → x ≡ has_ruby_format_dependency (book_of b) (edit_of start end replacement)
  unfolding has_ruby_format_dependency edit_of
  nodes_depend start q end replacement = q ∙ ap₂ (λ s ns. depends_from s start [] ns) nodes_store_lem nodes_are
