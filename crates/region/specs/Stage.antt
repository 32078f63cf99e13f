-- `chosen_region`, for each of its returns: `text` is the book's text.
use Rattle.std.specs.Prelude.{◌≡◌, ℕ, ◌≤◌, ◌<◌, Bool, true, false, List, length}
use Rattle.std.proofs.Math.Path.{sym, ap}
use Rattle.std.proofs.Common.{◌∙◌, subst, arith}
use Rattle.model.specs.Limits.{max_text}
use Rattle.model.specs.Offset.{Span}
use Rattle.model.specs.Refusal.{Checked, Checked.refused, Checked.accepted}
use Rattle.model.specs.Tape.{records_at, node_codec, pair_codec}
use Rattle.model.specs.Region.{balanced_region, is_whole, has_ruby_format_dependency, chosen_region, edit_of}
use Rattle.laws.specs.Checks.{place_facts}
use Rattle.edit.specs.declared.Edit.{Edit}
use Rattle.edit.specs.Numbers.{edit_number, edit_inside}
use Rattle.edit.specs.Values.{edit_value}
use Rattle.tape.specs.declared.book.Book.{Book}
use Rattle.tape.specs.Held.{held_length, held_short, held_nodes, held_pairs}
use Rattle.tape.specs.StringBytes.{book_of}
use Rattle.balanced_region.specs.Ends.{balanced_in}
use Rattle.balanced_region.specs.Survives.{search_from, region_of_book}
use Rattle.cuts.specs.Gaps.{NodesIn, book_nodes}
use Rattle.region.specs.Chosen.{whole_text, chosen_edit, chosen_depends, chosen_whole, chosen_region_lem}

module _ (b : Book) {text : List ℕ} (k : text ≡ (book_of b).sanitized) where
  pub stage_short : length text ≤ max_text
  stage_short = let s = held_short b.held in omega (arith, ap length k, held_length b.held, s)

  -- as `Edited` asks
  pub stage_nodes : NodesIn (length text) (records_at node_codec b.tape.now b.places.nodes.at b.places.nodes.count)
  stage_nodes =
      subst (λ ns. NodesIn (length text) ns) (sym (held_nodes b.held))
      (subst (λ (l : List ℕ). NodesIn (length l) (book_of b).source_nodes) (sym k) (book_nodes (book_of b) (place_facts (book_of b) b.held.accepted.places_ok)))

  module _ (e : Edit) {n : ℕ} (q : n ≡ edit_number text (edit_value e)) where
    number : n ≡ edit_number (book_of b).sanitized (edit_value e)
    number = q ∙ ap (λ (l : List ℕ). edit_number l (edit_value e)) k

    pub stage_edit : 0 < n → refused n ≡ chosen_region (book_of b) (edit_value e)
    stage_edit h = sym (chosen_edit (book_of b) (edit_value e) number h)

    module _ (z : n ≡ 0) where
      inside : (e.start.0 ≤ e.end.0) × (e.end.0 ≤ length text)
      inside = edit_inside text e.start.0 e.end.0 e.replacement.now q z

      -- as `Edited` asks
      pub stage_inside : (e.start.0 ≤ length text) × (e.end.0 ≤ length text)
      stage_inside = (omega (arith, inside), inside.1)

      module _ {x : Bool} (f : (end : ℕ) (replacement : List ℕ) → x ≡ has_ruby_format_dependency (book_of b) (edit_of e.start.0 end replacement)) where
        pub stage_depends : x ≡ true → refused 10 ≡ chosen_region (book_of b) (edit_value e)
        stage_depends h = sym (chosen_depends (book_of b) (edit_value e) number z (f e.end.0 e.replacement.now) h)

        module _ (g : x ≡ false) {s : Span}
            (v : s ≡ balanced_in text (records_at node_codec b.tape.now b.places.nodes.at b.places.nodes.count) (records_at pair_codec b.tape.now b.places.pairs.at b.places.pairs.count)
            e.start.0 (search_from text e.start.0 e.end.0 e.replacement.now)) where
          region_is : s ≡ balanced_region (book_of b) (edit_value e)
          unfolding edit_of
          region_is = let i = inside in region_of_book (book_of b) (edit_value e) i.0 (omega (arith, i.1, ap length k)) k (held_nodes b.held) (held_pairs b.held) v

          module _ {w : Bool} (h : w ≡ whole_text b.places.text.0 s) where
            whole_is : w ≡ is_whole (book_of b) (balanced_region (book_of b) (edit_value e))
            unfolding whole_text is_whole
            whole_is = h ∙ ap (λ (m : ℕ). whole_text m s) (sym (held_length b.held)) ∙ ap (whole_text (length (book_of b).sanitized)) region_is

            pub stage_whole : w ≡ true → refused 11 ≡ chosen_region (book_of b) (edit_value e)
            stage_whole i = sym (chosen_whole (book_of b) (edit_value e) number z (f e.end.0 e.replacement.now) g whole_is i)

            pub stage_chosen : w ≡ false → accepted s ≡ chosen_region (book_of b) (edit_value e)
            stage_chosen i =
                ap {B = Checked Span} accepted region_is ∙ sym (chosen_region_lem (book_of b) (edit_value e) number z (f e.end.0 e.replacement.now) g whole_is i)
