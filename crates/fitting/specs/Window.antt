-- `MergeWindow`: the region in both texts, and how far what lies behind it moves in each, by the code's numbers.
use Rattle.std.specs.Prelude.{◌≡◌, ℕ, ℤ, ◌-◌, ◌+◌, ◌^◌, ◌≤◌, ◌<◌, List, length, ◌-ℤ◌}
use Rattle.std.proofs.Common.{sym, ◌∙◌, arith}
use Rattle.std.proofs.Math.Path.{ap, ap₂}
use Rattle.std.proofs.Math.IntN.{pos, sub_ℕ}
use Rattle.model.specs.Limits.{max_text}
use Rattle.model.specs.Offset.{Span}
use Rattle.model.specs.Types.{LexOutput, SourceNode}
use Rattle.model.specs.Region.{Edit}
use Rattle.model.specs.Merge.{MergeWindow, normalized_offset, change_in_length, window_of}
use Rattle.laws.specs.Checks.{Chosen, chosen_facts, limit_facts}
use Rattle.laws.specs.Nodes.{Sound, SafeCut, sound_of, safe_facts, normal_rises, normal_inside}
use Rattle.commute.specs.Passage.{Bounds, bounds}
use Rattle.edit.specs.Same.{edited_length}
use Rattle.span.specs.Shift.{sub_signs}
use Rattle.splice.specs.declared.Window.{Window}
use Rattle.splice.specs.Window.{window_value}
use Rattle.tape.specs.Held.{held_nodes, held_length}
use Rattle.tape.specs.StringBytes.{book_of}
use Rattle.tape.specs.declared.book.Book.{Book}
use Rattle.fitting.specs.Fits.{nodes_of, RegionOf, well_formed}

-- by the ends of the region in both texts, the replacement's length, the edit, and the length of the reading's normalized text
abbrev pub window_from : ℕ → ℕ → ℕ → ℕ → ℕ → ℕ → ℕ → ℕ → MergeWindow
window_from from to normal_start normal_end len start end normalized = record {
  source = record { start = from; end = to };
  normalized = record { start = normal_start; end = normal_end };
  source_delta = pos len -ℤ pos (end - start);
  normalized_delta = pos normalized -ℤ pos (normal_end - normal_start);
}

pub window_made : (from to normal_start normal_end len start end normalized : ℕ) {source_delta normalized_delta : ℤ} → source_delta ≡ pos len -ℤ pos (end - start)
    → normalized_delta ≡ pos normalized -ℤ pos (normal_end - normal_start)
    → ◌≡◌ {A = MergeWindow} (record { source = record { start = from; end = to }; normalized = record { start = normal_start; end = normal_end }; source_delta = source_delta; normalized_delta = normalized_delta })
    (window_from from to normal_start normal_end len start end normalized)
window_made from to normal_start normal_end len start end normalized e f =
    λ i. record { source = record { start = from; end = to }; normalized = record { start = normal_start; end = normal_end }; source_delta = e i; normalized_delta = f i }

-- the cuts by their definition
pub window_cuts : {v : MergeWindow} (from to len start end normalized : ℕ) {x y x' y' : ℕ} → v ≡ window_from from to x y len start end normalized → x ≡ x' → y ≡ y' → v ≡ window_from from to x' y' len start end normalized
window_cuts from to len start end normalized e f g = e ∙ ap₂ (λ (a b : ℕ). window_from from to a b len start end normalized) f g

-- the window's ends in the normalized text are those of its region
pub record CutsOf (b : Book) (w : Window) : Type 0 where
  pub start : w.normalized.start.0 ≡ normalized_offset (nodes_of b) w.source.start.0
  pub end : w.normalized.end.0 ≡ normalized_offset (nodes_of b) w.source.end.0

-- ---- what is known of the region

module _ {b : Book} {e : Edit} {r : Span} (g : RegionOf b e r) where
  abbrev old : LexOutput
  old = book_of b

  pub given_chosen : Chosen old e r
  given_chosen = chosen_facts old e r g.chosen

  region_bounds : Bounds old e r
  region_bounds = let c = given_chosen in rw c.region (bounds old e c.inside)

  sound : Sound old
  sound = sound_of old (well_formed b)

  start_safe_lem : SafeCut old r.start
  start_safe_lem = safe_facts sound r.start region_bounds.starts.safe

  end_safe_lem : SafeCut old r.end
  end_safe_lem = safe_facts sound r.end region_bounds.ends.safe

  -- the edit is inside of its region, and that inside of the text
  pub record Inside : Type 0 where
    pub start : r.start ≤ e.start
    pub edit : e.start ≤ e.end
    pub end : e.end ≤ r.end
    pub text : r.end ≤ b.places.text.0
    pub replacement : length e.replacement ≤ max_text

  pub given_inside : Inside
  given_inside =
      let t = region_bounds in
      let c = given_chosen in
      let n = held_length b.held in
      let m = edited_length old.sanitized e c.rising c.inside in
      record { start = t.starts.before; edit = c.rising; end = t.ends.behind; text = omega (arith, t.ends.inside, n); replacement = omega (arith, c.limit, m) }

  normal_small : (c : ℕ) → SafeCut old c → c ≤ b.places.text.0 → {x : ℕ} → x ≡ normalized_offset (nodes_of b) c → x < 2 ^ 32
  normal_small c safe h {x} u =
      let n = held_length b.held in
      let k = u ∙ ap (λ (ns : List SourceNode). normalized_offset ns c) (held_nodes b.held) in
      let m = normal_inside sound safe (omega (arith, h, n)) in
      let l = (limit_facts old b.held.accepted.limits).normalized in
      omega (arith, m, k, l)

  pub start_small : {x : ℕ} → x ≡ normalized_offset (nodes_of b) r.start → x < 2 ^ 32
  start_small u = let i = given_inside in normal_small r.start start_safe_lem (omega (arith, i.start, i.edit, i.end, i.text)) u

  pub end_small : {y : ℕ} → y ≡ normalized_offset (nodes_of b) r.end → y < 2 ^ 32
  end_small v = normal_small r.end end_safe_lem given_inside.text v

  -- the region in the normalized text
  module _ {x y : ℕ} (u : x ≡ normalized_offset (nodes_of b) r.start) (v : y ≡ normalized_offset (nodes_of b) r.end) where
    starts : x ≡ normalized_offset old.source_nodes r.start
    starts = u ∙ ap (λ (ns : List SourceNode). normalized_offset ns r.start) (held_nodes b.held)

    ends : y ≡ normalized_offset old.source_nodes r.end
    ends = v ∙ ap (λ (ns : List SourceNode). normalized_offset ns r.end) (held_nodes b.held)

    pub normal_order : x ≤ y
    normal_order =
        let i = given_inside in
        let a = normal_rises sound start_safe_lem r.end (omega (arith, i.start, i.edit, i.end)) in
        omega (arith, a, starts, ends)

    -- the window's numbers are those of the model's window
    pub window_is : {len normalized : ℕ} → len ≡ length e.replacement → (reading : LexOutput) → length reading.normalized ≡ normalized
        → (w : Window) → window_value w ≡ window_from r.start r.end x y len e.start e.end normalized → window_value w ≡ window_of old e reading r
    unfolding window_of change_in_length
    window_is {len} {normalized} n reading m w q =
        let first : pos len -ℤ pos (e.end - e.start) ≡ change_in_length e = sub_signs len (e.end - e.start) ∙ ap (λ (k : ℕ). sub_ℕ k (e.end - e.start)) n in
        let second : pos normalized -ℤ pos (y - x) ≡ sub_ℕ (length reading.normalized) (normalized_offset old.source_nodes r.end - normalized_offset old.source_nodes r.start) =
        sub_signs normalized (y - x) ∙ ap₂ (λ (k j : ℕ). sub_ℕ k j) (sym m) (ap₂ (λ (k j : ℕ). k - j) ends starts) in
        q ∙ (λ i. record { source = r; normalized = record { start = starts i; end = ends i }; source_delta = first i; normalized_delta = second i })
