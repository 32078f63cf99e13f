-- What an accepted book, region, reading and merge say, as facts: beside each chain of `refuse n if` its record. A proof about
-- code or about a merge takes its hypotheses from here and never opens the chains.
use Rattle.std.specs.Prelude.{◌≡◌, ℕ, ◌+◌, ◌≤◌, Bool, true, false, not, ◌&&◌, ◌||◌, List, length, eqb}
use Rattle.std.proofs.Math.Path.{refl}
use Rattle.std.proofs.Common.{sym, ap, ◌∙◌, subst, arith}
use Rattle.std.proofs.Math.Option.{Option, none, some}
use Rattle.std.proofs.Math.Dec.{leb}
use borrow.Author.Tests.{leb-true, eqb-true, not-false}
use Rattle.model.specs.Lists.{all, any, is_empty, same, sum}
use Rattle.model.specs.Limits.{max_text, max_pool, max_list, max_layers, max_new_strings, min_work_words}
use Rattle.model.specs.Utf8.{utf8, is_char_boundary}
use Rattle.model.specs.Offset.{Span}
use Rattle.model.specs.Types.{Layer, SourceNode, LexOutput, RegionOutput}
use Rattle.model.specs.Refusal.{Checked, Checked.refused, Checked.accepted, ◌>>=◌, refuse◌if◌}
use Rattle.model.specs.Store.{string_counts, content_counts, segment_counts}
use Rattle.model.specs.Tape.{parse}
use Rattle.model.specs.WellFormed.{texts_are_utf8, within_limits, content_ok, segment_ok, node_ok, ids_ok, levels_ok, span_ok, ordered, offsets_ok, pair_ok, container_ok, diagnostic_ok, places_ok, images, spans, normalized_length_ok, laid_out, well_formed, check_book, check_reading}
use Rattle.model.specs.Region.{Edit, edited, edit_ok, balanced_region, is_whole, has_ruby_format_dependency, chosen_region}
use Rattle.model.specs.Merge.{Stored, Room, IncrementalOutput, window_of, new_region_text, balanced_nodes, is_unclosed, mark_at_empty_region, introduces_ruby_format_dependency, cuts_ok, grafted, merged_book, answer, fits_room, result_ok, fitting, result_checked, merge_books, merge, MergeWindow, Fitted, fitted}
use Rattle.facts.specs.Truth.{both, neither}
use Rattle.facts.specs.Lists.{same_eq}

-- ---- steps of a chain

pub refused_not : {A : Type 0} (n : ℕ) (a : A) → refused n ≡ accepted a → ⊥
refused_not n a e = let z : ◌≡◌ {A = ℕ} 0 1 = cc in omega arith

pub bind_accepted : {A B : Type 0} (x : Checked A) (f : A → Checked B) (y : B) → (x >>= f) ≡ accepted y → (a : A) × (x ≡ accepted a) × (f a ≡ accepted y)
unfolding ◌>>=◌
bind_accepted (refused n) f y e = absurd (refused_not n y e)
bind_accepted (accepted a) f y e = (a, refl, e)

pub refuse_accepted : {B : Type 0} (n : ℕ) (t : Bool) (f : Unit {0} → Checked B) (y : B) → (refuse◌if◌ n t >>= f) ≡ accepted y → (t ≡ false) × (f tt ≡ accepted y)
unfolding ◌>>=◌ refuse◌if◌
refuse_accepted n true f y e = absurd (refused_not n y e)
refuse_accepted n false f y e = (refl, e)

pub same_accepted : {A : Type 0} (a b : A) → accepted a ≡ accepted b → a ≡ b
same_accepted a b e = cc

-- ---- 2 to 7, each as its test

pub record WellFormed (b : LexOutput) : Type 0 where
  pub utf8 : texts_are_utf8 b ≡ true
  pub limits : within_limits b ≡ true
  pub ids : ids_ok b ≡ true
  pub levels : levels_ok b ≡ true
  pub places : places_ok b ≡ true
  pub sizes : normalized_length_ok b ≡ true

pub well_formed_lem : (b c : LexOutput) → well_formed b ≡ accepted c → (c ≡ b) × WellFormed b
unfolding well_formed
well_formed_lem b c e =
    let s₂ = refuse_accepted 2 (not (texts_are_utf8 b)) _ c e in
    let s₃ = refuse_accepted 3 (not (within_limits b)) _ c s₂.1 in
    let s₄ = refuse_accepted 4 (not (ids_ok b)) _ c s₃.1 in
    let s₅ = refuse_accepted 5 (not (levels_ok b)) _ c s₄.1 in
    let s₆ = refuse_accepted 6 (not (places_ok b)) _ c s₅.1 in
    let s₇ = refuse_accepted 7 (not (normalized_length_ok b)) _ c s₆.1 in (
      sym (same_accepted b c s₇.1),
      record {
        utf8 = not-false (texts_are_utf8 b) s₂.0;
        limits = not-false (within_limits b) s₃.0;
        ids = not-false (ids_ok b) s₄.0;
        levels = not-false (levels_ok b) s₅.0;
        places = not-false (places_ok b) s₆.0;
        sizes = not-false (normalized_length_ok b) s₇.0;
      },
    )

-- the tests together are enough
pub well_formed_again : (b : LexOutput) → WellFormed b → well_formed b ≡ accepted b
unfolding well_formed refuse◌if◌ ◌>>=◌
well_formed_again b w = rw (w.utf8, w.limits, w.ids, w.levels, w.places, w.sizes)

-- ---- 2

pub record Utf8Facts (b : LexOutput) : Type 0 where
  pub sanitized : utf8 b.sanitized ≡ true
  pub normalized : utf8 b.normalized ≡ true
  pub strings : all (λ (l : Layer). all utf8 l.strings) b.layers ≡ true

pub utf8_facts : (b : LexOutput) → texts_are_utf8 b ≡ true → Utf8Facts b
unfolding texts_are_utf8
utf8_facts b e =
    let u = both (utf8 b.sanitized && utf8 b.normalized) _ e in
    let v = both (utf8 b.sanitized) (utf8 b.normalized) u.0 in
    record { sanitized = v.0; normalized = v.1; strings = u.1 }

-- ---- 3

pub record LimitFacts (b : LexOutput) : Type 0 where
  pub sanitized : length b.sanitized ≤ max_text
  pub normalized : length b.normalized ≤ max_text
  pub strings : sum (string_counts b.layers) ≤ max_pool
  pub contents : sum (content_counts b.layers) ≤ max_pool
  pub segments : sum (segment_counts b.layers) ≤ max_pool
  pub source_nodes : length b.source_nodes ≤ max_list
  pub pairs : length b.pairs ≤ max_list
  pub container_pairs : length b.container_pairs ≤ max_list
  pub diagnostics : length b.diagnostics ≤ max_list
  pub layers : length b.layers ≤ max_layers

pub limit_facts : (b : LexOutput) → within_limits b ≡ true → LimitFacts b
unfolding within_limits
limit_facts b e =
    let u₀ = both _ (leb (length b.layers) max_layers) e in
    let u₉ = both _ (leb (length b.diagnostics) max_list) u₀.0 in
    let u₈ = both _ (leb (length b.container_pairs) max_list) u₉.0 in
    let u₇ = both _ (leb (length b.pairs) max_list) u₈.0 in
    let u₆ = both _ (leb (length b.source_nodes) max_list) u₇.0 in
    let u₅ = both _ (leb (sum (segment_counts b.layers)) max_pool) u₆.0 in
    let u₄ = both _ (leb (sum (content_counts b.layers)) max_pool) u₅.0 in
    let u₃ = both _ (leb (sum (string_counts b.layers)) max_pool) u₄.0 in
    let u₂ = both (leb (length b.sanitized) max_text) (leb (length b.normalized) max_text) u₃.0 in
    record {
      sanitized = leb-true (length b.sanitized) max_text u₂.0;
      normalized = leb-true (length b.normalized) max_text u₂.1;
      strings = leb-true (sum (string_counts b.layers)) max_pool u₃.1;
      contents = leb-true (sum (content_counts b.layers)) max_pool u₄.1;
      segments = leb-true (sum (segment_counts b.layers)) max_pool u₅.1;
      source_nodes = leb-true (length b.source_nodes) max_list u₆.1;
      pairs = leb-true (length b.pairs) max_list u₇.1;
      container_pairs = leb-true (length b.container_pairs) max_list u₈.1;
      diagnostics = leb-true (length b.diagnostics) max_list u₉.1;
      layers = leb-true (length b.layers) max_layers u₀.1;
    }

-- ---- 4

pub record IdFacts (b : LexOutput) : Type 0 where
  pub pools : all (λ (l : Layer). all (content_ok b.layers) l.contents && all (segment_ok b.layers) l.segments) b.layers ≡ true
  pub source_nodes : all (node_ok b.layers) b.source_nodes ≡ true

pub id_facts : (b : LexOutput) → ids_ok b ≡ true → IdFacts b
unfolding ids_ok
id_facts b e = let u = both _ (all (node_ok b.layers) b.source_nodes) e in record { pools = u.0; source_nodes = u.1 }

-- ---- 6 and 7

pub record PlaceFacts (b : LexOutput) : Type 0 where
  pub source_spans : all (λ (n : SourceNode). span_ok (length b.sanitized) n.source_span) b.source_nodes ≡ true
  pub order : ordered 0 b.source_nodes ≡ true
  pub offsets : offsets_ok 0 0 b.source_nodes ≡ true
  pub pairs : all (pair_ok (length b.sanitized)) b.pairs ≡ true
  pub container_pairs : all (container_ok (length b.normalized)) b.container_pairs ≡ true
  pub diagnostics : all (diagnostic_ok (length b.sanitized)) b.diagnostics ≡ true

pub place_facts : (b : LexOutput) → places_ok b ≡ true → PlaceFacts b
unfolding places_ok
place_facts b e =
    let u₆ = both _ (all (diagnostic_ok (length b.sanitized)) b.diagnostics) e in
    let u₅ = both _ (all (container_ok (length b.normalized)) b.container_pairs) u₆.0 in
    let u₄ = both _ (all (pair_ok (length b.sanitized)) b.pairs) u₅.0 in
    let u₃ = both _ (offsets_ok 0 0 b.source_nodes) u₄.0 in
    let u₂ = both (all (λ (n : SourceNode). span_ok (length b.sanitized) n.source_span) b.source_nodes) (ordered 0 b.source_nodes) u₃.0 in
    record { source_spans = u₂.0; order = u₂.1; offsets = u₃.1; pairs = u₄.1; container_pairs = u₅.1; diagnostics = u₆.1 }

pub size_fact : (b : LexOutput) → normalized_length_ok b ≡ true → length b.normalized + spans b.source_nodes ≡ length b.sanitized + images b.source_nodes
unfolding normalized_length_ok
size_fact b e = eqb-true (length b.normalized + spans b.source_nodes) (length b.sanitized + images b.source_nodes) e

-- ---- 1 to 7

pub laid_out_lem : (t d : List ℕ) (b : LexOutput) → laid_out (parse t d) ≡ accepted b → parse t d ≡ some b
unfolding laid_out
laid_out_lem t d b e = go (parse t d) refl e
  where
    go : (x : Option LexOutput) → parse t d ≡ x → laid_out x ≡ accepted b → parse t d ≡ some b
    go none p q = absurd (refused_not 1 b q)
    go (some c) p q = p ∙ ap {B = Option LexOutput} some (same_accepted c b q)

pub checked_book : (t d : List ℕ) (b : LexOutput) → check_book t d ≡ accepted b → (parse t d ≡ some b) × WellFormed b
unfolding check_book
checked_book t d b e =
    let s = bind_accepted (laid_out (parse t d)) well_formed b e in
    let p = laid_out_lem t d s.0 s.1 in
    let w = well_formed_lem s.0 b s.2 in
    (p ∙ ap {B = Option LexOutput} some (sym w.0), subst WellFormed (sym w.0) w.1)

-- what parses and is well formed is accepted
pub checked_again : (t d : List ℕ) (b : LexOutput) → parse t d ≡ some b → WellFormed b → check_book t d ≡ accepted b
unfolding check_book laid_out ◌>>=◌
checked_again t d b p w = rw p (well_formed_again b w)

pub checked_reading : (t d : List ℕ) (b : RegionOutput) → check_reading t d ≡ accepted b → (parse t d ≡ some b) × (length b.layers ≡ 1) × WellFormed b
unfolding check_reading
checked_reading t d b e =
    let s = bind_accepted (laid_out (parse t d)) _ b e in
    let p = laid_out_lem t d s.0 s.1 in
    let o = refuse_accepted 1 (not (eqb (length s.0.layers) 1)) _ b s.2 in
    let w = well_formed_lem s.0 b o.1 in
    let one = eqb-true (length s.0.layers) 1 (not-false (eqb (length s.0.layers) 1) o.0) in
    (p ∙ ap {B = Option LexOutput} some (sym w.0), ap (λ (x : LexOutput). length x.layers) w.0 ∙ one, subst WellFormed (sym w.0) w.1)

-- ---- 8 to 11

pub record Chosen (b : LexOutput) (e : Edit) (r : Span) : Type 0 where
  pub rising : e.start ≤ e.end
  pub inside : e.end ≤ length b.sanitized
  pub start_boundary : is_char_boundary b.sanitized e.start ≡ true
  pub end_boundary : is_char_boundary b.sanitized e.end ≡ true
  pub replacement : utf8 e.replacement ≡ true
  pub limit : length (edited b.sanitized e) ≤ max_text
  pub changes : same (edited b.sanitized e) b.sanitized ≡ false
  pub independent : has_ruby_format_dependency b e ≡ false
  pub not_whole : is_whole b r ≡ false
  pub region : r ≡ balanced_region b e

pub chosen_facts : (b : LexOutput) (e : Edit) (r : Span) → chosen_region b e ≡ accepted r → Chosen b e r
unfolding chosen_region edit_ok
chosen_facts b e r q =
    let s₈ = refuse_accepted 8 (not (edit_ok b e)) _ r q in
    let s₂ = refuse_accepted 2 (not (utf8 e.replacement)) _ r s₈.1 in
    let s₃ = refuse_accepted 3 (not (leb (length (edited b.sanitized e)) max_text)) _ r s₂.1 in
    let s₉ = refuse_accepted 9 (same (edited b.sanitized e) b.sanitized) _ r s₃.1 in
    let s₀ = refuse_accepted 10 (has_ruby_format_dependency b e) _ r s₉.1 in
    let s₁ = refuse_accepted 11 (is_whole b (balanced_region b e)) _ r s₀.1 in
    let same-region = same_accepted (balanced_region b e) r s₁.1 in
    let u₄ = both _ (is_char_boundary b.sanitized e.end) (not-false (edit_ok b e) s₈.0) in
    let u₃ = both _ (is_char_boundary b.sanitized e.start) u₄.0 in
    let u₂ = both (leb e.start e.end) (leb e.end (length b.sanitized)) u₃.0 in
    record {
      rising = leb-true e.start e.end u₂.0;
      inside = leb-true e.end (length b.sanitized) u₂.1;
      start_boundary = u₃.1;
      end_boundary = u₄.1;
      replacement = not-false (utf8 e.replacement) s₂.0;
      limit = leb-true (length (edited b.sanitized e)) max_text (not-false (leb (length (edited b.sanitized e)) max_text) s₃.0);
      changes = s₉.0;
      independent = s₀.0;
      not_whole = subst (λ (s : Span). is_whole b s ≡ false) same-region s₁.0;
      region = sym same-region;
    }

-- ---- 12 to 18

-- the book that a merge makes
abbrev pub merged_of : LexOutput → Edit → RegionOutput → Span → LexOutput
merged_of old e reading r = merged_book old e reading (window_of old e reading r) (grafted old reading)

-- 12 to 17 have passed
pub record Passed (old : LexOutput) (e : Edit) (r : Span) (reading : RegionOutput) : Type 0 where
  pub region_text : same reading.sanitized (new_region_text old e r) ≡ true
  pub balanced : balanced_nodes reading.source_nodes ≡ true
  pub closed : any is_unclosed reading.diagnostics ≡ false
  pub unmarked : mark_at_empty_region old.diagnostics r ≡ false
  pub independent : introduces_ruby_format_dependency old reading r ≡ false
  pub cuts : cuts_ok old (window_of old e reading r) ≡ true
  pub layers : not (is_empty reading.source_nodes) && leb max_layers (length old.layers) ≡ false

module _ (old : LexOutput) (e : Edit) (r : Span) (reading : RegionOutput) where
  pub passed_fitting : Passed old e r reading → fitting old e r reading ≡ accepted (window_of old e reading r)
  unfolding fitting refuse◌if◌ ◌>>=◌
  passed_fitting p = rw (p.region_text, p.balanced, p.closed, p.unmarked, p.independent, p.cuts, p.layers) refl

  pub fitting_passed : (w : MergeWindow) → fitting old e r reading ≡ accepted w → (window_of old e reading r ≡ w) × Passed old e r reading
  unfolding fitting
  fitting_passed w q =
      let v = window_of old e reading r in
      let s₂ = refuse_accepted 12 (not (same reading.sanitized (new_region_text old e r))) _ w q in
      let s₃ = refuse_accepted 13 (not (balanced_nodes reading.source_nodes)) _ w s₂.1 in
      let s₄ = refuse_accepted 14 (any is_unclosed reading.diagnostics || mark_at_empty_region old.diagnostics r) _ w s₃.1 in
      let u₄ = neither (any is_unclosed reading.diagnostics) (mark_at_empty_region old.diagnostics r) s₄.0 in
      let s₅ = refuse_accepted 15 (introduces_ruby_format_dependency old reading r) _ w s₄.1 in
      let s₆ = refuse_accepted 16 (not (cuts_ok old v)) _ w s₅.1 in
      let s₇ = refuse_accepted 17 (not (is_empty reading.source_nodes) && leb max_layers (length old.layers)) _ w s₆.1 in (
        same_accepted v w s₇.1,
        record {
          region_text = not-false (same reading.sanitized (new_region_text old e r)) s₂.0;
          balanced = not-false (balanced_nodes reading.source_nodes) s₃.0;
          closed = u₄.0;
          unmarked = u₄.1;
          independent = s₅.0;
          cuts = not-false (cuts_ok old v) s₆.0;
          layers = s₇.0;
        },
      )

pub record MergeFacts (old : LexOutput) (e : Edit) (r : Span) (reading : RegionOutput) (room : Room) (m : IncrementalOutput) : Type 0 where
  pub region_text : reading.sanitized ≡ new_region_text old e r
  pub balanced : balanced_nodes reading.source_nodes ≡ true
  pub closed : any is_unclosed reading.diagnostics ≡ false
  pub unmarked : mark_at_empty_region old.diagnostics r ≡ false
  pub independent : introduces_ruby_format_dependency old reading r ≡ false
  pub cuts : cuts_ok old (window_of old e reading r) ≡ true
  pub layers : not (is_empty reading.source_nodes) && leb max_layers (length old.layers) ≡ false
  pub limits : within_limits (merged_of old e reading r) ≡ true
  pub new_strings : length (grafted old reading).1.interner.strings ≤ max_new_strings
  pub fits : fits_room room m.output ≡ true
  pub work : min_work_words ≤ room.work_words
  pub result : m ≡ answer old reading (window_of old e reading r) (grafted old reading) (merged_of old e reading r)

pub merge_facts : (old : LexOutput) (e : Edit) (r : Span) (reading : RegionOutput) (room : Room) (m : IncrementalOutput) → merge_books old e r reading room ≡ accepted m → MergeFacts old e r reading room m
unfolding merge_books result_checked result_ok
merge_facts old e r reading room m q =
    let w = window_of old e reading r in
    let g = grafted old reading in
    let new = merged_book old e reading w g in
    let a = answer old reading w g new in
    let s₁ = bind_accepted (fitting old e r reading) _ m q in
    let s₂ = fitting_passed old e r reading s₁.0 s₁.1 in
    let s₃ = refuse_accepted 18 (not (result_ok room g new a.output)) _ m (subst (λ (x : MergeWindow). result_checked old e reading x room ≡ accepted m) (sym s₂.0) s₁.2) in
    let p = s₂.1 in
    let u₃ = both _ (leb min_work_words room.work_words) (not-false (result_ok room g new a.output) s₃.0) in
    let u₂ = both _ (fits_room room a.output) u₃.0 in
    let u₁ = both (within_limits new) (leb (length g.1.interner.strings) max_new_strings) u₂.0 in
    let same_answer = same_accepted a m s₃.1 in
    record {
      region_text = same_eq reading.sanitized (new_region_text old e r) p.region_text;
      balanced = p.balanced;
      closed = p.closed;
      unmarked = p.unmarked;
      independent = p.independent;
      cuts = p.cuts;
      layers = p.layers;
      limits = u₁.0;
      new_strings = leb-true (length g.1.interner.strings) max_new_strings u₁.1;
      fits = subst (λ (x : IncrementalOutput). fits_room room x.output ≡ true) same_answer u₂.1;
      work = leb-true min_work_words room.work_words u₃.1;
      result = sym same_answer;
    }

-- what passed 1 to 17: its book, region, reading and window
pub record FittedAccepted (s : Stored) (e : Edit) (rs : Stored) (f : Fitted) : Type 0 where
  pub region : Span
  pub book : check_book s.tape s.bytes ≡ accepted f.old
  pub chosen : chosen_region f.old e ≡ accepted region
  pub read : check_reading rs.tape rs.bytes ≡ accepted f.reading
  pub window : window_of f.old e f.reading region ≡ f.window
  pub passed : Passed f.old e region f.reading

pub fitted_accepted : (s : Stored) (e : Edit) (rs : Stored) (f : Fitted) → fitted s e rs ≡ accepted f → FittedAccepted s e rs f
unfolding fitted
fitted_accepted s e rs f q =
    let s₁ = bind_accepted (check_book s.tape s.bytes) _ f q in
    let s₂ = bind_accepted (chosen_region s₁.0 e) _ f s₁.2 in
    let s₃ = bind_accepted (check_reading rs.tape rs.bytes) _ f s₂.2 in
    let s₄ = bind_accepted (fitting s₁.0 e s₂.0 s₃.0) _ f s₃.2 in
    let p = fitting_passed s₁.0 e s₂.0 s₃.0 s₄.0 s₄.1 in
    subst (FittedAccepted s e rs) (same_accepted _ f s₄.2) (record { region = s₂.0; book = s₁.1; chosen = s₂.1; read = s₃.1; window = p.0; passed = p.1 })

-- a whole merge: its book, region and reading, and what 12 to 18 say of them
pub record MergeAccepted (s : Stored) (e : Edit) (rs : Stored) (room : Room) (m : IncrementalOutput) : Type 0 where
  pub old : LexOutput
  pub reading : RegionOutput
  pub region : Span
  pub book : check_book s.tape s.bytes ≡ accepted old
  pub chosen : chosen_region old e ≡ accepted region
  pub read : check_reading rs.tape rs.bytes ≡ accepted reading
  pub facts : MergeFacts old e region reading room m

pub merge_accepted : (s : Stored) (e : Edit) (rs : Stored) (room : Room) (m : IncrementalOutput) → merge s e rs room ≡ accepted m → MergeAccepted s e rs room m
unfolding merge
merge_accepted s e rs room m q =
    let s₁ = bind_accepted (check_book s.tape s.bytes) _ m q in
    let s₂ = bind_accepted (chosen_region s₁.0 e) _ m s₁.2 in
    let s₃ = bind_accepted (check_reading rs.tape rs.bytes) _ m s₂.2 in
    record {
      old = s₁.0;
      reading = s₃.0;
      region = s₂.0;
      book = s₁.1;
      chosen = s₂.1;
      read = s₃.1;
      facts = merge_facts s₁.0 e s₂.0 s₃.0 room m s₃.2;
    }
