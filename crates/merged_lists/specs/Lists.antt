-- Section 7's four lists on the new tape, one behind the other, and command 10.
use Rattle.std.specs.Prelude.{◌≡◌, ℕ, ◌+◌, ◌*◌, ◌≤◌, true, take, drop}
use Rattle.std.proofs.Math.Path.{sym, ap}
use Rattle.std.proofs.Common.{◌∙◌, arith, mul-add, length-drop, length-take-le, drop_at}
use mathlib.Core.List.{List, [], ◌∷◌, ◌++◌, map, append_assoc, append-nil}
use Rattle.std.proofs.Math.ListN.{length, length-append}
use Rattle.std.proofs.lemmas.List.{length-map}
use Rattle.model.specs.Lists.{all}
use Rattle.model.specs.Types.{SourceNode, PairLink, ContainerPair, Diagnostic}
use Rattle.model.specs.Bytes.{part}
use Rattle.model.specs.Tape.{Codec, records_at, records_bytes, node_codec, pair_codec, container_codec, diagnostic_codec}
use Rattle.model.specs.Merge.{MergeWindow, Located, kept_before, kept_behind, spliced, node_located, pair_located, container_located, diagnostic_located, sort_diagnostics}
use Rattle.facts.specs.Keep.{all_keep, all_map_is}
use Rattle.laws.specs.Located.{is_before, is_behind}
use Rattle.laws.specs.Fits.{record_fits}
use Rattle.laws.specs.Records.{diagnostic_lawful, run_length, records_stand}
use Rattle.wire.specs.Overwrite.{overwrite, length_overwrite, overwrite_next, drop_overwrite, Wrote, wrote_next}
use Rattle.splice.specs.Parts.{Kind}
use Rattle.splice.specs.Spliced.{before_long, placed_long, behind_long, spliced_length, spliced_written}
use Rattle.diagnostics.specs.Sorted.{sort_length}
use Rattle.diagnostics.specs.Runs.{Diagnostics, written_diagnostics}
use Rattle.wire.specs.Apart.{overwrite_covered, overwrite_part}
use Rattle.places.specs.declared.Places.{Places}
use Rattle.tape.specs.Held.{held_places}
use Rattle.tape.specs.Placed.{fit_nodes, fit_pairs, fit_containers, fit_diagnostics}
use Rattle.splice.specs.Window.{window_value}
use Rattle.fitting.specs.declared.merging.Merging.{Merging}
use Rattle.merged_lists.specs.declared.Kept.{Kept}
use Rattle.merged_lists.specs.declared.counts.Counts.{Counts}
use Rattle.merged_lists.specs.declared.Totals.{Totals}
use Rattle.merged_lists.specs.Sizes.{sides_of, kept_of, total_of, totals_of, TotalsAre, totals_are, lists_end}
use Rattle.merged_lists.specs.Fitted.{CountsOf}
use Rattle.laws.specs.Parts.{six_words, nodes_width, nodes_six, pairs_width, containers_width, diagnostics_width, bytes_append}
use Rattle.merged_lists.specs.Widths.{spliced_six, records_moved}

-- ---- definitions

abbrev pub old_nodes : List ℕ → Places → List SourceNode
old_nodes t p = records_at node_codec t p.nodes.at p.nodes.count

abbrev pub old_pairs : List ℕ → Places → List PairLink
old_pairs t p = records_at pair_codec t p.pairs.at p.pairs.count

abbrev pub old_containers : List ℕ → Places → List ContainerPair
old_containers t p = records_at container_codec t p.containers.at p.containers.count

abbrev pub old_diagnostics : List ℕ → Places → List Diagnostic
old_diagnostics t p = records_at diagnostic_codec t p.diagnostics.at p.diagnostics.count

abbrev pub node_bytes : MergeWindow → List SourceNode → List SourceNode → List ℕ
node_bytes w old new = records_bytes node_codec (spliced node_located w old new)

abbrev pub pair_bytes : MergeWindow → List PairLink → List PairLink → List ℕ
pair_bytes w old new = records_bytes pair_codec (spliced pair_located w old new)

abbrev pub container_bytes : MergeWindow → List ContainerPair → List ContainerPair → List ℕ
container_bytes w old new = records_bytes container_codec (spliced container_located w old new)

abbrev pub diagnostic_bytes : MergeWindow → List Diagnostic → List Diagnostic → List ℕ
diagnostic_bytes w old new = records_bytes diagnostic_codec (sort_diagnostics (spliced diagnostic_located w old new))

-- of the tapes t and rt, the nodes of the reading being ns
unfoldable pub lists_of : MergeWindow → List ℕ → Places → List ℕ → Places → List SourceNode → List ℕ
lists_of w t p rt q ns =
    node_bytes w (old_nodes t p) ns ++ pair_bytes w (old_pairs t p) (old_pairs rt q) ++ container_bytes w (old_containers t p) (old_containers rt q)
    ++ diagnostic_bytes w (old_diagnostics t p) (old_diagnostics rt q) ++ (10 ∷ [])

-- what `put_lists` asks: the grafted nodes stand where the lists begin
pub record Lists (m : Merging) (c : Counts) (size at : ℕ) : Type 0 where
  pub counts : CountsOf m c
  pub room : lists_end at c.kept c.reading ≤ size
  pub diagnostics : all (record_fits diagnostic_codec) (spliced diagnostic_located (window_value m.window) (old_diagnostics m.book.tape.now m.book.places) (old_diagnostics m.reading.tape.now m.reading.places)) ≡ true

-- ---- three parts of a list of any kind of record

module _ {A : Type 0} {c : Codec A} {l : Located A} {z : ℕ} (k : Kind c l z) (w : MergeWindow) (t : List ℕ) (at m : ℕ) (rt : List ℕ) (rat n : ℕ) (d : List ℕ) (to before : ℕ)
    (e : before ≡ length (kept_before l w (records_at c t at m))) (room : to + z * total_of (sides_of l w (records_at c t at m)) n ≤ length d) where
  abbrev old : List A
  old = records_at c t at m

  abbrev new : List A
  new = records_at c rt rat n

  abbrev after : ℕ
  after = length (kept_behind l w old)

  -- the room of each part
  pub parts_room : (z * before ≡ z * length (kept_before l w old)) × (to + z * before + z * n + z * after ≤ length d)
  parts_room =
      let u = ap (λ (j : ℕ). z * j) e in
      let v : z * total_of (sides_of l w old) n ≡ z * length (kept_before l w old) + z * n + z * after = simp mul-add in
      (u, omega (arith, u, v, room))

  pub parts_written : {d₁ d₂ d₃ : List ℕ} → d₁ ≡ overwrite d to (records_bytes c (kept_before l w old)) → d₂ ≡ overwrite d₁ (to + z * before) (records_bytes c (map (l.placed w) new))
      → d₃ ≡ overwrite d₂ (to + z * before + z * n) (records_bytes c (map (l.moved w) (kept_behind l w old))) → d₃ ≡ overwrite d to (records_bytes c (spliced l w old new))
  parts_written w₁ w₂ w₃ =
      let x = before_long k w t at m in
      let y = placed_long k w rt rat n in
      let v = behind_long k w t at m in
      spliced_written c l w old new d to (to + z * before) (to + z * before + z * n) w₁ (omega (arith, x, parts_room.0)) w₂ (omega (arith, y)) w₃ (omega (arith, v, parts_room.1))

pub total_is : {A : Type 0} (c : Codec A) (l : Located A) (w : MergeWindow) (old : List A) (rt : List ℕ) (rat n : ℕ) {all : ℕ} → all ≡ total_of (sides_of l w old) n → all ≡ length (spliced l w old (records_at c rt rat n))
total_is c l w old rt rat n e = let x = spliced_length c l w old (records_at c rt rat n) in let y = run_length c rt rat n in omega (arith, e, x, y)

-- ---- nodes: the reading's stand at `to` already

pub spliced_width : (w : MergeWindow) (old reading : List SourceNode) → all six_words old ≡ true → all six_words reading ≡ true → length (node_bytes w old reading) ≡ 49 * total_of (sides_of node_located w old) (length reading)
spliced_width w old reading a b = nodes_width (spliced node_located w old reading) (spliced_six w old reading a b) ∙ ap (λ (k : ℕ). 49 * k) (spliced_length node_codec node_located w old reading)

before_six : (w : MergeWindow) (old : List SourceNode) → all six_words old ≡ true → all six_words (kept_before node_located w old) ≡ true
unfolding kept_before
before_six w old h = all_keep six_words (is_before node_located w) old h

behind_six : (w : MergeWindow) (old : List SourceNode) → all six_words old ≡ true → all six_words (map (node_located.moved w) (kept_behind node_located w old)) ≡ true
unfolding kept_behind node_located six_words
behind_six w old h = all_map_is six_words (node_located.moved w) (kept_behind node_located w old) ∙ all_keep six_words (is_behind node_located w) old h

placed_six : (w : MergeWindow) (ns : List SourceNode) → all six_words ns ≡ true → all six_words (map (node_located.placed w) ns) ≡ true
unfolding node_located six_words
placed_six w ns h = all_map_is six_words (node_located.placed w) ns ∙ h

pub record NodeWidths (w : MergeWindow) (old new : List SourceNode) : Type 0 where
  pub before : length (records_bytes node_codec (kept_before node_located w old)) ≡ 49 * length (kept_before node_located w old)
  pub placed : length (records_bytes node_codec (map (node_located.placed w) new)) ≡ 49 * length new
  pub behind : length (records_bytes node_codec (map (node_located.moved w) (kept_behind node_located w old))) ≡ 49 * length (kept_behind node_located w old)

pub node_widths : (w : MergeWindow) (old new : List SourceNode) → all six_words old ≡ true → all six_words new ≡ true → NodeWidths w old new
node_widths w old new a b = record {
  before = nodes_width (kept_before node_located w old) (before_six w old a);
  placed = nodes_width (map (node_located.placed w) new) (placed_six w new b) ∙ ap (λ (k : ℕ). 49 * k) (length-map new (node_located.placed w));
  behind = nodes_width (map (node_located.moved w) (kept_behind node_located w old)) (behind_six w old a) ∙ ap (λ (k : ℕ). 49 * k) (length-map (kept_behind node_located w old) (node_located.moved w));
}

-- moved up, the part before written, then moved where they stand, then the part behind
module _ (w : MergeWindow) (old : List SourceNode) (six : all six_words old ≡ true) (d : List ℕ) (to before n : ℕ) (e : before ≡ length (kept_before node_located w old))
    (room : to + 49 * total_of (sides_of node_located w old) n ≤ length d) {d₁ d₂ : List ℕ} (w₁ : d₁ ≡ overwrite d (to + 49 * before) (take (49 * n) (drop to d)))
    (w₂ : d₂ ≡ overwrite d₁ to (records_bytes node_codec (kept_before node_located w old))) where
  abbrev moving : List ℕ
  moving = take (49 * n) (drop to d)

  abbrev first : List ℕ
  first = records_bytes node_codec (kept_before node_located w old)

  moving_long : length moving ≡ 49 * n
  moving_long = length-take-le (49 * n) (drop to d) (rw length-drop (omega (arith, room)))

  first_long : length first ≡ 49 * before
  first_long = nodes_width (kept_before node_located w old) (before_six w old six) ∙ ap (λ (k : ℕ). 49 * k) (sym e)

  d₁_long : length d₁ ≡ length d
  d₁_long = ap length w₁ ∙ length_overwrite d (to + 49 * before) moving (omega (arith, moving_long, room, e))

  same_bytes : part d₂ (to + 49 * before) (49 * n) ≡ part d to (49 * n)
  same_bytes =
      let q : to + 49 * before ≡ to + length first = omega (arith, first_long) in
      ap (λ (l : List ℕ). take (49 * n) (drop (to + 49 * before) l)) w₂
      ∙ ap (λ (k : ℕ). take (49 * n) (drop k (overwrite d₁ to first))) q
      ∙ ap (take (49 * n)) (drop_overwrite d₁ to first (omega (arith, first_long, d₁_long, room, e)))
      ∙ ap (λ (k : ℕ). take (49 * n) (drop k d₁)) (sym q)
      ∙ ap (λ (l : List ℕ). take (49 * n) (drop (to + 49 * before) l)) w₁
      ∙ overwrite_part d (to + 49 * before) moving (omega (arith, moving_long, room, e)) (49 * n) (sym moving_long)

  -- the nodes that are placed are those that stood at `to`
  pub nodes_moved : records_at node_codec d₂ (to + 49 * before) n ≡ records_at node_codec d to n
  unfolding node_codec
  nodes_moved = records_moved node_codec d₂ d (to + 49 * before) to n same_bytes

  pub nodes_wrote : (length-there : length (records_at node_codec d to n) ≡ n) → {d₃ d₄ : List ℕ} → d₃ ≡ overwrite d₂ (to + 49 * before) (records_bytes node_codec (map (node_located.placed w) (records_at node_codec d₂ (to + 49 * before) n)))
      → d₄ ≡ overwrite d₃ (to + 49 * before + 49 * n) (records_bytes node_codec (map (node_located.moved w) (kept_behind node_located w old)))
      → d₄ ≡ overwrite d to (node_bytes w old (records_at node_codec d to n))
  unfolding spliced
  nodes_wrote count {d₃} {d₄} w₃ w₄ =
      let there = records_at node_codec d to n in
      let x = node_widths w old there six (nodes_six d to n) in
      let y = records_bytes node_codec (map (node_located.placed w) there) in
      let v = records_bytes node_codec (map (node_located.moved w) (kept_behind node_located w old)) in
      let y_long : length y ≡ 49 * n = x.placed ∙ ap (λ (k : ℕ). 49 * k) count in
      let m : d₃ ≡ overwrite d₂ (to + 49 * before) y = w₃ ∙ ap (λ (l : List SourceNode). overwrite d₂ (to + 49 * before) (records_bytes node_codec (map (node_located.placed w) l))) nodes_moved in
      let n₁ = length-append first y in
      let s : d₃ ≡ overwrite d to (first ++ y)
      = m ∙ ap (λ (l : List ℕ). overwrite l (to + 49 * before) y) w₂
      ∙ overwrite_next d₁ to first (omega (arith, first_long, d₁_long, room, e)) (to + 49 * before) y (omega (arith, first_long)) (omega (arith, y_long, d₁_long, room, e))
      ∙ ap (λ (l : List ℕ). overwrite l to (first ++ y)) w₁
      ∙ overwrite_covered d (to + 49 * before) moving (omega (arith, moving_long, room, e)) to (first ++ y) (omega arith) (omega (arith, n₁, moving_long, first_long, y_long)) in
      w₄ ∙ ap (λ (l : List ℕ). overwrite l (to + 49 * before + 49 * n) v) s
      ∙ overwrite_next d to (first ++ y) (omega (arith, n₁, first_long, y_long, room, e)) (to + 49 * before + 49 * n) v (omega (arith, n₁, first_long, y_long)) (omega (arith, x.behind, room, e))
      ∙ ap (overwrite d to) (append_assoc first y v ∙ sym (bytes_append node_codec (kept_before node_located w old) (map (node_located.placed w) there ++ map (node_located.moved w) (kept_behind node_located w old))
      ∙ ap (λ (k : List ℕ). first ++ k) (bytes_append node_codec (map (node_located.placed w) there) (map (node_located.moved w) (kept_behind node_located w old)))))

-- ---- diagnostics: written, then sorted where they stand

pub sorted_wrote : (d : List ℕ) (to n : ℕ) (ds : List Diagnostic) → all (record_fits diagnostic_codec) ds ≡ true → n ≡ length ds → to + 18 * n ≤ length d → {d₁ d₂ : List ℕ} → d₁ ≡ overwrite d to (records_bytes diagnostic_codec ds)
    → d₂ ≡ overwrite d₁ to (records_bytes diagnostic_codec (sort_diagnostics (records_at diagnostic_codec d₁ to n))) → d₂ ≡ overwrite d to (records_bytes diagnostic_codec (sort_diagnostics ds))
unfolding overwrite
sorted_wrote d to n ds ok e room {d₁} {d₂} w₁ w₂ =
    let xs = records_bytes diagnostic_codec ds in
    let ys = records_bytes diagnostic_codec (sort_diagnostics ds) in
    let x = diagnostics_width ds in
    let y = diagnostics_width (sort_diagnostics ds) in
    let z = sort_length ds in
    let a : drop to d₁ ≡ xs ++ drop (to + length xs) d
    = ap (drop to) w₁ ∙ ap (drop to) (append_assoc (take to d) xs (drop (to + length xs) d)) ∙ drop_at (take to d) (xs ++ drop (to + length xs) d) to (length-take-le to d (omega (arith, room))) in
    let r : records_at diagnostic_codec d₁ to n ≡ ds = ap (records_at diagnostic_codec d₁ to) e ∙ records_stand diagnostic_codec diagnostic_lawful d₁ ds ok to (drop (to + length xs) d) a in
    w₂ ∙ ap (λ (l : List Diagnostic). overwrite d₁ to (records_bytes diagnostic_codec (sort_diagnostics l))) r
    ∙ ap (λ (l : List ℕ). overwrite l to ys) w₁ ∙ overwrite_covered d to xs (omega (arith, x, e, room)) to ys (omega arith) (omega (arith, x, y, z))

-- as the sort asks for them
pub diagnostics_there : (d : List ℕ) (to n : ℕ) (ds : List Diagnostic) → all (record_fits diagnostic_codec) ds ≡ true → n ≡ length ds → to + 18 * n ≤ length d → {d₁ : List ℕ} → d₁ ≡ overwrite d to (records_bytes diagnostic_codec ds) → Diagnostics d₁ to n
diagnostics_there d to n ds ok e room {d₁} w =
    let z = append-nil (records_bytes diagnostic_codec ds) in
    let a : Wrote d to ([] ++ (records_bytes diagnostic_codec ds ++ [])) d₁ = record { is = w ∙ ap (overwrite d to) (sym z) } in
    let x = diagnostics_width ds in
    written_diagnostics [] ds [] a (omega (arith, ap length z, x, e, room)) ok to (omega arith) n e

-- ---- the four lists one behind the other

pub five_wrote : (d : List ℕ) (at a₁ a₂ a₃ a₄ : ℕ) (x y v g : List ℕ) → a₁ ≡ at + length x → a₂ ≡ a₁ + length y → a₃ ≡ a₂ + length v → a₄ ≡ a₃ + length g → a₄ + 1 ≤ length d
    → {d₁ d₂ d₃ d₄ d₅ : List ℕ} → d₁ ≡ overwrite d at x → d₂ ≡ overwrite d₁ a₁ y → d₃ ≡ overwrite d₂ a₂ v → d₄ ≡ overwrite d₃ a₃ g → d₅ ≡ overwrite d₄ a₄ (10 ∷ [])
    → d₅ ≡ overwrite d at (x ++ y ++ v ++ g ++ (10 ∷ []))
five_wrote d at a₁ a₂ a₃ a₄ x y v g e₁ e₂ e₃ e₄ room {d₁} w₁ w₂ w₃ w₄ w₅ =
    let s₁ : Wrote d at x d₁ = record { is = w₁ } in
    let s₂ = wrote_next s₁ a₁ y w₂ e₁ (omega (arith, e₂, e₃, e₄, room)) in
    let n₂ = length-append x y in
    let s₃ = wrote_next s₂ a₂ v w₃ (omega (arith, e₁, e₂, n₂)) (omega (arith, e₃, e₄, room)) in
    let n₃ = length-append (x ++ y) v in
    let s₄ = wrote_next s₃ a₃ g w₄ (omega (arith, e₁, e₂, e₃, n₂, n₃)) (omega (arith, e₄, room)) in
    let n₄ = length-append (x ++ y ++ v) g in
    (wrote_next s₄ a₄ (10 ∷ []) w₅ (omega (arith, e₁, e₂, e₃, e₄, n₂, n₃, n₄)) room).is

-- ---- what `put_lists` asks of the writers of the lists, and what it answers

pub record KeptIs (w : MergeWindow) (t : List ℕ) (p : Places) (k : Kept) : Type 0 where
  pub nodes_before : k.nodes.before ≡ length (kept_before node_located w (old_nodes t p))
  pub nodes_behind : k.nodes.behind ≡ length (kept_behind node_located w (old_nodes t p))
  pub pairs_before : k.pairs.before ≡ length (kept_before pair_located w (old_pairs t p))
  pub pairs_behind : k.pairs.behind ≡ length (kept_behind pair_located w (old_pairs t p))
  pub containers_before : k.containers.before ≡ length (kept_before container_located w (old_containers t p))
  pub containers_behind : k.containers.behind ≡ length (kept_behind container_located w (old_containers t p))
  pub diagnostics_before : k.diagnostics.before ≡ length (kept_before diagnostic_located w (old_diagnostics t p))
  pub diagnostics_behind : k.diagnostics.behind ≡ length (kept_behind diagnostic_located w (old_diagnostics t p))

module _ {m : Merging} {c : Counts} {size at : ℕ} (l : Lists m c size at) where
  abbrev t : List ℕ
  t = m.book.tape.now

  abbrev p : Places
  p = m.book.places

  abbrev w : MergeWindow
  w = window_value m.window

  abbrev rt : List ℕ
  rt = m.reading.tape.now

  abbrev q : Places
  q = m.reading.places

  abbrev k : Kept
  k = c.kept

  size_is : lists_end at k q ≤ size
  size_is = let r = l.room in rw l.counts.reading at r

  pub lists_room : at + 49 * total_of k.nodes q.nodes.count + 18 * total_of k.pairs q.pairs.count + 13 * total_of k.containers q.containers.count
      + 18 * total_of k.diagnostics q.diagnostics.count + 1 ≤ size
  unfolding lists_end
  lists_room = size_is

  pub lists_totals : {all : Totals} → all ≡ totals_of k c.reading → TotalsAre k q all
  lists_totals e = totals_are k q (e ∙ ap (λ (x : Places). totals_of k x) l.counts.reading)

  pub kept_is : KeptIs w t p k
  unfolding kept_of
  kept_is = record {
    nodes_before = ap (λ (x : Kept). x.nodes.before) l.counts.kept;
    nodes_behind = ap (λ (x : Kept). x.nodes.behind) l.counts.kept;
    pairs_before = ap (λ (x : Kept). x.pairs.before) l.counts.kept;
    pairs_behind = ap (λ (x : Kept). x.pairs.behind) l.counts.kept;
    containers_before = ap (λ (x : Kept). x.containers.before) l.counts.kept;
    containers_behind = ap (λ (x : Kept). x.containers.behind) l.counts.kept;
    diagnostics_before = ap (λ (x : Kept). x.diagnostics.before) l.counts.kept;
    diagnostics_behind = ap (λ (x : Kept). x.diagnostics.behind) l.counts.kept;
  }

  pub lists_runs : (p.nodes.at + 49 * p.nodes.count ≤ length t) × ((p.pairs.at + 18 * p.pairs.count ≤ length t) × (q.pairs.at + 18 * q.pairs.count ≤ length rt))
      × ((p.containers.at + 13 * p.containers.count ≤ length t) × (q.containers.at + 13 * q.containers.count ≤ length rt))
      × ((p.diagnostics.at + 18 * p.diagnostics.count ≤ length t) × (q.diagnostics.at + 18 * q.diagnostics.count ≤ length rt))
  lists_runs = (
    fit_nodes (held_places m.book.held),
    (fit_pairs (held_places m.book.held), fit_pairs (held_places m.reading.held)),
    (fit_containers (held_places m.book.held), fit_containers (held_places m.reading.held)),
    (fit_diagnostics (held_places m.book.held), fit_diagnostics (held_places m.reading.held)),
  )

  pub lists_wrote : (d : List ℕ) → size ≡ length d → (a₁ a₂ a₃ a₄ : ℕ) → a₁ ≡ at + 49 * total_of k.nodes q.nodes.count → a₂ ≡ a₁ + 18 * total_of k.pairs q.pairs.count
      → a₃ ≡ a₂ + 13 * total_of k.containers q.containers.count → a₄ ≡ a₃ + 18 * total_of k.diagnostics q.diagnostics.count → {d₁ d₂ d₃ d₄ d₅ : List ℕ}
      → d₁ ≡ overwrite d at (node_bytes w (old_nodes t p) (records_at node_codec d at q.nodes.count)) → d₂ ≡ overwrite d₁ a₁ (pair_bytes w (old_pairs t p) (old_pairs rt q))
      → d₃ ≡ overwrite d₂ a₂ (container_bytes w (old_containers t p) (old_containers rt q)) → d₄ ≡ overwrite d₃ a₃ (diagnostic_bytes w (old_diagnostics t p) (old_diagnostics rt q)) → d₅ ≡ overwrite d₄ a₄ (10 ∷ [])
      → d₅ ≡ overwrite d at (lists_of w t p rt q (records_at node_codec d at q.nodes.count))
  unfolding lists_of
  lists_wrote d e a₁ a₂ a₃ a₄ e₁ e₂ e₃ e₄ w₁ w₂ w₃ w₄ w₅ =
      let new = records_at node_codec d at q.nodes.count in
      let i = kept_is in
      let x = spliced_width w (old_nodes t p) new (nodes_six t p.nodes.at p.nodes.count) (nodes_six d at q.nodes.count) in
      let x' = run_length node_codec d at q.nodes.count in
      let y = pairs_width (spliced pair_located w (old_pairs t p) (old_pairs rt q)) in
      let y' = spliced_length pair_codec pair_located w (old_pairs t p) (old_pairs rt q) in
      let y'' = run_length pair_codec rt q.pairs.at q.pairs.count in
      let v = containers_width (spliced container_located w (old_containers t p) (old_containers rt q)) in
      let v' = spliced_length container_codec container_located w (old_containers t p) (old_containers rt q) in
      let v'' = run_length container_codec rt q.containers.at q.containers.count in
      let g = diagnostics_width (sort_diagnostics (spliced diagnostic_located w (old_diagnostics t p) (old_diagnostics rt q))) in
      let g' = sort_length (spliced diagnostic_located w (old_diagnostics t p) (old_diagnostics rt q)) ∙ spliced_length diagnostic_codec diagnostic_located w (old_diagnostics t p) (old_diagnostics rt q) in
      let g'' = run_length diagnostic_codec rt q.diagnostics.at q.diagnostics.count in
      five_wrote d at a₁ a₂ a₃ a₄ (node_bytes w (old_nodes t p) new) (pair_bytes w (old_pairs t p) (old_pairs rt q)) (container_bytes w (old_containers t p) (old_containers rt q)) (diagnostic_bytes w (old_diagnostics t p) (old_diagnostics rt q))
      (omega (arith, e₁, x, x', i.nodes_before, i.nodes_behind)) (omega (arith, e₂, y, y', y'', i.pairs_before, i.pairs_behind)) (omega (arith, e₃, v, v', v'', i.containers_before, i.containers_behind))
      (omega (arith, e₄, g, g', g'', i.diagnostics_before, i.diagnostics_behind)) (omega (arith, e, e₁, e₂, e₃, e₄, lists_room)) w₁ w₂ w₃ w₄ w₅
