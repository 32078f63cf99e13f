-- What each stage of the merge's writing leaves, and the answer.
use Rattle.std.specs.Prelude.{◌≡◌, ℕ, ◌+◌, ◌-◌, ◌≤◌, Bool, take, drop, Option, Some, None, IfSome}
use Rattle.std.specs.Option.{is_some}
use Rattle.std.proofs.Math.Path.{refl, sym, ap₂}
use Rattle.std.proofs.Common.{ap, ◌∙◌, subst, arith, zero-add, true≢false, length-append, length-drop, take_all, length-take-le}
use Rattle.std.proofs.Math.Nat.{sub-zero}
use Rattle.std.proofs.Math.Bool.{true, false}
use mathlib.Core.List.{List, [], ◌∷◌, ◌++◌, append_assoc}
use Rattle.std.proofs.Math.ListN.{length}
use Rattle.model.specs.Lists.{is_empty}
use Rattle.model.specs.Bytes.{part}
use Rattle.model.specs.Intern.{InternStats}
use Rattle.model.specs.Types.{SourceNode, LexOutput, RegionOutput}
use Rattle.model.specs.Refusal.{Checked, Checked.refused, Checked.accepted}
use Rattle.model.specs.Tape.{records_bytes, node_codec, book_at, bytes_of}
use Rattle.model.specs.Graft.{With}
use Rattle.model.specs.Region.{Edit}
use Rattle.model.specs.Merge.{IncrementalOutput, MergeWindow, grafted, merged_book}
use Rattle.laws.specs.Checks.{refused_not, same_accepted}
use Rattle.laws.specs.Splice.{splice}
use Rattle.laws.specs.Parts.{head_bytes, head_length, layers_bytes, strings_bytes}
use Rattle.wire.specs.Overwrite.{overwrite, length_overwrite, overwrite_next, take_overwrite}
use Rattle.stats.specs.Counts.{stats_of}
use Rattle.stats.specs.declared.InternStats.{InternStats as Counters}
use Rattle.places.specs.declared.Places.{Places}
use Rattle.places.specs.Found.{found}
use Rattle.store.specs.declared.Store.{Store}
use Rattle.store.specs.declared.Totals.{Totals}
use Rattle.layer.specs.Layered.{grafted_into, grafted_above, layer_records, layer_fits_lem}
use Rattle.merged_lists.specs.declared.Lengths.{Lengths}
use Rattle.result.specs.declared.Graft.{Graft}
use Rattle.output.specs.declared.IncrementalOutput.{IncrementalOutput as Output}
use Rattle.output.specs.Answer.{counters_of, output_by, output_of, output_value, Written}
use Rattle.merged_texts.specs.Writing.{spliced_length}
use Rattle.result.specs.Parts.{new_layer_bytes, new_string_bytes, old_layers, old_strings_lem, old_layers_length}
use Rattle.tape.specs.StringBytes.{book_of}
use Rattle.tape.specs.declared.book.Book.{Book}
use Rattle.fitting.specs.Fits.{Fits}
use Rattle.fitting.specs.Inside.{lengths_read}
use Rattle.result.specs.Books.{merge_of, new_text, new_normalized, new_bytes}
use Rattle.merged_lists.specs.Sizes.{lengths_of}
use Rattle.result.specs.Grafting.{graft_ok, GraftMade, GraftTold}
use Rattle.result.specs.Whole.{above, text_is, normalized_is, base_is, node_bytes_lem}

-- ---- both texts and the old strings

abbrev pub texts_of : Places → Places → ℕ → ℕ → List ℕ → ℕ → ℕ → List ℕ → List ℕ → List ℕ
texts_of p q start end replacement from to d rd =
    splice start end replacement (take p.text.0 d) ++ splice from to (take q.normalized.0 (drop q.text.0 rd)) (take p.normalized.0 (drop p.text.0 d)) ++ drop (p.text.0 + p.normalized.0) d

-- as the code has the slices
pub texts_sliced : (p q : Places) (start end : ℕ) (replacement : List ℕ) (from to : ℕ) (d rd : List ℕ) (out : List ℕ) {out' : List ℕ} (text first first' : ℕ)
    → text ≡ p.text.0 → first ≡ text + p.normalized.0 → first' ≡ q.text.0 → first ≤ length d
    → out' ≡ overwrite out 0 (splice start end replacement (take (text - 0) d) ++ splice from to (take (first' + q.normalized.0 - first') (drop first' rd)) (take (first - text) (drop text d)) ++ take (length d - first) (drop first d))
    → out' ≡ overwrite out 0 (texts_of p q start end replacement from to d rd)
texts_sliced p q start end replacement from to d rd out text first first' a b c h e =
    let x : take (text - 0) d ≡ take p.text.0 d = ap (λ (n : ℕ). take n d) (sub-zero text ∙ a) in
    let n : first' + q.normalized.0 - first' ≡ q.normalized.0 = omega arith in
    let y : take (first' + q.normalized.0 - first') (drop first' rd) ≡ take q.normalized.0 (drop q.text.0 rd) = ap₂ (λ (i j : ℕ). take i (drop j rd)) n c in
    let m : first - text ≡ p.normalized.0 = omega (arith, b) in
    let z : take (first - text) (drop text d) ≡ take p.normalized.0 (drop p.text.0 d) = ap₂ (λ (i j : ℕ). take i (drop j d)) m a in
    let k : first ≡ p.text.0 + p.normalized.0 = omega (arith, a, b) in
    let v : take (length d - first) (drop first d) ≡ drop (p.text.0 + p.normalized.0) d = take_all (length d - first) (drop first d) (let l = length-drop first d in omega (arith, l)) ∙ ap (λ (i : ℕ). drop i d) k in
    e ∙ ap (overwrite out 0) (ap₂ (λ (i j : List ℕ). i ++ j) (ap₂ (λ (i j : List ℕ). i ++ j) (ap (splice start end replacement) x) (ap₂ (splice from to) y z)) v)

-- what `put_texts` and its two texts ask
pub texts_asked : (p q : Places) (start end : ℕ) (replacement : List ℕ) (from to : ℕ) (d rd : List ℕ) (out : ℕ) → (start ≤ end) × (end ≤ p.text.0) × (from ≤ to) × (to ≤ p.normalized.0)
    → p.text.0 + p.normalized.0 ≤ length d → q.text.0 + q.normalized.0 ≤ length rd → (lengths_of p q start end (length replacement) from to (length d)).base ≤ out
    → ((start ≤ end) × (end ≤ length (take (p.text.0 - 0) d))) × ((from ≤ to) × (to ≤ length (take (p.text.0 + p.normalized.0 - p.text.0) (drop p.text.0 d))))
    × (length (splice start end replacement (take (p.text.0 - 0) d))
    + length (splice from to (take (q.text.0 + q.normalized.0 - q.text.0) (drop q.text.0 rd)) (take (p.text.0 + p.normalized.0 - p.text.0) (drop p.text.0 d)))
    + length (take (length d - (p.text.0 + p.normalized.0)) (drop (p.text.0 + p.normalized.0) d)) ≤ out)
texts_asked p q start end replacement from to d rd out h a b c =
    let text = take (p.text.0 - 0) d in
    let normalized = take (p.text.0 + p.normalized.0 - p.text.0) (drop p.text.0 d) in
    let own = take (q.text.0 + q.normalized.0 - q.text.0) (drop q.text.0 rd) in
    let n₁ : length text ≡ p.text.0 = length-take-le (p.text.0 - 0) d (omega (arith, a)) ∙ sub-zero p.text.0 in
    let m₂ : p.text.0 + p.normalized.0 - p.text.0 ≡ p.normalized.0 = omega arith in
    let n₂ : length normalized ≡ p.normalized.0 = length-take-le (p.text.0 + p.normalized.0 - p.text.0) (drop p.text.0 d) (rw length-drop (omega (arith, a))) ∙ m₂ in
    let m₃ : q.text.0 + q.normalized.0 - q.text.0 ≡ q.normalized.0 = omega arith in
    let n₃ : length own ≡ q.normalized.0 = length-take-le (q.text.0 + q.normalized.0 - q.text.0) (drop q.text.0 rd) (rw length-drop (omega (arith, b))) ∙ m₃ in
    let n₄ : length (take (length d - (p.text.0 + p.normalized.0)) (drop (p.text.0 + p.normalized.0) d)) ≡ length d - (p.text.0 + p.normalized.0) = length-take-le (length d - (p.text.0 + p.normalized.0)) (drop (p.text.0 + p.normalized.0) d) (rw length-drop (omega arith)) in
    let e₁ : end ≤ length text = omega (arith, n₁, h.1) in
    let e₂ : to ≤ length normalized = omega (arith, n₂, h.3) in
    let x = spliced_length start end replacement text h.0 e₁ in
    let y = spliced_length from to own normalized h.2 e₂ in
    ((h.0, e₁), (h.2, e₂), omega (arith, x, y, n₁, n₂, n₃, n₄, c))

-- ---- the store: texts, head, old layers and the new layer

abbrev pub up_to : LexOutput → Edit → RegionOutput → MergeWindow → List ℕ
up_to old e read w =
    head_bytes (length (merge_of old e read w).sanitized) (length (merge_of old e read w).normalized) ++ layers_bytes old ++ new_layer_bytes (is_empty read.source_nodes) (grafted old read).1

pub record StoreMade (old : LexOutput) (e : Edit) (read : RegionOutput) (w : MergeWindow) (out out' text' : List ℕ) (at base : ℕ) (r : Graft) : Type 0 where
  pub wrote : out' ≡ overwrite out 0 (up_to old e read w ++ records_bytes node_codec (grafted old read).0)
  pub room : length (up_to old e read w ++ records_bytes node_codec (grafted old read).0) ≤ length out
  pub bytes : take (length (bytes_of (merge_of old e read w))) text' ≡ bytes_of (merge_of old e read w)
  pub size : base + r.bytes ≡ length (bytes_of (merge_of old e read w))
  pub len : at + r.len ≡ length (up_to old e read w)
  pub stats : stats_of r.stats ≡ (grafted old read).1.interner.stats

pub record StoreTold (old : LexOutput) (e : Edit) (read : RegionOutput) (w : MergeWindow) (out text out' text' : List ℕ) (at base : ℕ) (o : Totals) (r : Option Graft) : Type 0 where
  pub ok : is_some r ≡ graft_ok (is_empty read.source_nodes) (length out) (length text) at base o (grafted old read)
  pub made : IfSome r (λ x. StoreMade old e read w out out' text' at base x)

module _ {book : Book} {e : Edit} {w : MergeWindow} {reading : Book} (b : Fits book e w reading) where
  abbrev t : List ℕ
  t = book.tape.now

  abbrev d : List ℕ
  d = book.bytes.now

  abbrev p : Places
  p = book.places

  abbrev st : Store
  st = book.store

  abbrev rt : List ℕ
  rt = reading.tape.now

  abbrev rd : List ℕ
  rd = reading.bytes.now

  abbrev q : Places
  q = reading.places

  abbrev old : LexOutput
  old = book_of book

  abbrev read : RegionOutput
  read = book_of reading

  abbrev new : LexOutput
  new = merge_of old e read w

  abbrev none : Bool
  none = is_empty read.source_nodes

  pub texts_are : texts_of p q e.start e.end e.replacement w.normalized.start w.normalized.end d rd ≡ new.sanitized ++ new.normalized ++ strings_bytes old
  unfolding book_at found merged_book
  texts_are =
      ap₂ (λ (i j : List ℕ). i ++ j)
      (ap₂ (λ (i j : List ℕ). i ++ j)
      (ap (λ (x : Places). splice e.start e.end e.replacement (take x.text.0 d)) book.held.is ∙ sym (new_text b))
      (ap₂ (λ (x y : Places). splice w.normalized.start w.normalized.end (take y.normalized.0 (drop y.text.0 rd)) (take x.normalized.0 (drop x.text.0 d))) book.held.is reading.held.is ∙ sym (new_normalized b)))
      (old_strings_lem b.bytes book.held.accepted book.held.is)

  empty_count : none ≡ true → q.nodes.count ≡ 0
  empty_count y = let m = lengths_read b in omega (arith, m.nodes, go read.source_nodes y)
    where
      go : (ns : List SourceNode) → is_empty ns ≡ true → length ns ≡ 0
      go [] z = refl
      go (n ∷ ns) z = absurd (true≢false (sym z))

  -- room for the layer and the nodes
  graft_room : (size room at base : ℕ) → at ≤ size → graft_ok none size room at base st.totals (grafted old read) ≡ true
      → at + length (new_layer_bytes none (grafted old read).1 ++ records_bytes node_codec (grafted old read).0) ≤ size
  unfolding graft_ok new_layer_bytes layer_records
  graft_room size room at base h y = go none refl y
    where
      go : (x : Bool) → none ≡ x → graft_ok x size room at base st.totals (grafted old read) ≡ true → at + length (new_layer_bytes x (grafted old read).1 ++ records_bytes node_codec (grafted old read).0) ≤ size
      go true z v = omega (arith, h, node_bytes_lem b, empty_count z)
      go false z v = (layer_fits_lem size room at base st.totals (grafted old read) v).tape

  module _ {l : Lengths} (sizes : l ≡ lengths_of p q e.start e.end (length e.replacement) w.normalized.start w.normalized.end (length d)) where
    pub store_told : (out text : List ℕ) {out₁ text₁ out₂ text₂ : List ℕ} {r : Option Graft} → p.nodes.at ≤ length out → l.base ≤ length text
        → text₁ ≡ overwrite text 0 (texts_of p q e.start e.end e.replacement w.normalized.start w.normalized.end d rd)
        → out₁ ≡ overwrite out 0 (head_bytes l.text l.normalized ++ part t 9 (p.nodes.at - 9))
        → GraftTold out₁ text₁ out₂ text₂ p.nodes.at l.base st.totals none r (grafted_into rt rd st.totals)
        → StoreTold old e read w out text out₂ text₂ p.nodes.at l.base st.totals r
    store_told out text {out₁} {text₁} {out₂} {text₂} {r} h k w₁ w₂ c =
        let g = grafted old read in
        let o = st.totals in
        let at = p.nodes.at in
        let hd = head_bytes (length new.sanitized) (length new.normalized) in
        let xs = hd ++ layers_bytes old in
        let ns = records_bytes node_codec g.0 in
        let nl = new_layer_bytes none g.1 in
        let c' : GraftTold out₁ text₁ out₂ text₂ at l.base o none r g = subst (λ (x : With (List SourceNode)). GraftTold out₁ text₁ out₂ text₂ at l.base o none r x) (grafted_above rt rd old (above b)) c in
        let ts = new.sanitized ++ new.normalized ++ strings_bytes old in
        let v₁ : text₁ ≡ overwrite text 0 ts = w₁ ∙ ap (overwrite text 0) texts_are in
        let v₂ : out₁ ≡ overwrite out 0 xs
        = w₂ ∙ ap (overwrite out 0) (ap₂ (λ (i j : List ℕ). i ++ j) (ap₂ head_bytes (text_is b sizes) (normalized_is b sizes)) (old_layers b.bytes book.held.accepted book.held.is)) in
        let n₁ : length xs ≡ at = length-append hd (layers_bytes old) ∙ (let i = head_length (length new.sanitized) (length new.normalized) in let j = old_layers_length b.bytes book.held.accepted book.held.is in omega (arith, i, j)) in
        let m₁ : length out₁ ≡ length out = ap length v₂ ∙ length_overwrite out 0 xs (omega (arith, n₁, h)) in
        let m₂ : length text₁ ≡ length text = ap length v₁ ∙ length_overwrite text 0 ts (omega (arith, base_is b sizes, k)) in
        let ok : is_some r ≡ graft_ok none (length out) (length text) at l.base o g = c'.ok ∙ ap₂ (λ (i j : ℕ). graft_ok none i j at l.base o g) m₁ m₂ in
        let made : (x : Graft) → is_some r ≡ true → GraftMade out₁ text₁ out₂ text₂ at l.base none x g → StoreMade old e read w out out₂ text₂ at l.base x =
        λ x y m.
        let i = graft_room (length out) (length text) at l.base h (sym ok ∙ y) in
        let n₂ = length-append nl ns in
        let n₃ = length-append (xs ++ nl) ns in
        let n₄ = length-append xs nl in
        let s = new_string_bytes none g.1 in
        let z : bytes_of new ≡ ts ++ s = new_bytes b in
        let n₅ = length-append ts s in
        let n₆ : length (bytes_of new) ≡ l.base + length s = ap length z ∙ n₅ ∙ ap (λ (n : ℕ). n + length s) (sym (base_is b sizes)) in
        record {
          wrote =
              m.wrote ∙ ap (λ (x : List ℕ). overwrite x at (nl ++ ns)) v₂
              ∙ overwrite_next out 0 xs (omega (arith, n₁, h)) at (nl ++ ns) (omega (arith, n₁)) i
              ∙ ap (overwrite out 0) (sym (append_assoc xs nl ns));
          room = omega (arith, i, n₁, n₂, n₃, n₄);
          bytes =
              ap (λ (n : ℕ). take n text₂) n₆ ∙ m.strings
              ∙ ap (λ (x : List ℕ). x ++ s)
              (ap (take l.base) v₁ ∙ ap (λ (n : ℕ). take n (overwrite text 0 ts)) (base_is b sizes ∙ sym (zero-add (length ts))) ∙ take_overwrite text 0 ts (omega (arith, base_is b sizes, k)))
              ∙ sym z;
          size = omega (arith, m.bytes, n₆);
          len = omega (arith, m.len, n₁, n₄);
          stats = m.stats;
        } in
        record { ok = ok; made = if_made r made c'.made }
      where
        if_made : (o : Option Graft) {P Q : Graft → Type 0} → ((x : Graft) → is_some o ≡ true → P x → Q x) → IfSome o P → IfSome o Q
        if_made None f h = tt
        if_made (Some x) f h = f x refl h

-- ---- the answer

pub written_refused : (asked : Checked IncrementalOutput) {n : ℕ} (out text work : List ℕ) {out' text' work' : List ℕ} → asked ≡ refused n
    → length out' ≡ length out → length text' ≡ length text → length work' ≡ length work → Written asked (refused n) out text work out' text' work'
written_refused asked {n} out text work e a b c = rw e (record {
  answer = refl;
  tape = λ x y. absurd (refused_not n x y);
  bytes = λ x y. absurd (refused_not n x y);
  tape_length = a;
  text_length = b;
  words_length = c;
})

counters_back : (c : Counters) (s : InternStats) → stats_of c ≡ s → c ≡ counters_of s
counters_back c s e = ap counters_of e

pub written_accepted : (asked : Checked IncrementalOutput) (a : IncrementalOutput) {r : Output} (out text work : List ℕ) {out' text' work' : List ℕ} → asked ≡ accepted a
    → {reused reread tape bytes : ℕ} {stats : Counters} → r ≡ output_by a.region.start a.region.end reused reread stats tape bytes → reused ≡ a.reused_nodes → reread ≡ a.reparsed_nodes
    → stats_of stats ≡ a.stats → tape ≡ length a.output.tape → bytes ≡ length a.output.bytes
    → take (length a.output.tape) out' ≡ a.output.tape → take (length a.output.bytes) text' ≡ a.output.bytes
    → length out' ≡ length out → length text' ≡ length text → length work' ≡ length work → Written asked (accepted r) out text work out' text' work'
unfolding output_value
written_accepted asked a out text work {out'} {text'} e f g h i j k x y l m n = record {
  answer =
      ap {B = Checked Output} accepted (f ∙ (λ z. record { start = a.region.start; end = a.region.end; reused = g z; reread = h z; stats = counters_back _ a.stats i z; tape = j z; bytes = k z }))
      ∙ ap output_of (sym e);
  tape = λ c z. let v = same_accepted a c (sym e ∙ z) in subst (λ (u : IncrementalOutput). take (length u.output.tape) out' ≡ u.output.tape) v x;
  bytes = λ c z. let v = same_accepted a c (sym e ∙ z) in subst (λ (u : IncrementalOutput). take (length u.output.bytes) text' ≡ u.output.bytes) v y;
  tape_length = l;
  text_length = m;
  words_length = n;
}
