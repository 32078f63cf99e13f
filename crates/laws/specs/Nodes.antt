-- The nodes of one book around a cut: those that end by it, those that start at it or behind, and their places in the normalized
-- text. Numbers 3, 6 and 7 as facts, and sections 4 and 6.
use Rattle.std.specs.Prelude.{◌≡◌, ℕ, ◌+◌, ◌-◌, ◌≤◌, ◌<◌, Bool, ◌&&◌, ◌||◌, length, leb}
use Rattle.std.proofs.Math.Path.{refl, sym, ap, ap₂}
use Rattle.std.proofs.Common.{◌∙◌, add-zero, zero-add, add_assoc}
use native.Mathlib.Omega.{arith}
use Rattle.std.proofs.Math.Bool.{true, false, cond, not}
use mathlib.Core.List.{List, [], ◌∷◌, ◌++◌, map}
use Rattle.std.proofs.Math.Dec.{ltb, eqb}
use borrow.Author.Tests.{leb-true, ltb-true, ltb-false, eqb-true, not-true, le-leb, lt-leb, le-ltb, lt-ltb}
use Rattle.model.specs.Lists.{all, any, keep, sum}
use Rattle.model.specs.Limits.{max_text}
use Rattle.model.specs.Offset.{Span}
use Rattle.model.specs.Types.{SourceNode, PairLink, ContainerPair, Diagnostic, LexOutput}
use Rattle.model.specs.WellFormed.{span_ok, ordered, offsets_ok, image_length, span_length, pair_ok, container_ok, diagnostic_ok, images, spans}
use Rattle.model.specs.Region.{across, depth_behind, depth, is_block_open, is_block_close, is_warichu_open, is_warichu_close, nodes_before, nodes_allow_cut, pairs_allow_cut, blank_line_before, safe_cut}
use Rattle.model.specs.Merge.{balanced_from, normalized_offset}
use Rattle.facts.specs.Truth.{both, join, and_false}
use Rattle.facts.specs.Lists.{map_append, map_map, sum_append}
use Rattle.facts.specs.Keep.{all_and, all_keep, all_map, keep_append, keep_all, keep_none, keep_same, map_same, all_keep_self, any_none, any_all}
use Rattle.laws.specs.Checks.{WellFormed, limit_facts, PlaceFacts, place_facts, size_fact}

-- ---- 3, 6 and 7

pub record Sound (b : LexOutput) : Type 0 where
  pub sanitized : length b.sanitized ≤ max_text
  pub normalized : length b.normalized ≤ max_text
  pub places : PlaceFacts b
  pub sizes : length b.normalized + spans b.source_nodes ≡ length b.sanitized + images b.source_nodes

pub sound_of : (b : LexOutput) → WellFormed b → Sound b
sound_of b w =
    let l = limit_facts b w.limits in
    record { sanitized = l.sanitized; normalized = l.normalized; places = place_facts b w.places; sizes = size_fact b w.sizes }

pub span_facts : (size : ℕ) (s : Span) → span_ok size s ≡ true → (s.start < s.end) × (s.end ≤ size)
unfolding span_ok
span_facts size s e = let p = both (ltb s.start s.end) (leb s.end size) e in (ltb-true s.start s.end p.0, leb-true s.end size p.1)

pub span_ok_lem : (size : ℕ) (s : Span) → s.start < s.end → s.end ≤ size → span_ok size s ≡ true
unfolding span_ok
span_ok_lem size s h k = join (ltb s.start s.end) (leb s.end size) (lt-ltb s.start s.end h) (le-leb s.end size k)

pub record PairFacts (size : ℕ) (p : PairLink) : Type 0 where
  pub opens : p.opening.start < p.opening.end
  pub apart : p.opening.end ≤ p.closing.start
  pub closes : p.closing.start < p.closing.end
  pub inside : p.closing.end ≤ size

pub pair_facts : (size : ℕ) (p : PairLink) → pair_ok size p ≡ true → PairFacts size p
unfolding pair_ok
pair_facts size p e =
    let s = both (span_ok size p.opening && span_ok size p.closing) (leb p.opening.end p.closing.start) e in
    let t = both (span_ok size p.opening) (span_ok size p.closing) s.0 in
    let o = span_facts size p.opening t.0 in
    let c = span_facts size p.closing t.1 in
    record { opens = o.0; apart = leb-true p.opening.end p.closing.start s.1; closes = c.0; inside = c.1 }

pub pair_ok_lem : (size : ℕ) (p : PairLink) → PairFacts size p → pair_ok size p ≡ true
unfolding pair_ok
pair_ok_lem size p f =
    let a = f.apart in
    let c = f.closes in
    let d = f.inside in
    rw (span_ok_lem size p.opening f.opens (omega arith), span_ok_lem size p.closing c d, le-leb p.opening.end p.closing.start a)

pub container_facts : (size : ℕ) (c : ContainerPair) → container_ok size c ≡ true → (c.opening < c.closing) × (c.closing < size)
unfolding container_ok
container_facts size c o = let s = both (ltb c.opening c.closing) (ltb c.closing size) o in (ltb-true c.opening c.closing s.0, ltb-true c.closing size s.1)

pub container_ok_lem : (size : ℕ) (c : ContainerPair) → c.opening < c.closing → c.closing < size → container_ok size c ≡ true
unfolding container_ok
container_ok_lem size c a b = join (ltb c.opening c.closing) (ltb c.closing size) (lt-ltb c.opening c.closing a) (lt-ltb c.closing size b)

pub diagnostic_facts : (size : ℕ) (d : Diagnostic) → diagnostic_ok size d ≡ true → (d.span.start ≤ d.span.end) × (d.span.end ≤ size)
unfolding diagnostic_ok
diagnostic_facts size d e = let s = both (leb d.span.start d.span.end) (leb d.span.end size) e in (leb-true d.span.start d.span.end s.0, leb-true d.span.end size s.1)

pub diagnostic_ok_lem : (size : ℕ) (d : Diagnostic) → d.span.start ≤ d.span.end → d.span.end ≤ size → diagnostic_ok size d ≡ true
unfolding diagnostic_ok
diagnostic_ok_lem size d h k = join (leb d.span.start d.span.end) (leb d.span.end size) (le-leb d.span.start d.span.end h) (le-leb d.span.end size k)

-- ---- sums

pub images_append : (a b : List SourceNode) → images (a ++ b) ≡ images a + images b
unfolding images
images_append a b = ap sum (map_append image_length a b) ∙ sum_append (map image_length a) (map image_length b)

pub spans_append : (a b : List SourceNode) → spans (a ++ b) ≡ spans a + spans b
unfolding spans
spans_append a b = ap sum (map_append span_length a b) ∙ sum_append (map span_length a) (map span_length b)

-- nodes changed in what is not asked for
module _ (ok : SourceNode → Bool) (f : SourceNode → SourceNode) where
  pub images_map : ((n : SourceNode) → ok n ≡ true → image_length (f n) ≡ image_length n) → (ns : List SourceNode) → all ok ns ≡ true → images (map f ns) ≡ images ns
  unfolding images
  images_map h ns a = ap sum (map_map image_length f ns ∙ map_same ok (λ n. image_length (f n)) image_length h ns a)

  pub spans_map : ((n : SourceNode) → ok n ≡ true → span_length (f n) ≡ span_length n) → (ns : List SourceNode) → all ok ns ≡ true → spans (map f ns) ≡ spans ns
  unfolding spans
  spans_map h ns a = ap sum (map_map span_length f ns ∙ map_same ok (λ n. span_length (f n)) span_length h ns a)

-- ---- depths

module _ (opens closes : SourceNode → Bool) where
  pub depth_append : (d : ℕ) (a b : List SourceNode) → depth opens closes d (a ++ b) ≡ depth opens closes (depth opens closes d a) b
  unfolding depth
  depth_append d [] b = refl
  depth_append d (n ∷ a) b = depth_append (depth_behind opens closes d n) a b

  pub balanced_depth : (d : ℕ) (ns : List SourceNode) → balanced_from opens closes d ns ≡ true → depth opens closes d ns ≡ 0
  unfolding depth balanced_from
  balanced_depth d [] e = eqb-true d 0 e
  balanced_depth d (n ∷ ns) e = balanced_depth (depth_behind opens closes d n) ns (both (not (closes n && eqb d 0)) (balanced_from opens closes (depth_behind opens closes d n) ns) e).1

  pub depth_map : (f : SourceNode → SourceNode) → ((n : SourceNode) → opens (f n) ≡ opens n) → ((n : SourceNode) → closes (f n) ≡ closes n) → (d : ℕ) (ns : List SourceNode) → depth opens closes d (map f ns) ≡ depth opens closes d ns
  unfolding depth depth_behind
  depth_map f h k d [] = refl
  depth_map f h k d (n ∷ ns) = ap₂ (λ (x y : Bool). depth opens closes (cond x (d + 1) (cond y (d - 1) d)) (map f ns)) (h n) (k n) ∙ depth_map f h k (depth_behind opens closes d n) ns

-- ---- ordered nodes

abbrev pub ends_by : ℕ → SourceNode → Bool
ends_by c n = leb n.source_span.end c

abbrev pub starts_at : ℕ → SourceNode → Bool
starts_at c n = leb c n.source_span.start

abbrev pub node_in : ℕ → SourceNode → Bool
node_in size n = span_ok size n.source_span

abbrev pub across_node : ℕ → SourceNode → Bool
across_node c n = across c n.source_span.start n.source_span.end

ordered_lower : (k k' : ℕ) → k ≤ k' → (ns : List SourceNode) → ordered k' ns ≡ true → ordered k ns ≡ true
unfolding ordered
ordered_lower k k' h [] o = refl
ordered_lower k k' h (n ∷ ns) o =
    let s = both (leb k' n.source_span.start) (ordered n.source_span.end ns) o in
    let l = leb-true k' n.source_span.start s.0 in
    join (leb k n.source_span.start) (ordered n.source_span.end ns) (le-leb k n.source_span.start (omega arith)) s.1

pub ordered_keep : (size : ℕ) (p : SourceNode → Bool) (k : ℕ) (ns : List SourceNode) → all (node_in size) ns ≡ true → ordered k ns ≡ true → ordered k (keep p ns) ≡ true
unfolding ordered
ordered_keep size p k [] a o = refl
ordered_keep size p k (n ∷ ns) a o =
    let s = both (leb k n.source_span.start) (ordered n.source_span.end ns) o in
    let t = both (node_in size n) (all (node_in size) ns) a in
    go (p n) s.0 (leb-true k n.source_span.start s.0) (span_facts size n.source_span t.0).0 (ordered_keep size p n.source_span.end ns t.1 s.1)
  where
    go : (t : Bool) → leb k n.source_span.start ≡ true → k ≤ n.source_span.start → n.source_span.start < n.source_span.end → ordered n.source_span.end (keep p ns) ≡ true → ordered k (cond t (n ∷ keep p ns) (keep p ns)) ≡ true
    go true l h g r = join (leb k n.source_span.start) (ordered n.source_span.end (keep p ns)) l r
    go false l h g r = ordered_lower k n.source_span.end (omega arith) (keep p ns) r

pub ordered_join : (k c : ℕ) (a b : List SourceNode) → k ≤ c → ordered k a ≡ true → all (ends_by c) a ≡ true → ordered c b ≡ true → ordered k (a ++ b) ≡ true
unfolding ordered
ordered_join k c [] b h o e q = ordered_lower k c h b q
ordered_join k c (n ∷ a) b h o e q =
    let s = both (leb k n.source_span.start) (ordered n.source_span.end a) o in
    let t = both (ends_by c n) (all (ends_by c) a) e in
    join (leb k n.source_span.start) (ordered n.source_span.end (a ++ b)) s.0 (ordered_join n.source_span.end c a b (leb-true n.source_span.end c t.0) s.1 t.1 q)

-- nodes that start at a place or behind it are ordered from it on
pub ordered_from : (c k : ℕ) (ns : List SourceNode) → ordered k ns ≡ true → all (starts_at c) ns ≡ true → ordered c ns ≡ true
unfolding ordered
ordered_from c k [] o s = refl
ordered_from c k (n ∷ ns) o s =
    join (leb c n.source_span.start) (ordered n.source_span.end ns) (both (starts_at c n) (all (starts_at c) ns) s).0 (both (leb k n.source_span.start) (ordered n.source_span.end ns) o).1

ordered_behind : (size k : ℕ) (ns : List SourceNode) → ordered k ns ≡ true → all (node_in size) ns ≡ true → all (starts_at k) ns ≡ true
unfolding ordered
ordered_behind size k [] o a = refl
ordered_behind size k (n ∷ ns) o a =
    let s = both (leb k n.source_span.start) (ordered n.source_span.end ns) o in
    let t = both (node_in size n) (all (node_in size) ns) a in
    let f = span_facts size n.source_span t.0 in
    let l = leb-true k n.source_span.start s.0 in
    join (starts_at k n) (all (starts_at k) ns) s.0 (ordered_behind size k ns (ordered_lower k n.source_span.end (omega (arith, f.0)) ns s.1) t.1)

module _ (size c : ℕ) where
  starts_not_ends : (n : SourceNode) → node_in size n && starts_at c n ≡ true → ends_by c n ≡ false
  starts_not_ends n e =
      let s = both (node_in size n) (starts_at c n) e in
      let f = span_facts size n.source_span s.0 in
      let l = leb-true c n.source_span.start s.1 in
      lt-leb n.source_span.end c (omega (arith, f.0))

  -- No node lies across: those that end by the cut come first, and the others start at it or behind.
  pub nodes_split : (k : ℕ) (ns : List SourceNode) → ordered k ns ≡ true → all (node_in size) ns ≡ true → any (across_node c) ns ≡ false → ns ≡ keep (ends_by c) ns ++ keep (starts_at c) ns
  unfolding ordered
  nodes_split k [] o a e = refl
  nodes_split k (n ∷ ns) o a e =
      let s = both (leb k n.source_span.start) (ordered n.source_span.end ns) o in
      let t = both (node_in size n) (all (node_in size) ns) a in
      let x = both (not (across_node c n)) (all (λ m. not (across_node c m)) ns) (any_all (across_node c) (n ∷ ns) e) in
      go (ltb n.source_span.start c) refl (span_facts size n.source_span t.0).0 s.1 t.1 (not-true (across_node c n) x.0)
      (nodes_split n.source_span.end ns s.1 t.1 (any_none (λ m. not (across_node c m)) (across_node c) (λ m q. not-true (across_node c m) q) ns x.1))
    where
      go : (x : Bool) → ltb n.source_span.start c ≡ x → n.source_span.start < n.source_span.end → ordered n.source_span.end ns ≡ true → all (node_in size) ns ≡ true
          → x && ltb c n.source_span.end ≡ false → ns ≡ keep (ends_by c) ns ++ keep (starts_at c) ns
          → n ∷ ns ≡ cond (ends_by c n) (n ∷ keep (ends_by c) ns) (keep (ends_by c) ns) ++ cond (starts_at c n) (n ∷ keep (starts_at c) ns) (keep (starts_at c) ns)
      go true x f o a e rec =
          let l = ltb-true n.source_span.start c x in
          let m = ltb-false c n.source_span.end e in
          rw (le-leb n.source_span.end c m, lt-leb c n.source_span.start l) (ap (λ (z : List SourceNode). n ∷ z) rec)
      go false x f o a e rec =
          let l = ltb-false n.source_span.start c x in
          let b = ordered_behind size c ns (ordered_lower c n.source_span.end (omega arith) ns o) a in
          let e₁ : keep (ends_by c) ns ≡ [] = keep_none (λ (m : SourceNode). node_in size m && starts_at c m) (ends_by c) starts_not_ends ns (all_and (node_in size) (starts_at c) ns a b) in
          let e₂ : keep (starts_at c) ns ≡ ns = keep_all (starts_at c) (starts_at c) (λ m q. q) ns b in
          rw (lt-leb n.source_span.end c (omega arith), le-leb c n.source_span.start l, e₁, e₂)

  -- so those that start before it are those that end by it
  pub before_split : (ns : List SourceNode) → all (node_in size) ns ≡ true → any (across_node c) ns ≡ false → nodes_before c ns ≡ keep (ends_by c) ns
  unfolding nodes_before
  before_split ns a e =
      keep_same (λ (n : SourceNode). node_in size n && not (across_node c n)) (λ n. ltb n.source_span.start c) (ends_by c) same ns (all_and (node_in size) (λ n. not (across_node c n)) ns a (any_all (across_node c) ns e))
    where
      same : (n : SourceNode) → node_in size n && not (across_node c n) ≡ true → ltb n.source_span.start c ≡ ends_by c n
      same n q = let s = both (node_in size n) (not (across_node c n)) q in go (ltb n.source_span.start c) refl (span_facts size n.source_span s.0).0 (not-true (across_node c n) s.1)
        where
          go : (x : Bool) → ltb n.source_span.start c ≡ x → n.source_span.start < n.source_span.end → x && ltb c n.source_span.end ≡ false → x ≡ ends_by c n
          go true x f e = sym (le-leb n.source_span.end c (ltb-false c n.source_span.end e))
          go false x f e = let l = ltb-false n.source_span.start c x in sym (lt-leb n.source_span.end c (omega arith))

pub spans_within : (size c k : ℕ) → k ≤ c → (ns : List SourceNode) → ordered k ns ≡ true → all (node_in size) ns ≡ true → all (ends_by c) ns ≡ true → k + spans ns ≤ c
unfolding ordered spans span_length
spans_within size c k h [] o a e = omega arith
spans_within size c k h (n ∷ ns) o a e =
    let s = both (leb k n.source_span.start) (ordered n.source_span.end ns) o in
    let t = both (node_in size n) (all (node_in size) ns) a in
    let u = both (ends_by c n) (all (ends_by c) ns) e in
    let g = (span_facts size n.source_span t.0).0 in
    let l = leb-true k n.source_span.start s.0 in
    let m = leb-true n.source_span.end c u.0 in
    let r = spans_within size c n.source_span.end m ns s.1 t.1 u.1 in
    omega arith

-- a cut's place in the normalized text, with nothing taken away
pub normal_sum : (size : ℕ) (ns : List SourceNode) → ordered 0 ns ≡ true → all (node_in size) ns ≡ true → (c : ℕ)
    → normalized_offset ns c + spans (keep (ends_by c) ns) ≡ c + images (keep (ends_by c) ns)
unfolding normalized_offset
normal_sum size ns o a c =
    let h = spans_within size c 0 (omega arith) (keep (ends_by c) ns) (ordered_keep size (ends_by c) 0 ns a o) (all_keep (node_in size) (ends_by c) ns a) (all_keep_self (ends_by c) ns) in
    omega arith

-- ---- offsets of lists one behind the other

-- one node's test of number 6
abbrev pub offset_test : ℕ → ℕ → SourceNode → Bool
offset_test i s n = leb (n.source_span.start + i) (n.normalized_offset + s) && ltb (n.normalized_offset + s) (n.source_span.start + i + image_length n)

pub offsets_append : (i s : ℕ) (a b : List SourceNode) → offsets_ok i s (a ++ b) ≡ offsets_ok i s a && offsets_ok (i + images a) (s + spans a) b
unfolding offsets_ok images spans
offsets_append i s [] b = rw (add-zero i, add-zero s)
offsets_append i s (n ∷ a) b =
    rw (offsets_append (i + image_length n) (s + span_length n) a b, sym (add_assoc i (image_length n) (images a)), sym (add_assoc s (span_length n) (spans a)))
    (and_assoc (offset_test i s n) (offsets_ok (i + image_length n) (s + span_length n) a) (offsets_ok (i + image_length n + images a) (s + span_length n + spans a) b))
  where
    and_assoc : (x y z : Bool) → x && (y && z) ≡ x && y && z
    and_assoc true y z = refl
    and_assoc false y z = refl

-- at or behind the place where the first may begin
pub offsets_from : (size t k i s : ℕ) → t + s ≤ k + i → (ns : List SourceNode) → ordered k ns ≡ true → all (node_in size) ns ≡ true → offsets_ok i s ns ≡ true → all (λ (n : SourceNode). leb t n.normalized_offset) ns ≡ true
unfolding ordered offsets_ok span_length
offsets_from size t k i s h [] o a e = refl
offsets_from size t k i s h (n ∷ ns) o a e =
    let u = both (leb k n.source_span.start) (ordered n.source_span.end ns) o in
    let v = both (node_in size n) (all (node_in size) ns) a in
    let w = both (offset_test i s n) (offsets_ok (i + image_length n) (s + (n.source_span.end - n.source_span.start)) ns) e in
    let x = leb-true (n.source_span.start + i) (n.normalized_offset + s) (both (leb (n.source_span.start + i) (n.normalized_offset + s)) (ltb (n.normalized_offset + s) (n.source_span.start + i + image_length n)) w.0).0 in
    let l = leb-true k n.source_span.start u.0 in
    let g = (span_facts size n.source_span v.0).0 in
    join (leb t n.normalized_offset) (all (λ (n : SourceNode). leb t n.normalized_offset) ns) (le-leb t n.normalized_offset (omega arith))
    (offsets_from size t n.source_span.end (i + image_length n) (s + (n.source_span.end - n.source_span.start)) (omega arith) ns u.1 v.1 w.1)

-- below the normalized length
pub offsets_below : (size t k i s : ℕ) (ns : List SourceNode) → t + s + spans ns ≡ size + i + images ns → ordered k ns ≡ true → all (node_in size) ns ≡ true → offsets_ok i s ns ≡ true
    → all (λ (n : SourceNode). ltb n.normalized_offset t) ns ≡ true
unfolding ordered offsets_ok span_length spans images
offsets_below size t k i s [] h o a e = refl
offsets_below size t k i s (n ∷ ns) h o a e =
    let u = both (leb k n.source_span.start) (ordered n.source_span.end ns) o in
    let v = both (node_in size n) (all (node_in size) ns) a in
    let w = both (offset_test i s n) (offsets_ok (i + image_length n) (s + (n.source_span.end - n.source_span.start)) ns) e in
    let x = ltb-true (n.normalized_offset + s) (n.source_span.start + i + image_length n)
    (both (leb (n.source_span.start + i) (n.normalized_offset + s)) (ltb (n.normalized_offset + s) (n.source_span.start + i + image_length n)) w.0).1 in
    let f = span_facts size n.source_span v.0 in
    let q = f.1 in
    let ends = all_map (node_in size) (ends_by size) (λ m z. le-leb m.source_span.end size (span_facts size m.source_span z).1) ns v.1 in
    let r = spans_within size size n.source_span.end q ns u.1 v.1 ends in
    join (ltb n.normalized_offset t) (all (λ (n : SourceNode). ltb n.normalized_offset t) ns) (lt-ltb n.normalized_offset t (omega arith))
    (offsets_below size t n.source_span.end (i + image_length n) (s + (n.source_span.end - n.source_span.start)) ns (omega arith) u.1 v.1 w.1)

-- ---- a safe cut

pub record SafeCut (b : LexOutput) (o : ℕ) : Type 0 where
  pub nodes : any (across_node o) b.source_nodes ≡ false
  pub pairs : any (λ (p : PairLink). across o p.opening.start p.closing.end) b.pairs ≡ false
  -- depths are 0 before the end
  pub blocks : o < length b.sanitized → depth is_block_open is_block_close 0 (nodes_before o b.source_nodes) ≡ 0
  pub warichu : o < length b.sanitized → depth is_warichu_open is_warichu_close 0 (nodes_before o b.source_nodes) ≡ 0

nothing_before : (ns : List SourceNode) → nodes_before 0 ns ≡ []
unfolding nodes_before
nothing_before [] = refl
nothing_before (n ∷ ns) = rw (le-ltb n.source_span.start 0 (omega arith)) (nothing_before ns)

safe_start : (b : LexOutput) → Sound b → SafeCut b 0
unfolding depth
safe_start b s = record {
  nodes = any_none (node_in (length b.sanitized)) (across_node 0) (λ n i. rw (le-ltb n.source_span.start 0 (omega arith))) b.source_nodes s.places.source_spans;
  pairs = any_none (pair_ok (length b.sanitized)) (λ (p : PairLink). across 0 p.opening.start p.closing.end) (λ p i. rw (le-ltb p.opening.start 0 (omega arith))) b.pairs s.places.pairs;
  blocks = λ h. rw (nothing_before b.source_nodes);
  warichu = λ h. rw (nothing_before b.source_nodes);
}

safe_end : (b : LexOutput) → Sound b → SafeCut b (length b.sanitized)
safe_end b s =
    let size = length b.sanitized in
    record {
      nodes = any_none (node_in size) (across_node size) (λ n i. and_false (ltb n.source_span.start size) (ltb size n.source_span.end)
          (le-ltb size n.source_span.end (span_facts size n.source_span i).1)) b.source_nodes s.places.source_spans;
      pairs = any_none (pair_ok size) (λ (p : PairLink). across size p.opening.start p.closing.end)
          (λ p i. and_false (ltb p.opening.start size) (ltb size p.closing.end) (le-ltb size p.closing.end (pair_facts size p i).inside)) b.pairs s.places.pairs;
      blocks = λ h. absurd (omega arith);
      warichu = λ h. absurd (omega arith);
    }

safe_inside : (b : LexOutput) (o : ℕ) → blank_line_before b.sanitized o && nodes_allow_cut b.source_nodes o && pairs_allow_cut b.pairs o ≡ true → SafeCut b o
unfolding nodes_allow_cut pairs_allow_cut
safe_inside b o e =
    let s = both (blank_line_before b.sanitized o && nodes_allow_cut b.source_nodes o) (pairs_allow_cut b.pairs o) e in
    let t = both (blank_line_before b.sanitized o) (nodes_allow_cut b.source_nodes o) s.0 in
    let d = nodes_before o b.source_nodes in
    let u = both _ (eqb (depth is_warichu_open is_warichu_close 0 d) 0) t.1 in
    let v = both (not (any (across_node o) b.source_nodes)) (eqb (depth is_block_open is_block_close 0 d) 0) u.0 in
    record {
      nodes = not-true (any (across_node o) b.source_nodes) v.0;
      pairs = not-true (any (λ (p : PairLink). across o p.opening.start p.closing.end) b.pairs) s.1;
      blocks = λ h. eqb-true (depth is_block_open is_block_close 0 d) 0 v.1;
      warichu = λ h. eqb-true (depth is_warichu_open is_warichu_close 0 d) 0 u.1;
    }

pub safe_facts : {b : LexOutput} → Sound b → (o : ℕ) → safe_cut b o ≡ true → SafeCut b o
unfolding safe_cut
safe_facts {b} s o e = go (eqb o 0) refl (eqb o (length b.sanitized)) refl e
  where
    go : (x : Bool) → eqb o 0 ≡ x → (y : Bool) → eqb o (length b.sanitized) ≡ y → x || y || (blank_line_before b.sanitized o && nodes_allow_cut b.source_nodes o && pairs_allow_cut b.pairs o) ≡ true → SafeCut b o
    go true p y q e = rw (eqb-true o 0 p) (safe_start b s)
    go false p true q e = rw (eqb-true o (length b.sanitized) q) (safe_end b s)
    go false p false q e = safe_inside b o e

-- ---- a book around a safe cut c

module _ {b : LexOutput} (s : Sound b) {c : ℕ} (safe : SafeCut b c) where
  abbrev pub until : List SourceNode
  until = keep (ends_by c) b.source_nodes

  abbrev pub behind : List SourceNode
  behind = keep (starts_at c) b.source_nodes

  pub split : b.source_nodes ≡ until ++ behind
  split = nodes_split (length b.sanitized) c 0 b.source_nodes s.places.order s.places.source_spans safe.nodes

  pub behind_ordered : ordered c behind ≡ true
  behind_ordered = ordered_from c 0 behind (ordered_keep (length b.sanitized) (starts_at c) 0 b.source_nodes s.places.source_spans s.places.order) (all_keep_self (starts_at c) b.source_nodes)

  pub offsets_split : (offsets_ok 0 0 until ≡ true) × (offsets_ok (images until) (spans until) behind ≡ true)
  offsets_split =
      let e : offsets_ok 0 0 until && offsets_ok (0 + images until) (0 + spans until) behind ≡ true = sym (offsets_append 0 0 until behind) ∙ ap (offsets_ok 0 0) (sym split) ∙ s.places.offsets in
      let t = both (offsets_ok 0 0 until) _ e in
      (t.0, ap₂ (λ (i j : ℕ). offsets_ok i j behind) (sym (zero-add (images until))) (sym (zero-add (spans until))) ∙ t.1)

  pub normal_at : normalized_offset b.source_nodes c + spans until ≡ c + images until
  normal_at = normal_sum (length b.sanitized) b.source_nodes s.places.order s.places.source_spans c

  -- from the cut to a place behind it
  pub normal_behind : (o : ℕ) → c ≤ o
      → normalized_offset b.source_nodes o + spans (keep (ends_by o) behind) + c ≡ normalized_offset b.source_nodes c + images (keep (ends_by o) behind) + o
  normal_behind o h =
      let m = keep (ends_by o) behind in
      let taken : keep (ends_by o) b.source_nodes ≡ until ++ m =
      ap (keep (ends_by o)) split ∙ keep_append (ends_by o) until behind
      ∙ ap (λ (l : List SourceNode). l ++ m) (keep_all (ends_by c) (ends_by o) (λ n q. let l = leb-true n.source_span.end c q in le-leb n.source_span.end o (omega arith)) until (all_keep_self (ends_by c) b.source_nodes)) in
      let f : normalized_offset b.source_nodes o + spans (until ++ m) ≡ o + images (until ++ m) = rw taken at (normal_sum (length b.sanitized) b.source_nodes s.places.order s.places.source_spans o) in
      let e = normal_at in
      let x = spans_append until m in
      let y = images_append until m in
      omega arith

  pub normal_rises : (o : ℕ) → c ≤ o → normalized_offset b.source_nodes c ≤ normalized_offset b.source_nodes o
  normal_rises o h =
      let e = normal_behind o h in
      let size = length b.sanitized in
      let a = all_keep (node_in size) (starts_at c) b.source_nodes s.places.source_spans in
      let g = spans_within size o c h (keep (ends_by o) behind) (ordered_keep size (ends_by o) c behind a behind_ordered) (all_keep (node_in size) (ends_by o) behind a) (all_keep_self (ends_by o) behind) in
      omega arith

  -- the end of the text is the end of the normalized text
  pub normal_inside : c ≤ length b.sanitized → normalized_offset b.source_nodes c ≤ length b.normalized
  normal_inside h =
      let size = length b.sanitized in
      let x = normal_rises size h in
      let e : keep (ends_by size) b.source_nodes ≡ b.source_nodes = keep_all (node_in size) (ends_by size) (λ n q. le-leb n.source_span.end size (span_facts size n.source_span q).1) b.source_nodes s.places.source_spans in
      let f : normalized_offset b.source_nodes size + spans b.source_nodes ≡ size + images b.source_nodes = rw e at (normal_sum size b.source_nodes s.places.order s.places.source_spans size) in
      omega arith

  -- the offsets of the nodes behind the cut lie behind its place
  pub offsets_behind : all (λ (n : SourceNode). leb (normalized_offset b.source_nodes c) n.normalized_offset) behind ≡ true
  offsets_behind =
      let x = normal_at in
      offsets_from (length b.sanitized) (normalized_offset b.source_nodes c) c (images until) (spans until) (omega arith) behind behind_ordered
      (all_keep (node_in (length b.sanitized)) (starts_at c) b.source_nodes s.places.source_spans) offsets_split.1

-- no offset of a node is past the normalized text
pub offsets_small : {b : LexOutput} → Sound b → all (λ (n : SourceNode). ltb n.normalized_offset (length b.normalized)) b.source_nodes ≡ true
offsets_small {b} s = offsets_below (length b.sanitized) (length b.normalized) 0 0 0 b.source_nodes (omega arith) s.places.order s.places.source_spans s.places.offsets

-- ---- nodes that are moved

-- starts and ends by + b − a, offsets by + d − c
pub record NodeShift (f : SourceNode → SourceNode) (a b c d : ℕ) (n : SourceNode) : Type 0 where
  pub start : (f n).source_span.start + a ≡ n.source_span.start + b
  pub end : (f n).source_span.end + a ≡ n.source_span.end + b
  pub offset : (f n).normalized_offset + c ≡ n.normalized_offset + d
  pub image : image_length (f n) ≡ image_length n

module _ {ok : SourceNode → Bool} {f : SourceNode → SourceNode} {a b c d : ℕ} (shift : (n : SourceNode) → ok n ≡ true → NodeShift f a b c d n) where
  shift_length : (n : SourceNode) → ok n ≡ true → span_length (f n) ≡ span_length n
  unfolding span_length
  shift_length n o = let s = shift n o in omega arith

  pub shift_spans : (ns : List SourceNode) → all ok ns ≡ true → spans (map f ns) ≡ spans ns
  shift_spans = spans_map ok f shift_length

  pub shift_images : (ns : List SourceNode) → all ok ns ≡ true → images (map f ns) ≡ images ns
  shift_images = images_map ok f (λ n o. (shift n o).image)

  pub shift_ordered : (k k' : ℕ) → k' + a ≤ k + b → (ns : List SourceNode) → all ok ns ≡ true → ordered k ns ≡ true → ordered k' (map f ns) ≡ true
  unfolding ordered
  shift_ordered k k' h [] o r = refl
  shift_ordered k k' h (n ∷ ns) o r =
      let u = both (ok n) (all ok ns) o in
      let v = both (leb k n.source_span.start) (ordered n.source_span.end ns) r in
      let x = (shift n u.0).start in
      let y = (shift n u.0).end in
      let l = leb-true k n.source_span.start v.0 in
      join (leb k' (f n).source_span.start) (ordered (f n).source_span.end (map f ns)) (le-leb k' (f n).source_span.start (omega arith)) (shift_ordered n.source_span.end (f n).source_span.end (omega arith) ns u.1 v.1)

  pub shift_offsets : (ns : List SourceNode) (i s i' s' : ℕ) → b + i' + c + s ≡ d + s' + a + i → all ok ns ≡ true → offsets_ok i s ns ≡ true → offsets_ok i' s' (map f ns) ≡ true
  unfolding offsets_ok
  shift_offsets [] i s i' s' h o r = refl
  shift_offsets (n ∷ ns) i s i' s' h o r =
      let u = both (ok n) (all ok ns) o in
      let v = both (offset_test i s n) (offsets_ok (i + image_length n) (s + span_length n) ns) r in
      let z = shift n u.0 in
      let l = shift_length n u.0 in
      join (offset_test i' s' (f n)) (offsets_ok (i' + image_length (f n)) (s' + span_length (f n)) (map f ns)) (one n z v.0)
      (rw (z.image, l) (shift_offsets ns (i + image_length n) (s + span_length n) (i' + image_length n) (s' + span_length n) (omega arith) u.1 v.1))
    where
      one : (n : SourceNode) → NodeShift f a b c d n → offset_test i s n ≡ true → offset_test i' s' (f n) ≡ true
      one n z e =
          let w = both (leb (n.source_span.start + i) (n.normalized_offset + s)) (ltb (n.normalized_offset + s) (n.source_span.start + i + image_length n)) e in
          let x = leb-true (n.source_span.start + i) (n.normalized_offset + s) w.0 in
          let y = ltb-true (n.normalized_offset + s) (n.source_span.start + i + image_length n) w.1 in
          join (leb ((f n).source_span.start + i') ((f n).normalized_offset + s')) (ltb ((f n).normalized_offset + s') ((f n).source_span.start + i' + image_length (f n)))
          (le-leb ((f n).source_span.start + i') ((f n).normalized_offset + s') (omega arith)) (lt-ltb ((f n).normalized_offset + s') ((f n).source_span.start + i' + image_length (f n)) (omega arith))
