-- Section 6: the edit, the cuts that are safe, the region; numbers 8 to 11 of the table.
use Rattle.std.specs.Prelude.{ℕ, zero, suc, ◌+◌, ◌-◌, ◌/◌, Bool, false, cond, not, ◌&&◌, ◌||◌, List, [], ◌∷◌, ◌++◌, length, get_or, take, drop, leb, ltb, eqb}
use Rattle.std.proofs.Math.Option.{Option, none, some}
use Rattle.model.specs.Lists.{any, keep, same}
use Rattle.model.specs.Limits.{max_text}
use Rattle.model.specs.Bytes.{part}
use Rattle.model.specs.Utf8.{utf8, is_char_boundary}
use Rattle.model.specs.Offset.{Span}
use Rattle.model.specs.Types.{SourceNode, PairLink, LexOutput}
use Rattle.model.specs.Refusal.{Checked, Checked.accepted, ◌>>=◌, refuse◌if◌}
use Rattle.model.specs.Store.{NodeStore, store_of, content_range_as_plain}
use Rattle.model.specs.WellFormed.{word_of, check_book}

-- ---- the edit

pub record Edit : Type 0 where
  pub start : ℕ
  pub end : ℕ
  pub replacement : List ℕ

-- the edit of these numbers and bytes
unfoldable pub edit_of : ℕ → ℕ → List ℕ → Edit
edit_of start end replacement = record { start = start; end = end; replacement = replacement }

-- the new text
unfoldable pub edited : List ℕ → Edit → List ℕ
edited text e = take e.start text ++ (e.replacement ++ drop e.end text)

-- Section 7. Where an offset at or behind the edit's end stands in the new text: moved by the change in length, which is
-- replacement bytes minus (end minus start).
unfoldable pub behind_edit : Edit → ℕ → ℕ
behind_edit e o = o + length e.replacement - (e.end - e.start)

-- Number 8. Edit start > end, end > length, or inside a character.
unfoldable pub edit_ok : LexOutput → Edit → Bool
edit_ok b e =
    leb e.start e.end && leb e.end (length b.sanitized)
    && is_char_boundary b.sanitized e.start && is_char_boundary b.sanitized e.end

-- ---- what a node is

-- `NodeRef::BlockOpen`, `NodeRef::BlockClose`
abbrev pub is_block_open : SourceNode → Bool
is_block_open n = eqb n.class 2

abbrev pub is_block_close : SourceNode → Bool
is_block_close n = eqb n.class 3

-- a Directive of a kind, Inline or BlockLeaf
abbrev pub is_directive : ℕ → SourceNode → Bool
is_directive kind n = ltb n.class 2 && eqb n.body.kind 13 && eqb n.body.tag kind

-- `DirectiveKind::WarichuOpen`, `DirectiveKind::WarichuClose`
abbrev pub is_warichu_open : SourceNode → Bool
is_warichu_open n = is_directive 4 n

abbrev pub is_warichu_close : SourceNode → Bool
is_warichu_close n = is_directive 5 n

-- an Inline Ruby
abbrev pub is_ruby : SourceNode → Bool
is_ruby n = eqb n.class 0 && eqb n.body.kind 1

-- an Inline Format whose `ForwardOrigin` is Referenced
abbrev pub is_referenced_format : SourceNode → Bool
is_referenced_format n = eqb n.class 0 && eqb n.body.kind 2 && eqb (n.body.tag / 4) 1

-- ---- safe cuts

-- the depth behind a node that opens or closes; a fall below 0 counts as 0
unfoldable pub depth_behind : (SourceNode → Bool) → (SourceNode → Bool) → ℕ → SourceNode → ℕ
depth_behind opens closes d n = cond (opens n) (d + 1) (cond (closes n) (d - 1) d)

unfoldable pub depth : (SourceNode → Bool) → (SourceNode → Bool) → ℕ → List SourceNode → ℕ
depth opens closes d [] = d
depth opens closes d (n ∷ ns) = depth opens closes (depth_behind opens closes d n) ns

-- does a span lie across an offset?
abbrev pub across : ℕ → ℕ → ℕ → Bool
across o start end = ltb start o && ltb o end

-- the nodes that start before an offset
unfoldable pub nodes_before : ℕ → List SourceNode → List SourceNode
nodes_before o ns = keep (λ (n : SourceNode). ltb n.source_span.start o) ns

-- Section 6. No node across; block and warichu depths 0 (falls below 0 count as 0).
unfoldable pub nodes_allow_cut : List SourceNode → ℕ → Bool
nodes_allow_cut ns o =
    not (any (λ (n : SourceNode). across o n.source_span.start n.source_span.end) ns)
    && eqb (depth is_block_open is_block_close 0 (nodes_before o ns)) 0
    && eqb (depth is_warichu_open is_warichu_close 0 (nodes_before o ns)) 0

-- Section 6. No pair with open start < offset < close end.
unfoldable pub pairs_allow_cut : List PairLink → ℕ → Bool
pairs_allow_cut ps o = not (any (λ (p : PairLink). across o p.opening.start p.closing.end) ps)

abbrev pub newline_at : List ℕ → ℕ → Bool
newline_at text o = eqb (get_or text o 0) 10

-- Section 6. Two newline bytes before an offset.
unfoldable pub blank_line_before : List ℕ → ℕ → Bool
blank_line_before text o = leb 2 o && newline_at text (o - 2) && newline_at text (o - 1)

-- Section 6. `safe_cut`: 0 and the length always; elsewhere text, nodes and pairs allow it.
unfoldable pub safe_cut : LexOutput → ℕ → Bool
safe_cut b o =
    eqb o 0 || eqb o (length b.sanitized)
    || (blank_line_before b.sanitized o && nodes_allow_cut b.source_nodes o && pairs_allow_cut b.pairs o)

-- ---- the region

-- Section 6. Start: the last safe offset after a newline, at or before an offset, else 0.
unfoldable pub region_start : LexOutput → ℕ → ℕ
region_start b zero = 0
region_start b (suc o) =
    let earlier = region_start b o in
    cond (newline_at b.sanitized o && safe_cut b (suc o)) (suc o) earlier

-- Wish 1. An end cut other than the text's end shall also have two newline bytes before its moved place in the new text.
unfoldable pub end_cut : LexOutput → Edit → ℕ → Bool
end_cut b e o = safe_cut b o && (eqb o (length b.sanitized) || blank_line_before (edited b.sanitized e) (behind_edit e o))

-- Section 6. End: the first end cut after a newline at or behind an offset o, else the length. It is the newline that is at or
-- behind, so the end lies behind o. n bytes are left to look at.
unfoldable pub region_end : LexOutput → Edit → ℕ → ℕ → ℕ
region_end b e zero o = length b.sanitized
region_end b e (suc n) o =
    let later = region_end b e n (o + 1) in
    cond (newline_at b.sanitized o && end_cut b e (o + 1)) (o + 1) later

-- Section 6. `balanced_region`, in offsets of the old text.
unfoldable pub balanced_region : LexOutput → Edit → Span
balanced_region b e = record {
  start = region_start b e.start;
  end = region_end b e (length b.sanitized - e.end) e.end;
}

-- Number 11. The region would be the whole text.
unfoldable pub is_whole : LexOutput → Span → Bool
is_whole b r = eqb r.start 0 && eqb r.end (length b.sanitized)

-- Section 6. The region is handed on as that part of the text: of the old text, where its cuts were chosen.
unfoldable pub region_text : LexOutput → Span → List ℕ
region_text b r = part b.sanitized r.start (r.end - r.start)

-- ---- 10

-- the base of a Ruby and the target of a Format, as a plain string
unfoldable pub first_plain : NodeStore → SourceNode → Option (List ℕ)
first_plain st n = content_range_as_plain st (word_of n.body 0) (word_of n.body 1)

-- is it one of these strings? None is not
unfoldable pub is_among : List (List ℕ) → Option (List ℕ) → Bool
is_among ss none = false
is_among ss (some s) = any (same s) ss

unfoldable pub with_plain : Option (List ℕ) → List (List ℕ) → List (List ℕ)
with_plain none ss = ss
with_plain (some s) ss = s ∷ ss

-- a Referenced Format that ends behind `from` and whose target is the base of an earlier Ruby; `rubies` are the bases so far
unfoldable pub depends_from : NodeStore → ℕ → List (List ℕ) → List SourceNode → Bool
depends_from st from rubies [] = false
depends_from st from rubies (n ∷ ns) =
    (is_referenced_format n && ltb from n.source_span.end && is_among rubies (first_plain st n))
    || depends_from st from (cond (is_ruby n) (with_plain (first_plain st n) rubies) rubies) ns

-- Number 10. `has_ruby_format_dependency`.
unfoldable pub has_ruby_format_dependency : LexOutput → Edit → Bool
has_ruby_format_dependency b e = depends_from (store_of b.layers) e.start [] b.source_nodes

-- ---- 8; 2 and 3 of the edit; 9, 10, 11

unfoldable pub chosen_region : LexOutput → Edit → Checked Span
chosen_region b e = do
  _ ← refuse 8 if not (edit_ok b e)
  _ ← refuse 2 if not (utf8 e.replacement)
  _ ← refuse 3 if not (leb (length (edited b.sanitized e)) max_text)
  _ ← refuse 9 if same (edited b.sanitized e) b.sanitized
  _ ← refuse 10 if has_ruby_format_dependency b e
  _ ← refuse 11 if is_whole b (balanced_region b e)
  accepted (balanced_region b e)

-- `choose_region`: choosing the region alone runs up to 11.
unfoldable pub choose_region : List ℕ → List ℕ → Edit → Checked Span
choose_region tape bytes e = do
  b ← check_book tape bytes
  chosen_region b e
