-- Wish 2, proved of the definitions: the estimate refuses as every merge of the same parts does, and where it is given, the merge is
-- refused by 18 alone or makes just what was told.
use Rattle.std.specs.Prelude.{◌≡◌, refl, ℕ, ◌+◌, ◌≤◌, Bool, true, false, cond, not, length}
use Rattle.std.proofs.Common.{sym, ◌∙◌, arith, length-append}
use Rattle.std.proofs.Math.Path.{ap, subst}
use Rattle.std.proofs.lemmas.Bool.{false≢true}
use mathlib.Core.List.{List, [], ◌∷◌, ◌++◌, map, flatten}
use Rattle.model.specs.Lists.{is_empty}
use Rattle.model.specs.Types.{Layer, SourceNode, LexOutput, RegionOutput}
use Rattle.model.specs.Refusal.{Checked, Checked.refused, Checked.accepted, ◌>>=◌, refuse◌if◌}
use Rattle.model.specs.Tape.{bytes_of}
use Rattle.model.specs.Store.{store_of}
use Rattle.model.specs.WellFormed.{check_book, check_reading}
use Rattle.model.specs.Graft.{NewLayer, layered, layer_of, graft_node_refs}
use Rattle.model.specs.Tree.{shown_node, shown_nodes}
use Rattle.model.specs.Region.{Edit, edited, chosen_region}
use Rattle.model.specs.Merge.{Stored, Room, IncrementalOutput, MergeWindow, merged_normalized, grafted, merged_layers, merged_book, stored_book, answer, result_ok, fitting, result_checked, merge_books, merge, Fitted, fitted}
use Rattle.model.specs.Estimate.{Estimate, is_over, length_before, price_of, estimate}
use Rattle.facts.specs.Lists.{flatten_snoc, map_append}
use Rattle.laws.specs.Checks.{refused_not, bind_accepted, refuse_accepted, same_accepted}

-- ---- the merge is 1 to 17, then 18

regroup : {A B C : Type 0} (x : Checked A) (f : A → Checked B) (g : A → Checked C) (k : B → Checked C) → ((a : A) → g a ≡ (f a >>= k)) → (x >>= g) ≡ ((x >>= f) >>= k)
unfolding ◌>>=◌
regroup (refused n) f g k h = refl
regroup (accepted a) f g k h = h a

-- 18 of what passed
abbrev pub finished : Edit → Room → Fitted → Checked IncrementalOutput
finished e room f = result_checked f.old e f.reading f.window room

pub merge_fitted : (s : Stored) (e : Edit) (rs : Stored) (room : Room) → merge s e rs room ≡ (fitted s e rs >>= finished e room)
unfolding merge merge_books fitted ◌>>=◌
merge_fitted s e rs room =
    regroup (check_book s.tape s.bytes) _ _ (finished e room) (λ old.
    regroup (chosen_region old e) _ _ (finished e room) (λ r.
    regroup (check_reading rs.tape rs.bytes) _ _ (finished e room) (λ new.
    regroup (fitting old e r new) _ _ (finished e room) (λ w. refl))))

-- ---- the numbers

same_number : {A B : Type 0} (k n : ℕ) → ◌≡◌ {A = Checked A} (refused k) (refused n) → ◌≡◌ {A = Checked B} (refused k) (refused n)
same_number {A} {B} k n e = let s : k ≡ n = cc in ap refused s

-- 18 is the one number of what is left
result_number : (old : LexOutput) (e : Edit) (reading : RegionOutput) (w : MergeWindow) (room : Room) (n : ℕ) → result_checked old e reading w room ≡ refused n → n ≡ 18
unfolding result_checked ◌>>=◌ refuse◌if◌
result_number old e reading w room n = let g = grafted old reading in let a = answer old reading w g (merged_book old e reading w g) in go (result_ok room g (merged_book old e reading w g) a.output) a
  where
    go : (b : Bool) (a : IncrementalOutput) → (refuse 18 if not b >>= λ _. accepted a) ≡ refused n → n ≡ 18
    go true a q = absurd (refused_not n a (sym q))
    go false a q = let s : 18 ≡ n = cc in sym s

module _ (s : Stored) (e : Edit) (rs : Stored) where
  -- Wish 2. The merge's 1 to 17 are given as the merge gives them, whatever is lent.
  pub estimate_refused : (n : ℕ) → estimate s e rs ≡ refused n → (room : Room) → merge s e rs room ≡ refused n
  unfolding estimate ◌>>=◌
  estimate_refused n q room = merge_fitted s e rs room ∙ go (fitted s e rs) q
    where
      go : (x : Checked Fitted) → (x >>= λ f. accepted (price_of f.old e f.reading f.window (grafted f.old f.reading))) ≡ refused n → (x >>= finished e room) ≡ refused n
      go (refused k) z = same_number k n z
      go (accepted f) z = absurd (refused_not n _ (sym z))

  pub refused_estimate : (n : ℕ) → n ≤ 17 → (room : Room) → merge s e rs room ≡ refused n → estimate s e rs ≡ refused n
  unfolding estimate ◌>>=◌
  refused_estimate n h room q = go (fitted s e rs) (sym (merge_fitted s e rs room) ∙ q)
    where
      go : (x : Checked Fitted) → (x >>= finished e room) ≡ refused n → (x >>= λ f. accepted (price_of f.old e f.reading f.window (grafted f.old f.reading))) ≡ refused n
      go (refused k) z = same_number k n z
      go (accepted f) z = let i = result_number f.old e f.reading f.window room n z in absurd (omega (arith, h, i))

-- ---- what was told

-- Wish 2. What the merge of a book and a reading that passed makes, beside its estimate.
pub record Told (p : Estimate) (old : LexOutput) (reading : RegionOutput) (m : IncrementalOutput) : Type 0 where
  pub nodes : p.reparsed_nodes ≡ m.reparsed_nodes
  -- not over: the calls, and the contents and segments of the new layer
  pub exact : (let made = (grafted old reading).1 in is_over m.stats.calls (length made.contents) (length made.segments) ≡ false
      → (p.calls ≡ m.stats.calls) × (p.contents ≡ length made.contents) × (p.segments ≡ length made.segments))
  pub over : (let made = (grafted old reading).1 in is_over m.stats.calls (length made.contents) (length made.segments) ≡ true
      → (p.calls ≡ 1048576) × (p.contents ≡ 1048576) × (p.segments ≡ 1048576))
  -- the new layer's strings are all that the byte buffer has beside
  pub bytes : length m.output.bytes ≡ p.byte_length + length (flatten (grafted old reading).1.interner.strings)

layer_bytes_lem : (ls : List Layer) (g : NewLayer) → length (flatten (map (λ (l : Layer). flatten l.strings) (ls ++ (layer_of g ∷ []))))
    ≡ length (flatten (map (λ (l : Layer). flatten l.strings) ls)) + length (flatten g.interner.strings)
unfolding layer_of
layer_bytes_lem ls g =
    ap length (ap flatten (map_append (λ (l : Layer). flatten l.strings) ls (layer_of g ∷ [])) ∙ flatten_snoc (map (λ (l : Layer). flatten l.strings) ls) (flatten g.interner.strings))
    ∙ length-append (flatten (map (λ (l : Layer). flatten l.strings) ls)) (flatten g.interner.strings)

-- a reading without nodes makes no strings
no_strings : (old reading : LexOutput) → is_empty reading.source_nodes ≡ true → length (flatten (grafted old reading).1.interner.strings) ≡ 0
unfolding grafted shown_nodes graft_node_refs layered flatten
no_strings old reading e = go reading.source_nodes e
  where
    go : (ns : List SourceNode) → is_empty ns ≡ true → length (flatten (graft_node_refs (map (shown_node (store_of reading.layers)) ns) (layered old.layers)).1.interner.strings) ≡ 0
    go [] q = refl
    go (n ∷ ns) q = absurd (false≢true q)

told_answer : (old : LexOutput) (e : Edit) (reading : RegionOutput) (w : MergeWindow)
    → (let g = grafted old reading in Told (price_of old e reading w g) old reading (answer old reading w g (merged_book old e reading w g)))
unfolding price_of answer stored_book bytes_of merged_book merged_layers length_before
told_answer old e reading w = record {
  nodes = refl;
  exact = λ h. rw h (refl, refl, refl);
  over = λ h. rw h (refl, refl, refl);
  bytes = go (is_empty reading.source_nodes) refl;
}
  where
    t : List ℕ
    t = edited old.sanitized e

    n : List ℕ
    n = merged_normalized w old reading

    of : List Layer → List ℕ
    of ls = flatten (map (λ (l : Layer). flatten l.strings) ls)

    g : NewLayer
    g = (grafted old reading).1

    go : (x : Bool) → is_empty reading.source_nodes ≡ x → length (t ++ (n ++ of (cond x old.layers (old.layers ++ (layer_of g ∷ []))))) ≡ length t + length n + length (of old.layers) + length (flatten g.interner.strings)
    go true q = let a = length-append t (n ++ of old.layers) in let b = length-append n (of old.layers) in let c = no_strings old reading q in omega (arith, a, b, c)
    go false q =
        let a = length-append t (n ++ of (old.layers ++ (layer_of g ∷ []))) in
        let b = length-append n (of (old.layers ++ (layer_of g ∷ []))) in
        let c = layer_bytes_lem old.layers g in
        omega (arith, a, b, c)

-- what an estimate was given for, and the answer that 18 looks at
pub record Given (s : Stored) (e : Edit) (rs : Stored) (p : Estimate) : Type 0 where
  pub parts : Fitted
  pub fits : fitted s e rs ≡ accepted parts
  pub told : (let g = grafted parts.old parts.reading in
      Told p parts.old parts.reading (answer parts.old parts.reading parts.window g (merged_book parts.old e parts.reading parts.window g)))

module _ (s : Stored) (e : Edit) (rs : Stored) (p : Estimate) (q : estimate s e rs ≡ accepted p) where
  -- Wish 2. Every number not given as over is what sections 5 and 7 make of this merge, also where 18 would refuse it.
  pub estimate_given : Given s e rs p
  unfolding estimate
  estimate_given =
      let b = bind_accepted (fitted s e rs) _ p q in
      let f = b.0 in
      let g = grafted f.old f.reading in
      record {
        parts = f;
        fits = b.1;
        told = subst (λ (x : Estimate). Told x f.old f.reading (answer f.old f.reading f.window g (merged_book f.old e f.reading f.window g)))
            (same_accepted (price_of f.old e f.reading f.window g) p b.2) (told_answer f.old e f.reading f.window);
      }

  given_finished : (room : Room) → merge s e rs room ≡ finished e room estimate_given.parts
  unfolding ◌>>=◌
  given_finished room = merge_fitted s e rs room ∙ ap (λ (x : Checked Fitted). x >>= finished e room) estimate_given.fits

  -- Wish 2. Where it is given, the merge is 18 or its answer, in any room.
  pub given_merge : (room : Room) (n : ℕ) → merge s e rs room ≡ refused n → n ≡ 18
  given_merge room n h = let f = estimate_given.parts in result_number f.old e f.reading f.window room n (sym (given_finished room) ∙ h)

  -- Wish 2. The accepted merge makes what was told.
  pub estimate_told : (room : Room) (m : IncrementalOutput) → merge s e rs room ≡ accepted m → Told p estimate_given.parts.old estimate_given.parts.reading m
  unfolding result_checked
  estimate_told room m h =
      let f = estimate_given.parts in
      let g = grafted f.old f.reading in
      let new = merged_book f.old e f.reading f.window g in
      let a = answer f.old f.reading f.window g new in
      let k = refuse_accepted 18 (not (result_ok room g new a.output)) _ m (sym (given_finished room) ∙ h) in
      subst (λ (x : IncrementalOutput). Told p f.old f.reading x) (same_accepted a m k.1) estimate_given.told
