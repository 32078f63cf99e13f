-- Section 6. `content_range_as_plain`: a range of exactly one Plain content gives its string, all others none.
use Rattle.std.specs.Prelude.{Option, Some, None, ◌≡◌, ℕ, ◌+◌, ◌≤◌, Bool, true, false, cond, ◌||◌, List, [], ◌∷◌, length, leb, eqb}
use Rattle.std.proofs.Math.Path.{refl}
use Rattle.std.proofs.Common.{sym, ap, ◌∙◌, arith, add-zero}
use Rattle.std.proofs.Math.Option.{Option as ModelOption, none, some}
use borrow.Author.Tests.{leb-true}
use Rattle.model.specs.Types.{Content}
use Rattle.model.specs.Store.{NodeStore, resolve_str, resolve_content_range, as_plain, content_range_as_plain}
use Rattle.model.specs.Tape.{record_at, records_at, content_codec}
use Rattle.facts.specs.Truth.{both}
use Rattle.laws.specs.Records.{run_length}
use Rattle.span.specs.declared.StrId.{StrId}
use Rattle.store.specs.declared.Store.{Store}
use Rattle.store.specs.Pools.{range_in, in_one}
use Rattle.store.specs.Standing.{content_place, content_range_lem, content_inside}
use Rattle.strings.specs.Starts.{OfTape, store_in}

-- the string's id, of exactly one Plain content
unfoldable pub plain_of : List Content → Option StrId
plain_of [] = None
plain_of (c ∷ []) = cond (eqb c.tag 0) (Some (record { 0 = c.first })) None
plain_of (c ∷ d ∷ cs) = None

-- are both known, and the same?
unfoldable pub same_known : Option StrId → Option StrId → Bool
same_known (Some a) (Some b) = eqb a.0 b.0
same_known (Some a) None = false
same_known None q = false

-- the string of an answer
unfoldable pub plain_string : NodeStore → Option StrId → ModelOption (List ℕ)
plain_string st (Some id) = some (resolve_str st id.0)
plain_string st None = none

-- The answer's string is the model's.
pub plain_string_lem : (st : NodeStore) (start len : ℕ) {r : Option StrId} → r ≡ plain_of (resolve_content_range st start len)
    → content_range_as_plain st start len ≡ plain_string st r
unfolding content_range_as_plain as_plain plain_of plain_string
plain_string_lem st start len {r} e = go (resolve_content_range st start len) ∙ ap (plain_string st) (sym e)
  where
    one : (c : Content) (b : Bool) → cond b (some (resolve_str st c.first)) none ≡ plain_string st (cond b (Some (record { 0 = c.first })) None)
    one c true = refl
    one c false = refl

    go : (cs : List Content) → as_plain st cs ≡ plain_string st (plain_of cs)
    go [] = refl
    go (c ∷ []) = one c (eqb c.tag 0)
    go (c ∷ d ∷ cs) = refl

-- ---- a range of a tape's contents

plain_none : (cs : List Content) → (length cs ≡ 1 → ⊥) → None ≡ plain_of cs
unfolding plain_of
plain_none [] h = refl
plain_none (c ∷ []) h = absurd (h refl)
plain_none (c ∷ d ∷ cs) h = refl

one_record : (t : List ℕ) (p : ℕ) → records_at content_codec t p 1 ≡ record_at content_codec t p ∷ []
unfolding records_at content_codec
one_record t p = ap (λ (k : ℕ). record_at content_codec t k ∷ []) (add-zero p)

module _ {t : List ℕ} {st : Store} (f : OfTape t st) (start len : ℕ) (h : range_in st.contents st.layers st.totals.contents start len ≡ true) where
  pub range_other : (len ≡ 1 → ⊥) → (b : List ℕ) → None ≡ plain_of (resolve_content_range (store_in t b) start len)
  range_other z b =
      let n = run_length content_codec t (content_place st start) len in
      plain_none (records_at content_codec t (content_place st start) len) (λ x. z (sym n ∙ x)) ∙ ap plain_of (sym (content_range_lem t st f.stored b start len h))

  module _ (one : len ≡ 1) {p : ℕ} (e : p ≡ content_place st start) where
    pub range_inside : p + 10 ≤ length t
    unfolding range_in
    range_inside =
        let x = both (leb (start + len) st.totals.contents) (eqb len 0 || in_one st.contents st.layers st.totals.contents start (start + len)) h in
        let m = leb-true (start + len) st.totals.contents x.0 in
        let i = content_inside t st f.stored start 1 (omega (arith, m, one)) (omega (arith, m, one)) in
        omega (arith, i, e, f.inside)

    pub range_one : {c : Content} {r : Option StrId} → c ≡ record_at content_codec t p → r ≡ plain_of (c ∷ []) → (b : List ℕ)
        → r ≡ plain_of (resolve_content_range (store_in t b) start len)
    range_one {c} {r} g q b =
        q ∙ ap (λ (x : Content). plain_of (x ∷ [])) g
        ∙ ap plain_of (sym (one_record t p) ∙ ap (λ (k : ℕ). records_at content_codec t k 1) e
        ∙ ap (records_at content_codec t (content_place st start)) (sym one) ∙ sym (content_range_lem t st f.stored b start len h))
