-- Section 3: where a string's bytes stand.
use Rattle.std.specs.Prelude.{◌≡◌, Option, Some, None, ℕ, suc, ◌+◌, ◌-◌, ◌≤◌, ◌<◌, ◌^◌, length, get_or}
use Rattle.std.proofs.Math.Path.{sym, ap}
use Rattle.std.proofs.Common.{refl, true≢false, ◌∙◌, drop-drop, length-drop, take_all}
use Rattle.std.proofs.lemmas.Option.{none-some, same_Some}
use native.Mathlib.Omega.{arith}
use mathlib.Core.List.{List, flatten}
use Rattle.std.proofs.Math.ListN.{take, drop}
use Rattle.model.specs.Lists.{sum}
use Rattle.model.specs.Bytes.{word_at}
use Rattle.model.specs.Tape.{places, bytes_needed, records_bytes}
use Rattle.model.specs.Store.{resolve_str}
use Rattle.model.specs.Graft.{graft_str}
use Rattle.model.specs.Intern.{StrInterner, Interned, holds, intern, cache_hit, bypass, table_alloc, table_hit}
use Rattle.places.specs.Again.{nodes_place}
use Rattle.interner.specs.State.{state_of, Good}
use Rattle.interner.specs.declared.StrInterner.{StrInterner as Interner}
use Rattle.intern.specs.Told.{Told as InternTold}
use Rattle.intern.specs.Calls.{each_way, answered_base, last_holds}
use Rattle.graft.specs.Blocks.{blocks_none}
use Rattle.graft.specs.Grafted.{layer_from, content_at, segment_at}
use Rattle.graft.specs.Named.{source_store, ShowsAs}
use Rattle.graft.specs.Walk.{Source, string_from, index_words, StartTold}
use Rattle.graft.specs.declared.Plan.{Plan}
use Rattle.graft.specs.declared.Mark.{Mark}
use Rattle.span.specs.declared.StrId.{StrId}
use Rattle.store.specs.Pools.{before_next, before_most}
use Rattle.store.specs.Standing.{all_lengths, length_at, string_at_lem}
use Rattle.store.specs.declared.Store.{Store}
use Rattle.strings.specs.Starts.{lengths_bytes}

-- the index, as the code lends it
pub index_lent : (work : List ℕ) → take (length work - 15360) (drop 15360 work) ≡ index_words work
index_lent work = take_all (length work - 15360) (drop 15360 work) (rw length-drop (omega arith))

module _ {t d : List ℕ} {st : Store} (s : Source t d st) where
  pub header_inside : 9 ≤ length t
  header_inside = let n = nodes_place t in omega (arith, n, s.fit.inside)

  -- the strings end the bytes
  pub strings_end_lem : word_at t 1 + word_at t 5 + sum (all_lengths t (places t).layers) ≡ length d
  unfolding bytes_needed
  strings_end_lem = let e = lengths_bytes t (places t).layers in omega (arith, e, s.framing.bytes)

  module _ (id : ℕ) (h : id < st.totals.strings) where
    pub from_small_lem : string_from t id ≤ length d
    from_small_lem = let m = before_most (all_lengths t (places t).layers) id in omega (arith, m, strings_end_lem)

    module _ {from len : ℕ} (e : from ≡ string_from t id) (b : len ≡ get_or (all_lengths t (places t).layers) id 0) where
      pub part_inside : from + len ≤ length d
      part_inside =
          let next = before_next (all_lengths t (places t).layers) id in
          let most = before_most (all_lengths t (places t).layers) (suc id) in
          omega (arith, next, most, b, e, strings_end_lem)

      -- as the code takes it
      pub part_shows : take (from + len - from) (drop from d) ≡ resolve_str (source_store t d) id
      unfolding resolve_str
      part_shows =
          let rest = drop (word_at t 1 + word_at t 5) d in
          let ls = (places t).layers in
          let n : from + len - from ≡ len = omega arith in
          ap (λ (k : ℕ). take k (drop from d)) n
          ∙ ap (λ (k : ℕ). take len (drop k d)) e
          ∙ sym (ap (take len) (drop-drop (sum (take id (all_lengths t ls))) (word_at t 1 + word_at t 5) d))
          ∙ ap (λ (k : ℕ). take k (drop (sum (take id (all_lengths t ls))) rest)) (b ∙ length_at t st s.fit.stored id h)
          ∙ sym (string_at_lem t st s.fit.stored rest id h)

-- ---- a call's answer

id_known : (t : StrInterner) (s : List ℕ) → (intern t s).id ≤ (intern t s).state.last
unfolding cache_hit bypass table_alloc table_hit
id_known t s = each_way (λ (a : Interned). a.id ≤ a.state.last) t s (omega arith) (omega arith) (λ table resized p. omega arith) (λ table resized p. omega arith)

module _ (p : Plan) (m : Mark) (work strs work' strs' s : List ℕ) (u : Interner) where
  pub id_small : (id : StrId) → InternTold work strs m.state work' strs' u (Some id) (intern (state_of work strs m.state) s) → id.0 < 2 ^ 12
  id_small id told =
      let r = told.answered id refl in
      let k = id_known (state_of work strs m.state) s in
      let l = ap (λ (x : StrInterner). x.last) r.state in
      omega (arith, r.id_is, k, l, told.good.known, told.good.words.few)

  module _ (t d out : List ℕ) (id : ℕ) (q : s ≡ resolve_str (source_store t d) id) where
    pub str_refused : InternTold work strs m.state work' strs' u None (intern (state_of work strs m.state) s) → {r : Mark}
        → StartTold t d p m out work strs out work' strs' r None (graft_str (resolve_str (source_store t d) id) (layer_from p work strs m))
    unfolding graft_str
    str_refused told = rw (← q) (record { told = record { room = told.room; made = λ o. absurd (true≢false (sym o)) }; start = λ k o. absurd (none-some k o) })

    pub str_answer_lem : Good work strs m.state → length strs' ≡ length strs → (known : Option StrId) → ShowsAs t d known id → (a : StrId) → InternTold work strs m.state work' strs' u (Some a) (intern (state_of work strs m.state) s)
        → StartTold t d p m out work strs out work' strs' (record { contents = m.contents; segments = m.segments; state = u; answered = known }) (Some (p.strings + a.0)) (graft_str (resolve_str (source_store t d) id) (layer_from p work strs m))
    unfolding graft_str records_bytes flatten
    str_answer_lem good long known shows a told =
        let y = told.answered a refl in
        rw (← q) (record {
          told = record {
            room = told.room;
            made = λ o. record {
              good = told.good;
              state = y.state;
              contents = omega arith;
              segments = omega arith;
              wrote = blocks_none out (content_at p m) (segment_at p m);
              base = y.base;
              kept = ap (λ (n : ℕ). take n strs') (sym y.base) ∙ answered_base work strs m.state work' strs' u a (intern (state_of work strs m.state) s) good y;
              free = y.free;
              long = long;
              named = λ r k.
                  ap (holds (state_of work' strs' u).strings u.last) (shows r k ∙ sym q)
                  ∙ ap (λ (i : StrInterner). holds i.strings i.last s) y.state
                  ∙ last_holds (state_of work strs m.state) s;
            };
          };
          start = λ k o. sym (same_Some (p.strings + a.0) k o) ∙ ap (λ (n : ℕ). p.strings + n) y.id_is;
        })
