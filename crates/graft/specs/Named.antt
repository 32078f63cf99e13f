-- The last answer's string by its representative (crate `representatives`): so that equal long strings are not compared again and again.
use Rattle.std.specs.Prelude.{◌≡◌, refl, Option, Some, None, IfSome, ℕ, ◌+◌, Bool, true, List, drop}
use Rattle.std.proofs.Common.{sym, ap, ◌∙◌, eqb-true}
use Rattle.std.proofs.lemmas.Bool.{false≢true}
use Rattle.model.specs.Bytes.{word_at}
use Rattle.model.specs.Store.{NodeStore, store_of, resolve_str}
use Rattle.model.specs.Intern.{holds}
use Rattle.model.specs.Tape.{places, layers_at}
use Rattle.span.specs.declared.StrId.{StrId}
use Rattle.strings.specs.PlainContent.{same_known}
use Rattle.representatives.specs.Pairs.{Pairs}
use Rattle.interner.specs.State.{state_of}
use Rattle.graft.specs.declared.Mark.{Mark}

-- the store of the source, its strings in the bytes d
abbrev pub source_store : List ℕ → List ℕ → NodeStore
source_store t d = store_of (layers_at t (places t).layers (drop (word_at t 1 + word_at t 5) d))

-- where a representative is known, the last answer's string is the one that it shows
abbrev pub Named : List ℕ → List ℕ → List ℕ → List ℕ → Mark → Type 0
Named t d work strs m = (r : StrId) → m.answered ≡ Some r → holds (state_of work strs m.state).strings m.state.last (resolve_str (source_store t d) r.0) ≡ true

-- what is known of string id is the id of an equal string
abbrev pub ShowsAs : List ℕ → List ℕ → Option StrId → ℕ → Type 0
ShowsAs t d known id = (r : StrId) → known ≡ Some r → resolve_str (source_store t d) r.0 ≡ resolve_str (source_store t d) id

-- so what is found among pairs of the source's strings
pub shows_by : (t d : List ℕ) {pairs : List ℕ} → Pairs (resolve_str (source_store t d)) pairs → {known : Option StrId} (id : ℕ)
    → ((K : ℕ → List ℕ) → Pairs K pairs → IfSome known (λ (r : StrId). K r.0 ≡ K id)) → ShowsAs t d known id
shows_by t d q id f r e = rw e at (f (resolve_str (source_store t d)) q)

-- a string whose representative is that of the last answer's string is that string
module _ (t d work strs : List ℕ) (m : Mark) where
  abbrev last_is : ℕ → Bool
  last_is i = holds (state_of work strs m.state).strings m.state.last (resolve_str (source_store t d) i)

  answered_by : (id : ℕ) (k a : Option StrId) → ShowsAs t d k id → ((r : StrId) → a ≡ Some r → last_is r.0 ≡ true) → same_known k a ≡ true → last_is id ≡ true
  unfolding same_known
  answered_by id (Some r) (Some a) s n e =
      ap (holds (state_of work strs m.state).strings m.state.last) (sym (s r refl) ∙ ap (resolve_str (source_store t d)) (eqb-true r.0 a.0 e)) ∙ n a refl
  answered_by id (Some r) None s n e = absurd (false≢true e)
  answered_by id None a s n e = absurd (false≢true e)

  pub is_answered : Named t d work strs m → (known : Option StrId) (id : ℕ) → ShowsAs t d known id → same_known known m.answered ≡ true → last_is id ≡ true
  is_answered named known id shows e = answered_by id known m.answered shows named e
