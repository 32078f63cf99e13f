-- What is asked of a book, 1 to 7 first: the answers of `diagnostics_allow_incremental` and `node_at_source`, and the laws by
-- which each entry goes from the opened book to its answer.
use Rattle.std.specs.Prelude.{◌≡◌, ℕ, Bool, List, eqb, Option}
use Rattle.std.proofs.Common.{refl, sym, ap, ◌∙◌, eqb-true}
use Rattle.std.proofs.lemmas.Bool.{eqb-false}
use Rattle.model.specs.Types.{LexOutput}
use Rattle.model.specs.Refusal.{Checked, Checked.refused, Checked.accepted, ◌>>=◌, number_of}
use Rattle.model.specs.Tape.{records_at, places, book_at, node_codec, diagnostic_codec}
use Rattle.model.specs.WellFormed.{check_book}
use Rattle.model.specs.Lookup.{ask_book, diagnostics_allow_incremental, node_at_source}
use Rattle.facts.specs.Truth.{by_bool}
use Rattle.refusal.specs.Refusal.{checked_map}
use Rattle.places.specs.declared.Places.{Places}
use Rattle.bounds.specs.Search.{found_of}
use Rattle.store.specs.declared.Store.{Store}
use Rattle.tape.specs.Accepted.{Accepted, refusal_of, accepted_book}
use Rattle.tape.specs.Held.{Held, held_nodes, held_diagnostics}

-- ---- 1 to 7

module _ (t d : List ℕ) {A : Type 0} where
  pub ask_refused : {n : ℕ} → check_book t d ≡ refused n → (f : LexOutput → A) → refused n ≡ ask_book t d f
  unfolding ask_book ◌>>=◌
  ask_refused e f = rw e refl

pub ask_accepted : {t d : List ℕ} → Accepted t d → {A : Type 0} (f : LexOutput → A) → accepted (f (book_at t (places t) d)) ≡ ask_book t d f
unfolding ask_book ◌>>=◌
ask_accepted a f = rw a.book refl

-- What an answer shows is what is asked, if it is so of a book that passed.
pub ask_shown : (t d : List ℕ) {A B : Type 0} (show : A → B) (f : LexOutput → A) (g : LexOutput → B)
    → (Accepted t d → show (f (book_at t (places t) d)) ≡ g (book_at t (places t) d)) → checked_map show (ask_book t d f) ≡ ask_book t d g
ask_shown t d {B = B} show f g h =
    by_bool (eqb (number_of (check_book t d)) 0)
    (λ e.
    let a = accepted_book t d (eqb-true (number_of (check_book t d)) 0 e) in
    ap (checked_map show) (sym (ask_accepted a f)) ∙ ap {B = Checked B} accepted (h a) ∙ ask_accepted a g)
    (λ e.
    let q = refusal_of (check_book t d) refl (eqb-false (number_of (check_book t d)) 0 e) in
    ap (checked_map show) (sym (ask_refused t d q f)) ∙ ask_refused t d q g)

-- ---- the two entries

module _ {t d : List ℕ} {p : Places} {st : Store} (a : Held t d p st) where
  pub allowed_said : {x : Bool} → x ≡ diagnostics_allow_incremental (records_at diagnostic_codec t p.diagnostics.at p.diagnostics.count)
      → accepted x ≡ ask_book t d (λ b. diagnostics_allow_incremental b.diagnostics)
  allowed_said e =
      ap {B = Checked Bool} accepted (e ∙ ap diagnostics_allow_incremental (held_diagnostics a))
      ∙ ask_accepted a.accepted (λ (b : LexOutput). diagnostics_allow_incremental b.diagnostics)

  pub node_said : (o : ℕ) {x : Option ℕ} → x ≡ found_of (node_at_source (records_at node_codec t p.nodes.at p.nodes.count) o)
      → accepted x ≡ ask_book t d (λ b. found_of (node_at_source b.source_nodes o))
  node_said o e =
      ap {B = Checked (Option ℕ)} accepted (e ∙ ap (λ ns. found_of (node_at_source ns o)) (held_nodes a))
      ∙ ask_accepted a.accepted (λ (b : LexOutput). found_of (node_at_source b.source_nodes o))
