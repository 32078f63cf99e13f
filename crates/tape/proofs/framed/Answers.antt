use Rattle.std.proofs.Common.{◌≡◌, refl, sym, List, ℕ, Option, Some, None, MatchResult, ok_or}
use Rattle.places.specs.declared.Places.{Places}
use Rattle.places.specs.Found.{places_of}
use Rattle.places.specs.Again.{places_none}
use Rattle.refusal.specs.declared.Refusal.TheVariants.{Layout}
use Rattle.tape.specs.Numbers.{IsNoBook}
use Rattle.tape.proofs.framed.Goals as goal

there : (t d : List ℕ) (o : Option Places) → o ≡ places_of t d → MatchResult (ok_or o Layout) (λ p. places_of t d ≡ Some p) (λ refusal. IsNoBook t d refusal)
there t d (Some p) e = sym e
there t d None e = record { is = refl; unread = places_none t d (sym e) }

pub returns : goal.returns
returns c =
    rw c.ok_or.ensures.value (there c.args.tape.now c.args.bytes.now c.places_of.result c.places_of.ensures)
