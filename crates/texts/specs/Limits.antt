-- Number 3 by the numbers that `places_of` found.
use Rattle.std.specs.Prelude.{◌≡◌, refl, ℕ, Bool, true, ◌&&◌, List, leb}
use Rattle.model.specs.Limits.{max_text, max_pool, max_list, max_layers}
use Rattle.model.specs.Tape.{places, book_at}
use Rattle.model.specs.WellFormed.{within_limits}
use Rattle.places.specs.declared.Places.{Places}
use Rattle.places.specs.Found.{holds, found}
use Rattle.places.specs.Again.{frame}
use Rattle.store.specs.Lengths.{book_lengths}

-- Number 3. Texts, pools, lists and layers are few enough.
unfoldable pub few_enough : Places → Bool
few_enough p =
    leb p.text.0 max_text && leb p.normalized.0 max_text
    && leb p.strings max_pool && leb p.contents max_pool && leb p.segments max_pool
    && leb p.nodes.count max_list && leb p.pairs.count max_list && leb p.containers.count max_list && leb p.diagnostics.count max_list
    && leb p.layers max_layers

-- Where the frame holds this is number 3 of the book.
pub few_within : (t d : List ℕ) (p : Places) → holds t d ≡ true → p ≡ found t → few_enough p ≡ within_limits (book_at t (places t) d)
unfolding few_enough within_limits
few_within t d p h e =
    let l = book_lengths t d p (frame t d h) e in
    rw (l.text, l.normalized, l.strings, l.contents, l.segments, l.nodes, l.pairs, l.containers, l.diagnostics, l.layers) refl
