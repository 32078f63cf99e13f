use Rattle.std.proofs.Common.{refl, arith}
use Rattle.refusal.specs.declared.Refusal.TheVariants.{OverLimit}
use Rattle.refusal.specs.Refusal.{handed_on, number_bounds}
use Rattle.places.specs.Walked.{fit_layers}
use Rattle.tape.specs.Numbers.{framed_places, framed_frame, framed_fits, framed_store, framed_none, texts_three, texts_pass, book_texts, book_pools, book_places}
use Rattle.tape.specs.Opened.{laid_refused, laid_held}
use Rattle.tape.proofs.opened.Goals as goal

pub store_if-store-requires : goal.store_if-store-requires
store_if-store-requires c =
    framed_fits _ _ c.requires

pub invariant_of-layers : goal.invariant_of-layers
invariant_of-layers c =
    record { counted = fit_layers (framed_places _ _ c.requires); stored = λ s e. (framed_store _ _ c.requires c.store_if-store.ensures s e).0 }

pub returns-in_default : goal.returns-in_default
returns-in_default c =
    let l = c.in_ok-check_layers.ensures in
    laid_refused l.0 OverLimit (book_texts _ (texts_three _ l.1 (framed_none _ _ c.requires c.store_if-store.ensures c.in_default.not-Some)) (omega arith))

pub check_pools-requires : goal.check_pools-requires
check_pools-requires c =
    ((framed_store _ _ c.requires c.store_if-store.ensures _ c.in-Some.is).0, framed_places _ _ c.requires)

pub returns-in_err-check_pools : goal.returns-in_err-check_pools
returns-in_err-check_pools c =
    let l = c.in_ok-check_layers.ensures in
    let three = texts_pass _ l.1 (framed_store _ _ c.requires c.store_if-store.ensures _ c.in-Some.is).1 in
    rw (handed_on _ c.from_residual-in_err-check_pools.ensures.1) (laid_refused l.0 _ (book_pools _ three refl (c.in_err-check_pools.ensures _) (number_bounds _).0))

pub check_places-requires : goal.check_places-requires
check_places-requires c =
    framed_places _ _ c.requires

pub returns-in_err-check_places : goal.returns-in_err-check_places
returns-in_err-check_places c =
    let l = c.in_ok-check_layers.ensures in
    let three = texts_pass _ l.1 (framed_store _ _ c.requires c.store_if-store.ensures _ c.in-Some.is).1 in
    rw (handed_on _ c.from_residual-in_err-check_places.ensures.1)
    (laid_refused l.0 _ (book_places _ three refl (c.in_ok-check_pools.ensures _) refl (c.in_err-check_places.ensures _ (framed_frame _ _ c.requires))))

pub invariant_of-result-clause-held : goal.invariant_of-result-clause-held
invariant_of-result-clause-held c =
    let l = c.in_ok-check_layers.ensures in
    let s = framed_store _ _ c.requires c.store_if-store.ensures _ c.in-Some.is in
    laid_held l.0 s.0.stored (book_places _ (texts_pass _ l.1 s.1) refl (c.in_ok-check_pools.ensures _) refl (c.in_ok-check_places.ensures _ (framed_frame _ _ c.requires))) refl
