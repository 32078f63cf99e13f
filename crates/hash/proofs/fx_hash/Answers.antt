use Rattle.std.proofs.Common.{◌≡◌, ℕ, ◌+◌, ◌<◌, ◌≤◌, List, length, get_or, drop, sym, refl, ap, ◌∙◌, add-one, drop_of_length-le, drop-cons}
use Rattle.model.specs.Intern.{fx_step, fx_from, fx_hash}
use Rattle.hash.proofs.fx_hash.Goals as goal

turn : (h i : ℕ) (bs : List ℕ) → i < length bs → fx_from (fx_step h (get_or bs i 0)) (drop (i + 1) bs) ≡ fx_from h (drop i bs)
unfolding fx_from
turn h i bs lt = rw (add-one, drop-cons bs i 0) refl

done : (h i : ℕ) (bs : List ℕ) → length bs ≤ i → fx_from h (drop i bs) ≡ h
unfolding fx_from
done h i bs le = rw (drop_of_length-le bs le) refl

pub loop-b-preserved : goal.loop-b-preserved
loop-b-preserved c =
    let l = c.loop-b in
    let bs = c.args.bytes.now in
    ap (λ (k : ℕ). fx_from k (drop (l.b-index + 1) bs)) c.fx_step-h.ensures
    ∙ turn l.h l.b-index bs c.loop-b-test.true
    ∙ l.invariant

pub returns : goal.returns
unfolding fx_hash
returns c =
    sym (done _ _ _ c.loop-b-test.false) ∙ c.loop-b.invariant
