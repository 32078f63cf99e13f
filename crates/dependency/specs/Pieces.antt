-- A run of nodes in pieces, and the bases of two pieces.
use Rattle.std.specs.Prelude.{◌≡◌, ℕ, zero, suc, ◌+◌, ◌-◌, ◌*◌, ◌≤◌, false, ◌||◌, List, [], ◌∷◌, ◌++◌, refl}
use Rattle.std.proofs.Common.{sym, ap, ap₂, ◌∙◌, arith, add-zero, append_assoc, append-nil}
use Rattle.std.proofs.Math.Option.{Option, none, some}
use Rattle.model.specs.Lists.{all, tabulate}
use Rattle.model.specs.Types.{SourceNode}
use Rattle.model.specs.Store.{NodeStore}
use Rattle.model.specs.Tape.{record_at, records_at, node_codec}
use Rattle.model.specs.WellFormed.{node_ok}
use Rattle.facts.specs.Lists.{tabulate_last}
use Rattle.facts.specs.Keep.{any_append_is, all_right}
use Rattle.records.specs.Runs.{run_before}
use Rattle.strings.specs.declared.lent.Strings.{Strings}
use Rattle.dependency.specs.Bases.{has_base, among_bases}
use Rattle.ruby_formats.specs.Sound.{layers_of, Sound}

-- ---- a run in two

tabulate_join : (i n : ℕ) (f g : ℕ → SourceNode) → ((k : ℕ) → f (i + k) ≡ g k) → tabulate (i + n) f ≡ tabulate i f ++ tabulate n g
tabulate_join i zero f g h = ap (λ (k : ℕ). tabulate k f) (add-zero i) ∙ sym (append-nil (tabulate i f))
tabulate_join i (suc n) f g h =
    let e : i + suc n ≡ suc (i + n) = omega arith in
    ap (λ (k : ℕ). tabulate k f) e ∙ tabulate_last (i + n) f
    ∙ ap₂ (λ (l : List SourceNode) (x : SourceNode). l ++ (x ∷ [])) (tabulate_join i n f g h) (h n)
    ∙ append_assoc (tabulate i f) (tabulate n g) (g n ∷ [])
    ∙ ap (λ (l : List SourceNode). tabulate i f ++ l) (sym (tabulate_last n g))

pub run_join : (t : List ℕ) (at i n : ℕ) → records_at node_codec t at (i + n) ≡ records_at node_codec t at i ++ records_at node_codec t (at + 49 * i) n
unfolding records_at node_codec
run_join t at i n =
    tabulate_join i n (λ (k : ℕ). record_at node_codec t (at + 49 * k)) (λ (k : ℕ). record_at node_codec t (at + 49 * i + 49 * k))
    (λ k. let e : at + 49 * (i + k) ≡ at + 49 * i + 49 * k = omega arith in ap (record_at node_codec t) e)

-- n nodes from the one numbered i on
pub sound_piece : {ss : Strings} {at count : ℕ} → Sound ss at count → (i n : ℕ) → i + n ≤ count → Sound ss (at + 49 * i) n
sound_piece {ss} {at} {count} s i n h =
    let t = ss.tape.now in
    let ok = node_ok (layers_of ss) in
    let e : count ≡ i + (count - i) = omega arith in
    let whole : records_at node_codec t at count ≡ records_at node_codec t at i ++ records_at node_codec t (at + 49 * i) (count - i)
    = ap (records_at node_codec t at) e ∙ run_join t at i (count - i) in
    record {
      contents = s.contents;
      nodes =
          run_before node_codec ok t (at + 49 * i) (count - i) n
          (all_right ok (records_at node_codec t at i) (records_at node_codec t (at + 49 * i) (count - i)) (sym (ap (all ok) whole) ∙ s.nodes)) (omega arith);
      inside = omega (arith, s.inside, h);
      small = s.small;
    }

-- ---- bases of both

pub among_join : (st : NodeStore) (a b : List SourceNode) (p : Option (List ℕ)) → among_bases st (a ++ b) p ≡ among_bases st a p || among_bases st b p
unfolding among_bases
among_join st a b none = refl
among_join st a b (some s) = any_append_is (has_base st s) a b

pub among_none : (st : NodeStore) (p : Option (List ℕ)) → among_bases st [] p ≡ false
unfolding among_bases
among_none st none = refl
among_none st (some s) = refl
