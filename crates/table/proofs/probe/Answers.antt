use Rattle.table.specs.Slots.{turn_first, turn_empty, turn_hit, turn_on, turn_none}
use Rattle.table.specs.Layout.{wide_words, strings_of}
use Rattle.model.specs.Lists.{same}
use mathlib.Core.Path.{◌≡◌, sym, ap, ◌∙◌}
use mathlib.Core.List.{List}
use Prim.Native.Nat.{ℕ}
use native.Mathlib.Omega.{arith}
use Rattle.table.proofs.probe.Goals as goal

pub loop-k-init : goal.loop-k-init
loop-k-init c =
    (c.requires.from_in_bounds, turn_first (strings_of (wide_words c.args.starts.now) c.args.strs.now) c.args.s.now c.args.table.now _ _)

pub returns-then-e-eq0 : goal.returns-then-e-eq0
returns-then-e-eq0 c =
    sym (turn_empty (strings_of (wide_words c.args.starts.now) c.args.strs.now) c.args.s.now c.args.table.now _ _ _ c.loop-k-test.true c.if-e-eq0.true) ∙ c.loop-k.invariant.1

pub string_at-requires : goal.string_at-requires
string_at-requires c =
    record {
      starts = c.requires.starts;
      id_in_bounds = omega (arith, c.requires.entries c.loop-k.at (omega arith));
    }

pub returns-then-same : goal.returns-then-same
returns-then-same c =
    sym (turn_hit (strings_of (wide_words c.args.starts.now) c.args.strs.now) c.args.s.now c.args.table.now _ _ _ c.loop-k-test.true c.if-e-eq0.false (ap (λ (l : List ℕ). same l c.args.s.now) (sym c.string_at.ensures) ∙ sym c.same.ensures ∙ c.if-same.true)) ∙ c.loop-k.invariant.1

pub loop-k-preserved : goal.loop-k-preserved
loop-k-preserved c =
    (c.next_slot-at.ensures.1, turn_on (strings_of (wide_words c.args.starts.now) c.args.strs.now) c.args.s.now c.args.table.now _ _ _ c.loop-k-test.true c.next_slot-at.ensures.0 c.if-e-eq0.false (ap (λ (l : List ℕ). same l c.args.s.now) (sym c.string_at.ensures) ∙ sym c.same.ensures ∙ c.if-same.false) ∙ c.loop-k.invariant.1)

pub returns : goal.returns
returns c =
    let e : c.args.most ≡ c.loop-k.k = omega arith in
    (λ i. record { at = c.loop-k.at; slot = 0; steps = e i })
    ∙ sym (turn_none (strings_of (wide_words c.args.starts.now) c.args.strs.now) c.args.s.now c.args.table.now _ _ _ (omega (arith, e))) ∙ c.loop-k.invariant.1
