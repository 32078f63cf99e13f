use Rattle.std.proofs.Common.{refl, sym, ◌∙◌, arith}
use Rattle.sorted_ids.specs.Row.{sorted_cut}
use Rattle.representatives.specs.Pairs.{pairs_put, paired_known, paired_new}
use Rattle.representatives.specs.Ordered.{ordered_put}
use Rattle.representatives.proofs.pair_string.Goals as goal

pub invariant_of-own : goal.invariant_of-own
invariant_of-own c = record { sorted = sorted_cut c.requires.row }

pub put_pair-requires : goal.put_pair-requires
put_pair-requires c = record {
  n_bound = c.requires.n_bound;
  representative_bound = omega (arith, c.in-Some.ensures.0, c.requires.m_in_bounds.2);
}

pub returns-in-Some : goal.returns-in-Some
returns-in-Some c =
    let own = c.resolve_str.ensures.resolved in
    let put = c.put_pair.ensures in
    let room = c.requires.n_bound.1 in record {
      paired = paired_known (pairs_put _ _ _ _ room c.requires.pairs (sym own ∙ sym c.in-Some.ensures.1) put) c.requires.row;
      ordered_2 = ordered_put _ _ _ _ room c.requires.ordered put;
    }

pub put_pair-requires-2 : goal.put_pair-requires-2
put_pair-requires-2 c = record {
  n_bound = c.requires.n_bound;
  representative_bound = omega (arith, c.requires.m_in_bounds);
}

pub returns : goal.returns
returns c =
    let put = c.put_pair-2.ensures in
    let room = c.requires.n_bound.1 in record {
      paired = paired_new (pairs_put _ _ _ _ room c.requires.pairs refl put) c.insert.ensures;
      ordered_2 = ordered_put _ _ _ _ room c.requires.ordered put;
    }
