use Rattle.std.proofs.Common.{refl, sym, ◌∙◌, arith}
use Rattle.graft.specs.Named.{shows_by, is_answered}
use Rattle.graft.specs.Strings.{id_small, str_answer_lem, str_refused}
use Rattle.graft.proofs.graft_str.Goals as goal

pub intern_str-requires : goal.intern_str-requires
intern_str-requires c =
    let shows = shows_by _ _ c.args.w.now.paired _ c.representative-known.ensures.by_index in
    record {
      indexed = c.requires.indexed;
      good = c.requires.good.0;
      id_lt_strings = (c.requires.id_lt_strings.0, c.requires.id_lt_strings.1);
      last = λ e. is_answered _ _ c.args.work.now c.args.strs.now c.args.m.now c.requires.good.1 _ _ shows (sym c.is_answered-is_last.ensures ∙ e);
    }

pub returns-in_err-string : goal.returns-in_err-string
returns-in_err-string c =
    λ out. rw c.from_residual.ensures (str_refused _ _ _ _ _ _ _ _ _ _ out _ refl c.in_err-string.ensures)

pub overflow_add-result : goal.overflow_add-result
overflow_add-result c =
    omega (arith, id_small c.args.w.now.plan c.args.m.now _ _ _ _ _ _ _ c.in_ok-string.ensures, c.requires.id_lt_strings.2)

pub returns : goal.returns
returns c =
    let shows = shows_by _ _ c.args.w.now.paired _ c.representative-known.ensures.by_index in
    λ out.
    str_answer_lem _ _ _ _ _ _ _ _ _ _ out _ refl c.requires.good.0 c.intern_str.auto.strs
    c.representative-known.result shows c.in_ok-string.string c.in_ok-string.ensures
