use Rattle.strings.specs.Starts.{lengths_in, readable}
use Rattle.strings.specs.Shown.{span_of_start}
use Rattle.graft.specs.Strings.{header_inside, from_small_lem}
use native.Mathlib.Omega.{arith}
use Rattle.graft.proofs.string_from.Goals as goal

pub string_start-start-requires : goal.string_start-start-requires
string_start-start-requires c =
    let source = c.args.w.now.source in
    record {
      readable = readable _ _ source.framing _ source.fit.stored source.fit.few (omega arith);
      indexed = c.requires.indexed;
      id_lt_strings = c.requires.id_lt_strings;
    }

pub u32_at-text-requires : goal.u32_at-text-requires
u32_at-text-requires c =
    omega (arith, header_inside c.args.w.now.source)

pub u32_at-normalized-requires : goal.u32_at-normalized-requires
u32_at-normalized-requires c =
    omega (arith, header_inside c.args.w.now.source)

pub overflow_add-result-2 : goal.overflow_add-result-2
overflow_add-result-2 c =
    omega (arith, c.u32_at-text.ensures, c.u32_at-normalized.ensures, span_of_start (lengths_in _) _ c.string_start-start.ensures, from_small_lem c.args.w.now.source _ c.requires.id_lt_strings)

pub returns : goal.returns
returns c =
    omega (arith, c.u32_at-text.ensures, c.u32_at-normalized.ensures, span_of_start (lengths_in _) _ c.string_start-start.ensures)
