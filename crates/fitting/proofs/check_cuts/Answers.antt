use native.Mathlib.Omega.{arith}
use mathlib.Core.Path.{refl}
use Rattle.tape.specs.Held.{held_texts_inside}
use Rattle.fitting.specs.Reading.{refused_15, refused_16, refused_17, refused_none}
use Rattle.fitting.proofs.check_cuts.Goals as goal

pub returns-then-introduces_ruby_format_dependency : goal.returns-then-introduces_ruby_format_dependency
returns-then-introduces_ruby_format_dependency c =
    λ e. refused_15 c.requires c.args.reading.now e c.introduces_ruby_format_dependency.ensures c.if-introduces_ruby_format_dependency.true

pub slice_bounds-normalized-end : goal.slice_bounds-normalized-end
slice_bounds-normalized-end c =
    omega (arith, held_texts_inside c.args.book.now.held)

pub returns-then-not-cuts_ok : goal.returns-then-not-cuts_ok
returns-then-not-cuts_ok c =
    λ e. refused_16 c.requires c.args.reading.now e c.introduces_ruby_format_dependency.ensures c.if-introduces_ruby_format_dependency.false refl refl
    c.cuts_ok.ensures c.if-not-cuts_ok.true

pub returns-then-layer_missing : goal.returns-then-layer_missing
returns-then-layer_missing c =
    λ e. refused_17 c.requires c.args.reading.now e c.introduces_ruby_format_dependency.ensures c.if-introduces_ruby_format_dependency.false refl refl
    c.cuts_ok.ensures c.if-not-cuts_ok.false c.layer_missing.ensures c.if-layer_missing.true

pub returns : goal.returns
returns c =
    λ e. refused_none c.requires c.args.reading.now e c.introduces_ruby_format_dependency.ensures c.if-introduces_ruby_format_dependency.false refl refl
    c.cuts_ok.ensures c.if-not-cuts_ok.false c.layer_missing.ensures c.if-layer_missing.false
