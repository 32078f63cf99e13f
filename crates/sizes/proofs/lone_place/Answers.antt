use Rattle.std.proofs.Common.{arith}
use Rattle.sizes.specs.Lone.{lone_layers, lone_later, lone_none, lone_found}
use Rattle.sizes.proofs.lone_place.Goals as goal

pub returns-then-st-ne1 : goal.returns-then-st-ne1
returns-then-st-ne1 c =
    lone_layers c.args.st.now c.args.i c.if-st-ne1.true

pub returns-then-st-ne0 : goal.returns-then-st-ne0
returns-then-st-ne0 c =
    lone_later c.args.st.now c.args.i c.if-st-ne1.false c.if-st-ne0.true

pub returns-then-st-i : goal.returns-then-st-i
returns-then-st-i c =
    lone_none c.args.st.now c.args.i c.if-st-ne1.false c.if-st-ne0.false c.if-st-i.true

pub returns : goal.returns
returns c =
    lone_found c.args.st.now c.args.i c.if-st-ne1.false c.if-st-ne0.false c.if-st-i.false (omega arith)
