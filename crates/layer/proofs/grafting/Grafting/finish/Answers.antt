use Rattle.layer.specs.Answers.{finish_refused, finish_made, strings_room}
use Rattle.std.proofs.Common.{◌-◌, length, arith}
use Rattle.layer.proofs.grafting.Grafting.finish.Goals as goal

pub returns-then-not-strings_fit : goal.returns-then-not-strings_fit
returns-then-not-strings_fit c =
    rw (← c.layer_length-len.ensures, ← c.nodes_length-rest.ensures) (finish_refused c.strings_fit.ensures c.if-not-strings_fit.true)

pub lay_out-requires : goal.lay_out-requires
lay_out-requires c =
    let len = c.layer_length-len in
    let rest = c.nodes_length-rest in
    let x = strings_room c.args.self.now.to.below.strings c.args.m.state.count (length c.args.out.now - c.args.self.now.to.at - len.result - rest.result)
    c.strings_fit.ensures c.if-not-strings_fit.false in
    record { rising = c.requires.rising; count_in_bounds = (omega (arith, x.1, c.requires.fits.1, len.ensures, rest.ensures), c.requires.fits.0) }

pub returns : goal.returns
returns c =
    rw (← c.layer_length-len.ensures, ← c.nodes_length-rest.ensures) (finish_made c.strings_fit.ensures c.if-not-strings_fit.false c.lay_out.ensures)
