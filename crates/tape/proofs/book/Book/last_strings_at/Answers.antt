use Rattle.tape.specs.Held.{held_layers, held_readable}
use Rattle.tape.specs.StringBytes.{held_olds, held_place, held_cut}
use mathlib.Core.Path.{refl}
use native.Mathlib.Omega.{arith}
use Rattle.tape.proofs.book.Book.last_strings_at.Goals as goal

pub old_strings-olds-requires : goal.old_strings-olds-requires
old_strings-olds-requires c =
    held_layers c.args.self.now.held

pub start_from-requires : goal.start_from-requires
start_from-requires c =
    record {
      readable = held_readable c.args.self.now.held (omega arith);
      between = held_olds c.args.self.now.held c.old_strings-olds.ensures;
      start_value = refl;
    }

pub overflow_add-result : goal.overflow_add-result
overflow_add-result c =
    let k = held_cut c.args.self.now.held refl (held_place c.args.self.now.held _ c.start_from.ensures c.old_strings-olds.ensures refl) in omega (arith, k)

pub returns : goal.returns
returns c =
    held_place c.args.self.now.held _ c.start_from.ensures c.old_strings-olds.ensures refl
