-- The strings that `Strings` has at hand.
use Rattle.std.specs.Prelude.{ℕ, List, ◌++◌}
use Rattle.model.specs.Store.{NodeStore, resolve_str}
use Rattle.strings.specs.Starts.{store_in}
use Rattle.strings.specs.declared.lent.Strings.{Strings}

-- the store that has them
abbrev pub lent_store : Strings → NodeStore
lent_store ss = store_in ss.tape.now (ss.old.now ++ ss.new.now)

abbrev pub string_in : Strings → ℕ → List ℕ
string_in ss id = resolve_str (lent_store ss) id
