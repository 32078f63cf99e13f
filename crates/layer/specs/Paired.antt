-- The pairs of a source's long strings, as its walk asks for them.
use Rattle.std.specs.Prelude.{◌≡◌, List, ℕ}
use Rattle.std.proofs.Common.{ap}
use Rattle.model.specs.Store.{store_of, resolve_str}
use Rattle.model.specs.Tape.{book_at}
use Rattle.strings.specs.declared.lent.Strings.{Strings}
use Rattle.strings.specs.Lent.{lent_store, string_in}
use Rattle.tape.specs.declared.book.Book.{Book}
use Rattle.tape.specs.StringBytes.{StringsOf}
use Rattle.representatives.specs.Pairs.{Pairs}
use Rattle.graft.specs.Named.{source_store}

module _ {b : Book} {ss : Strings} (s : StringsOf b ss) where
  parts_store : lent_store ss ≡ source_store b.tape.now b.bytes.now
  unfolding book_at
  parts_store = ap store_of s.layers

  pub words_paired : {words : List ℕ} → Pairs (string_in ss) words → Pairs (resolve_str (source_store b.tape.now b.bytes.now)) words
  words_paired x = rw (← parts_store) x
