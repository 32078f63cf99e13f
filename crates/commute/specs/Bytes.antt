-- Why demand 3 says that tapes and buffers are bytes: without it the statement is false. The definitions speak of lists of
-- numbers. A reading whose tape has the number 256 in the last byte of a code rank holds a rank of 2 ^ 32, which a merge sorts
-- by and then writes as 0; the next merge sorts by 0.
use Rattle.std.specs.Prelude.{◌≡◌, refl, ℕ, List, [], ◌∷◌, ◌++◌}
use Rattle.std.proofs.Common.{sym, ap, ◌∙◌, arith}
use Rattle.model.specs.Lists.{ascii}
use Rattle.model.specs.Bytes.{word_bytes}
use Rattle.model.specs.Intern.{no_stats}
use Rattle.model.specs.Types.{Diagnostic, LexOutput}
use Rattle.model.specs.Refusal.{Checked, Checked.refused, Checked.accepted}
use Rattle.model.specs.WellFormed.{check_book}
use Rattle.model.specs.Merge.{Stored, IncrementalOutput, stored_book, merge}
use Rattle.model.specs.Runs.{program_room}
use Rattle.model.specs.Demand3.{Shown, shown, Correction, moved_behind, Separate, BothOrders, Commutes}
use Rattle.model.specs.Examples.{plain_book}
use Rattle.model.specs.Computed.{computed}

-- `Demand3` of lists of any numbers
unfoldable pub Demand3OfNumbers : Type 0
Demand3OfNumbers =
    (stored : Stored) (book : LexOutput) → check_book stored.tape stored.bytes ≡ accepted book
    → (earlier later : Correction) → Separate book earlier later
    → (orders : BothOrders stored earlier later)
    → Commutes book stored earlier later orders

abbrev book : LexOutput
book = plain_book (ascii "aa\n\nbb\n\ncc")

-- "xa\n\n", with two diagnostics at 0..1: one with 256 in its rank's last byte and plain word 7, one with rank 5 and plain word 8
abbrev earlier : Correction
earlier = record {
  edit = record { start = 0; end = 1; replacement = ascii "x" };
  reading = record {
    tape = 1 ∷ word_bytes 4 ++ (word_bytes 4 ++ (2 ∷ 9 ∷ 0 ∷ 0 ∷ 0 ∷ 0 ∷ 256 ∷ word_bytes 0 ++ (word_bytes 1 ++ (word_bytes 7
        ++ (9 ∷ 0 ∷ word_bytes 5 ++ (word_bytes 0 ++ (word_bytes 1 ++ (word_bytes 8 ++ (10 ∷ [])))))))));
    bytes = ascii "xa\n\nxa\n\n";
  };
}

-- "xc"
abbrev later : Correction
later = record {
  edit = record { start = 8; end = 9; replacement = ascii "x" };
  reading = stored_book (plain_book (ascii "xc"));
}

abbrev got : Checked IncrementalOutput → IncrementalOutput
got (refused n) = record { output = stored_book book; region = record { start = 0; end = 0 }; reused_nodes = 0; reparsed_nodes = 0; stats = no_stats }
got (accepted m) = m

abbrev m₁ : IncrementalOutput
m₁ = got (merge (stored_book book) earlier.edit earlier.reading program_room)

abbrev m₂ : IncrementalOutput
m₂ = got (merge m₁.output (moved_behind earlier.edit later.edit) later.reading program_room)

abbrev m₃ : IncrementalOutput
m₃ = got (merge (stored_book book) later.edit later.reading program_room)

abbrev m₄ : IncrementalOutput
m₄ = got (merge m₃.output earlier.edit earlier.reading program_room)

orders : BothOrders (stored_book book) earlier later
unfolding computed moved_behind
orders = record {
  room₁ = program_room;
  room₂ = program_room;
  room₃ = program_room;
  room₄ = program_room;
  earlier_first = m₁;
  later_second = m₂;
  later_first = m₃;
  earlier_second = m₄;
  merge₁ = refl;
  merge₂ = refl;
  merge₃ = refl;
  merge₄ = refl;
}

apart : Separate book earlier later
unfolding computed
apart = record {
  earlier_region = record { start = 0; end = 4 };
  later_region = record { start = 8; end = 10 };
  earlier_chosen = refl;
  later_chosen = refl;
  apart = omega arith;
}

-- the plain word of a book's first diagnostic
abbrev mark : List Diagnostic → ℕ
mark [] = 0
mark (d ∷ ds) = d.plain

abbrev mark_of : Checked LexOutput → ℕ
mark_of (refused n) = 0
mark_of (accepted b) = mark b.diagnostics

mark₁ : mark_of (check_book orders.later_second.output.tape orders.later_second.output.bytes) ≡ 7
unfolding computed orders moved_behind
mark₁ = refl

mark₂ : mark_of (check_book orders.earlier_second.output.tape orders.earlier_second.output.bytes) ≡ 8
unfolding computed orders moved_behind
mark₂ = refl

clash : Commutes book (stored_book book) earlier later orders → ⊥
unfolding shown
clash c =
    let a = sym mark₁ ∙ ap mark_of c.holds₁ in
    let b = sym mark₂ ∙ ap mark_of c.holds₂ in
    let e = ap (λ (s : Shown). mark s.diagnostics) c.equal_books in
    omega arith

accepted_book : check_book (stored_book book).tape (stored_book book).bytes ≡ accepted book
unfolding computed
accepted_book = refl

pub bytes_needed_lem : Demand3OfNumbers → ⊥
unfolding Demand3OfNumbers
bytes_needed_lem h = clash (h (stored_book book) book accepted_book earlier later apart orders)
