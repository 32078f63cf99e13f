-- The answers of the entries as C has them: a number of the table, or 0 and the values. What an answer does not have is 0.
use Rattle.std.specs.Prelude.{◌≡◌, refl, ℕ, Bool, true, false, cond, eqb, Option, Some, None, Result, Ok, Err}
use Rattle.std.proofs.Common.{sym, ap, ◌∙◌, arith, ne_eqb}
use borrow.Author.Tests.{eqb-true}
use Rattle.model.specs.Offset.{Span}
use Rattle.model.specs.Refusal.{Checked, Checked.refused, Checked.accepted, number_of}
use Rattle.refusal.specs.declared.Refusal.{Refusal}
use Rattle.refusal.specs.Refusal.{number, checked, number_bounds}
use Rattle.lookup.specs.declared.RangeAt.{RangeAt}
use Rattle.lookup.specs.declared.StrAt.{StrAt}
use Rattle.copy.specs.declared.Copied.{Copied}
use Rattle.estimate.specs.declared.Price.{Price}
use Rattle.output.specs.declared.IncrementalOutput.{IncrementalOutput as Output}
use Rattle.output.specs.declared.BothOrders.{BothOrders}
use Rattle.output.specs.Answer.{Answers, answers_of}
use Rattle.answers.specs.declared.AllowedAnswer.{AllowedAnswer}
use Rattle.answers.specs.declared.NodeAnswer.{NodeAnswer}
use Rattle.answers.specs.declared.RangeAnswer.{RangeAnswer}
use Rattle.answers.specs.declared.StrAnswer.{StrAnswer}
use Rattle.answers.specs.declared.CopyAnswer.{CopyAnswer}
use Rattle.answers.specs.declared.RegionAnswer.{RegionAnswer}
use Rattle.answers.specs.declared.PriceAnswer.{PriceAnswer}
use Rattle.answers.specs.declared.MergeAnswer.{MergeAnswer}
use Rattle.answers.specs.declared.OrdersAnswer.{OrdersAnswer}

-- ---- told

abbrev pub allowed_answer : Checked Bool → AllowedAnswer
allowed_answer (refused n) = record { number = n; allowed = false }
allowed_answer (accepted x) = record { number = 0; allowed = x }

abbrev pub node_answer : Checked (Option ℕ) → NodeAnswer
node_answer (refused n) = record { number = n; found = false; node = 0 }
node_answer (accepted (Some i)) = record { number = 0; found = true; node = i }
node_answer (accepted None) = record { number = 0; found = false; node = 0 }

abbrev pub range_answer : Checked (Option RangeAt) → RangeAnswer
range_answer (refused n) = record { number = n; found = false; place = 0; count = 0 }
range_answer (accepted (Some r)) = record { number = 0; found = true; place = r.place; count = r.count }
range_answer (accepted None) = record { number = 0; found = false; place = 0; count = 0 }

abbrev pub str_answer : Checked (Option StrAt) → StrAnswer
str_answer (refused n) = record { number = n; found = false; start = 0; end = 0 }
str_answer (accepted (Some s)) = record { number = 0; found = true; start = s.start; end = s.end }
str_answer (accepted None) = record { number = 0; found = false; start = 0; end = 0 }

abbrev pub copy_answer : Checked Copied → CopyAnswer
copy_answer (refused n) = record { number = n; tape = 0; bytes = 0 }
copy_answer (accepted c) = record { number = 0; tape = c.tape; bytes = c.bytes }

abbrev pub region_answer : Checked Span → RegionAnswer
region_answer (refused n) = record { number = n; start = 0; end = 0 }
region_answer (accepted r) = record { number = 0; start = r.start; end = r.end }

abbrev pub price_answer : Checked Price → PriceAnswer
price_answer (refused n) = record { number = n; reread = 0; calls = 0; contents = 0; segments = 0; bytes = 0 }
price_answer (accepted p) = record { number = 0; reread = p.reread; calls = p.calls; contents = p.contents; segments = p.segments; bytes = p.bytes }

-- ---- read back: the caller tests the number, then `found`

unfoldable pub range_read : RangeAnswer → Checked (Option RangeAt)
range_read r = cond (eqb r.number 0) (accepted (cond r.found (Some (record { place = r.place; count = r.count })) None)) (refused r.number)

unfoldable pub str_read : StrAnswer → Checked (Option StrAt)
str_read r = cond (eqb r.number 0) (accepted (cond r.found (Some (record { start = r.start; end = r.end })) None)) (refused r.number)

range_back : (a : Result (Option RangeAt) Refusal) → range_read (range_answer (checked a)) ≡ checked a
unfolding range_read
range_back (Err r) = let b = number_bounds r in rw (ne_eqb (number r) 0 (λ e. omega (arith, e, b))) refl
range_back (Ok (Some x)) = refl
range_back (Ok None) = refl

str_back : (a : Result (Option StrAt) Refusal) → str_read (str_answer (checked a)) ≡ checked a
unfolding str_read
str_back (Err r) = let b = number_bounds r in rw (ne_eqb (number r) 0 (λ e. omega (arith, e, b))) refl
str_back (Ok (Some x)) = refl
str_back (Ok None) = refl

-- An answer told shows the records that it showed.
pub range_told : {B : Type 0} (a : Result (Option RangeAt) Refusal) {r : RangeAnswer} {x : Checked (Option RangeAt)} {asked : Checked B} → r ≡ range_answer (checked a)
    → (show : Checked (Option RangeAt) → Checked B) → (checked a ≡ x) × (show (checked a) ≡ asked) → (r ≡ range_answer x) × (show (range_read r) ≡ asked)
range_told a e show h = (e ∙ ap range_answer h.0, ap (λ y. show (range_read y)) e ∙ ap show (range_back a) ∙ h.1)

-- An answer told shows the string that it showed.
pub str_told : {B : Type 0} (a : Result (Option StrAt) Refusal) {r : StrAnswer} {x : Checked (Option StrAt)} {asked : Checked B} → r ≡ str_answer (checked a)
    → (show : Checked (Option StrAt) → Checked B) → (checked a ≡ x) × (show (checked a) ≡ asked) → (r ≡ str_answer x) × (show (str_read r) ≡ asked)
str_told a e show h = (e ∙ ap str_answer h.0, ap (λ y. show (str_read y)) e ∙ ap show (str_back a) ∙ h.1)

-- ---- merges

abbrev pub merge_answer : Checked Output → MergeAnswer
merge_answer (refused n) = record {
  number = n;
  start = 0;
  end = 0;
  reused = 0;
  reread = 0;
  calls = 0;
  cache_hits = 0;
  table_hits = 0;
  allocs = 0;
  long_bypass = 0;
  resizes = 0;
  probe_steps = 0;
  tape = 0;
  bytes = 0;
}
merge_answer (accepted a) = record {
  number = 0;
  start = a.start;
  end = a.end;
  reused = a.reused;
  reread = a.reread;
  calls = a.stats.calls;
  cache_hits = a.stats.cache_hits;
  table_hits = a.stats.table_hits;
  allocs = a.stats.allocs;
  long_bypass = a.stats.long_bypass;
  resizes = a.stats.resizes;
  probe_steps = a.stats.probe_steps;
  tape = a.tape;
  bytes = a.bytes;
}

abbrev pub orders_answer : Answers → OrdersAnswer
orders_answer r = record {
  earlier_first = merge_answer r.earlier_first;
  later_second = merge_answer r.later_second;
  later_first = merge_answer r.later_first;
  earlier_second = merge_answer r.earlier_second;
}

-- The answer of the entry, read back.
unfoldable pub output_read : MergeAnswer → Checked Output
output_read r =
    cond (eqb r.number 0)
    (accepted (record {
      start = r.start;
      end = r.end;
      reused = r.reused;
      reread = r.reread;
      stats = record {
        calls = r.calls;
        cache_hits = r.cache_hits;
        table_hits = r.table_hits;
        allocs = r.allocs;
        long_bypass = r.long_bypass;
        resizes = r.resizes;
        probe_steps = r.probe_steps;
      };
      tape = r.tape;
      bytes = r.bytes;
    }))
    (refused r.number)

abbrev pub orders_read : OrdersAnswer → Answers
orders_read r = record {
  earlier_first = output_read r.earlier_first;
  later_second = output_read r.later_second;
  later_first = output_read r.later_first;
  earlier_second = output_read r.earlier_second;
}

-- Its number is that of the struct.
pub number_read : (r : MergeAnswer) → number_of (output_read r) ≡ r.number
unfolding output_read number_of
number_read r = go (eqb r.number 0) refl
  where
    go : (b : Bool) → eqb r.number 0 ≡ b → number_of (output_read r) ≡ r.number
    go true e = rw e (sym (eqb-true r.number 0 e))
    go false e = rw e refl

output_back : (a : Result Output Refusal) → output_read (merge_answer (checked a)) ≡ checked a
unfolding output_read
output_back (Err r) = let b = number_bounds r in rw (ne_eqb (number r) 0 (λ e. omega (arith, e, b))) refl
output_back (Ok x) = refl

-- An answer told is read as the answer that was given.
pub merge_back : {r : MergeAnswer} (a : Result Output Refusal) → r ≡ merge_answer (checked a) → output_read r ≡ checked a
merge_back a e = ap output_read e ∙ output_back a

pub orders_back : {r : OrdersAnswer} (a : BothOrders) → r ≡ orders_answer (answers_of a) → orders_read r ≡ answers_of a
orders_back a e =
    λ i. record {
      earlier_first = merge_back a.earlier_first (ap (λ (x : OrdersAnswer). x.earlier_first) e) i;
      later_second = merge_back a.later_second (ap (λ (x : OrdersAnswer). x.later_second) e) i;
      later_first = merge_back a.later_first (ap (λ (x : OrdersAnswer). x.later_first) e) i;
      earlier_second = merge_back a.earlier_second (ap (λ (x : OrdersAnswer). x.earlier_second) e) i;
    }
