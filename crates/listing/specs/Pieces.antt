-- The code's items, as the items of Listing.antt.
use Rattle.std.specs.Prelude.{◌≡◌, ℕ, ◌≤◌, ◌<◌, List, [], get_or, Option, Some, None, is_some}
use Rattle.std.proofs.Math.Option as maybe
use Rattle.std.proofs.Math.Path.{refl}
use borrow.Author.Tests.{ne_eqb, le-leb, lt-leb}
use Rattle.model.specs.Offset as model
use Rattle.span.specs.declared.Span.{Span}
use Rattle.span.specs.Values.{span_of}
use Rattle.listing.specs.declared.Value.{Value as CodeValue}
use Rattle.listing.specs.declared.Value.TheVariants.{Nothing, Number, Str, Text}
use Rattle.listing.specs.declared.Item.{Item as CodeItem}
use Rattle.listing.specs.Table.{word_labels}
use Rattle.listing.specs.Listing.{Value, Value.no_value, Value.number, Value.string, Value.text, Item, item, marked, word_item}

abbrev pub mark_of : Option Span → maybe.Option model.Span
mark_of None = maybe.none
mark_of (Some r) = maybe.some (span_of r)

abbrev pub value_of : CodeValue → Value
value_of Nothing = no_value
value_of (Number n) = number n
value_of (Str id) = string id
value_of (Text from to) = text from to

abbrev pub item_of : CodeItem → Item
item_of x = item x.0.now (value_of x.1)

pub marked_is : (m : Option Span) → is_some m ≡ marked (mark_of m)
marked_is None = refl
marked_is (Some r) = refl

-- ---- a word of a body by its use

module _ (kind use' i w : ℕ) where
  pub word_unused : use' ≡ 0 → item [] no_value ≡ word_item kind use' i w
  unfolding word_item
  word_unused z = rw z refl

  module _ (h : use' ≡ 0 → ⊥) {l : List ℕ} (q : l ≡ get_or (get_or word_labels kind []) i []) {a : ℕ} (p : a ≡ w) where
    pub word_string : use' ≤ 2 → item l (string a) ≡ word_item kind use' i w
    unfolding word_item
    word_string g = rw (ne_eqb use' 0 h, le-leb use' 2 g, q, p) refl

    pub word_number : 2 < use' → item l (number a) ≡ word_item kind use' i w
    unfolding word_item
    word_number g = rw (ne_eqb use' 0 h, lt-leb use' 2 g, q, p) refl
