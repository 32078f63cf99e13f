-- The code's tables, and that they hold the rows, labels and word labels of Table.antt.
use Rattle.std.specs.Prelude.{◌≡◌, refl, ℕ, zero, suc, ◌+◌, ◌≤◌, ◌<◌, Bool, true, ◌&&◌, List, [], ◌∷◌, length, get_or, leb, ltb, eqb}
use Rattle.std.proofs.Common.{sym, ap, ◌∙◌, arith, leb-true, ltb-true}
use Rattle.std.proofs.Math.Option.{Option}
use Rattle.std.proofs.lemmas.List.{length-map}
use mathlib.Core.List.{map}
use Rattle.model.specs.Lists.{all}
use Rattle.facts.specs.Truth.{both, by_bool}
use Rattle.facts.specs.Keep.{all_get}
use Rattle.model.specs.Offset.{Span}
use Rattle.model.specs.Bytes.{byte_at}
use Rattle.listing.specs.declared.tables.Part.{Part as CodePart}
use Rattle.listing.specs.declared.tables.Part.TheVariants.{Before, Region, Behind, Whole}
use Rattle.listing.specs.declared.tables.Shows.{Shows as CodeShows}
use Rattle.listing.specs.declared.tables.Shows.TheVariants.{LabelOnly, Ordinal, OwnString, Byte, Word, Name, StringId, BodyWord, RegionStart, RegionEnd, TextPart}
use Rattle.listing.specs.declared.tables.Field.{Field as CodeField}
use Rattle.listing.specs.Table.{Shows, Shows.label_only, Shows.ordinal, Shows.own_string, Shows.byte, Shows.word, Shows.name, Shows.string_id, Shows.body_word, Shows.region_start, Shows.region_end, Shows.text_part, Field, labels, rows, word_labels, sizes}
use Rattle.listing.specs.Listing.{Item, word_item, shown}

abbrev pub part_number : CodePart → ℕ
part_number Before = 0
part_number Region = 1
part_number Behind = 2
part_number Whole = 3

abbrev pub shows_of : CodeShows → Shows
shows_of LabelOnly = label_only
shows_of Ordinal = ordinal
shows_of OwnString = own_string
shows_of (Byte k) = byte k
shows_of (Word k) = word k
shows_of (Name first k) = name first k
shows_of (StringId k) = string_id k
shows_of (BodyWord k i) = body_word k i
shows_of RegionStart = region_start
shows_of RegionEnd = region_end
shows_of (TextPart part) = text_part (part_number part)

abbrev pub field_of : CodeField → Field
field_of f = record { label = f.0.now; shows = shows_of f.1 }

-- an entry of a table whose every entry is mapped
pub get_map : {A B : Type 0} (f : A → B) (l : List A) (i : ℕ) (default : A) → f (get_or l i default) ≡ get_or (map f l) i (f default)
get_map f [] i default = refl
get_map f (x ∷ xs) zero default = refl
get_map f (x ∷ xs) (suc i) default = get_map f xs i default

-- ---- what is known of every field

-- a word of a body is one of six
abbrev sixth : Shows → Bool
sixth label_only = true
sixth ordinal = true
sixth own_string = true
sixth (byte k) = true
sixth (word k) = true
sixth (name first k) = true
sixth (string_id k) = true
sixth (body_word k i) = ltb i 6
sixth region_start = true
sixth region_end = true
sixth (text_part k) = true

unfoldable pub field_fits : Field → Bool
field_fits f = leb (length f.label) 24 && sixth f.shows

pub field_short : (f : Field) → field_fits f ≡ true → length f.label ≤ 24
unfolding field_fits
field_short f e = leb-true (length f.label) 24 (both (leb (length f.label) 24) (sixth f.shows) e).0

pub sixth_word : (f : Field) → field_fits f ≡ true → {k i : ℕ} → f.shows ≡ body_word k i → i < 6
unfolding field_fits
sixth_word f e {k} {i} q = ltb-true i 6 (sym (ap sixth q) ∙ (both (leb (length f.label) 24) (sixth f.shows) e).1)

-- no row has more fields than these
unfoldable pub row_fits : List Field → Bool
row_fits fields = leb (length fields) 15 && all field_fits fields

same_default : (l : List ℕ) (i a b : ℕ) → i < length l → get_or l i a ≡ get_or l i b
same_default [] i a b h = absurd (omega arith)
same_default (x ∷ xs) zero a b h = refl
same_default (x ∷ xs) (suc i) a b h = same_default xs i a b (omega arith)

rows_fit : (r : ℕ) → row_fits (get_or rows r []) ≡ true
unfolding rows row_fits field_fits
rows_fit r = all_get row_fits rows r [] refl refl

pub size_some : (i : ℕ) → 1 ≤ get_or sizes i 1
unfolding sizes
size_some i = leb-true 1 (get_or sizes i 1) (all_get (λ (n : ℕ). leb 1 n) sizes i 1 refl refl)

pub size_small : (i : ℕ) → get_or sizes i 0 < 256
unfolding sizes
size_small i = ltb-true (get_or sizes i 0) 256 (all_get (λ (n : ℕ). ltb n 256) sizes i 0 refl refl)

pub size_read : (i : ℕ) → i ≤ 10 → get_or sizes i 0 ≡ get_or sizes i 1
unfolding sizes
size_read i h = same_default sizes i 0 1 (omega (arith, h))

pub label_short : (i : ℕ) → length (get_or labels i []) ≤ 24
unfolding labels
label_short i = leb-true (length (get_or labels i [])) 24 (all_get (λ (l : List ℕ). leb (length l) 24) labels i [] refl refl)

pub row_few_fields : (r : ℕ) → length (get_or rows r []) ≤ 15
unfolding row_fits
row_few_fields r = leb-true (length (get_or rows r [])) 15 (both (leb (length (get_or rows r [])) 15) (all field_fits (get_or rows r [])) (rows_fit r)).0

get_all : {A : Type 0} (p : A → Bool) (l : List A) (i : ℕ) (default : A) → all p l ≡ true → i < length l → p (get_or l i default) ≡ true
get_all p [] i default e h = absurd (omega arith)
get_all p (x ∷ xs) zero default e h = (both (p x) (all p xs) e).0
get_all p (x ∷ xs) (suc i) default e h = get_all p xs i default (both (p x) (all p xs) e).1 (omega arith)

-- a field of a row, as the code has it
pub row_field : (r : ℕ) (fields : List CodeField) → map field_of fields ≡ get_or rows r [] → (i : ℕ) (default : CodeField) → i < length fields → field_fits (field_of (get_or fields i default)) ≡ true
unfolding row_fits
row_field r fields e i default h =
    let fit = (both (leb (length (get_or rows r [])) 15) (all field_fits (get_or rows r [])) (rows_fit r)).1 in
    rw (get_map field_of fields i default)
    (get_all field_fits (map field_of fields) i (field_of default) (ap (all field_fits) e ∙ fit) (let l : length (map field_of fields) ≡ length fields = length-map fields field_of in omega (arith, l, h)))

word_labels_fit : all (all (λ (l : List ℕ). leb (length l) 24)) word_labels ≡ true
unfolding word_labels
word_labels_fit = refl

word_label_short : (kind i : ℕ) → length (get_or (get_or word_labels kind []) i []) ≤ 24
word_label_short kind i =
    let row = all_get (all (λ (l : List ℕ). leb (length l) 24)) word_labels kind [] word_labels_fit refl in
    leb-true (length (get_or (get_or word_labels kind []) i [])) 24 (all_get (λ (l : List ℕ). leb (length l) 24) (get_or word_labels kind []) i [] row refl)

word_item_short : (kind use' i w : ℕ) → length (word_item kind use' i w).label ≤ 24
unfolding word_item
word_item_short kind use' i w = by_bool (eqb use' 0) (λ e. rw e (omega arith)) (λ e. rw e (word_label_short kind i))

module _ (t : List ℕ) (m : Option Span) (p n : ℕ) (l : List ℕ) (h : length l ≤ 24) where
  by_shows : (s : Shows) → length (shown t m p n l s).label ≤ 24
  unfolding shown
  by_shows label_only = h
  by_shows ordinal = h
  by_shows own_string = h
  by_shows (byte k) = h
  by_shows (word k) = h
  by_shows (name first k) = label_short (first + byte_at t (p + k))
  by_shows (string_id k) = h
  by_shows (body_word k i) = word_item_short _ _ i _
  by_shows region_start = h
  by_shows region_end = h
  by_shows (text_part k) = h

-- what a field shows has a short label
pub shown_short : (t : List ℕ) (m : Option Span) (p n : ℕ) (f : Field) → field_fits f ≡ true → {x : Item} → x ≡ shown t m p n f.label f.shows → length x.label ≤ 24
shown_short t m p n f e q = rw q (by_shows t m p n f.label (field_short f e) f.shows)
