-- For each return of the code: a refusal, or the flat book where it stands.
use Rattle.std.specs.Prelude.{◌≡◌, refl, ℕ, ◌+◌, ◌-◌, ◌≤◌, ◌<◌, Bool, true, false, ◌&&◌, List, ◌++◌, length, take, drop, leb, Option, Some, None}
use Rattle.std.proofs.Common.{sym, ap, ap₂, ◌∙◌, subst, arith, true≢false, length-append, length-drop, length-take-le, take_all, zero-add}
use Rattle.std.proofs.Math.Nat.{sub-zero}
use mathlib.Core.List.{flatten}
use borrow.Author.Tests.{leb-true, le-leb}
use Rattle.model.specs.Bytes.{AreBytes}
use Rattle.model.specs.Types.{SourceNode}
use Rattle.model.specs.Refusal.{Checked, Checked.refused, Checked.accepted, ◌>>=◌}
use Rattle.model.specs.Tape.{tape_of, bytes_of}
use Rattle.model.specs.WellFormed.{check_book}
use Rattle.model.specs.Graft.{With}
use Rattle.model.specs.Merge.{Stored, stored_of, Room, room_of, stored_book}
use Rattle.model.specs.Demand3.{shown}
use Rattle.model.specs.Flatten.{flat_checked, flatten_book}
use Rattle.facts.specs.Truth.{both}
use Rattle.wire.specs.Overwrite.{overwrite, take_overwrite, Wrote, wrote_next}
use Rattle.places.specs.declared.Places.{Places}
use Rattle.store.specs.declared.Store.{Store}
use Rattle.tape.specs.declared.book.Book.{Book}
use Rattle.tape.specs.Held.{Held, held_texts_inside}
use Rattle.tape.specs.Opened.{BookOf}
use Rattle.tape.specs.StringBytes.{book_of}
use Rattle.copy.specs.declared.Copied.{Copied}
use Rattle.layer.specs.declared.Grafted.{Grafted}
use Rattle.layer.specs.Layered.{grafted_into, layer_records, LayerFits, layer_fits_lem, layer_ok_lem}
use Rattle.layer.specs.Answers.{LayerMade, LayerTold}
use Rattle.flatten.specs.Answer.{Written, written_refused, written_accepted}
use Rattle.flatten.specs.Flat.{zero_totals, same_graft, old, new, g, first, inside, nodes_end, sizes, flat_tape, flat_bytes, flat_tape_length, flat_bytes_length, FlatFits, flat_accepted, flat_refused}

-- ---- numbers 1 to 7

module _ (t d : List ℕ) (room : Room) where
  pub flatten_refused : {n : ℕ} → check_book t d ≡ refused n → flatten_book (stored_of t d) room ≡ refused n
  unfolding flatten_book ◌>>=◌
  flatten_refused e = rw e refl

module _ {t d : List ℕ} {b : Book} (h : BookOf t d b) where
  pub flatten_passed : (room : Room) → flatten_book (stored_of t d) room ≡ flat_checked (shown (book_of b)) room
  unfolding flatten_book ◌>>=◌
  flatten_passed room = ap₂ (λ (x y : List ℕ). flatten_book (stored_of x y) room) (sym h.tape) (sym h.bytes) ∙ rw b.held.accepted.book refl

  -- the tape is of bytes
  pub opened_bytes : AreBytes t → AreBytes b.tape.now
  opened_bytes are = subst AreBytes (sym h.tape) are

-- ---- number 18 before the graft

-- The work words, both texts and the head have room.
abbrev pub has_room : ℕ → ℕ → ℕ → ℕ → Bool
has_room text tape bytes work = leb 16384 work && leb text bytes && leb 9 tape

pub record RoomFor (text tape bytes work : ℕ) : Type 0 where
  pub words : 16384 ≤ work
  pub texts : text ≤ bytes
  pub head : 9 ≤ tape

pub room_for : (text tape bytes work : ℕ) → has_room text tape bytes work ≡ true → RoomFor text tape bytes work
room_for text tape bytes work e =
    let u = both (leb 16384 work && leb text bytes) (leb 9 tape) e in
    let v = both (leb 16384 work) (leb text bytes) u.0 in
    record { words = leb-true 16384 work v.0; texts = leb-true text bytes v.1; head = leb-true 9 tape u.1 }

room_has : (text tape bytes work : ℕ) → RoomFor text tape bytes work → has_room text tape bytes work ≡ true
room_has text tape bytes work r = rw (le-leb 16384 work r.words, le-leb text bytes r.texts, le-leb 9 tape r.head) refl

module _ {t d : List ℕ} {p : Places} {st : Store} (are : AreBytes t) (h : Held t d p st) (out text work : List ℕ) where
  abbrev room : Room
  room = room_of out text work

  abbrev asked : Checked Stored
  asked = flat_checked (shown (old are h)) room

  abbrev Told : Checked Copied → List ℕ → List ℕ → Type 0
  Told = Written asked

  none : (FlatFits are h room → ⊥) → {out' text' : List ℕ} → Told (refused 18) out' text'
  none f {out'} {text'} = written_refused asked out' text' (flat_refused are h room f)

  pub no_room : {x : Bool} → x ≡ has_room (first are h) (length out) (length text) (length work) → x ≡ false → Told (refused 18) out text
  no_room e z =
      none (λ f.
      let r : RoomFor (first are h) (length out) (length text) (length work) = record { words = f.words; texts = omega (arith, f.layer.bytes); head = omega (arith, f.tape) } in
      true≢false (sym (e ∙ room_has (first are h) (length out) (length text) (length work) r) ∙ z))

  -- ---- the graft

  module _ {out₁ text₁ out₂ text₂ : List ℕ} {r : Option Grafted} (n₁ : length out₁ ≡ length out) (n₂ : length text₁ ≡ length text)
      (grafted : LayerTold out₁ text₁ out₂ text₂ 9 (first are h) zero_totals r (grafted_into t d zero_totals)) where
    told : LayerTold out₁ text₁ out₂ text₂ 9 (first are h) zero_totals r (g are h)
    told = subst (λ (x : With (List SourceNode)). LayerTold out₁ text₁ out₂ text₂ 9 (first are h) zero_totals r x) (same_graft t d) grafted

    pub no_graft : r ≡ None → {out' text' : List ℕ} → Told (refused 18) out' text'
    no_graft e =
        none (λ f. let l = f.layer in true≢false (
        layer_ok_lem (length out₁) (length text₁) 9 (first are h) zero_totals (g are h) (record {
          few = l.few;
          strings = l.strings;
          contents = l.contents;
          segments = l.segments;
          tape = omega (arith, l.tape, n₁);
          bytes = omega (arith, l.bytes, n₂);
        })
        ∙ sym told.room ∙ rw e refl))

    module _ {l : Grafted} (some : r ≡ Some l) where
      made : LayerMade out₁ text₁ out₂ text₂ 9 (first are h) l (g are h)
      made = told.made l some

      fits : LayerFits (length out₁) (length text₁) 9 (first are h) zero_totals (g are h)
      fits = layer_fits_lem (length out₁) (length text₁) 9 (first are h) zero_totals (g are h) (sym told.room ∙ rw some refl)

      -- where the lists go
      abbrev pub lists_at : ℕ
      lists_at = 9 + l.len + (p.pairs.at - p.nodes.at)

      made_length : lists_at ≡ 9 + length (layer_records (g are h))
      made_length =
          let z = sizes are h in omega (arith, made.len, z.layer, z.bytes, nodes_end are h)

      pub lists_inside : lists_at ≤ length out
      lists_inside = omega (arith, made_length, fits.tape, n₁)

      pub no_lists : length out - lists_at < length t - p.pairs.at → {out' text' : List ℕ} → Told (refused 18) out' text'
      no_lists k = none (λ f. omega (arith, k, f.tape, made_length, inside are h))

      module _ (w₁ : out₁ ≡ overwrite out 0 (take (9 - 0) t)) (w₂ : text₁ ≡ overwrite text 0 (take (first are h - 0) d))
          (rooms : RoomFor (first are h) (length out) (length text) (length work)) (k : length t - p.pairs.at ≤ length out - lists_at)
          {out₃ : List ℕ} (w₃ : out₃ ≡ overwrite out₂ lists_at (take (length t - p.pairs.at) (drop p.pairs.at t))) where
        flat : FlatFits are h room
        flat = record {
          layer = record { few = fits.few; strings = fits.strings; contents = fits.contents; segments = fits.segments; tape = omega (arith, fits.tape, n₁); bytes = omega (arith, fits.bytes, n₂) };
          tape = omega (arith, k, made_length, lists_inside);
          words = rooms.words;
        }

        -- head, layer and lists, one behind the other
        tape_stands : take (length (tape_of (new are h))) out₃ ≡ tape_of (new are h)
        tape_stands =
            let ls = drop p.pairs.at t in
            let ks = layer_records (g are h) in
            let m₁ = length-take-le 9 t (inside are h).0 in
            let m₂ = length-append (take 9 t) ks in
            let m₃ = length-drop p.pairs.at t in
            let a : Wrote out 0 (take 9 t) out₁ = record { is = w₁ } in
            let b = wrote_next a 9 ks made.wrote (omega (arith, m₁)) (omega (arith, fits.tape, n₁)) in
            let c = wrote_next b lists_at ls (w₃ ∙ ap (overwrite out₂ lists_at) (take_all (length t - p.pairs.at) ls (omega (arith, m₃)))) (omega (arith, m₁, m₂, made_length))
            (omega (arith, m₃, k, lists_inside)) in
            let i : out₃ ≡ overwrite out 0 (tape_of (new are h)) = c.is ∙ ap (overwrite out 0) (sym (flat_tape are h)) in
            ap (take (length (tape_of (new are h)))) i
            ∙ ap (λ (n : ℕ). take n (overwrite out 0 (tape_of (new are h)))) (sym (zero-add (length (tape_of (new are h)))))
            ∙ take_overwrite out 0 (tape_of (new are h)) (omega (arith, flat.tape, flat_tape_length are h))

        bytes_stand : take (length (bytes_of (new are h))) text₂ ≡ bytes_of (new are h)
        bytes_stand =
            let f = first are h in
            let m = length-take-le f d (held_texts_inside h) in
            let x : take f text₁ ≡ take f d
            = ap (take f) (w₂ ∙ ap (λ (n : ℕ). overwrite text 0 (take n d)) (sub-zero f))
            ∙ ap (λ (n : ℕ). take n (overwrite text 0 (take f d))) (sym m ∙ sym (zero-add (length (take f d)))) ∙ take_overwrite text 0 (take f d) (omega (arith, m, rooms.texts)) in
            ap (λ (n : ℕ). take n text₂) (flat_bytes_length are h) ∙ made.bytes ∙ ap (λ (l : List ℕ). l ++ flatten (g are h).1.interner.strings) x ∙ sym (flat_bytes are h)

        pub flat_written : {n : ℕ} → n ≡ length t - p.pairs.at → Told (accepted (record { tape = lists_at + n; bytes = l.state.used })) out₃ text₂
        unfolding stored_book
        flat_written {n} e =
            written_accepted asked (stored_book (new are h)) out₃ text₂ (flat_accepted are h room flat)
            (omega (arith, e, made_length, flat_tape_length are h)) (omega (arith, made.used, flat_bytes_length are h)) tape_stands bytes_stand
