-- Number 2 whole: the two texts, and behind them the strings.
use Rattle.std.specs.Prelude.{◌≡◌, ℕ, ◌+◌, ◌≤◌, Bool, true, false, ◌&&◌, List, [], length, take, drop}
use Rattle.std.proofs.Math.Path.{refl, ap}
use Rattle.std.proofs.Common.{sym, ◌∙◌, arith, drop_of_length-le, drop-drop}
use Rattle.std.proofs.Math.Bool.{and-false}
use Rattle.std.proofs.lemmas.Bool.{false≢true}
use Rattle.model.specs.Lists.{all}
use Rattle.model.specs.Bytes.{word_at}
use Rattle.model.specs.Utf8.{utf8, utf8_from, is_between}
use Rattle.model.specs.Tape.{places, bytes_needed, book_at, layers_at}
use Rattle.model.specs.WellFormed.{texts_are_utf8}
use Rattle.facts.specs.Truth.{both, by_bool}
use Rattle.laws.specs.RoundTrip.{string_bytes}
use Rattle.laws.specs.Utf8.{utf8_behind}
use Rattle.places.specs.declared.Places.{Places}
use Rattle.places.specs.Found.{found}
use Rattle.places.specs.Again.{Frame}
use Rattle.texts.specs.Layers.{layer_utf8, layers_behind}

utf8_none : utf8 [] ≡ true
unfolding utf8 utf8_from is_between
utf8_none = refl

module _ (t d : List ℕ) (p : Places) (e : p ≡ found t) where
  text_is : p.text.0 ≡ word_at t 1
  unfolding found
  text_is = ap (λ (x : Places). x.text.0) e

  normalized_is : p.normalized.0 ≡ word_at t 5
  unfolding found
  normalized_is = ap (λ (x : Places). x.normalized.0) e

  module _ (f : Frame t d) where
    -- nothing stands behind the strings
    full : length d ≡ p.text.0 + p.normalized.0 + string_bytes t (places t).layers
    unfolding bytes_needed
    full = let a = text_is in let b = normalized_is in omega (arith, a, b, f.bytes)

    pub texts_fit : p.text.0 + p.normalized.0 + string_bytes t (places t).layers ≤ length d
    texts_fit = let a = full in omega (arith, a)

    -- both texts stand in the bytes
    pub texts_inside : p.text.0 + p.normalized.0 ≤ length d
    texts_inside = let a = full in omega (arith, a)

  whole : texts_are_utf8 (book_at t (places t) d)
      ≡ (utf8 (take p.text.0 d) && utf8 (take p.normalized.0 (drop p.text.0 d)) && all layer_utf8 (layers_at t (places t).layers (drop (p.text.0 + p.normalized.0) d)))
  unfolding texts_are_utf8 book_at
  whole = rw (text_is, normalized_is) refl

  -- where the texts and strings are UTF-8 all bytes are
  together : Frame t d → texts_are_utf8 (book_at t (places t) d) ≡ true → utf8 d ≡ true
  together h u =
      let e = sym whole ∙ u in
      let ls = (places t).layers in
      let n = p.text.0 + p.normalized.0 in
      let x = both (utf8 (take p.text.0 d) && utf8 (take p.normalized.0 (drop p.text.0 d))) (all layer_utf8 (layers_at t ls (drop n d))) e in
      let y = both (utf8 (take p.text.0 d)) (utf8 (take p.normalized.0 (drop p.text.0 d))) x.0 in
      let z = full h in
      utf8_behind p.text.0 d y.0 ∙ utf8_behind p.normalized.0 (drop p.text.0 d) y.1 ∙ ap utf8 (drop-drop p.normalized.0 p.text.0 d)
      ∙ layers_behind t ls (drop n d) x.1
      ∙ ap utf8 (drop-drop (string_bytes t ls) n d ∙ drop_of_length-le d {i = n + string_bytes t ls} (omega (arith, z)))
      ∙ utf8_none

  pub bytes_bad : {r : Bool} → Frame t d → r ≡ utf8 d → r ≡ false → false ≡ texts_are_utf8 (book_at t (places t) d)
  bytes_bad {r} h f q =
      by_bool (texts_are_utf8 (book_at t (places t) d)) (λ u. absurd (false≢true (sym (sym f ∙ q) ∙ together h u))) (λ u. sym u)

  module _ {a : Bool} (f : a ≡ utf8 (take p.text.0 d)) where
    pub text_bad : a ≡ false → false ≡ texts_are_utf8 (book_at t (places t) d)
    text_bad q = sym (whole ∙ rw (sym f ∙ q) refl)

    pub text_behind : {r : Bool} → r ≡ utf8 d → r ≡ true → a ≡ true → utf8 (drop p.text.0 d) ≡ true
    text_behind {r} u v q = sym (utf8_behind p.text.0 d (sym f ∙ q)) ∙ sym u ∙ v

    module _ {b : Bool} (g : b ≡ utf8 (take p.normalized.0 (drop p.text.0 d))) where
      pub normalized_bad : b ≡ false → false ≡ texts_are_utf8 (book_at t (places t) d)
      normalized_bad q = sym (whole ∙ rw (sym g ∙ q, and-false) refl)

      -- as the strings are asked for
      pub texts_behind : {r : Bool} → r ≡ utf8 d → r ≡ true → a ≡ true → b ≡ true → utf8 (drop (p.text.0 + p.normalized.0) d) ≡ true
      texts_behind {r} u v q w =
          ap utf8 (sym (drop-drop p.normalized.0 p.text.0 d)) ∙ sym (utf8_behind p.normalized.0 (drop p.text.0 d) (sym g ∙ w)) ∙ text_behind u v q

      pub texts_strings : {r : Bool} → a ≡ true → b ≡ true → r ≡ all layer_utf8 (layers_at t (places t).layers (drop (p.text.0 + p.normalized.0) d))
          → r ≡ texts_are_utf8 (book_at t (places t) d)
      texts_strings {r} q u v = v ∙ sym (whole ∙ rw (sym f ∙ q, sym g ∙ u) refl)
