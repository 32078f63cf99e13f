-- Every book that a tape of bytes holds is one whose numbers fit.
use Rattle.std.specs.Prelude.{◌≡◌, ℕ, ◌+◌, ◌*◌, ◌<◌, Bool, true, false, length, take, drop, ltb}
use Rattle.std.proofs.Math.Path.{refl, ap, subst}
use Rattle.std.proofs.Common.{◌∙◌, length-take, lt-ltb, ltb-true, ltb-false}
use native.Mathlib.Omega.{arith}
use Rattle.std.proofs.Math.Bool.{not}
use Rattle.std.proofs.Math.Option.{some}
use mathlib.Core.List.{List, [], ◌∷◌}
use Rattle.std.proofs.Math.ListN.{get_or-eq_default}
use Rattle.model.specs.Lists.{all, is_empty}
use Rattle.model.specs.Bytes.{AreBytes, byte_at, word_at}
use Rattle.model.specs.Types.{LexOutput}
use Rattle.model.specs.Tape.{Operand, Operand.byte, Operand.word, operand_size, value_at, Codec, record_size, operands_at, record_at, records_at, string_codec, content_codec, segment_codec, node_codec, pair_codec, container_codec, diagnostic_codec}
use Rattle.model.specs.Tape.{LayerPlaces, places, string_lengths, pieces, layer_at, layers_at, book_at, parse}
use Rattle.facts.specs.Truth.{both, join}
use Rattle.facts.specs.Keep.{all_tabulated}
use Rattle.laws.specs.Fits.{is_word, operand_fits, operands_fit, record_fits, layer_fits, fits}
use Rattle.laws.specs.Records.{Lawful, content_lawful, segment_lawful, node_lawful, pair_lawful, container_lawful, diagnostic_lawful}
use Rattle.laws.specs.RoundTrip.{parse_laid_out}
use Rattle.laws.specs.WriteRead.{fits_book}

module _ (t : List ℕ) (bytes : AreBytes t) where
  -- also past the end, where it is 0
  pub byte_small : (p : ℕ) → byte_at t p < 256
  byte_small p = go (ltb p (length t)) refl
    where
      go : (x : Bool) → ltb p (length t) ≡ x → byte_at t p < 256
      go true e = bytes.byte p (ltb-true p (length t) e)
      go false e = rw (get_or-eq_default t 0 (ltb-false p (length t) e)) (omega arith)

  pub word_small : (p : ℕ) → word_at t p < 4294967296
  unfolding word_at
  word_small p =
      let a = byte_small p in
      let b = byte_small (p + 1) in
      let c = byte_small (p + 2) in
      let d = byte_small (p + 3) in
      omega arith

  value_fits : (o : Operand) (p : ℕ) → operand_fits o (value_at o t p) ≡ true
  value_fits byte p = lt-ltb (byte_at t p) 256 (byte_small p)
  value_fits word p = lt-ltb (word_at t p) 4294967296 (word_small p)

  operands_fit_lem : (os : List Operand) (p k : ℕ) → operands_fit os (operands_at os t p k) ≡ true
  unfolding operands_fit operands_at
  operands_fit_lem [] p k = refl
  operands_fit_lem (o ∷ os) p k = join (operand_fits o (value_at o t (p + k))) _ (value_fits o (p + k)) (operands_fit_lem os p (k + operand_size o))

  record_fits_lem : {A : Type 0} (c : Codec A) → Lawful c → (p : ℕ) → record_fits c (record_at c t p) ≡ true
  unfolding record_fits
  record_fits_lem c lawful p = ap (operands_fit c.operands) (lawful.read t p) ∙ operands_fit_lem c.operands p 1

  records_fit : {A : Type 0} (c : Codec A) → Lawful c → (p n : ℕ) → all (record_fits c) (records_at c t p n) ≡ true
  unfolding records_at
  records_fit c lawful p n = all_tabulated (record_fits c) n (λ i. record_at c t (p + record_size c * i)) (λ i. record_fits_lem c lawful (p + record_size c * i))

  -- a part of the bytes is as long as a word says, or shorter
  take_fits : (n : ℕ) (d : List ℕ) → n < 4294967296 → is_word (length (take n d)) ≡ true
  take_fits n d h = lt-ltb (length (take n d)) 4294967296 (let e = length-take n d in omega arith)

  pieces_fit : (ns d : List ℕ) → all is_word ns ≡ true → all (λ (s : List ℕ). is_word (length s)) (pieces ns d) ≡ true
  unfolding pieces
  pieces_fit [] d ok = refl
  pieces_fit (n ∷ ns) d ok =
      let f = both (is_word n) (all is_word ns) ok in
      join (is_word (length (take n d))) _ (take_fits n d (ltb-true n 4294967296 f.0)) (pieces_fit ns (drop n d) f.1)

  lengths_fit : (l : LayerPlaces) → all is_word (string_lengths t l) ≡ true
  unfolding string_lengths records_at string_codec record_at operands_at
  lengths_fit l = all_tabulated is_word l.string_count _ (λ i. value_fits word (l.strings_at + 5 * i + 1))

  layers_fit : (ls : List LayerPlaces) (d : List ℕ) → all layer_fits (layers_at t ls d) ≡ true
  unfolding layers_at layer_at layer_fits
  layers_fit [] d = refl
  layers_fit (l ∷ ls) d =
      join (layer_fits (layer_at t l d)) (all layer_fits (layers_at t ls _))
      (rw (pieces_fit (string_lengths t l) d (lengths_fit l), records_fit content_codec content_lawful l.contents_at l.content_count, records_fit segment_codec segment_lawful l.segments_at l.segment_count))
      (layers_fit ls _)

  layers_there : (ls : List LayerPlaces) (d : List ℕ) → is_empty (layers_at t ls d) ≡ is_empty ls
  unfolding layers_at
  layers_there [] d = refl
  layers_there (l ∷ ls) d = refl

  -- a book read from a tape of bytes fits
  pub read_fits_lem : (d : List ℕ) (b : LexOutput) → parse t d ≡ some b → fits b ≡ true
  unfolding book_at
  read_fits_lem d b e =
      let r = parse_laid_out t d b e in
      let p = places t in
      let laid = r.0 in
      subst (λ (k : LexOutput). fits k ≡ true) r.1 (fits_book (book_at t p d) (record {
        sanitized = take_fits (word_at t 1) d (word_small 1);
        normalized = take_fits (word_at t 5) (drop (word_at t 1) d) (word_small 5);
        layered = ap not (layers_there p.layers _) ∙ laid.layered;
        layers = layers_fit p.layers _;
        source_nodes = records_fit node_codec node_lawful p.nodes_at p.node_count;
        pairs = records_fit pair_codec pair_lawful p.pairs_at p.pair_count;
        container_pairs = records_fit container_codec container_lawful p.containers_at p.container_count;
        diagnostics = records_fit diagnostic_codec diagnostic_lawful p.diagnostics_at p.diagnostic_count;
        shape = laid.shape;
      }))
