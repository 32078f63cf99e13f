-- Records moved.
use Rattle.std.specs.Prelude.{◌≡◌, refl, ℕ, ◌+◌, ℤ}
use Rattle.std.proofs.Math.Path.{ap}
use Rattle.std.proofs.Math.Option.{Option, none, some, get_or}
use Rattle.model.specs.Types.{SourceNode, PairLink, ContainerPair, Diagnostic}
use Rattle.model.specs.Tape.{record_bytes, operand_bytes, node_codec, container_codec}
use Rattle.model.specs.Offset.{shift_u32}
use Rattle.model.specs.Merge.{MergeWindow, node_located, pair_located, container_located, diagnostic_located, shifted_pair, shifted_diagnostic, moved_offset}
use Rattle.put_records.specs.Written.{word_rest}
use Rattle.splice.specs.Window.{span_in, normalized_in}
use Rattle.splice.specs.Parts.{as_in}
use Rattle.splice.specs.declared.Part.{Part}
use Rattle.splice.specs.declared.Part.TheVariants.{Before, Reading, Behind}

-- ---- each kind in a part, field by field

pub pair_as_in : (w : MergeWindow) (p : Part) (x : PairLink)
    → record { kind = x.kind; opening = span_in w p x.opening; closing = span_in w p x.closing } ≡ as_in pair_located w p x
unfolding span_in as_in pair_located shifted_pair
pair_as_in w Before x = refl
pair_as_in w Reading x = refl
pair_as_in w Behind x = refl

pub diagnostic_as_in : (w : MergeWindow) (p : Part) (x : Diagnostic)
    → record { kind = x.kind; code_rank = x.code_rank; span = span_in w p x.span; plain = x.plain } ≡ as_in diagnostic_located w p x
unfolding span_in as_in diagnostic_located shifted_diagnostic
diagnostic_as_in w Before x = refl
diagnostic_as_in w Reading x = refl
diagnostic_as_in w Behind x = refl

pub container_as_in : (w : MergeWindow) (p : Part) (x : ContainerPair)
    → record_bytes container_codec (record { plain = x.plain; opening = normalized_in w p x.opening; closing = normalized_in w p x.closing })
    ≡ record_bytes container_codec (as_in container_located w p x)
unfolding record_bytes operand_bytes container_codec normalized_in as_in container_located
container_as_in w Before x = refl
container_as_in w Reading x = rw (word_rest (x.opening + w.normalized.start), word_rest (x.closing + w.normalized.start)) refl
container_as_in w Behind x = refl

pub node_as_in : (w : MergeWindow) (p : Part) (n : SourceNode)
    → record_bytes node_codec (record {
      class = n.class;
      inline = n.inline;
      source_span = span_in w p n.source_span;
      normalized_offset = normalized_in w p n.normalized_offset;
      body = n.body;
    }) ≡ record_bytes node_codec (as_in node_located w p n)
unfolding record_bytes operand_bytes node_codec span_in normalized_in as_in node_located
node_as_in w Before n = refl
node_as_in w Reading n = rw (word_rest (n.normalized_offset + w.normalized.start)) refl
node_as_in w Behind n = refl

-- ---- an offset of the old rest, as `shift_u32` answers

module _ (o : ℕ) (by : ℤ) where
  pub moved_some : (n : ℕ) → some n ≡ shift_u32 o by → n ≡ moved_offset o by
  unfolding moved_offset
  moved_some n e = ap (λ (x : Option ℕ). get_or x 0) e

  pub moved_none : none ≡ shift_u32 o by → 0 ≡ moved_offset o by
  unfolding moved_offset
  moved_none e = ap (λ (x : Option ℕ). get_or x 0) e
