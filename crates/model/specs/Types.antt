-- What a tape holds, as values: section 4's records, the layers of section 3's store, and the book.
use Rattle.std.specs.Prelude.{ℕ, List}
use Rattle.model.specs.Offset.{Span}

-- Section 4. A body: what a `Node` or a text holds, of a segment or of a node. `words` are six.
pub record Body : Type 0 where
  pub kind : ℕ
  pub tag : ℕ
  pub plain1 : ℕ
  pub plain2 : ℕ
  pub words : List ℕ

-- Section 4. `Content`: tag 0 Plain has an id and 0, tag 1 Segments has start and length of a run of segments.
pub record Content : Type 0 where
  pub tag : ℕ
  pub first : ℕ
  pub second : ℕ

-- Section 4. `Segment`: tag 0 Text, 1 Gaiji, 2 Directive, 3 Node.
pub record Segment : Type 0 where
  pub tag : ℕ
  pub level : ℕ
  pub body : Body

-- Section 3. A layer of a store: its own strings, contents and segments. In the Rust one `NodeStore` of the base chain.
pub record Layer : Type 0 where
  pub strings : List (List ℕ)
  pub contents : List Content
  pub segments : List Segment

-- Section 4. `SourceNode`, with its `NodeRef`: class 0 Inline, 1 BlockLeaf, 2 BlockOpen, 3 BlockClose.
pub record SourceNode : Type 0 where
  pub class : ℕ
  pub inline : ℕ
  pub source_span : Span
  pub normalized_offset : ℕ
  pub body : Body

-- Section 4. `PairLink`; `open` is a word of antt.
pub record PairLink : Type 0 where
  pub kind : ℕ
  pub opening : Span
  pub closing : Span

-- Section 4. `ContainerPair`, in normalized offsets; `plain` stands for its `RegionFormat`.
pub record ContainerPair : Type 0 where
  pub plain : ℕ
  pub opening : ℕ
  pub closing : ℕ

-- Section 4. `Diagnostic`; `code_rank` is the place of `code()` among all codes in byte order.
pub record Diagnostic : Type 0 where
  pub kind : ℕ
  pub code_rank : ℕ
  pub span : Span
  pub plain : ℕ

-- `LexOutput`: document 01's book. `sanitized` is its text.
pub record LexOutput : Type 0 where
  pub sanitized : List ℕ
  pub normalized : List ℕ
  pub layers : List Layer
  pub source_nodes : List SourceNode
  pub pairs : List PairLink
  pub container_pairs : List ContainerPair
  pub diagnostics : List Diagnostic

-- `RegionOutput`: document 01's reading. It has the same parts, its text among them; its offsets count from the region's start.
abbrev pub RegionOutput : Type 0
RegionOutput = LexOutput
