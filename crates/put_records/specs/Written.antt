-- Records as they are written, part by part.
use Rattle.std.specs.Prelude.{◌≡◌, refl, ℕ, zero, suc, ◌≤◌, ◌+◌, ◌*◌, ◌%◌, ◌/◌, List, [], ◌∷◌, ◌++◌, length, get_or}
use lib.ListN.{length-append}
use Rattle.std.proofs.Common.{sym, ap, ◌∙◌, arith, append-nil, append_assoc}
use Rattle.model.specs.Bytes.{word_bytes}
use Rattle.model.specs.Offset.{Span}
use Rattle.model.specs.Types.{Body, Segment, SourceNode, PairLink, ContainerPair, Diagnostic}
use Rattle.model.specs.Tape.{record_bytes, operand_bytes, content_codec, segment_codec, node_codec, pair_codec, container_codec, diagnostic_codec}
use Rattle.facts.specs.Words.{word_length}
use Rattle.wire.specs.Overwrite.{overwrite, Wrote, wrote_next}

-- the bytes of a body's words
unfoldable pub words_bytes : List ℕ → List ℕ
words_bytes ws = word_bytes (get_or ws 0 0) ++ (word_bytes (get_or ws 1 0) ++ (word_bytes (get_or ws 2 0) ++ (word_bytes (get_or ws 3 0) ++ (word_bytes (get_or ws 4 0) ++ word_bytes (get_or ws 5 0)))))

-- the bytes of a span
unfoldable pub span_bytes : Span → List ℕ
span_bytes s = word_bytes s.start ++ word_bytes s.end

pub length_span : (s : Span) → length (span_bytes s) ≡ 8
unfolding span_bytes word_bytes
length_span s = refl

digit : (x y k : ℕ) → x ≡ 256 * k + y → y % 256 ≡ x % 256
digit x y k e = omega (arith, e)

-- a word's bytes are those of its rest by 2 to the 32
pub word_rest : (n : ℕ) → word_bytes (n % 4294967296) ≡ word_bytes n
unfolding word_bytes
word_rest n =
    let a : n % 4294967296 % 256 ≡ n % 256 = digit n (n % 4294967296) (16777216 * (n / 4294967296)) (omega arith) in
    let b : n % 4294967296 / 256 % 256 ≡ n / 256 % 256 = digit (n / 256) (n % 4294967296 / 256) (65536 * (n / 4294967296)) (omega arith) in
    let e : n % 4294967296 / 65536 % 256 ≡ n / 65536 % 256 = digit (n / 65536) (n % 4294967296 / 65536) (256 * (n / 4294967296)) (omega arith) in
    let f : n % 4294967296 / 16777216 % 256 ≡ n / 16777216 % 256 = digit (n / 16777216) (n % 4294967296 / 16777216) (n / 4294967296) (omega arith) in
    rw (a, b, e, f) refl

pub content_written : (d l : List ℕ) (at tag first second : ℕ) → Wrote d at ((((4 ∷ []) ++ (tag ∷ [])) ++ word_bytes first) ++ word_bytes second) l
    → l ≡ overwrite d at (record_bytes content_codec (record { tag = tag; first = first; second = second }))
unfolding record_bytes operand_bytes content_codec
content_written d l at tag first second w =
    w.is ∙ ap (overwrite d at) (append_assoc ((4 ∷ []) ++ (tag ∷ [])) (word_bytes first) (word_bytes second) ∙ ap (λ (x : List ℕ). 4 ∷ tag ∷ (word_bytes first ++ x)) (sym (append-nil (word_bytes second))))

-- the bytes of the first i words
unfoldable pub bytes_until : List ℕ → ℕ → List ℕ
bytes_until ws zero = []
bytes_until ws (suc i) = bytes_until ws i ++ word_bytes (get_or ws i 0)

pub length_until : (ws : List ℕ) (i : ℕ) → length (bytes_until ws i) ≡ 4 * i
unfolding bytes_until
length_until ws zero = omega arith
length_until ws (suc i) = length-append (bytes_until ws i) (word_bytes (get_or ws i 0)) ∙ omega (arith, length_until ws i, word_length (get_or ws i 0))

-- one word more
pub until_more : {d l m : List ℕ} {at : ℕ} (ws : List ℕ) (i : ℕ) → Wrote d at (bytes_until ws i) l → m ≡ overwrite l (at + 4 * i) (word_bytes (get_or ws i 0))
    → at + 4 * (i + 1) ≤ length d → Wrote d at (bytes_until ws (i + 1)) m
unfolding bytes_until
until_more {at = at} ws i w e h =
    let long = word_length (get_or ws i 0) in
    let next : i + 1 ≡ suc i = omega arith in
    rw next (wrote_next w (at + 4 * i) (word_bytes (get_or ws i 0)) e (omega (arith, length_until ws i)) (omega (arith, h, long)))

pub words_written : {d l : List ℕ} {at : ℕ} (ws : List ℕ) → Wrote d at (bytes_until ws 6) l → l ≡ overwrite d at (words_bytes ws)
unfolding words_bytes bytes_until
words_written {d} {l} {at} ws w = w.is ∙ ap (overwrite d at) (simp append_assoc)

-- six words, whatever list they come from
unfoldable pub six_of : List ℕ → List ℕ
six_of ws = get_or ws 0 0 ∷ get_or ws 1 0 ∷ get_or ws 2 0 ∷ get_or ws 3 0 ∷ get_or ws 4 0 ∷ get_or ws 5 0 ∷ []

pub six_of_lem : (ws : List ℕ) → length ws ≡ 6 → six_of ws ≡ ws
unfolding six_of
six_of_lem (a ∷ b ∷ d ∷ e ∷ f ∷ g ∷ []) h = refl
six_of_lem [] h = absurd (omega arith)
six_of_lem (a ∷ []) h = absurd (omega arith)
six_of_lem (a ∷ b ∷ []) h = absurd (omega arith)
six_of_lem (a ∷ b ∷ d ∷ []) h = absurd (omega arith)
six_of_lem (a ∷ b ∷ d ∷ e ∷ []) h = absurd (omega arith)
six_of_lem (a ∷ b ∷ d ∷ e ∷ f ∷ []) h = absurd (omega arith)
six_of_lem (a ∷ b ∷ d ∷ e ∷ f ∷ g ∷ k ∷ l) h = absurd (omega arith)

pub length_words : (ws : List ℕ) → length (words_bytes ws) ≡ 24
unfolding words_bytes word_bytes
length_words ws = refl

-- ---- a body, and what has one

unfoldable pub body_bytes : Body → List ℕ
body_bytes b = ((((b.kind ∷ []) ++ (b.tag ∷ [])) ++ word_bytes b.plain1) ++ word_bytes b.plain2) ++ words_bytes b.words

pub length_body : (b : Body) → length (body_bytes b) ≡ 34
unfolding body_bytes words_bytes word_bytes
length_body b = refl

-- the same with its words one by one
with_six : (b : Body) → length b.words ≡ 6 → b ≡ record { kind = b.kind; tag = b.tag; plain1 = b.plain1; plain2 = b.plain2; words = six_of b.words }
with_six b h = let e = six_of_lem b.words h in λ i. record { kind = b.kind; tag = b.tag; plain1 = b.plain1; plain2 = b.plain2; words = sym e i }

spread : (x k t p q w : List ℕ) → x ++ ((((k ++ t) ++ p) ++ q) ++ w) ≡ ((((x ++ k) ++ t) ++ p) ++ q) ++ w
spread x k t p q w = simp append_assoc

-- a body behind other bytes, part by part
body_behind : (x : List ℕ) (b : Body) → x ++ body_bytes b ≡ ((((x ++ (b.kind ∷ [])) ++ (b.tag ∷ [])) ++ word_bytes b.plain1) ++ word_bytes b.plain2) ++ words_bytes b.words
unfolding body_bytes
body_behind x b = spread x (b.kind ∷ []) (b.tag ∷ []) (word_bytes b.plain1) (word_bytes b.plain2) (words_bytes b.words)

segment_six : (tag level : ℕ) (b : Body) → ((((5 ∷ []) ++ (tag ∷ [])) ++ (level ∷ [])) ++ body_bytes b)
    ≡ record_bytes segment_codec (record { tag = tag; level = level; body = record { kind = b.kind; tag = b.tag; plain1 = b.plain1; plain2 = b.plain2; words = six_of b.words } })
unfolding record_bytes operand_bytes segment_codec six_of words_bytes
segment_six tag level b = body_behind (((5 ∷ []) ++ (tag ∷ [])) ++ (level ∷ [])) b ∙ simp (append_assoc, append-nil)

pub segment_written : (d l : List ℕ) (at : ℕ) (s : Segment) → length s.body.words ≡ 6
    → Wrote d at ((((5 ∷ []) ++ (s.tag ∷ [])) ++ (s.level ∷ [])) ++ body_bytes s.body) l → l ≡ overwrite d at (record_bytes segment_codec s)
segment_written d l at s h w =
    w.is ∙ ap (overwrite d at) (segment_six s.tag s.level s.body
    ∙ ap (λ (b : Body). record_bytes segment_codec (record { tag = s.tag; level = s.level; body = b })) (sym (with_six s.body h)))

node_six : (class inline offset : ℕ) (span : Span) (b : Body) → (((((6 ∷ []) ++ (class ∷ [])) ++ (inline ∷ [])) ++ span_bytes span) ++ word_bytes offset) ++ body_bytes b
    ≡ record_bytes node_codec (record {
      class = class;
      inline = inline;
      source_span = span;
      normalized_offset = offset;
      body = record { kind = b.kind; tag = b.tag; plain1 = b.plain1; plain2 = b.plain2; words = six_of b.words };
    })
unfolding record_bytes operand_bytes node_codec six_of words_bytes span_bytes
node_six class inline offset span b =
    body_behind (((((6 ∷ []) ++ (class ∷ [])) ++ (inline ∷ [])) ++ span_bytes span) ++ word_bytes offset) b ∙ simp (append_assoc, append-nil)

pub node_written : (d l : List ℕ) (at : ℕ) (n : SourceNode) → length n.body.words ≡ 6
    → Wrote d at ((((((6 ∷ []) ++ (n.class ∷ [])) ++ (n.inline ∷ [])) ++ span_bytes n.source_span) ++ word_bytes n.normalized_offset) ++ body_bytes n.body) l
    → l ≡ overwrite d at (record_bytes node_codec n)
node_written d l at n h w =
    w.is ∙ ap (overwrite d at) (node_six n.class n.inline n.normalized_offset n.source_span n.body
    ∙ ap (λ (b : Body). record_bytes node_codec (record { class = n.class; inline = n.inline; source_span = n.source_span; normalized_offset = n.normalized_offset; body = b })) (sym (with_six n.body h)))

-- ---- what has none

pub pair_written : (d l : List ℕ) (at : ℕ) (p : PairLink) → Wrote d at ((((7 ∷ []) ++ (p.kind ∷ [])) ++ span_bytes p.opening) ++ span_bytes p.closing) l
    → l ≡ overwrite d at (record_bytes pair_codec p)
unfolding record_bytes operand_bytes pair_codec span_bytes
pair_written d l at p w = w.is ∙ ap (overwrite d at) (simp (append_assoc, append-nil))

pub container_written : (d l : List ℕ) (at : ℕ) (c : ContainerPair) → Wrote d at ((((8 ∷ []) ++ word_bytes c.plain) ++ word_bytes c.opening) ++ word_bytes c.closing) l
    → l ≡ overwrite d at (record_bytes container_codec c)
unfolding record_bytes operand_bytes container_codec
container_written d l at c w = w.is ∙ ap (overwrite d at) (simp (append_assoc, append-nil))

pub diagnostic_written : (d l : List ℕ) (at : ℕ) (x : Diagnostic)
    → Wrote d at (((((9 ∷ []) ++ (x.kind ∷ [])) ++ word_bytes x.code_rank) ++ span_bytes x.span) ++ word_bytes x.plain) l
    → l ≡ overwrite d at (record_bytes diagnostic_codec x)
unfolding record_bytes operand_bytes diagnostic_codec span_bytes
diagnostic_written d l at x w = w.is ∙ ap (overwrite d at) (simp (append_assoc, append-nil))
