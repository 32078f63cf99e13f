use Rattle.std.proofs.Common.{◌+◌, set, length-set, refl, sym, ap, ⊎_elim, arith}
use Rattle.std.proofs.Math.Seq.{set_out}
use Rattle.records.specs.Uses.{use_number}
use Rattle.records.specs.UseNumbers.{number_same}
use Rattle.records.specs.declared.Use.TheVariants.{Str, OptStr, Contents, Segments}
use Rattle.sizes.specs.Words.{words_of}
use Rattle.graft.specs.Bodies.{words_string, words_optional, words_contents, words_segments, words_none}
use Rattle.graft.proofs.with_words.Goals as goal

pub returns-in-Str : goal.returns-in-Str
returns-in-Str c =
    let f = words_of c.args.f in
    ⊎_elim (λ e. words_string _ _ f _ (ap use_number e) refl) (λ e. words_optional _ _ f _ (ap use_number e) refl) c.in-Str.is

pub returns-then-i-lt5 : goal.returns-then-i-lt5
returns-then-i-lt5 c =
    let f = words_of c.args.f in
    ⊎_elim (λ e. words_contents _ _ f _ (ap use_number e) refl refl) (λ e. words_segments _ _ f _ (ap use_number e) refl refl) c.in-Contents.is

pub returns-else-i-lt5 : goal.returns-else-i-lt5
returns-else-i-lt5 c =
    let f = words_of c.args.f in
    let w = sym (set_out (set c.args.words c.args.i c.args.v) (c.args.i + 1) c.args.f.second (omega (arith, length-set c.args.words c.args.i c.args.v, c.if-i-lt5.false))) in
    ⊎_elim (λ e. words_contents _ _ f _ (ap use_number e) refl w) (λ e. words_segments _ _ f _ (ap use_number e) refl w) c.in-Contents.is

pub returns-in_default : goal.returns-in_default
returns-in_default c =
    let n = c.in_default in
    let u = c.args.f.usage in
    words_none _ _ _ _ (λ e. n.not-Str (number_same u Str e)) (λ e. n.not-OptStr (number_same u OptStr e))
    (λ e. n.not-Contents (number_same u Contents e)) (λ e. n.not-Segments (number_same u Segments e))
