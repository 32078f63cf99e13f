use Rattle.std.proofs.Common.{◌∙◌, ◌+◌, ap}
use Rattle.model.specs.WellFormed.{word_of}
use Rattle.records.specs.Values.{body_at}
use Rattle.ruby_formats.specs.Sound.{words_range, words_plain, sound_node, names_first, plain_inside}
use Rattle.ruby_formats.proofs.nodes.Nodes.first_plain.Goals as goal

pub content_range_as_plain-requires-clause-len_value : goal.content_range_as_plain-requires-clause-len_value
content_range_as_plain-requires-clause-len_value c =
    let t = c.args.self.now.strings.tape.now in
    let place = c.at-body.ensures.place in
    words_range t _ (c.body_word-start.ensures ∙ ap (λ p. word_of (body_at t (p + 15)) 0) place) (c.body_word-len.ensures ∙ ap (λ p. word_of (body_at t (p + 15)) 1) place)
    (names_first (sound_node c.args.self.now.sound c.requires.i_lt_count) c.requires.names)

pub returns-clause-plain : goal.returns-clause-plain
returns-clause-plain c =
    let t = c.args.self.now.strings.tape.now in
    let place = c.at-body.ensures.place in
    words_plain t _ (c.body_word-start.ensures ∙ ap (λ p. word_of (body_at t (p + 15)) 0) place) (c.body_word-len.ensures ∙ ap (λ p. word_of (body_at t (p + 15)) 1) place)
    c.content_range_as_plain.ensures

pub returns-clause-inside : goal.returns-clause-inside
returns-clause-inside c =
    let t = c.args.self.now.strings.tape.now in
    let place = c.at-body.ensures.place in
    plain_inside (sound_node c.args.self.now.sound c.requires.i_lt_count)
    (words_plain t _ (c.body_word-start.ensures ∙ ap (λ p. word_of (body_at t (p + 15)) 0) place) (c.body_word-len.ensures ∙ ap (λ p. word_of (body_at t (p + 15)) 1) place)
    c.content_range_as_plain.ensures)
