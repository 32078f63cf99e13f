use Rattle.std.proofs.Common.{ap, ◌∙◌, List, take_all, length, arith}
use Rattle.std.proofs.lemmas.List.{length-map}
use mathlib.Core.List.{map, flatten}
use Rattle.lines.specs.Put.{put_none, put_as, put_both}
use Rattle.listing.specs.Table.{Field}
use Rattle.listing.specs.Coded.{field_of, row_field, row_few_fields}
use Rattle.listing.specs.Listing.{field_bytes}
use Rattle.listing.specs.Lines.{fields_more}
use Rattle.listing.specs.Pieces.{mark_of}
use Rattle.listing.proofs.Listed.put_fields.Goals as goal

pub loop-field-init : goal.loop-field-init
unfolding flatten
loop-field-init c = put_none

pub put_field-requires : goal.put_field-requires
put_field-requires c =
    let few = row_few_fields c.args.row in
    let as_many = ap length c.fields-field-items.ensures in
    let l = length-map c.fields-field-items.result.now field_of in
    record {
      room = omega (arith, few, as_many, l, c.requires.room, c.loop-field-test.true, c.loop-field.invariant.longer, c.loop-field.invariant.as_large);
      in_bounds = (c.requires.in_bounds.0, row_field c.args.row c.fields-field-items.result.now c.fields-field-items.ensures c.loop-field.field-index _ c.loop-field-test.true);
    }

pub loop-field-preserved : goal.loop-field-preserved
loop-field-preserved c = put_as (put_both c.loop-field.invariant c.put_field.ensures) (omega arith) (fields_more _ field_of _ c.loop-field.field-index _ c.loop-field-test.true)

pub returns : goal.returns
returns c =
    let few = row_few_fields c.args.row in
    let as_many = ap length c.fields-field-items.ensures in
    let l = length-map c.fields-field-items.result.now field_of in
    put_as c.loop-field.invariant (omega (arith, few, as_many, l))
    (ap (λ (x : List Field). flatten (map (field_bytes c.args.self.now.book.tape.now c.args.self.now.book.bytes.now (mark_of c.args.self.now.region) c.args.at c.args.n) x))
    (ap (map field_of) (take_all c.loop-field.field-index c.fields-field-items.result.now c.loop-field-test.false) ∙ c.fields-field-items.ensures))
