use Rattle.std.proofs.Common.{arith}
use Rattle.lines.specs.Put.{put_as, put_both}
use Rattle.listing.specs.Strings.{none_bytes, some_bytes, string_none}
use Rattle.listing.proofs.Listed.put_string.Goals as goal

pub returns-then-self-id : goal.returns-then-self-id
returns-then-self-id c = put_as c.put_text.ensures (omega arith) (none_bytes c.args.id (string_none c.args.self.now.book.held _ c.if-self-id.true))

pub returns-else-self-id : goal.returns-else-self-id
returns-else-self-id c =
    put_as (put_both (put_both c.put_number.ensures c.put_text-else-self-id.ensures) c.put_quoted.ensures) (omega (arith, c.string_bytes.ensures.0)) (some_bytes c.args.id c.string_bytes.ensures.1)
