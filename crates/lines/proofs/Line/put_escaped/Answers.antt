use Rattle.std.proofs.Common.{arith, refl}
use Rattle.lines.specs.Put.{put_as}
use Rattle.lines.specs.Quoted.{escaped_newline, escaped_quote, escaped_backslash, escaped_plain, escaped_control}
use Rattle.lines.proofs.Line.put_escaped.Goals as goal

pub returns-in-10 : goal.returns-in-10
returns-in-10 c = put_as c.put_text.ensures (omega arith) (escaped_newline _ c.in-10.is)

pub returns-in-34 : goal.returns-in-34
returns-in-34 c = put_as c.put_text-in-34.ensures (omega arith) (escaped_quote _ c.in-34.is)

pub returns-in-92 : goal.returns-in-92
returns-in-92 c = put_as c.put_text-in-92.ensures (omega arith) (escaped_backslash _ c.in-92.is)

pub returns-in_default : goal.returns-in_default
returns-in_default c = put_as c.put_text-in_default.ensures (omega arith) (escaped_plain _ (λ e. omega arith) (λ e. omega arith) (λ e. omega arith) c.is_plain.ensures c.if-is_plain.true)

pub returns-in_default-2 : goal.returns-in_default-2
returns-in_default-2 c = put_as c.put_text-in_default-2.ensures (omega arith) (escaped_control _ (λ e. omega arith) (λ e. omega arith) (λ e. omega arith) c.is_plain.ensures c.if-is_plain.false (rw (c.hex_digit.ensures, c.hex_digit-in_default-2.ensures) refl))
