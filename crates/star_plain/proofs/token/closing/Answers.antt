-- `closing` meets its contract: the kind tells the bytes.
use Rattle.star_plain.proofs.Delimiters.{no-closing, other-closing}
use Rattle.star_plain.proofs.token.closing.Goals as goal

pub returns-in_default : goal.returns-in_default
returns-in_default c = no-closing c.args.kind c.args.content.now c.in_default.ensures.1

pub returns-in-Field : goal.returns-in-Field
returns-in-Field c = rw (← c.in-Ok.ensures, c.in-Field.is) c.field_closing.ensures

pub returns-in_default-kind : goal.returns-in_default-kind
returns-in_default-kind c =
    let o = c.in_default-kind in
    rw (← c.in-Ok.ensures) (other-closing c.in-Ok.kind c.args.content.now o.not-SingleQuoted o.not-DoubleQuoted o.not-Field)
