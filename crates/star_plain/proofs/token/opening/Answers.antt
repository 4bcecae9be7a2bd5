-- `opening` meets its contract: the kind tells the bytes.
use Rattle.star_plain.proofs.Delimiters.{no-opening, other-opening}
use Rattle.star_plain.proofs.token.opening.Goals as goal

pub returns-in_default : goal.returns-in_default
returns-in_default c = no-opening c.args.kind c.in_default.ensures.1

pub returns-in_default-kind : goal.returns-in_default-kind
returns-in_default-kind c =
    let o = c.in_default-kind in
    rw (← c.in-Ok.ensures) (other-opening c.in-Ok.kind o.not-Block o.not-Frame o.not-Reference o.not-SingleQuoted o.not-DoubleQuoted o.not-Field)
