-- `field_closing` meets its contract: the last byte of the content tells the bytes.
use mathlib.Core.Path.{sym, ◌∙◌}
use Rattle.star_lex.specs.Plain.{newline, closing}
use Rattle.star_plain.proofs.token.field_closing.Goals as goal

pub returns-then-ends_in_return : goal.returns-then-ends_in_return
unfolding closing newline
returns-then-ends_in_return c = rw (sym c.ends_in_return.ensures ∙ c.if-ends_in_return.true)

pub returns-else-ends_in_return : goal.returns-else-ends_in_return
unfolding closing newline
returns-else-ends_in_return c = rw (sym c.ends_in_return.ensures ∙ c.if-ends_in_return.false)
