-- `bare` meets its contract.
use mathlib.Core.Path.{sym, ◌∙◌}
use Rattle.star_number.specs.Held.{bare_held}
use Rattle.star_number.proofs.Ranges.{whole_in_range}
use Rattle.star_number.proofs.decimal.Decimal.bare.Goals as goal

pub float-requires : goal.float-requires
float-requires c = whole_in_range _ _ (sym c.takes.ensures ∙ c.if-takes.true)

pub returns-then-takes : goal.returns-then-takes
unfolding bare_held
returns-then-takes c = rw (c.float.ensures, sym c.takes.ensures ∙ c.if-takes.true)

pub returns-else-takes : goal.returns-else-takes
unfolding bare_held
returns-else-takes c = rw (sym c.takes.ensures ∙ c.if-takes.false)
