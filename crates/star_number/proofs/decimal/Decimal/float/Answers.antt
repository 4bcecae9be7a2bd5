-- `float` meets its contract.
use Rattle.star_number.specs.Held.{float_held}
use Rattle.star_number.proofs.decimal.Decimal.float.Goals as goal

pub returns-then-self : goal.returns-then-self
unfolding float_held
returns-then-self c = rw (c.if-self.true, c.scale-x.ensures)

pub returns-else-self : goal.returns-else-self
unfolding float_held
returns-else-self c = rw (c.if-self.false, c.scale-x.ensures)
