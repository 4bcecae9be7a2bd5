-- `scale` meets its contract: the whole number is a float without loss, and one operation follows.
use Rattle.star_number.specs.Number.{exact}
use Rattle.star_number.specs.Held.{scaled_by}
use Rattle.star_number.proofs.decimal.Power.scale.Goals as goal

pub returns-then-self : goal.returns-then-self
unfolding scaled_by exact
returns-then-self c = rw (c.if-self.true, c.power_of_ten-ten.ensures)

pub returns-else-self : goal.returns-else-self
unfolding scaled_by exact
returns-else-self c = rw (c.if-self.false, c.power_of_ten-ten.ensures)
