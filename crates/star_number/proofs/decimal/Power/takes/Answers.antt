-- `takes` meets its contract.
use borrow.Author.Tests.{le-leb, lt-leb}
use Rattle.star_number.specs.Number.{in_range}
use Rattle.star_number.proofs.decimal.Power.takes.Goals as goal

pub returns-then-whole-le-MOST_WHOLE : goal.returns-then-whole-le-MOST_WHOLE
unfolding in_range
returns-then-whole-le-MOST_WHOLE c = rw (le-leb _ _ c.if-whole-le-MOST_WHOLE.true)

pub returns-else-whole-le-MOST_WHOLE : goal.returns-else-whole-le-MOST_WHOLE
unfolding in_range
returns-else-whole-le-MOST_WHOLE c = rw (lt-leb _ _ c.if-whole-le-MOST_WHOLE.false)
