-- `opens_field` meets its contract, by the test.
use Rattle.star_split.proofs.opens_field.Goals as goal

pub returns-then-line : goal.returns-then-line
returns-then-line c = rw c.if-line.true
