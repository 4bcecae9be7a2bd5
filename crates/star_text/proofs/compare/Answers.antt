-- `compare` meets its contract: where equal fours end, four that differ decide, or fewer than four are left.
use Rattle.star_text.proofs.Comparing.{compare-lengths}
use Rattle.star_text.proofs.compare.Goals as goal

pub returns-then-a-b : goal.returns-then-a-b
returns-then-a-b c = compare-lengths _ _ c.if-a-b.true
