-- `star_compare` meets its contract, which is that of `compare`.
use Rattle.star.proofs.star_compare.Goals as goal

pub returns : goal.returns
returns c = c.compare.ensures
