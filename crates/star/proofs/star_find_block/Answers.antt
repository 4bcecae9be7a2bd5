-- `star_find_block` is `find_block` of the crate below, as C has its answer.
use Rattle.star.proofs.star_find_block.Goals as goal

pub returns : goal.returns
returns c = rw c.from.ensures c.find_block.ensures
