-- `mix` meets its contract, as the definition computes.
use Rattle.star_hash.specs.Hash.{product, mixed}
use Rattle.star_hash.proofs.mix.Goals as goal

pub returns : goal.returns
unfolding mixed product
returns c = rw c.from.ensures
