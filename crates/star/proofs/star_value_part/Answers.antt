-- `star_value_part` meets its contract, which is that of `value_span`.
use Rattle.star.proofs.star_value_part.Goals as goal

pub returns : goal.returns
returns c = c.value_span.ensures
