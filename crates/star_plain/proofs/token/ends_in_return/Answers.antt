-- `ends_in_return` meets its contract: the last byte decides.
use mathlib.Core.Path.{◌∙◌}
use Rattle.star_plain.proofs.Last.{last-ends}
use Rattle.star_plain.proofs.token.ends_in_return.Goals as goal

pub returns : goal.returns
returns c = c.eq.ensures ∙ last-ends c.args.content.now c.last.result _ c.last.ensures.value
