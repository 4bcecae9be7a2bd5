-- `read` meets its contract: layout 0 is today's.
use Rattle.star_lex.specs.Rules.{layout_rules}
use Rattle.star_read.proofs.read.Goals as goal

pub returns-clause-reads : goal.returns-clause-reads
unfolding layout_rules
returns-clause-reads c = c.read_as.ensures.gives
