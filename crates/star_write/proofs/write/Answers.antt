-- `write` is `write_layout` of layout 0, which is today's.
use Rattle.star_write.proofs.Outcomes.{writes-today}
use Rattle.star_write.proofs.write.Goals as goal

pub returns-clause-writes : goal.returns-clause-writes
returns-clause-writes c = writes-today _ _ _ _ _ _ c.write_layout.ensures.writes
