-- `back_to` meets its contract: where the last packet began at a row, its distance is that from the next row.
use Rattle.star_parse.proofs.Columns.{back_none, back-past, back_some}
use Rattle.star_parse.proofs.packets.back_to.Goals as goal

pub returns-then-began-eq0 : goal.returns-then-began-eq0
returns-then-began-eq0 c = back_none _ _ c.if-began-eq0.true

pub returns-then-rows-began : goal.returns-then-rows-began
returns-then-rows-began c = back-past _ _ c.if-rows-began.true

pub returns-else-rows-began : goal.returns-else-rows-began
returns-else-rows-began c = back_some _ _ c.if-began-eq0.false
