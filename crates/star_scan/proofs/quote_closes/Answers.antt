-- `quote_closes` meets its contract, by the test on the byte.
use borrow.Author.Tests.{eq-eqb, ne_eqb}
use Rattle.star_scan.proofs.quote_closes.Goals as goal

pub returns-then-file-at : goal.returns-then-file-at
returns-then-file-at c = λ classes. rw (eq-eqb _ _ c.if-file-at.true) (c.white_at.ensures classes)

pub returns-else-file-at : goal.returns-else-file-at
returns-else-file-at c = λ classes. rw (ne_eqb _ _ c.if-file-at.false)
