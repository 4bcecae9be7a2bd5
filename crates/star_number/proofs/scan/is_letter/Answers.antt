-- `is_letter` meets its contract.
use mathlib.Core.Path.{sym, ◌∙◌}
use Rattle.star_number.proofs.Held.{letter-next}
use Rattle.star_number.proofs.scan.is_letter.Goals as goal

pub returns-then-byte_at : goal.returns-then-byte_at
returns-then-byte_at c = rw (← letter-next _, ← c.byte_at.ensures, c.if-byte_at.true)

pub returns-else-byte_at : goal.returns-else-byte_at
returns-else-byte_at c = rw (← letter-next _, sym c.byte_at.ensures ∙ c.if-byte_at.false) c.byte_at-else-byte_at.ensures
