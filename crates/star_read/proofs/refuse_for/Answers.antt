-- `refuse_for` meets its contract: the tables are cleared.
use mathlib.Core.Path.{refl}
use Rattle.star_read.specs.Answer.{read_answer}
use Rattle.star_read.proofs.refuse_for.Goals as goal

pub returns-clause-gives : goal.returns-clause-gives
unfolding read_answer
returns-clause-gives c =
    record { answer = refl; leaves = c.clear_tables.ensures.leaves _ _ }
