-- `begin_after` meets its contract: by the test that the definition makes.
use native.Mathlib.Numerals.{add-one}
use native.Mathlib.Omega.{arith}
use borrow.Author.Tests.{ne_eqb}
use Rattle.star_index.proofs.begin_after.Goals as goal

pub overflow_add-result : goal.overflow_add-result
overflow_add-result c = omega arith

pub returns-then-row-eq0 : goal.returns-then-row-eq0
returns-then-row-eq0 c = rw c.if-row-eq0.true (add-one _)

pub returns-else-row-eq0 : goal.returns-else-row-eq0
returns-else-row-eq0 c = rw (ne_eqb _ 0 c.if-row-eq0.false)
