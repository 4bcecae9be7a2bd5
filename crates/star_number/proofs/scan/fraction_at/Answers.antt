-- `fraction_at` meets its contract.
use mathlib.Core.Path.{◌≡◌, sym, ◌∙◌}
use mathlib.Core.Bool.{true}
use native.Mathlib.Omega.{arith}
use lib.ListN.{drop}
use Rattle.star_lex.specs.Split.{starts}
use Rattle.star_number.proofs.Held.{inside, fraction-none, fraction-some}
use Rattle.star_number.proofs.scan.fraction_at.Goals.{Else-not-byte_at}
use Rattle.star_number.proofs.scan.fraction_at.Goals as goal

pub returns-then-not-byte_at : goal.returns-then-not-byte_at
returns-then-not-byte_at c = sym (fraction-none _ _ _ c.requires.value_le_most (sym c.byte_at.ensures ∙ c.if-not-byte_at.true))

-- after a point
point : (c : Else-not-byte_at) → starts 46 (drop c.args.at c.args.content.now) ≡ true
point c = sym c.byte_at.ensures ∙ c.if-not-byte_at.false

pub digits-run-requires-clause-from_in_bounds : goal.digits-run-requires-clause-from_in_bounds
digits-run-requires-clause-from_in_bounds c = omega (arith, inside 46 c.args.content.now c.args.at (point c))

pub overflow_sub-result : goal.overflow_sub-result
overflow_sub-result c = (fraction-some _ _ _ (point (goal.at.overflow_sub-result c).Else-not-byte_at) c.digits-run.result c.digits-run.ensures).0

pub returns : goal.returns
returns c = sym (fraction-some _ _ _ (point (goal.at.returns c).Else-not-byte_at) c.digits-run.result c.digits-run.ensures).1
