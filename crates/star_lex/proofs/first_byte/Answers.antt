-- `first_byte` meets its contract: a difference that is not there is 0.
use mathlib.Core.Path.{sym, ◌∙◌}
use Prim.Native.Nat.{◌+◌, ◌*◌}
use native.Mathlib.Omega.{arith}
use Rattle.star_rows.specs.Widths.{token_width}
use Rattle.star_lex.proofs.Table.{first-row, first-none}
use Rattle.star_lex.proofs.first_byte.Goals as goal

pub returns-then-n-tokens : goal.returns-then-n-tokens
returns-then-n-tokens c = sym (first-none _ _ (omega arith))

pub overflow_cast-start : goal.overflow_cast-start
overflow_cast-start c = omega (arith, c.shared_slice_known-2-1.given (c.args.n * token_width + 1))

pub returns : goal.returns
returns c = c.saturating_sub.ensures ∙ sym (first-row _ _ (omega arith) ∙ omega (arith, c.lead-before.ensures))
