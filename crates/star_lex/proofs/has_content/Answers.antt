-- `has_content` meets its contract: each check leaves less of the definition.
use mathlib.Core.Path.{sym, ◌∙◌, ap}
use Prim.Native.Nat.{◌+◌, ◌*◌}
use native.Mathlib.Omega.{arith}
use Rattle.star_rows.specs.Widths.{token_width}
use Rattle.star_lex.specs.Answer.{is_some}
use Rattle.star_lex.proofs.Table.{part-backward, part-some, content-row, content-none}
use Rattle.star_lex.proofs.has_content.Goals as goal

pub returns-then-tokens-n : goal.returns-then-tokens-n
unfolding is_some
returns-then-tokens-n c = sym (ap is_some (content-none _ _ _ (omega arith)))

pub returns-then-end-start : goal.returns-then-end-start
unfolding is_some
returns-then-end-start c = sym (ap is_some (content-row _ _ _ (omega arith) ∙ part-backward _ _ _ c.if-end-start.true))

pub overflow_cast-result : goal.overflow_cast-result
overflow_cast-result c = omega (arith, c.shared_slice_known-2-1.given (c.args.n * token_width + 2))

pub returns : goal.returns
returns c = sym (ap is_some (content-row _ _ _ (omega arith)) ∙ part-some _ _ _ c.if-end-start.false)
