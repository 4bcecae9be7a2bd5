-- `line_end_length` meets its contract: a terminate is one line end by itself, but for 13 before 10.
use mathlib.Core.Path.{sym, ◌∙◌}
use native.Mathlib.Omega.{arith}
use Rattle.star_lex.specs.Rules.{today}
use Rattle.star_lex.proofs.Closing.{line-end-pair, line-end-lone}
use Rattle.star_scan.proofs.line_end_length.Goals as goal

pub returns-then-at-file : goal.returns-then-at-file
returns-then-at-file c = record { lower_bound = (omega arith, omega arith); value = λ inside ends. absurd (omega (arith, inside, c.if-at-file.true)) }

pub returns-then-is_pair : goal.returns-then-is_pair
returns-then-is_pair c =
    record { lower_bound = (omega arith, omega arith); value = λ inside ends. sym (line-end-pair today _ _ inside ends (sym c.is_pair.ensures ∙ c.if-is_pair.true)) }

pub returns-else-is_pair : goal.returns-else-is_pair
returns-else-is_pair c =
    record { lower_bound = (omega arith, omega arith); value = λ inside ends. sym (line-end-lone today _ _ inside ends (sym c.is_pair.ensures ∙ c.if-is_pair.false)) }
