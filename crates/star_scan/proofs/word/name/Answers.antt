-- `name` meets its contract: letters follow the underscore.
use mathlib.Core.Path.{sym, ◌∙◌, ap}
use mathlib.Core.List.{◌∷◌}
use native.Mathlib.Omega.{arith}
use borrow.Author.Tests.{eqb-true, eqb-false}
use Rattle.star_lex.specs.Rules.{today}
use Rattle.star_lex.specs.Answer.{word_answer}
use Rattle.star_lex.proofs.Words.{name-none, name-some}
use Rattle.star_scan.proofs.word.name.Goals as goal

pub returns-then-is_empty : goal.returns-then-is_empty
unfolding word_answer
returns-then-is_empty c = λ more. rw (name-none today more _ (eqb-true _ 0 (sym c.if-is_empty.ensures)))

pub returns-else-is_empty : goal.returns-else-is_empty
returns-else-is_empty c = λ more. c.limit.ensures more (95 ∷ c.args.letters.now) (omega arith) ∙ sym (ap word_answer (name-some today more _ (eqb-false _ 0 (sym c.if-is_empty.ensures))))
