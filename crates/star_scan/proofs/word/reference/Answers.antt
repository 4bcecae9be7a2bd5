-- `reference` meets its contract: a code follows the `$`.
use mathlib.Core.Path.{sym}
use borrow.Author.Tests.{eqb-true, eqb-false}
use Rattle.star_lex.specs.Answer.{word_answer}
use Rattle.star_lex.proofs.Words.{reference-none, reference-some}
use Rattle.star_scan.proofs.word.reference.Goals as goal

pub returns-then-is_empty : goal.returns-then-is_empty
unfolding word_answer
returns-then-is_empty c = λ more. rw (reference-none more _ (eqb-true _ 0 (sym c.if-is_empty.ensures)))

pub returns-else-is_empty : goal.returns-else-is_empty
unfolding word_answer
returns-else-is_empty c = λ more. rw (reference-some more _ (eqb-false _ 0 (sym c.if-is_empty.ensures)))
