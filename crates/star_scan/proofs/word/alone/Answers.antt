-- `alone` meets its contract: nothing may follow.
use mathlib.Core.Path.{sym}
use borrow.Author.Tests.{eqb-true, eqb-false}
use Rattle.star_lex.specs.Answer.{word_answer}
use Rattle.star_lex.proofs.Words.{alone-whole, alone-followed}
use Rattle.star_scan.proofs.word.alone.Goals as goal

pub returns-then-is_empty : goal.returns-then-is_empty
unfolding word_answer
returns-then-is_empty c = λ more w. rw (alone-whole more _ w _ (eqb-true _ 0 (sym c.if-is_empty.ensures)))

pub returns-else-is_empty : goal.returns-else-is_empty
unfolding word_answer
returns-else-is_empty c = λ more w. rw (alone-followed more _ w _ (eqb-false _ 0 (sym c.if-is_empty.ensures)))
