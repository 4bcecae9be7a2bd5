-- `block` meets its contract: a heading has a code.
use mathlib.Core.Path.{refl, sym, ◌∙◌, ap}
use borrow.Author.Tests.{eqb-true, eqb-false}
use Rattle.star_lex.specs.Rules.{today}
use Rattle.star_lex.specs.Answer.{word_answer}
use Rattle.star_lex.proofs.Words.{block-none, block-some}
use Rattle.star_scan.proofs.word.block.Goals as goal

pub returns-then-is_empty : goal.returns-then-is_empty
unfolding word_answer
returns-then-is_empty c = λ more. rw (block-none today more _ (eqb-true _ 0 (sym c.if-is_empty.ensures)))

pub returns-else-is_empty : goal.returns-else-is_empty
returns-else-is_empty c = λ more. c.limit.ensures more _ refl ∙ sym (ap word_answer (block-some today more _ (eqb-false _ 0 (sym c.if-is_empty.ensures))))
