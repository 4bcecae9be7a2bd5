-- `limit` meets its contract, by the test on the length.
use native.Mathlib.Omega.{arith}
use borrow.Author.Tests.{le-leb, lt-leb}
use Rattle.star_lex.specs.Rules.{today}
use Rattle.star_lex.specs.Split.{limited}
use Rattle.star_lex.specs.Answer.{word_answer}
use Rattle.star_scan.proofs.word.limit.Goals as goal

pub returns-then-len-gt-LONGEST : goal.returns-then-len-gt-LONGEST
unfolding limited word_answer
returns-then-len-gt-LONGEST c = λ more content e. rw (e, lt-leb c.args.len today.longest (omega arith))

pub returns-else-len-gt-LONGEST : goal.returns-else-len-gt-LONGEST
unfolding limited word_answer
returns-else-len-gt-LONGEST c = λ more content e. rw (e, le-leb c.args.len today.longest (omega arith))
