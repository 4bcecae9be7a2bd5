-- `is_short` meets its contract: the length of the content, against the limit.
use mathlib.Core.Path.{ap}
use lib.Dec.{leb}
use lib.ListN.{length}
use Rattle.star_lex.specs.Rules.{old_bench}
use Rattle.star_check.proofs.is_short.Goals as goal

pub returns : goal.returns
returns c = ap (λ content. leb (length content) old_bench.longest) c.content.ensures.result_value
