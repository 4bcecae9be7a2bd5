-- `place_of` meets its contract: table 1 has the first byte of each token.
use mathlib.Core.Path.{sym, ◌∙◌}
use native.Mathlib.Omega.{arith}
use Rattle.star_read.proofs.Judging.{place-over}
use Rattle.star_read.proofs.place_of.Goals as goal

pub returns-then-before-count : goal.returns-then-before-count
returns-then-before-count c =
    c.first_byte.ensures ∙ c.requires.firsts c.args.before (omega arith)

pub returns-else-before-count : goal.returns-else-before-count
returns-else-before-count c = sym (place-over _ _ _ (omega (arith, c.requires.count_is)))
