use mathlib.Core.Path.{◌≡◌}
use lib.ListN.{drop}
use Rattle.star_lex.specs.Rules.{old_bench}
use Rattle.star_lex.specs.Fits.{all_fit}
use Rattle.star_lex.specs.Holds.{file_tokens}
use Rattle.star_check.proofs.all_fit.Given as goal

abbrev pub invariant-loop-n : goal.invariant-loop-n
invariant-loop-n l =
    all_fit old_bench.longest (drop l.n (file_tokens l.file)) ≡ all_fit old_bench.longest (file_tokens l.file)
