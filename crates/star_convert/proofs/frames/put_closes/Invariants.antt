use mathlib.Core.Path.{◌≡◌}
use lib.ListN.{length}
use Rattle.star_lex.specs.Holds.{file_tokens}
use Rattle.star_plain.specs.Put.{Filled}
use Rattle.star_convert.specs.Convert.{other_row}
use Rattle.star_plain.proofs.Prefix.{plain_first}
use Rattle.star_convert.proofs.frames.put_closes.Given as goal

abbrev pub invariant-loop-n : goal.invariant-loop-n
invariant-loop-n l =
    Filled (plain_first l.n (other_row l.layout (file_tokens l.file))) l.initial.out l.out l.at × (length l.out ≡ length l.initial.out)
