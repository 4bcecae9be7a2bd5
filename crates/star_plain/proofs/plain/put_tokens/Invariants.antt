use mathlib.Core.Path.{◌≡◌}
use lib.ListN.{length}
use Rattle.star_plain.specs.Put.{Filled}
use Rattle.star_plain.specs.Kept.{plain_rows}
use Rattle.star_plain.proofs.plain.put_tokens.Given as goal

abbrev pub invariant-loop-n : goal.invariant-loop-n
invariant-loop-n l = Filled (plain_rows l.without l.file l.tokens l.n) l.initial.out l.out l.at × (length l.out ≡ length l.initial.out)
