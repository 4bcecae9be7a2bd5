use Rattle.std.proofs.Common.{◌≡◌, ◌+◌, ◌-◌, length, drop}
use Rattle.star_text.specs.Bytes.{leading}
use Rattle.star_text.specs.Classes.{below_in}
use Rattle.star_text.proofs.skip_below.Given as goal

abbrev pub invariant-loop-at : goal.invariant-loop-at
invariant-loop-at l = l.at + length (leading (below_in l.classes l.class) (drop l.at l.file)) ≡ l.from + length (leading (below_in l.classes l.class) (drop l.from l.file))

abbrev pub decreases-loop-at : goal.decreases-loop-at
decreases-loop-at l = length l.file - l.at
