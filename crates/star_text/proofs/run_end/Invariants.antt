use Rattle.std.proofs.Common.{◌≡◌, ◌+◌, ◌≤◌, max, length, drop}
use Rattle.star_text.specs.Bytes.{leading}
use Rattle.star_text.specs.Classes.{below_in}
use Rattle.star_text.proofs.run_end.Given as goal

abbrev pub invariant-loop-at : goal.invariant-loop-at
invariant-loop-at l =
    (l.at ≤ max l.skipped (length l.file))
    × (l.at + length (leading (below_in l.classes l.class) (drop l.at l.file)) ≡ l.from + length (leading (below_in l.classes l.class) (drop l.from l.file)))
