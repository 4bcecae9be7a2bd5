use Rattle.std.proofs.Common.{◌+◌, ◌-◌, ◌≤◌}
use Rattle.star_find.specs.Lending.{found_of, named}
use Rattle.star_find.proofs.Nearest.{Nearest}
use Rattle.star_find.proofs.Contents.find_global.Given as goal

abbrev pub invariant-loop-row : goal.invariant-loop-row
invariant-loop-row l =
    (l.row ≤ l.rows + 1) × Nearest l.sets l.names (named l.self l.names 4) l.bytes (l.set - 1) (l.row - 1) l.near (found_of l.kept)
