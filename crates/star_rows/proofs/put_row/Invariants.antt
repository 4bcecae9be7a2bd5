use Rattle.std.proofs.Common.{◌≡◌}
use Rattle.std.proofs.Math.Seq.{paste}
use Rattle.star_rows.proofs.put_row.Given as goal

-- the words passed are a copy in the table
abbrev pub invariant-loop-i : goal.invariant-loop-i
invariant-loop-i g l = l.table ≡ paste l.initial.table l.at l.row l.i
