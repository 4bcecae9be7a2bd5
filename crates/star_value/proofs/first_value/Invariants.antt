use Rattle.std.proofs.Common.{◌≡◌, ◌+◌, ◌-◌}
use Rattle.star_value.specs.Values.{first_value}
use Rattle.star_value.proofs.first_value.Given as goal

-- the answer from this row on is that from the first
abbrev pub invariant-loop-row : goal.invariant-loop-row
invariant-loop-row l = first_value l.values l.name (l.rows + 1 - l.row) l.row ≡ first_value l.values l.name l.rows 1
