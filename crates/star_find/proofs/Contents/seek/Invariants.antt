use Rattle.std.proofs.Common.{◌≡◌, ◌+◌, ◌-◌}
use Rattle.star_find.specs.Find.{seek}
use Rattle.star_find.specs.Lending.{is_asked, named}
use Rattle.star_find.proofs.Contents.seek.Given as goal

-- the answer from this row on is that from the first
abbrev pub invariant-loop-row : goal.invariant-loop-row
invariant-loop-row l =
    seek (is_asked l.table l.wanted) (named l.self l.table l.wanted.width) l.bytes (l.rows + 1 - l.row) l.row ≡ seek (is_asked l.table l.wanted) (named l.self l.table l.wanted.width) l.bytes l.rows 1
