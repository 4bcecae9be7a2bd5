use Rattle.std.proofs.Common.{◌≡◌, ◌-◌}
use Rattle.star_value.specs.Values.{follow}
use Rattle.star_value.proofs.follow.Given as goal

-- the links left from a row on give the answer of all links from the first row on
abbrev pub invariant-loop : goal.invariant-loop
invariant-loop l = follow l.values l.rows l.name (l.links - l.counter) l.at ≡ follow l.values l.rows l.name l.links l.row
