use Rattle.std.proofs.Common.{◌≤◌}
use Rattle.star_show.proofs.notation.unescape.Given as goal

abbrev pub invariant-loop-byte : goal.invariant-loop-byte
invariant-loop-byte l = l.count ≤ l.byte-index
