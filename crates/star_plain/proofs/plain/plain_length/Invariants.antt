use mathlib.Core.Path.{◌≡◌}
use Prim.Native.Nat.{◌*◌, ◌≤◌}
use lib.ListN.{length}
use Rattle.star_plain.specs.Kept.{plain_rows}
use Rattle.star_plain.proofs.plain.plain_length.Given as goal

abbrev pub invariant-loop-n : goal.invariant-loop-n
invariant-loop-n l = (l.total ≡ length (plain_rows l.without l.file l.tokens l.n)) × (l.total ≤ l.n * 1048586)
