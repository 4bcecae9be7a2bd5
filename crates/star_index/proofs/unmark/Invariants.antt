use Prim.Native.Nat.{◌-◌, ◌≤◌}
use Rattle.star_index.specs.Inner.{Cleaned}
use Rattle.star_index.proofs.unmark.Given as goal

abbrev pub invariant-loop-i : goal.invariant-loop-i
invariant-loop-i l = (l.i ≤ l.rows) × Cleaned l.i l.initial.names l.names

abbrev pub decreases-loop-i : goal.decreases-loop-i
decreases-loop-i l = l.rows - l.i
