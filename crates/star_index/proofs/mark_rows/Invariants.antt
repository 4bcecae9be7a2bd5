use Prim.Native.Nat.{◌-◌, ◌≤◌}
use lib.ListN.{length}
use Rattle.star_index.specs.Inner.{Marked, Apart}
use Rattle.star_index.proofs.mark_rows.Given as goal

abbrev pub invariant-loop-at : goal.invariant-loop-at
invariant-loop-at l = (l.at ≤ length l.slots) × Apart l.slots l.at × Marked l.slots l.at l.rows l.initial.names l.names

abbrev pub decreases-loop-at : goal.decreases-loop-at
decreases-loop-at l = length l.slots - l.at
