use mathlib.Core.Path.{◌≡◌}
use Prim.Native.Nat.{◌-◌, ◌≤◌}
use lib.ListN.{length}
use Rattle.star_slots.specs.Inner.{table_home}
use Rattle.star_build.specs.Build.{filled}
use Rattle.star_build.proofs.fill.Given as goal

abbrev pub invariant-loop-row : goal.invariant-loop-row
invariant-loop-row l =
    (l.row ≤ l.rows) × (length l.slots ≡ length l.initial.slots) × (l.slots ≡ filled (table_home l.file l.tokens l.count l.names (length l.initial.slots)) l.initial.slots l.row)

abbrev pub decreases-loop-row : goal.decreases-loop-row
decreases-loop-row l = l.rows - l.row
