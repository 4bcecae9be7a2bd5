use mathlib.Core.Path.{◌≡◌}
use mathlib.Core.Bool.{true}
use Prim.Native.Nat.{◌-◌, ◌≤◌}
use lib.ListN.{length}
use Rattle.star_slots.specs.Inner.{table_home}
use Rattle.star_index.specs.Inner.{run_start, slots_fit}
use Rattle.star_index.proofs.slots_fit.Given as goal

abbrev pub invariant-loop-at : goal.invariant-loop-at
invariant-loop-at l =
    (l.at ≤ length l.slots) × (l.begin ≡ run_start l.slots l.at) × (l.last ≡ run_start l.slots (length l.slots)) × (slots_fit l.rows (table_home l.file l.tokens l.count l.names (length l.slots)) l.slots l.at ≡ true)

abbrev pub decreases-loop-at : goal.decreases-loop-at
decreases-loop-at l = length l.slots - l.at
