use mathlib.Core.Path.{◌≡◌}
use Prim.Native.Nat.{◌<◌}
use lib.ListN.{length}
use Rattle.star_build.specs.Build.{first_free}
use Rattle.star_build.proofs.free_from.Given as goal

abbrev pub invariant-loop-unseen : goal.invariant-loop-unseen
invariant-loop-unseen l = (l.at < length l.slots) × (first_free l.slots l.unseen l.at ≡ first_free l.slots (length l.slots) l.home)

abbrev pub decreases-loop-unseen : goal.decreases-loop-unseen
decreases-loop-unseen l = l.unseen
