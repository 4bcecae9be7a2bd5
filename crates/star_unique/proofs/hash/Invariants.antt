use mathlib.Core.Path.{◌≡◌}
use Prim.Native.Nat.{◌<◌}
use lib.ListN.{drop}
use Rattle.star_unique.specs.Chain.{mix, hash_of}
use Rattle.star_unique.proofs.hash.Given as goal

abbrev pub invariant-loop-b : goal.invariant-loop-b
invariant-loop-b l = (l.h < 1048576) × (mix l.h (drop l.b-index l.bytes) ≡ hash_of l.sort l.bytes)
