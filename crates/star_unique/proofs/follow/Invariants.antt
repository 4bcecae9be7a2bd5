use Prim.Native.Nat.{◌%◌}
use Rattle.star_unique.specs.Chain.{kinds_in, token_by}
use Rattle.star_unique.proofs.Marks.{Follows}
use Rattle.star_unique.proofs.follow.Given as goal

abbrev pub invariant-loop-row : goal.invariant-loop-row
invariant-loop-row l = Follows (token_by l.file (kinds_in l.tokens)) (l.sign % 16) l.bytes l.floor l.n l.row

abbrev pub decreases-loop-row : goal.decreases-loop-row
decreases-loop-row l = l.row
