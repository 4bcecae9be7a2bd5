use Prim.Native.Nat.{◌-◌}
use lib.ListN.{length}
use Rattle.star_lex.proofs.Splitting.{Progress}
use Rattle.star_split.proofs.split.Given as goal

abbrev pub invariant-loop-at : goal.invariant-loop-at
invariant-loop-at l = Progress l.file l.initial.table l.table l.at l.count l.line

abbrev pub decreases-loop-at : goal.decreases-loop-at
decreases-loop-at l = length l.file - l.at
