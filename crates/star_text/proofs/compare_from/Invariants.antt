use Rattle.star_text.specs.Pairs.{Comparing}
use Rattle.star_text.proofs.compare_from.Given as goal

abbrev pub invariant-loop-at : goal.invariant-loop-at
invariant-loop-at l = Comparing l.a l.b l.at
