use Rattle.star_text.proofs.Comparing.{Passed}
use Rattle.star_text.proofs.pairs_of_four.Given as goal

abbrev pub invariant-loop-i : goal.invariant-loop-i
invariant-loop-i l = Passed l.a l.b l.at l.i
