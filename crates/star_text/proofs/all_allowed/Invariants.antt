use Rattle.star_text.proofs.Within.{Within}
use Rattle.star_text.proofs.all_allowed.Given as goal

abbrev pub invariant-loop-b : goal.invariant-loop-b
invariant-loop-b l = Within l.file l.low l.high l.over l.b-index
