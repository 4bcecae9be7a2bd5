use Rattle.star_frames.proofs.Closing.{Closing}
use Rattle.star_frames.proofs.close_frames.Given as goal

abbrev pub invariant-loop-n : goal.invariant-loop-n
invariant-loop-n l = Closing l.initial.tokens l.n l.tokens l.p
