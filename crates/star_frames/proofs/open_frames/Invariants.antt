use Rattle.star_frames.proofs.Closing.{Opening}
use Rattle.star_frames.proofs.open_frames.Given as goal

abbrev pub invariant-loop-n : goal.invariant-loop-n
invariant-loop-n l = Opening l.initial.tokens l.n l.tokens
