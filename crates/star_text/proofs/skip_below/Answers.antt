-- `skip_below` meets its contract: the bytes passed are of the run, so its end from here is its end from the start.
use Rattle.std.proofs.Common.{sym, ◌∙◌, arith}
use Rattle.star_text.proofs.Run.{run-goes-four}
use Rattle.star_text.proofs.skip_below.Goals as goal

pub loop-at-preserved : goal.loop-at-preserved
loop-at-preserved c =
    sym (run-goes-four _ _ c.loop-at.at (omega arith) (c.four_below.ensures c.if-not-four_below.false)) ∙ c.loop-at.invariant
