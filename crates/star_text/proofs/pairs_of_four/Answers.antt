-- `pairs_of_four` meets its contract: the first of the four pairs that differs is compared, and those before it.
use Rattle.std.proofs.Common.{◌≡◌, arith}
use Rattle.star_text.proofs.Comparing.{passed-more, passed-differs, passed-three}
use Rattle.star_text.proofs.pairs_of_four.Goals as goal

pub loop-i-preserved : goal.loop-i-preserved
loop-i-preserved c = passed-more _ _ _ _ c.loop-i.invariant (omega arith) c.if-a-at.false

pub returns-then-a-at-clause-result_value : goal.returns-then-a-at-clause-result_value
returns-then-a-at-clause-result_value c = passed-differs _ _ _ _ c.loop-i.invariant (omega arith) c.if-a-at.true

pub returns-clause-result_value : goal.returns-clause-result_value
returns-clause-result_value c =
    let last : c.loop-i.i ≡ 3 = omega arith in
    passed-three _ _ _ (rw last at c.loop-i.invariant) (omega arith) c.requires.fact
