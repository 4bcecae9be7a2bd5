-- `compare_from` meets its contract: the pairs before the present place are compared and equal.
use Rattle.std.proofs.Common.{◌≡◌, length, arith}
use Rattle.star_text.proofs.Comparing.{compare-next, compare-differs, compare-ends}
use Rattle.star_text.proofs.compare_from.Goals as goal

pub returns-then-a-at : goal.returns-then-a-at
returns-then-a-at c =
    let at = c.loop-at in
    compare-differs _ _ at.at at.invariant (omega arith) c.if-a-at.true

pub loop-at-preserved : goal.loop-at-preserved
loop-at-preserved c =
    let at = c.loop-at in
    compare-next _ _ at.at at.invariant (omega arith) c.if-a-at.false

pub returns : goal.returns
returns c =
    let e : c.loop-at.at ≡ length c.args.a.now = omega (arith, c.requires.within) in
    compare-ends _ _ _ (rw e at c.loop-at.invariant) (omega arith)
