-- `skip_same` meets its contract: four bytes that are one number are four equal pairs.
use Rattle.std.proofs.Common.{arith}
use Rattle.star_text.proofs.Comparing.{compare-starts, passed-four, four-equal}
use Rattle.star_text.proofs.skip_same.Goals as goal

pub loop-at-init : goal.loop-at-init
loop-at-init c = compare-starts _ _ c.requires

pub loop-at-preserved : goal.loop-at-preserved
loop-at-preserved c =
    let at = c.loop-at in
    passed-four _ _ at.at at.invariant (omega arith)
    (four-equal _ _ at.at _ _ c.four.ensures c.four-in-loop-at.ensures (λ i. omega (arith, c.type_inv.a i)) (λ i. omega (arith, c.type_inv.b i)) c.if-four.false)
