-- `all_allowed` meets its contract: bytes within the bounds are allowed.
use Rattle.std.proofs.Common.{◌≡◌, length, arith, leb-true}
use Rattle.star_text.proofs.Within.{within-allowed}
use Rattle.star_text.proofs.all_allowed.Goals as goal

pub returns-then-high-le126 : goal.returns-then-high-le126
returns-then-high-le126 c e =
    let l = c.loop-b in
    let s : l.b-index ≡ length c.args.file.now = omega arith in
    within-allowed c.args.file.now l.low l.high l.over (rw s at l.invariant) (omega arith) (omega arith) (omega (arith, leb-true _ _ e))
