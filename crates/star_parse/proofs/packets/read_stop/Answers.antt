-- `read_stop` meets its contract: where no value comes, an open inner level takes `stop_` alone.
use mathlib.Core.Path.{refl}
use native.Mathlib.Omega.{arith}
use Rattle.star_parse.proofs.Refusing.{open-refuses}
use Rattle.star_parse.proofs.Going.{comes, refused, over-stop}
use Rattle.star_parse.proofs.packets.read_stop.Goals as goal

pub returns-then-next_is : goal.returns-then-next_is
returns-then-next_is c =
    let e = c.next_is.ensures.is c.if-next_is.true in
    record {
      bounds = omega (arith, c.requires.ready, c.passed.ensures, e.token);
      further = omega (arith, c.passed.ensures);
      goes = λ rules w around l outer inner t base counts levels began before outcome a.
          comes _ _ _ refl (over-stop _ _ _ a e.is c.passed.ensures);
    }

pub returns-else-next_is : goal.returns-else-next_is
returns-else-next_is c =
    record {
      bounds = omega (arith, c.requires.ready, c.stop.ensures);
      further = omega (arith, c.stop.ensures);
      goes = λ rules w around l outer inner t base counts levels began before outcome a.
          refused _ _ _ 10 (omega arith) a (open-refuses _ w around outer l inner _ c.requires.fact (c.next_is.ensures.not c.if-next_is.false)) c.stop.ensures;
    }
