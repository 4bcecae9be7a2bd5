-- `read_item` meets its contract: the name's step and the value's bring a read back between entries, and after the name only a value is taken.
use mathlib.Core.Path.{refl}
use native.Mathlib.Omega.{arith}
use Rattle.star_parse.proofs.Refusing.{named-refuses}
use Rattle.star_parse.proofs.Going.{comes, refused, over-name, over-item-value}
use Rattle.star_parse.proofs.read_item.Goals as goal

pub returns-then-next_is : goal.returns-then-next_is
returns-then-next_is c =
    let name = c.put_name-p in
    let value = c.put_value in
    let e = c.next_is.ensures.is c.if-next_is.true in
    record {
      bounds = omega (arith, c.requires, name.ensures, value.ensures, e.token);
      further = omega (arith, name.ensures, value.ensures);
      goes = λ rules w sets packets q before outcome a.
          comes _ _ _ refl (over-item-value _ _ _ (over-name _ _ _ a q c.requires.ahead.is name.ensures) e.is value.ensures);
    }

pub returns-else-next_is : goal.returns-else-next_is
returns-else-next_is c =
    let name = c.put_name-p in
    record {
      bounds = omega (arith, c.requires, name.ensures, c.stop.ensures);
      further = omega (arith, name.ensures, c.stop.ensures);
      goes = λ rules w sets packets q before outcome a.
          refused _ _ _ 8 (omega arith) (over-name _ _ _ a q c.requires.ahead.is name.ensures)
          (named-refuses _ w _ (c.next_is.ensures.not c.if-next_is.false)) c.stop.ensures;
    }
