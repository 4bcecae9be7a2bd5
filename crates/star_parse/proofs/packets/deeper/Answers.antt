-- `deeper` meets its contract: the next level is one of the array, and the names of the current one are few, so that its first name row fits.
use native.Mathlib.Omega.{arith}
use Rattle.star_parse.proofs.packets.deeper.Goals as goal

pub bounds-s-level : goal.bounds-s-level
bounds-s-level c = omega (arith, c.requires)

pub overflow_add-result : goal.overflow_add-result
overflow_add-result c =
    omega (arith, c.requires.in_loop, c.requires.in_loop.few c.args.s.level)
