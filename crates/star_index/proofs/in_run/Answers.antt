-- `in_run` meets its contract: by the tests that the definition makes.
use mathlib.Core.Path.{refl}
use Prim.Native.Nat.{◌<◌}
use native.Mathlib.Omega.{arith}
use borrow.Author.Tests.{le-leb, lt-leb, ne_eqb}
use Rattle.star_index.specs.Inner.{in_run}
use Rattle.star_index.proofs.in_run.Goals as goal

pub returns-then-home-at : goal.returns-then-home-at
unfolding in_run
returns-then-home-at c = rw (le-leb _ _ c.if-home-at.true) refl

pub returns-then-begin-eq0 : goal.returns-then-begin-eq0
unfolding in_run
returns-then-begin-eq0 c = let past : c.args.at < c.args.home = omega (arith, c.if-home-at.false) in rw (lt-leb _ _ past, c.if-begin-eq0.true) refl

pub returns-else-begin-eq0 : goal.returns-else-begin-eq0
unfolding in_run
returns-else-begin-eq0 c = let past : c.args.at < c.args.home = omega (arith, c.if-home-at.false) in rw (lt-leb _ _ past, ne_eqb _ 0 c.if-begin-eq0.false) refl
