-- `slot_fits` meets its contract: the tests stand in the order of the definition.
use mathlib.Core.Path.{refl, ◌∙◌, ap}
use Prim.Native.Nat.{◌≤◌, ◌<◌}
use native.Mathlib.Omega.{arith}
use borrow.Author.Tests.{ne_eqb, lt-ltb, le-ltb}
use Rattle.star_index.specs.Inner.{in_run, slot_fits}
use Rattle.star_index.proofs.slot_fits.Goals as goal

pub returns-then-row-eq0 : goal.returns-then-row-eq0
unfolding slot_fits
returns-then-row-eq0 c = rw c.if-row-eq0.true refl

pub returns-then-rows-row : goal.returns-then-rows-row
unfolding slot_fits
returns-then-rows-row c =
    let above : c.args.rows < c.args.row = omega (arith, c.if-rows-row.true) in
    rw (ne_eqb _ 0 c.if-row-eq0.false, lt-ltb _ _ above) refl

pub returns : goal.returns
unfolding slot_fits
returns c =
    let within : c.args.row ≤ c.args.rows = omega (arith, c.if-rows-row.false) in
    rw (ne_eqb _ 0 c.if-row-eq0.false, le-ltb _ _ within)
    (c.in_run.ensures ∙ ap (λ h. in_run c.args.begin c.args.last h c.args.at) c.home_at.ensures)
