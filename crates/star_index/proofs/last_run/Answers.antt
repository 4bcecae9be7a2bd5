-- `last_run` meets its contract: after each slot the run that ends there is known.
use mathlib.Core.Path.{◌≡◌, refl, sym, ◌∙◌, ap}
use mathlib.Core.Bool.{cond}
use Prim.Native.Nat.{suc}
use native.Mathlib.Omega.{arith}
use lib.Dec.{eqb}
use lib.ListN.{length, get_or}
use Rattle.star_index.specs.Inner.{run_start}
use Rattle.star_index.proofs.Scanning.{run-next}
use Rattle.star_index.proofs.last_run.Goals as goal

pub loop-at-init : goal.loop-at-init
unfolding run_start
loop-at-init c = (omega arith, refl)

pub offset_bounds-slots-at : goal.offset_bounds-slots-at
offset_bounds-slots-at c = omega arith

pub bounds-slots-at : goal.bounds-slots-at
bounds-slots-at c = omega arith

pub begin_after-begin-requires : goal.begin_after-begin-requires
begin_after-begin-requires c = omega arith

pub overflow_add-at : goal.overflow_add-at
overflow_add-at c = omega arith

pub loop-at-smaller : goal.loop-at-smaller
loop-at-smaller c = omega arith

pub loop-at-preserved : goal.loop-at-preserved
loop-at-preserved c =
    let at = c.loop-at in
    let slots = c.args.slots.now in
    (omega arith, c.begin_after-begin.ensures ∙ ap (λ b. cond (eqb (get_or slots at.at 0) 0) (suc at.at) b) at.invariant.1 ∙ sym (run-next slots at.at))

pub returns : goal.returns
returns c = c.loop-at.invariant.1 ∙ ap (run_start _) (let end : c.loop-at.at ≡ length c.args.slots.now = omega arith in end)
