-- `slots_fit` meets its contract: the slots passed fit, and where the run before the present one begins is known.
use mathlib.Core.Path.{◌≡◌, refl, sym, ◌∙◌, ap}
use mathlib.Core.Bool.{cond}
use Prim.Native.Nat.{suc}
use native.Mathlib.Omega.{arith}
use borrow.Author.Tests.{not-true, not-false}
use lib.Dec.{eqb}
use lib.ListN.{length, get_or}
use Rattle.star_slots.specs.Inner.{table_home}
use Rattle.star_index.specs.Index.{all_below}
use Rattle.star_index.specs.Inner.{run_start, slot_fits, slots_fit}
use Rattle.star_index.proofs.Scanning.{run-next, fit-more, fit-less}
use Rattle.star_index.proofs.slots_fit.Goals.{After-slot_fits}
use Rattle.star_index.proofs.slots_fit.Goals as goal

pub last_run-last-requires : goal.last_run-last-requires
last_run-last-requires c = tt

pub loop-at-init : goal.loop-at-init
unfolding run_start slots_fit all_below
loop-at-init c = (omega arith, refl, c.last_run-last.ensures, refl)

pub offset_bounds-slots-at : goal.offset_bounds-slots-at
offset_bounds-slots-at c = omega arith

pub bounds-slots-at : goal.bounds-slots-at
bounds-slots-at c = omega arith

pub slot_fits-requires : goal.slot_fits-requires
slot_fits-requires c = tt

-- the present slot, as the definition takes it
turn : (c : After-slot_fits)
    → let a = c.args in
    let at = c.loop-at.at in
    c.slot_fits.result
    ≡ slot_fits a.rows (table_home a.file.now a.tokens.now a.count a.names.now (length a.slots.now)) (run_start a.slots.now (length a.slots.now))
    (run_start a.slots.now at) (get_or a.slots.now at 0) at
turn c =
    let a = c.args in
    let at = c.loop-at in
    let home = table_home a.file.now a.tokens.now a.count a.names.now (length a.slots.now) in
    let row = get_or a.slots.now at.at 0 in
    c.slot_fits.ensures
    ∙ ap (λ l. slot_fits a.rows home l at.begin row at.at) at.invariant.2
    ∙ ap (λ b. slot_fits a.rows home (run_start a.slots.now (length a.slots.now)) b row at.at) at.invariant.1

pub returns-then-not-slot_fits : goal.returns-then-not-slot_fits
returns-then-not-slot_fits c =
    let at = c.loop-at in
    sym (fit-less _ _ _ at.at (omega arith) (sym (turn (goal.at.returns-then-not-slot_fits c).After-slot_fits) ∙ not-true c.slot_fits.result c.if-not-slot_fits.true-raw))

pub begin_after-begin-requires : goal.begin_after-begin-requires
begin_after-begin-requires c = omega arith

pub overflow_add-at : goal.overflow_add-at
overflow_add-at c = omega arith

pub loop-at-smaller : goal.loop-at-smaller
loop-at-smaller c = omega arith

pub loop-at-preserved : goal.loop-at-preserved
loop-at-preserved c =
    let at = c.loop-at in
    let slots = c.args.slots.now in (
      omega arith,
      c.begin_after-begin.ensures ∙ ap (λ b. cond (eqb (get_or slots at.at 0) 0) (suc at.at) b) at.invariant.1 ∙ sym (run-next slots at.at),
      at.invariant.2,
      fit-more _ _ _ at.at at.invariant.3 (sym (turn (goal.at.loop-at-preserved c).After-slot_fits) ∙ not-false c.slot_fits.result c.if-not-slot_fits.false-raw),
    )

pub returns : goal.returns
returns c =
    let at = c.loop-at in
    let a = c.args in
    sym (ap (slots_fit a.rows (table_home a.file.now a.tokens.now a.count a.names.now (length a.slots.now)) a.slots.now)
    (let end : length a.slots.now ≡ at.at = omega arith in end) ∙ at.invariant.3)
