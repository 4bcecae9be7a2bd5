-- `free_from` meets its contract: the first 0 of the slots that are left is the first from the home.
use mathlib.Core.Path.{refl, sym, ◌∙◌}
use native.Mathlib.Omega.{arith}
use Rattle.star_slots.proofs.Slots.{next-inside}
use Rattle.star_build.proofs.Free.{free-at, free_on, free-none}
use Rattle.star_build.proofs.free_from.Goals as goal

pub loop-unseen-init : goal.loop-unseen-init
loop-unseen-init c = (c.requires, refl)

pub offset_bounds-slots-at : goal.offset_bounds-slots-at
offset_bounds-slots-at c = omega arith

pub bounds-slots-at : goal.bounds-slots-at
bounds-slots-at c = omega arith

pub returns-then-slots-at-eq0 : goal.returns-then-slots-at-eq0
returns-then-slots-at-eq0 c =
    let at = c.loop-unseen in
    record { value = sym (free-at _ at.unseen at.at (omega arith) c.if-slots-at-eq0.true) ∙ at.invariant.1; upper_bound = at.invariant.0 }

pub next_slot-at-requires : goal.next_slot-at-requires
next_slot-at-requires c = tt

pub overflow_sub-unseen : goal.overflow_sub-unseen
overflow_sub-unseen c = omega arith

pub loop-unseen-smaller : goal.loop-unseen-smaller
loop-unseen-smaller c = omega arith

pub loop-unseen-preserved : goal.loop-unseen-preserved
loop-unseen-preserved c =
    let at = c.loop-unseen in
    rw c.next_slot-at.ensures (next-inside _ _ (omega arith), sym (free_on _ at.unseen at.at (omega arith) c.if-slots-at-eq0.false) ∙ at.invariant.1)

pub returns : goal.returns
returns c = record { value = sym (free-none _ c.loop-unseen.unseen c.loop-unseen.at (omega arith)) ∙ c.loop-unseen.invariant.1; upper_bound = c.loop-unseen.invariant.0 }
