-- `fill` meets its contract: after each row the slots are those of the rows passed.
use mathlib.Core.Path.{◌≡◌, refl, sym, ◌∙◌, ap}
use Prim.Native.Nat.{◌+◌, ◌<◌}
use native.Mathlib.Omega.{arith}
use lib.ListN.{length, set, length-set}
use Rattle.star_slots.specs.Inner.{table_home}
use Rattle.star_slots.proofs.Slots.{table-home}
use Rattle.star_build.specs.Build.{first_free, entered, filled}
use Rattle.star_build.proofs.Filling.{filled_next}
use Rattle.star_build.proofs.fill.Goals.{After-home_at-home}
use Rattle.star_build.proofs.fill.Goals as goal

pub loop-row-init : goal.loop-row-init
unfolding filled
loop-row-init c = (omega arith, refl, refl)

pub overflow_add-row : goal.overflow_add-row
overflow_add-row c = omega (arith, c.ranges.rows)

pub home_at-home-requires : goal.home_at-home-requires
home_at-home-requires c = tt

-- there are slots
some-slots : (c : After-home_at-home) → 0 < length c.loop-row.slots
some-slots c = omega (arith, c.loop-row.invariant.1, c.requires)

pub free_from-at-requires : goal.free_from-at-requires
free_from-at-requires c = rw c.home_at-home.ensures (table-home _ _ _ _ _ _ (some-slots c))

pub offset_bounds-slots-at : goal.offset_bounds-slots-at
offset_bounds-slots-at c = omega (arith, c.free_from-at.ensures.upper_bound)

pub bounds-slots-at : goal.bounds-slots-at
bounds-slots-at c = c.free_from-at.ensures.upper_bound

pub loop-row-smaller : goal.loop-row-smaller
loop-row-smaller c = omega arith

pub loop-row-preserved : goal.loop-row-preserved
unfolding entered
loop-row-preserved c =
    let at = c.loop-row in
    let a = c.args in
    let home = table_home a.file.now a.tokens.now a.count a.names.now in (
      omega arith,
      length-set at.slots _ _ ∙ at.invariant.1,
      ap (λ n. set at.slots n (at.row + 1))
          (c.free_from-at.ensures.value
          ∙ ap (first_free at.slots (length at.slots)) (c.home_at-home.ensures ∙ ap (λ n. home n (at.row + 1)) at.invariant.1))
          ∙ ap (entered (home (length a.slots.now)) (at.row + 1)) at.invariant.2
          ∙ sym (filled_next (home (length a.slots.now)) a.slots.now at.row),
    )

pub returns : goal.returns
returns c =
    let at = c.loop-row in
    let a = c.args in
    at.invariant.2 ∙ ap (filled (table_home a.file.now a.tokens.now a.count a.names.now (length a.slots.now)) a.slots.now) (let end : at.row ≡ a.rows = omega arith in end)
