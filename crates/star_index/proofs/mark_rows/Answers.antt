-- `mark_rows` meets its contract: the rows of the slots passed are marked, and none was in two of them.
use mathlib.Core.Path.{◌≡◌, sym, ◌∙◌, subst}
use Prim.Native.Nat.{◌+◌, ◌-◌, ◌≤◌, ◌<◌}
use native.Mathlib.Omega.{arith}
use borrow.Author.Tests.{not-true, not-false, ltb-true, ltb-false}
use lib.ListN.{length, get_or}
use Rattle.star_text.proofs.Cases.{impossible}
use Rattle.star_index.specs.Inner.{mark, place_of, Marked}
use Rattle.star_index.proofs.Marking.{marked-none, apart_none, marked-zero, apart-zero, fresh, taken, marked_row, apart-row}
use Rattle.star_index.proofs.mark_rows.Goals as goal

pub loop-at-init : goal.loop-at-init
loop-at-init c = (omega arith, apart_none c.args.slots.now, marked-none _ _ _)

pub offset_bounds-slots-at : goal.offset_bounds-slots-at
offset_bounds-slots-at c = omega arith

pub bounds-slots-at : goal.bounds-slots-at
bounds-slots-at c = omega arith

pub overflow_add-at : goal.overflow_add-at
overflow_add-at c = omega arith

pub loop-at-smaller-then-row-eq0 : goal.loop-at-smaller-then-row-eq0
loop-at-smaller-then-row-eq0 c = omega arith

pub loop-at-preserved-then-row-eq0 : goal.loop-at-preserved-then-row-eq0
loop-at-preserved-then-row-eq0 c =
    let at = c.loop-at in
    (omega arith, apart-zero c.args.slots.now at.at at.invariant.1 c.if-row-eq0.true, marked-zero _ at.at _ _ _ at.invariant.2 c.if-row-eq0.true)

pub mark-requires : goal.mark-requires
mark-requires c =
    let at = c.loop-at in
    record { le_row = omega (arith, c.if-row-eq0.false); row_in_bounds = omega (arith, c.requires.by_index at.at (omega arith), c.requires.unmarked.room, at.invariant.2.size) }

pub returns-then-not-mark : goal.returns-then-not-mark
returns-then-not-mark c =
    let at = c.loop-at in
    let marked = c.mark in
    let low : 1 ≤ get_or c.args.slots.now at.at 0 = omega (arith, c.if-row-eq0.false) in record {
      apart = λ e. impossible cc;
      fact = λ e p.
          taken c.args.slots.now at.at c.args.rows c.args.names.now at.names at.invariant.2 c.requires.unmarked low (c.requires.by_index at.at (omega arith))
          (ltb-false _ _ (sym marked.ensures.value ∙ not-true marked.result c.if-not-mark.true-raw)) (λ s. p s.0 at.at s.1 (omega arith) low s.2);
    }

pub overflow_add-at-in-loop-at : goal.overflow_add-at-in-loop-at
overflow_add-at-in-loop-at c = omega arith

pub loop-at-smaller : goal.loop-at-smaller
loop-at-smaller c = omega arith

pub loop-at-preserved : goal.loop-at-preserved
loop-at-preserved c =
    let at = c.loop-at in
    let marked = c.mark in
    let low : 1 ≤ get_or c.args.slots.now at.at 0 = omega (arith, c.if-row-eq0.false) in
    let high = c.requires.by_index at.at (omega arith) in
    let unmarked = not-false marked.result c.if-not-mark.false-raw in
    let below : get_or at.names (place_of (get_or c.args.slots.now at.at 0 - 1)) 0 < mark = ltb-true _ _ (sym marked.ensures.value ∙ unmarked) in (
      omega arith,
      apart-row c.args.slots.now at.at at.invariant.1
          (fresh c.args.slots.now at.at c.args.rows c.args.names.now at.names at.invariant.2 c.requires.unmarked low high below),
      subst (Marked c.args.slots.now (at.at + 1) c.args.rows c.args.names.now)
          (sym (marked.ensures.names_after ∙ rw unmarked))
          (marked_row c.args.slots.now at.at c.args.rows c.args.names.now at.names at.invariant.2 c.requires.unmarked low high below),
    )

pub returns : goal.returns
returns c =
    let at = c.loop-at in
    let slots = c.args.slots.now in
    let end : at.at ≡ length slots = omega arith in
    record { apart = λ e. (rw end at at.invariant.1, rw end at at.invariant.2); fact = λ e. impossible cc }
