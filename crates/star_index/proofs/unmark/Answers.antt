-- `unmark` meets its contract: the rows passed have their words without the mark.
use mathlib.Core.Path.{◌≡◌}
use Prim.Native.Nat.{◌+◌, ◌*◌, ◌<◌}
use native.Mathlib.Omega.{arith}
use lib.ListN.{length}
use Rattle.star_text.proofs.Cases.{impossible}
use Rattle.star_index.proofs.Marking.{cleaned-none, cleaned-next, cleaned-missing}
use Rattle.star_index.proofs.unmark.Goals as goal

pub loop-i-init : goal.loop-i-init
loop-i-init c = (omega arith, cleaned-none _)

pub overflow_mul-place : goal.overflow_mul-place
overflow_mul-place c = omega (arith, c.requires, c.loop-i.invariant.1.size)

pub overflow_add-place : goal.overflow_add-place
overflow_add-place c = omega (arith, c.requires, c.loop-i.invariant.1.size)

pub offset_bounds-names-place : goal.offset_bounds-names-place
offset_bounds-names-place c = omega (arith, c.requires, c.loop-i.invariant.1.size)

pub bounds-names-place : goal.bounds-names-place
bounds-names-place c = omega (arith, c.requires, c.loop-i.invariant.1.size)

pub returns-then-word-lt-MARK : goal.returns-then-word-lt-MARK
returns-then-word-lt-MARK c = record { cleaned = λ e. impossible cc; by_index = λ e. let at = c.loop-i in cleaned-missing at.i _ at.names at.invariant.1 _ (omega arith) c.if-word-lt-MARK.true }

pub offset_bounds-names-place-in-loop-i : goal.offset_bounds-names-place-in-loop-i
offset_bounds-names-place-in-loop-i c = omega (arith, c.requires, c.loop-i.invariant.1.size)

pub bounds-names-place-in-loop-i : goal.bounds-names-place-in-loop-i
bounds-names-place-in-loop-i c = omega (arith, c.requires, c.loop-i.invariant.1.size)

pub overflow_add-i : goal.overflow_add-i
overflow_add-i c = omega arith

pub loop-i-smaller : goal.loop-i-smaller
loop-i-smaller c = omega arith

pub loop-i-preserved : goal.loop-i-preserved
loop-i-preserved c =
    let at = c.loop-i in
    let inside : at.i * 4 + 1 < length at.names = omega (arith, c.requires, at.invariant.1.size) in
    (omega arith, cleaned-next at.i _ at.names at.invariant.1 inside (omega (arith, c.if-word-lt-MARK.false)))

pub returns : goal.returns
returns c =
    let at = c.loop-i in
    let end : at.i ≡ c.args.rows = omega arith in
    record { cleaned = λ e. rw end at at.invariant.1; by_index = λ e. impossible cc }
