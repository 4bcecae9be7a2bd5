-- `mark` meets its contract: the word is tested, and written where it is below the mark.
use mathlib.Core.Path.{refl, sym}
use Prim.Native.Nat.{◌+◌, ◌-◌, ◌*◌, ◌≤◌}
use native.Mathlib.Omega.{arith}
use borrow.Author.Tests.{lt-ltb, le-ltb}
use lib.ListN.{get_or}
use Rattle.star_index.proofs.mark.Goals as goal

pub overflow_sub-place : goal.overflow_sub-place
overflow_sub-place c = omega arith

pub overflow_cast-place : goal.overflow_cast-place
overflow_cast-place c = omega arith

pub overflow_mul-place : goal.overflow_mul-place
overflow_mul-place c = omega arith

pub overflow_add-place : goal.overflow_add-place
overflow_add-place c = omega arith

pub offset_bounds-names-place : goal.offset_bounds-names-place
offset_bounds-names-place c = omega arith

pub bounds-names-place : goal.bounds-names-place
bounds-names-place c = omega arith

pub overflow_add-names : goal.overflow_add-names
overflow_add-names c = omega arith

pub offset_bounds-names-place-then-word-lt-MARK : goal.offset_bounds-names-place-then-word-lt-MARK
offset_bounds-names-place-then-word-lt-MARK c = omega arith

pub bounds-names-place-then-word-lt-MARK : goal.bounds-names-place-then-word-lt-MARK
bounds-names-place-then-word-lt-MARK c = omega arith

pub returns-then-word-lt-MARK : goal.returns-then-word-lt-MARK
returns-then-word-lt-MARK c = record { value = sym (lt-ltb _ _ c.if-word-lt-MARK.true); names_after = refl }

pub returns : goal.returns
returns c = let high : 2147483648 ≤ get_or c.args.names.now ((c.args.row - 1) * 4 + 1) 0 = omega (arith, c.if-word-lt-MARK.false) in record { value = sym (le-ltb _ _ high); names_after = refl }
