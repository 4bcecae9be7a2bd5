-- `with_digit` meets its contract.
use mathlib.Core.Path.{sym, ◌∙◌, ap}
use Prim.Native.Nat.{◌+◌, ◌*◌}
use native.Mathlib.Omega.{arith}
use Rattle.star_number.proofs.Counting.{counted-small, counted-most}
use Rattle.star_number.proofs.Places.{digit_low, digit-high}
use Rattle.star_number.proofs.scan.with_digit.Goals as goal

pub returns-then-value-ge-TENTH_OF_MOST : goal.returns-then-value-ge-TENTH_OF_MOST
returns-then-value-ge-TENTH_OF_MOST c = sym (counted-most _ (omega arith))

pub overflow_sub-byte : goal.overflow_sub-byte
overflow_sub-byte c = digit_low _ c.requires

pub returns : goal.returns
returns c = ap (λ n. c.args.value * 10 + n) c.from.ensures ∙ sym (counted-small _ (omega (arith, digit-high _ c.requires)))
