-- No reason of a refusal has the number 0, which is told where there is none.
use mathlib.Core.Path.{◌≡◌}
use native.Mathlib.Omega.{arith}
use Rattle.star_text.specs.Refusal.{number}
use Rattle.star_text.specs.declared.refusal.Reason.{Reason}
use Rattle.star_text.specs.declared.refusal.Reason.TheVariants.{TooLong, BadByte, IllFormed, LongName, OpenQuote, OpenField, NoRoom, OutOfPlace, Taken, Incomplete, TooDeep, NoLayout, NoIndex, HeaderStop}

pub number-some : (r : Reason) → number r ≡ 0 → ⊥
number-some TooLong z = omega arith
number-some BadByte z = omega arith
number-some IllFormed z = omega arith
number-some LongName z = omega arith
number-some OpenQuote z = omega arith
number-some OpenField z = omega arith
number-some NoRoom z = omega arith
number-some OutOfPlace z = omega arith
number-some Taken z = omega arith
number-some Incomplete z = omega arith
number-some TooDeep z = omega arith
number-some NoLayout z = omega arith
number-some NoIndex z = omega arith
number-some HeaderStop z = omega arith
