-- No reason of a refusal has the number 0, which an answer has where nothing is refused.
use Prim.Native.Nat.{◌<◌}
use native.Mathlib.Omega.{arith}
use Rattle.star_text.specs.declared.refusal.Reason.{Reason}
use Rattle.star_text.specs.declared.refusal.Reason.TheVariants.{TooLong, BadByte, IllFormed, LongName, OpenQuote, OpenField, NoRoom, OutOfPlace, Taken, Incomplete, TooDeep, NoLayout, NoIndex, HeaderStop}
use Rattle.star_text.specs.Refusal.{number}

pub reason-numbered : (r : Reason) → 0 < number r
reason-numbered TooLong = omega arith
reason-numbered BadByte = omega arith
reason-numbered IllFormed = omega arith
reason-numbered LongName = omega arith
reason-numbered OpenQuote = omega arith
reason-numbered OpenField = omega arith
reason-numbered NoRoom = omega arith
reason-numbered OutOfPlace = omega arith
reason-numbered Taken = omega arith
reason-numbered Incomplete = omega arith
reason-numbered TooDeep = omega arith
reason-numbered NoLayout = omega arith
reason-numbered NoIndex = omega arith
reason-numbered HeaderStop = omega arith
