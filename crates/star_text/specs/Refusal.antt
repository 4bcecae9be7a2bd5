-- The numbers of the reasons of a refusal: specification 8.
use Rattle.std.specs.Prelude.{ℕ}
use Rattle.star_text.specs.declared.refusal.Reason.{Reason}
use Rattle.star_text.specs.declared.refusal.Reason.TheVariants.{TooLong, BadByte, IllFormed, LongName, OpenQuote, OpenField, NoRoom, OutOfPlace, Taken, Incomplete, TooDeep, NoLayout, NoIndex, HeaderStop}

abbrev pub number : Reason → ℕ
number TooLong = 1
number BadByte = 2
number IllFormed = 3
number LongName = 4
number OpenQuote = 5
number OpenField = 6
number NoRoom = 7
number OutOfPlace = 8
number Taken = 9
number Incomplete = 10
number TooDeep = 11
number NoLayout = 14
number NoIndex = 15
number HeaderStop = 16
