-- Today's rules are usable, those for old files, and those of the 1991 layout.
use native.Mathlib.Omega.{arith}
use Rattle.star_lex.specs.Rules.{today, old_headers, rules1991}
use Rattle.star_read.specs.Demands.{Usable}

pub today-usable : Usable today
today-usable = record { some_level = omega arith; long_names = omega arith }

pub old-usable : Usable old_headers
old-usable = record { some_level = omega arith; long_names = omega arith }

pub usable-1991 : Usable rules1991
usable-1991 = record { some_level = omega arith; long_names = omega arith }
