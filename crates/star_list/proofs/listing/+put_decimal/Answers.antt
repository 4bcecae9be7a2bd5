-- `put_decimal` meets its contract: the digits of a tenth of the number stand before its last digit. The measure is the number.
use native.Mathlib.Omega.{arith}
use Rattle.star_list.proofs.Putting.{put_then}
use Rattle.star_list.proofs.Decimal.{decimal-low, decimal-high}
use Rattle.star_list.proofs.listing.+put_decimal.Goals as goal

pub returns-then-n-lt10-clause-put_within : goal.returns-then-n-lt10-clause-put_within
returns-then-n-lt10-clause-put_within t c = rw (decimal-low c.args.n (omega arith)) c.put_byte.ensures

pub returns-clause-put_within : goal.returns-clause-put_within
returns-clause-put_within t c =
    rw (decimal-high c.args.n (omega arith)) (put_then c.put_decimal-last.ensures.put_within c.put_byte-2.ensures)
