-- `put_number` meets its contract: the byte goes behind the digits.
use native.Mathlib.Omega.{arith}
use Rattle.star_list.proofs.Putting.{put_then}
use Rattle.star_list.proofs.listing.put_number.Goals as goal

pub put_byte-requires : goal.put_byte-requires
put_byte-requires c = omega arith

pub returns : goal.returns
returns c =
    let put = c.put_byte in
    record { put_within = put_then c.put_decimal-end.ensures.put_within put.ensures; upper_bound = omega (arith, put.ensures.ends, c.put_decimal-end.ensures.upper_bound) }
