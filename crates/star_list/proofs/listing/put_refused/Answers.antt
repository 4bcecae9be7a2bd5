-- `put_refused` meets its contract: the parts of the line, one behind the other.
use native.Mathlib.Omega.{arith}
use Rattle.star_list.specs.Listing.{refused_word}
use Rattle.star_list.proofs.Putting.{put_then}
use Rattle.star_list.proofs.Lines.{refused-line}
use Rattle.star_list.proofs.listing.put_refused.Goals as goal

pub put_number-requires : goal.put_number-requires
put_number-requires c = omega (arith, c.put_bytes-word.ensures.ends)

pub returns : goal.returns
unfolding refused_word
returns c =
    rw (refused-line c.args.refusal c.args.place)
    (put_then (put_then c.put_bytes-word.ensures c.put_number-number.ensures.put_within) c.put_number.ensures.put_within)
