-- `put_counts` meets its contract: the counts, one behind the other.
use native.Mathlib.Omega.{arith}
use Rattle.star_list.proofs.Putting.{put_then}
use Rattle.star_list.proofs.Lines.{counts-line}
use Rattle.star_list.proofs.listing.put_counts.Goals as goal

pub put_number-sets-requires : goal.put_number-sets-requires
put_number-sets-requires c = omega arith

pub put_number-names-requires : goal.put_number-names-requires
put_number-names-requires c = omega arith

pub put_number-packets-requires : goal.put_number-packets-requires
put_number-packets-requires c = omega arith

pub put_number-requires : goal.put_number-requires
put_number-requires c = omega arith

pub returns : goal.returns
returns c =
    let r = c.args.counts in
    rw (counts-line r.tokens r.sets r.names r.packets r.values)
    (put_then
    (put_then
    (put_then
    (put_then c.put_number-tokens.ensures.put_within c.put_number-sets.ensures.put_within)
    c.put_number-names.ensures.put_within)
    c.put_number-packets.ensures.put_within)
    c.put_number.ensures.put_within)
