-- `put_bytes` meets its contract: each turn puts one byte more.
use native.Mathlib.Numerals.{add-one}
use native.Mathlib.Omega.{arith}
use lib.ListN.{length-take}
use lib.Seq.{take-suc, take_all}
use Rattle.star_list.proofs.Putting.{put-none, put_then}
use Rattle.star_list.proofs.listing.put_bytes.Goals as goal

pub loop-b-init : goal.loop-b-init
loop-b-init c = put-none _ _

pub put_byte-next-requires : goal.put_byte-next-requires
put_byte-next-requires c = omega (arith, c.loop-b.invariant.ends, length-take c.loop-b.b-index c.args.bytes.now, c.requires)

pub loop-b-preserved : goal.loop-b-preserved
loop-b-preserved c =
    let turn = c.loop-b in
    rw (add-one turn.b-index, take-suc c.args.bytes.now turn.b-index 0 (omega arith)) (put_then turn.invariant c.put_byte-next.ensures)

pub returns : goal.returns
returns c = rw (take_all c.loop-b.b-index c.args.bytes.now (omega arith)) at c.loop-b.invariant
