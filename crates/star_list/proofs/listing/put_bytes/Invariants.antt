use Rattle.std.proofs.Common.{take}
use Rattle.star_list.specs.Put.{PutWithin}
use Rattle.star_list.proofs.listing.put_bytes.Given as goal

abbrev pub invariant-loop-b : goal.invariant-loop-b
invariant-loop-b l = PutWithin (take l.b-index l.bytes) l.at l.initial.out l.out l.next
