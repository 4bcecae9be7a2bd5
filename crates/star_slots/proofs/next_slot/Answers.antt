-- `next_slot` meets its contract: by the test that the definition makes, with a sum that may wrap.
use Rattle.std.proofs.Common.{arith}
use Rattle.star_slots.proofs.Slots.{next-sum, next-round}
use Rattle.star_slots.proofs.next_slot.Goals as goal

pub returns-then-next-slots : goal.returns-then-next-slots
returns-then-next-slots c =
    next-sum c.args.slots c.args.at (omega arith) (omega arith) c.wrapping_add_usize-next.ensures.value (omega arith)

pub returns-else-next-slots : goal.returns-else-next-slots
returns-else-next-slots c =
    next-round c.args.slots c.args.at (omega arith) (omega arith) c.wrapping_add_usize-next.ensures.value (omega arith)
