-- `block_kind` meets its contract, by what stands at the place.
use Rattle.star_parse.specs.Reader.{Headed}
use Rattle.star_parse.proofs.progress.block_kind.Goals as goal

pub returns-then-next_is : goal.returns-then-next_is
returns-then-next_is c = Headed.data_block (c.next_is.ensures.is c.if-next_is.true)

pub returns-then-next_is-2 : goal.returns-then-next_is-2
returns-then-next_is-2 c = Headed.global_block (c.next_is-2.ensures.is c.if-next_is-2.true)
