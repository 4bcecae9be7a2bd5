-- `home_at` meets its contract: by the set and the token that the row's words tell.
use Rattle.std.proofs.Common.{sym}
use Rattle.star_slots.specs.Inner.{table_home}
use Rattle.star_slots.proofs.home_at.Goals as goal

pub returns : goal.returns
unfolding table_home
returns c = rw (sym c.word-set.ensures, sym c.word-token.ensures, sym c.part.ensures.result_value) c.home_of.ensures
