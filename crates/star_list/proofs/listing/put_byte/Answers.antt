-- `put_byte` meets its contract: a place that is outside leaves the room as it is.
use mathlib.Core.Path.{refl, sym}
use lib.Seq.{set_out}
use Rattle.star_list.proofs.listing.put_byte.Goals as goal

pub returns : goal.returns
returns c = record { ends = refl; leaves = sym (set_out _ _ _ c.if-at-out.false) }
