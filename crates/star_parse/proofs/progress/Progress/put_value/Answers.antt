-- `put_value` meets its contract: `put_linked` writes the row and the link to it.
use native.Mathlib.Omega.{arith}
use Rattle.star_parse.proofs.progress.Progress.put_value.Goals as goal

pub returns : goal.returns
returns c = record { table = c.put_linked.ensures; counted = omega arith }
