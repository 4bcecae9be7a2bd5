-- `has_rows` meets its contract: a table has so many rows where a third of its words are as many.
use Prim.Native.Nat.{◌*◌, ◌/◌}
use native.Mathlib.Omega.{arith}
use borrow.Author.Tests.{le-leb, lt-leb}
use Rattle.star_lex.specs.Room.{has_rows}
use Rattle.star_lex.proofs.rows.has_rows.Goals as goal

pub returns-then-count-words : goal.returns-then-count-words
unfolding has_rows
returns-then-count-words c = rw (le-leb (c.args.count * 3) c.args.words (omega arith))

pub returns-else-count-words : goal.returns-else-count-words
unfolding has_rows
returns-else-count-words c = rw (lt-leb (c.args.count * 3) c.args.words (omega arith), lt-leb c.args.count (c.args.words / 3) (omega arith))
