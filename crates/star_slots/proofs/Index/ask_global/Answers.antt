-- `ask_global` meets its contract: the kind word decides.
use Rattle.std.proofs.Common.{sym, ne_eqb}
use Rattle.star_find.specs.Find.{refused}
use Rattle.star_slots.proofs.Index.ask_global.Goals as goal

pub returns-then-word-ne3 : goal.returns-then-word-ne3
unfolding refused
returns-then-word-ne3 c = rw (sym c.word.ensures, ne_eqb _ 3 c.if-word-ne3.true)
