-- `find` meets its contract: the counts and the set are checked, then the set is asked and, where it goes on, the global blocks before it.
use Rattle.std.proofs.Common.{sym, ◌∙◌}
use Rattle.star_find.specs.Find.{refused}
use Rattle.star_find.proofs.Asking.{on-stays, on-goes}
use Rattle.star_slots.specs.Lookup.{find_slot}
use Rattle.star_slots.proofs.find.Goals as goal

pub returns-then-not-row_there : goal.returns-then-not-row_there
unfolding find_slot refused
returns-then-not-row_there c = rw (sym c.row_there.ensures ∙ c.if-not-row_there.true)

pub returns-then-not-goes_on : goal.returns-then-not-goes_on
unfolding find_slot
returns-then-not-goes_on c =
    rw (sym c.row_there.ensures ∙ c.if-not-row_there.false)
    (on-stays _ _ _ _ c.ask-own.ensures c.goes_on.ensures c.if-not-goes_on.true)

pub returns : goal.returns
unfolding find_slot
returns c =
    rw (sym c.row_there.ensures ∙ c.if-not-row_there.false)
    (on-goes _ _ _ c.ask-own.result c.ask-own.ensures c.goes_on.ensures c.if-not-goes_on.false c.ask_globals.ensures)
