-- `find_name` meets its contract: the counts and the set are checked, then the set is asked and, where it goes on, the global blocks before it.
use Rattle.std.proofs.Common.{sym, ◌∙◌}
use Rattle.star_find.specs.Find.{find_name, own_name, look}
use Rattle.star_find.proofs.Asking.{on-stays, on-goes}
use Rattle.star_find.proofs.Lent.find_name.Goals as goal

pub returns-then-not-goes_on : goal.returns-then-not-goes_on
unfolding find_name own_name look
returns-then-not-goes_on c =
    rw (sym c.row_there.ensures ∙ c.if-not-row_there.false)
    (on-stays _ _ _ _ (rw c.contents-contents.ensures at c.seek-own.ensures) c.goes_on.ensures c.if-not-goes_on.true)

pub returns : goal.returns
unfolding find_name own_name look
returns c =
    rw (sym c.row_there.ensures ∙ c.if-not-row_there.false)
    (on-goes _ _ _ c.seek-own.result (rw c.contents-contents.ensures at c.seek-own.ensures) c.goes_on.ensures c.if-not-goes_on.false
    (rw c.contents-contents.ensures at c.find_global.ensures))
