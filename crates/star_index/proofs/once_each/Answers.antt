-- `once_each` meets its contract: rows are marked, and each has had its mark.
use native.Mathlib.Omega.{arith}
use borrow.Author.Tests.{not-true, not-false}
use Rattle.star_text.proofs.Cases.{impossible}
use Rattle.star_index.proofs.Marking.{once-all, once-missing, once-apart}
use Rattle.star_index.proofs.once_each.Goals as goal

pub returns-then-not-mark_rows : goal.returns-then-not-mark_rows
returns-then-not-mark_rows c =
    let marked = c.mark_rows in
    record { by_index_2 = λ e. impossible cc; fact = λ e once. marked.ensures.fact (not-true marked.result c.if-not-mark_rows.true-raw) (once-apart _ c.args.rows c.requires.by_index once) }

pub unmark-requires : goal.unmark-requires
unmark-requires c = omega (arith, c.requires.unmarked.room, c.mark_rows.auto.names)

pub returns : goal.returns
returns c =
    let marked = c.mark_rows in
    let cleaned = c.unmark in
    let (apart, marks) = marked.ensures.apart (not-false marked.result c.if-not-mark_rows.false-raw) in record { by_index_2 = λ e. once-all _ c.args.rows _ _ c.requires.unmarked marks _ apart (cleaned.ensures.cleaned e); fact = λ e once. once-missing _ c.args.rows _ _ c.requires.unmarked marks (cleaned.ensures.by_index e) once }
