-- `seek` meets its contract: the answer from a row on is the answer from the first row on.
use Rattle.std.proofs.Common.{sym, ap, ◌∙◌, ◌+◌, arith, Ok}
use Rattle.std.proofs.lemmas.Result.{err_from_is_err_and}
use Rattle.star_find.specs.Find.{found, refused}
use Rattle.star_find.proofs.Looking.{seek-by, seek-over, compared-outside, compared-equal, compared-other}
use Rattle.star_find.proofs.Contents.seek.Goals as goal

pub returns-in_err-compare_row : goal.returns-in_err-compare_row
unfolding refused
returns-in_err-compare_row c =
    let p = err_from_is_err_and c.from_residual.result c.from_residual.ensures.1 in
    let q = compared-outside _ (sym c.in_err-compare_row.was ∙ c.compare_row.ensures) in
    rw (p.1, p.2, q.1) (sym (seek-by _ _ _ _ _ (omega arith) q.0) ∙ c.loop-row.invariant)

pub returns-then-branch : goal.returns-then-branch
unfolding found
returns-then-branch c =
    let e = compared-equal _ (sym (c.in_ok-compare_row.was ∙ ap Ok c.if-branch.true) ∙ c.compare_row.ensures) in
    sym (seek-by _ _ _ _ _ (omega arith) e) ∙ c.loop-row.invariant

pub loop-row-preserved : goal.loop-row-preserved
loop-row-preserved c =
    let e = compared-other _ (sym (c.in_ok-compare_row.was ∙ ap Ok c.if-branch.false) ∙ c.compare_row.ensures) in
    sym (seek-by _ _ _ _ _ (omega arith) e) ∙ c.loop-row.invariant

pub returns-else-branch : goal.returns-else-branch
unfolding refused
returns-else-branch c =
    let e = compared-other _ (sym (c.in_ok-compare_row.was ∙ ap Ok c.if-branch.false) ∙ c.compare_row.ensures) in
    sym (seek-over _ _ _ c.args.rows (c.loop-row.row + 1) (omega arith)) ∙ sym (seek-by _ _ _ _ _ (omega arith) e) ∙ c.loop-row.invariant

pub returns : goal.returns
unfolding refused
returns c = sym (seek-over _ _ _ _ c.loop-row.row (omega arith)) ∙ c.loop-row.invariant
