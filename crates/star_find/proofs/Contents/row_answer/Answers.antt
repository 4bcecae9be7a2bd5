-- `row_answer` meets its contract: how the row compares decides.
use Rattle.std.proofs.Common.{sym, ap, ◌∙◌, Ok}
use Rattle.std.proofs.lemmas.Result.{err_from_is_err_and}
use Rattle.star_find.specs.Find.{found, refused}
use Rattle.star_find.proofs.Looking.{meet-decides, compared-outside, compared-equal, compared-other}
use Rattle.star_find.proofs.Contents.row_answer.Goals as goal

pub returns-in_err-compare : goal.returns-in_err-compare
unfolding refused
returns-in_err-compare c =
    let p = err_from_is_err_and c.from_residual.result c.from_residual.ensures.1 in
    let q = compared-outside _ (sym (c.in_err-compare.was) ∙ c.compare.ensures) in
    rw (p.1, p.2, q.1, meet-decides, sym c.word-token.ensures, q.0)

pub returns-then-branch : goal.returns-then-branch
unfolding found
returns-then-branch c =
    let e = compared-equal _ (sym (c.in_ok-compare.was ∙ ap Ok c.if-branch.true) ∙ c.compare.ensures) in
    rw (meet-decides, sym c.word-token.ensures, e)

pub returns-else-branch : goal.returns-else-branch
unfolding refused
returns-else-branch c =
    let e = compared-other _ (sym (c.in_ok-compare.was ∙ ap Ok c.if-branch.false) ∙ c.compare.ensures) in
    rw (meet-decides, sym c.word-token.ensures, e)
