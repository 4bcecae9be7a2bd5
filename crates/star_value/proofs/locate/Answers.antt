-- `locate` meets its contract: the checks stand in the order of the definition.
use Rattle.std.proofs.Common.{sym, ap, ◌∙◌}
use Rattle.std.proofs.lemmas.Result.{err_from_is_err_and}
use Rattle.star_find.specs.Lending.{found_of}
use Rattle.star_value.specs.Values.{locate, located, missing}
use Rattle.star_value.proofs.Locating.{located-refused}
use Rattle.star_value.proofs.locate.Goals as goal

pub returns-then-not-row_there : goal.returns-then-not-row_there
unfolding locate missing
returns-then-not-row_there c = rw (sym c.row_there.ensures ∙ c.if-not-row_there.true)

pub returns-in_err-row : goal.returns-in_err-row
unfolding locate
returns-in_err-row c =
    let p = err_from_is_err_and c.from_residual.result c.from_residual.ensures.1 in
    rw (p.1, p.2, sym c.row_there.ensures ∙ c.if-not-row_there.false, sym c.value_row.ensures ∙ ap found_of c.in_err-row.was) (sym (located-refused _ _ _))

pub returns-then-not-has_part : goal.returns-then-not-has_part
unfolding locate located missing
returns-then-not-has_part c =
    rw (sym c.row_there.ensures ∙ c.if-not-row_there.false, sym c.value_row.ensures ∙ ap found_of c.in_ok-row.was, sym c.word-token.ensures, sym (rw c.contents.ensures at c.has_part.ensures) ∙ c.if-not-has_part.true)

pub returns : goal.returns
unfolding locate located
returns c =
    rw (sym c.row_there.ensures ∙ c.if-not-row_there.false, sym c.value_row.ensures ∙ ap found_of c.in_ok-row.was, sym c.word-token.ensures, sym (rw c.contents.ensures at c.has_part.ensures) ∙ c.if-not-has_part.false, sym c.word.ensures)
