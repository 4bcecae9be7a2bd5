-- `value_number` meets its contract: a value that is found is the number of its kind and its part.
use Rattle.std.proofs.Common.{sym, ap, ◌∙◌, ne_eqb}
use Rattle.std.proofs.lemmas.Result.{err_from_is_err_and}
use Rattle.star_find.proofs.Looking.{number-not-0}
use Rattle.star_value.specs.Values.{value_at, value_part, value_of}
use Rattle.star_value.specs.Answers.{located_of}
use Rattle.star_value.proofs.Locating.{value-refused}
use Rattle.star_value_number.specs.Forms.{value_number, value_number_of}
use Rattle.star_value_number.proofs.value_number.Goals as goal

pub returns-in_err-found : goal.returns-in_err-found
unfolding value_number value_number_of value_at
returns-in_err-found c =
    let p = err_from_is_err_and c.from_residual.result c.from_residual.ensures.1 in
    rw (p.1, p.2, sym c.locate.ensures ∙ ap located_of c.in_err-found.was, value-refused, ne_eqb _ 0 (number-not-0 c.in_err-found.field-0.0))

pub returns : goal.returns
unfolding value_number value_number_of value_at value_part value_of
returns c =
    rw (sym c.locate.ensures ∙ ap located_of c.in_ok-found.was, sym c.word-kind.ensures, c.number_of.ensures, c.part.ensures.result_value, c.contents.ensures)
