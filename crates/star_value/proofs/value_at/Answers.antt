-- `value_at` meets its contract: the words are those of the value that was located.
use Rattle.std.proofs.Common.{sym, ap, ◌∙◌}
use Rattle.std.proofs.lemmas.Result.{err_from_is_err_and}
use Rattle.star_value.specs.Values.{value_at, value_of}
use Rattle.star_value.specs.Answers.{located_of}
use Rattle.star_value.proofs.Locating.{value-refused}
use Rattle.star_value.proofs.value_at.Goals as goal

pub returns-in_err-found : goal.returns-in_err-found
unfolding value_at
returns-in_err-found c =
    let p = err_from_is_err_and c.from_residual.result c.from_residual.ensures.1 in
    rw (p.1, p.2, sym c.locate.ensures ∙ ap located_of c.in_err-found.was) (sym (value-refused _ _))

pub returns : goal.returns
unfolding value_at value_of
returns c = rw (sym c.locate.ensures ∙ ap located_of c.in_ok-found.was, sym c.word.ensures)
