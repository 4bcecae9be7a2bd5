-- `token_row` meets its contract: a value that is refused has token row 0.
use Rattle.std.proofs.Common.{sym, ap, ◌∙◌}
use Rattle.star_value.specs.Values.{missing}
use Rattle.star_value.specs.Answers.{located_of}
use Rattle.star_value.proofs.token_row.Goals as goal

pub returns-in-Err : goal.returns-in-Err
unfolding missing
returns-in-Err c = ap (λ f. f.token) (sym (ap located_of c.in-Err.is) ∙ c.locate.ensures)
