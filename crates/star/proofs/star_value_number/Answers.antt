-- `star_value_number` is `value_number` of the crate below, as its form.
use mathlib.Core.Path.{◌∙◌, ap}
use Rattle.star_value_number.specs.Forms.{value_form_of}
use Rattle.star.proofs.star_value_number.Goals as goal

pub returns : goal.returns
returns c = c.from.ensures ∙ ap value_form_of c.value_number.ensures
