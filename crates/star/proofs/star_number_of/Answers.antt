-- `star_number_of` is `number_of` of the crate below, as its form.
use mathlib.Core.Path.{◌∙◌, ap}
use Rattle.star_number.specs.Forms.{form_of}
use Rattle.star.proofs.star_number_of.Goals as goal

pub returns : goal.returns
returns c = c.from.ensures ∙ ap form_of c.number_of.ensures
