-- Numbers as C has them: specification 17.8. Believed; contracts of star_number and star cite it.
use Rattle.std.specs.Prelude.{false, ℕ, pos, Float as F64}
use Rattle.std.specs.Float.{fin}
use Rattle.star_number.specs.declared.Number.{Number}
use Rattle.star_number.specs.declared.Number.TheVariants.{Float, Uncertain, Unknown, NotApplicable, TooWide, Text}
use Rattle.star_number.specs.declared.Form.{Form}

-- positive zero, where a form has no float
abbrev pub zero_float : F64
zero_float = fin false 0 (pos 0)

abbrev pub form : (number : ℕ) → (value uncertainty : F64) → Form
form number value uncertainty = record { form = number; value = value; uncertainty = uncertainty }

-- the number of each case, and its floats
unfoldable pub form_of : Number → Form
form_of (Float value) = form 1 value zero_float
form_of (Uncertain value uncertainty) = form 2 value uncertainty
form_of Unknown = form 3 zero_float zero_float
form_of NotApplicable = form 4 zero_float zero_float
form_of TooWide = form 5 zero_float zero_float
form_of Text = form 6 zero_float zero_float
