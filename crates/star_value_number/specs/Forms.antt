-- The number of a value that lookup finds, and as C has it: specification 17.7 and 17.8. Believed; contracts of star_value_number and star cite it.
use Rattle.std.specs.Prelude.{cond, List, ℕ, eqb}
use Rattle.star_find.specs.Find.{Lent}
use Rattle.star_value.specs.Values.{value_at, value_part}
use Rattle.star_number.specs.Taken.{number_in}
use Rattle.star_number.specs.Forms.{zero_float, form, form_of}
use Rattle.star_rows.specs.declared.Counts.{Counts}
use Rattle.star_value.specs.declared.Value.{Value}
use Rattle.star_number.specs.declared.Form.{Form}
use Rattle.star_number.specs.declared.Number.{Number}
use Rattle.star_value_number.specs.declared.ValueForm.{ValueForm}

-- what a value is: a refusal, or a number
pub data ValueNumber : Type 0 where
  Refused : (number : ℕ) → ValueNumber
  Given : (number : Number) → ValueNumber

-- a value that is refused has that refusal; one that is found is the number of its kind and its part of the file
unfoldable pub value_number_of : Value → (part : List ℕ) → ValueNumber
value_number_of v part = cond (eqb v.refusal 0) (ValueNumber.Given (number_in v.kind part)) (ValueNumber.Refused v.refusal)

unfoldable pub value_number : Lent → Counts → (name k : ℕ) → ValueNumber
value_number l c name k = value_number_of (value_at l c name k) (value_part l c name k)

-- preceded by the refusal; a refused value has form 0
abbrev pub value_form : (refusal : ℕ) → Form → ValueForm
value_form refusal f = record { refusal = refusal; form = f.form; value = f.value; uncertainty = f.uncertainty }

unfoldable pub value_form_of : ValueNumber → ValueForm
value_form_of (ValueNumber.Refused number) = value_form number (form 0 zero_float zero_float)
value_form_of (ValueNumber.Given number) = value_form 0 (form_of number)
