-- How the numbers of the code are those of the definitions. For contracts.
use Rattle.std.specs.Prelude.{ℕ, Result, Ok, Err}
use Rattle.star_find.specs.Lending.{number}
use Rattle.star_find.specs.declared.Missing.{Missing}
use Rattle.star_number.specs.declared.Number.{Number}
use Rattle.star_value_number.specs.Forms.{ValueNumber}

abbrev pub number_answer : Result Number Missing → ValueNumber
number_answer (Ok n) = ValueNumber.Given n
number_answer (Err m) = ValueNumber.Refused (number m)

-- a number, or a refusal of any number
abbrev pub number_or_refusal : Result Number ℕ → ValueNumber
number_or_refusal (Ok n) = ValueNumber.Given n
number_or_refusal (Err refusal) = ValueNumber.Refused refusal
