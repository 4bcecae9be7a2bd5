-- How the value lookups of the code are the definitions: what each answers. For contracts.
use Rattle.std.specs.Prelude.{cond, ℕ, eqb, Option, Some, None, Result, Ok, Err}
use Rattle.star_find.specs.Lending.{number}
use Rattle.star_find.specs.declared.Missing.{Missing}
use Rattle.star_value.specs.Values.{Located, missing}
use Rattle.star_value.specs.declared.Located.{Located as LocatedValue}
use Rattle.star_value.specs.declared.Valued.{Valued}
use Rattle.star_value.specs.declared.Value.{Value}

-- a row, or none where it is 0
abbrev pub first_of : ℕ → Option ℕ
first_of row = cond (eqb row 0) None (Some row)

abbrev pub located_of : Result LocatedValue Missing → Located
located_of (Ok v) = record { refusal = 0; packet = v.packet; token = v.token }
located_of (Err m) = missing (number m)

abbrev pub valued_of : Result Valued Missing → Value
valued_of (Ok v) = record { refusal = 0; kind = v.kind; packet = v.packet }
valued_of (Err m) = record { refusal = number m; kind = 0; packet = 0 }
