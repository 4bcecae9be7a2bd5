-- What is demanded of the numbers of values: statements alone. Believed; star's Demands cites it.
use Rattle.std.specs.Prelude.{◌≡◌, ◌⊎◌, List, ◌∷◌, ◌++◌, ℕ, suc, ◌≤◌, ◌<◌, length}
use Rattle.star_text.specs.Outcome.{accepted}
use Rattle.star_lex.specs.Tokens.{Placed}
use Rattle.star_grammar.specs.Tables.{Rows, ValueRow}
use Rattle.star_read.specs.Read.{Sizes, Way, read_via}
use Rattle.star_find.specs.Find.{Lent}
use Rattle.star_find.specs.Demands.{lent_after, counts_after, content_of}
use Rattle.star_value.specs.Demands.{of_name, token_kind}
use Rattle.star_number.specs.Taken.{number_in}
use Rattle.star_number.specs.Forms.{zero_float, form, form_of}
use Rattle.star_value_number.specs.Forms.{ValueNumber, Refused, Given, value_number, value_form, value_form_of}
use Rattle.star_rows.specs.declared.Counts.{Counts}
use Rattle.star_number.specs.declared.Number.{Number}
use Rattle.star_value_number.specs.declared.ValueForm.{ValueForm}

-- after reading, in either layout or as an old file: the numbers of a name row, k = 1, 2, .., are those of its values in file order; past the last there is none
abbrev pub NumbersInOrder : Type 0
NumbersInOrder = (way : Way) (file : List ℕ) (words : Sizes) (ps : List Placed) (rows : Rows) → read_via way file words ≡ accepted (ps, rows)
    → (name : ℕ) → 1 ≤ name → name ≤ length rows.names
    → ((before : List ValueRow) (v : ValueRow) (behind : List ValueRow) → of_name name rows.values ≡ before ++ (v ∷ behind)
    → value_number (lent_after way file words) (counts_after way file words) name (suc (length before)) ≡ Given (number_in (token_kind ps v.value) (content_of ps v.value)))
    × ((k : ℕ) → (k ≡ 0) ⊎ (length (of_name name rows.values) < k)
    → value_number (lent_after way file words) (counts_after way file words) name k ≡ Refused 13)

-- demand 1, of any file, tables, counts and numbers: a number with its form; or 13 or 14, and then form 0 and both floats are 0
pub data NumberAnswer : ValueNumber → ValueForm → Type 0 where
  given : (n : Number) → NumberAnswer (Given n) (value_form 0 (form_of n))
  nowhere : NumberAnswer (Refused 13) (value_form 13 (form 0 zero_float zero_float))
  outside : NumberAnswer (Refused 14) (value_form 14 (form 0 zero_float zero_float))

abbrev pub NumbersAnswer : Type 0
NumbersAnswer = (l : Lent) (c : Counts) (name k : ℕ) → NumberAnswer (value_number l c name k) (value_form_of (value_number l c name k))
