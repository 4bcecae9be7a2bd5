-- The words of a row of each of the five tables: specification 7.2. Believed; all that speaks of a table's rows or room cites it.
use Rattle.std.specs.Prelude.{ℕ}

abbrev pub token_width : ℕ
token_width = 3

abbrev pub set_width : ℕ
set_width = 3

abbrev pub name_width : ℕ
name_width = 4

abbrev pub packet_width : ℕ
packet_width = 3

abbrev pub value_width : ℕ
value_width = 4
