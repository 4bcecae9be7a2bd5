-- What reading the rows of tables 2 to 5 from the kinds of table 1 answers: what a run of the machine over those kinds gives. For the contract of `read_rows`.
use Rattle.std.specs.Prelude.{◌≡◌, Bool, cond, List, [], ◌∷◌, ℕ, zero, suc, length, get_or, drop, Result, Ok, Err}
use Rattle.star_rows.specs.Widths.{set_width, name_width, packet_width, value_width}
use Rattle.star_lex.specs.Rules.{today, at_stops}
use Rattle.star_lex.specs.Tokens.{Token}
use Rattle.star_rows.specs.Rows.{stored}
use Rattle.star_grammar.specs.Tables.{Rows, no_rows, set_words, name_words, packet_words, value_words}
use Rattle.star_grammar.specs.Machine.{Run, bad, good, run, start}
use Rattle.star_rows.specs.declared.Counts.{Counts}
use Rattle.star_text.specs.Refusal.{number}
use Rattle.star_lex.specs.Room.{has_rows}
use Rattle.star_parse.specs.declared.Stopped.{Stopped}

-- the tokens of a table of that many rows of kind, start and end: their kinds, and no contents, which no step reads
unfoldable pub kind_tokens : ℕ → List ℕ → List Token
kind_tokens zero words = []
kind_tokens (suc n) words = record { kind = get_or words 0 0; content = [] } ∷ kind_tokens n (drop 3 words)

-- the run over the first rows of a table, with header stops or without; 14 where it has not that many
unfoldable pub rows_run : (stops : Bool) (count : ℕ) → List ℕ → Run
rows_run stops count words = cond (has_rows count (length words)) (run (at_stops today stops) start (kind_tokens count words) no_rows) (bad 14 0)

-- the words of tables 2 to 5
pub record FourTables : Type 0 where
  pub sets : List ℕ
  pub names : List ℕ
  pub packets : List ℕ
  pub values : List ℕ

-- the four tables hold the rows that fit them, over what they held before
pub record Stored (before : FourTables) (rows : Rows) (after : FourTables) : Type 0 where
  pub sets : after.sets ≡ stored set_width set_words rows.sets before.sets
  pub names : after.names ≡ stored name_width name_words rows.names before.names
  pub packets : after.packets ≡ stored packet_width packet_words rows.packets before.packets
  pub values : after.values ≡ stored value_width value_words rows.values before.values

-- what reading answers: refusal, 0 when accepted; how many tokens stand before the bad one, or all of them; and the row counts
pub record Parsed : Type 0 where
  pub refusal : ℕ
  pub tokens : ℕ
  pub sets : ℕ
  pub names : ℕ
  pub packets : ℕ
  pub values : ℕ

abbrev pub parsed_of : Result Counts Stopped → Parsed
parsed_of (Ok n) = record { refusal = 0; tokens = n.tokens; sets = n.sets; names = n.names; packets = n.packets; values = n.values }
parsed_of (Err s) = record { refusal = number s.reason; tokens = s.tokens; sets = 0; names = 0; packets = 0; values = 0 }

-- refused: the number, how many tokens stand before the bad one, and no rows; the tables are the caller's to clear
pub record Refused (number place : ℕ) (r : Parsed) : Type 0 where
  pub refusal : r.refusal ≡ number
  pub tokens : r.tokens ≡ place
  pub sets : r.sets ≡ 0
  pub names : r.names ≡ 0
  pub packets : r.packets ≡ 0
  pub values : r.values ≡ 0

-- accepted: every token is passed, every row is counted, and the rows that fit are stored
pub record Accepted (count : ℕ) (rows : Rows) (before : FourTables) (r : Parsed) (after : FourTables) : Type 0 where
  pub refusal : r.refusal ≡ 0
  pub tokens : r.tokens ≡ count
  pub sets : r.sets ≡ length rows.sets
  pub names : r.names ≡ length rows.names
  pub packets : r.packets ≡ length rows.packets
  pub values : r.values ≡ length rows.values
  pub tables : Stored before rows after

-- the answer to what a run gives
abbrev pub Answers : (count : ℕ) → Run → (before : FourTables) → Parsed → (after : FourTables) → Type 0
Answers count (bad number place) before r after = Refused number place r
Answers count (good rows) before r after = Accepted count rows before r after

abbrev pub four_tables : (sets names packets values : List ℕ) → FourTables
four_tables sets names packets values = record { sets = sets; names = names; packets = packets; values = values }
