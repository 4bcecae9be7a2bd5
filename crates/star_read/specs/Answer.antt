-- What reading answers and leaves in the lent tables: specification 9. Believed; the contracts of `read`, of every call that reads first, and the demands cite it.
use Rattle.std.specs.Prelude.{◌≡◌, List, ℕ, length, replicate, Result, Ok, Err}
use Rattle.star_text.specs.Outcome.{Outcome, refused, accepted}
use Rattle.star_text.specs.Refusal.{number}
use Rattle.star_text.specs.declared.refusal.Refusal.{Refusal}
use Rattle.star_rows.specs.declared.Counts.{Counts}
use Rattle.star_rows.specs.declared.Tables.{Tables as LentTables}
use Rattle.star_rows.specs.Rows.{holding}
use Rattle.star_lex.specs.Tokens.{token_row}
use Rattle.star_grammar.specs.Tables.{set_words, name_words, packet_words, value_words}
use Rattle.star_read.specs.Read.{FileRows, ReadOutcome, Sizes, read_in, read_of, read_old}
use Rattle.star_read.specs.declared.Answer.{Answer}

-- refusal and place, both 0 when accepted, and the five row counts
unfoldable pub read_answer : ReadOutcome → Answer
read_answer (refused n place) = record { refusal = n; place = place; tokens = 0; sets = 0; names = 0; packets = 0; values = 0 }
read_answer (accepted (ps, rows)) = record {
  refusal = 0;
  place = 0;
  tokens = length ps;
  sets = length rows.sets;
  names = length rows.names;
  packets = length rows.packets;
  values = length rows.values;
}

-- what a call tells that answers the row counts or a refusal
abbrev pub answer_of : Result Counts Refusal → Answer
answer_of (Ok n) = record { refusal = 0; place = 0; tokens = n.tokens; sets = n.sets; names = n.names; packets = n.packets; values = n.values }
answer_of (Err r) = record { refusal = number r.reason; place = r.place; tokens = 0; sets = 0; names = 0; packets = 0; values = 0 }

-- the five tables
pub record Tables : Type 0 where
  pub tokens : List ℕ
  pub sets : List ℕ
  pub names : List ℕ
  pub packets : List ℕ
  pub values : List ℕ

abbrev pub tables : (tokens sets names packets values : List ℕ) → Tables
tables tokens sets names packets values = record { tokens = tokens; sets = sets; names = names; packets = packets; values = values }

-- those that are lent
abbrev pub held : LentTables → Tables
held t = tables t.tokens.now t.sets.now t.names.now t.packets.now t.values.now

abbrev pub sizes : Tables → Sizes
sizes t = record {
  tokens = length t.tokens;
  sets = length t.sets;
  names = length t.names;
  packets = length t.packets;
  values = length t.values;
}

abbrev pub words : (tokens sets names packets values : ℕ) → Sizes
words tokens sets names packets values = record { tokens = tokens; sets = sets; names = names; packets = packets; values = values }

-- tables of so many words, each 0
abbrev pub zero_tables : Sizes → Tables
zero_tables words = record {
  tokens = replicate words.tokens 0;
  sets = replicate words.sets 0;
  names = replicate words.names 0;
  packets = replicate words.packets 0;
  values = replicate words.values 0;
}

-- words after the last row are 0; on a refusal every word of every table is 0
unfoldable pub tables_of : ReadOutcome → Sizes → Tables
tables_of (refused n place) words = zero_tables words
tables_of (accepted (ps, rows)) words = record {
  tokens = holding token_row ps words.tokens;
  sets = holding set_words rows.sets words.sets;
  names = holding name_words rows.names words.names;
  packets = holding packet_words rows.packets words.packets;
  values = holding value_words rows.values words.values;
}

-- what a call that reads first and then does more leaves in the tables: the reading, or on a refusal what reading leaves on one
unfoldable pub reading_of : {A : Type 0} → Outcome (FileRows × A) → ReadOutcome
reading_of (refused n place) = refused n place
reading_of (accepted (read, more)) = accepted read

-- the tables are left as the outcome says
pub record Leaves (o : ReadOutcome) (words : Sizes) (t : Tables) : Type 0 where
  pub tokens : t.tokens ≡ (tables_of o words).tokens
  pub sets : t.sets ≡ (tables_of o words).sets
  pub names : t.names ≡ (tables_of o words).names
  pub packets : t.packets ≡ (tables_of o words).packets
  pub values : t.values ≡ (tables_of o words).values

-- the answer and the tables are an outcome's
pub record Gives (o : ReadOutcome) (before after : Tables) (r : Answer) : Type 0 where
  pub answer : r ≡ read_answer o
  pub leaves : Leaves o (sizes before) after

-- the contract of reading: the answer, and every word of the five tables
abbrev pub Reads : (file : List ℕ) (before after : Tables) → Answer → Type 0
Reads file before after r = Gives (read_of file (sizes before)) before after r

-- of reading an old file
abbrev pub ReadsOld : (file : List ℕ) (before after : Tables) → Answer → Type 0
ReadsOld file before after r = Gives (read_old file (sizes before)) before after r

-- and of reading in a layout
abbrev pub ReadsIn : (layout : ℕ) (file : List ℕ) (before after : Tables) → Answer → Type 0
ReadsIn layout file before after r = Gives (read_in layout file (sizes before)) before after r
