-- What reading's own functions answer to each other. For contracts of star_read's inner functions.
use Rattle.std.specs.Prelude.{◌≡◌, ◌⊎◌, List, ℕ, ◌*◌, ◌≤◌, ◌<◌, length, Result, Ok, Err, MatchResult}
use Rattle.star_text.specs.Outcome.{Outcome, refusal_of, place_of}
use Rattle.star_text.specs.Refusal.{number}
use Rattle.star_text.specs.declared.refusal.Refusal.{Refusal}
use Rattle.star_rows.specs.Widths.{set_width, name_width, packet_width, value_width}
use Rattle.star_rows.specs.Rows.{cleared_from}
use Rattle.star_text.specs.Bytes.{most_bytes}
use Rattle.star_lex.specs.Split.{tokens_of, placed}
use Rattle.star_lex.specs.Table.{first_byte}
use Rattle.star_lex.specs.Holds.{Holds}
use Rattle.star_grammar.specs.Machine.{Run, bad, good}
use Rattle.star_frames.specs.Frames.{as_today}
use Rattle.star_unique.specs.Chain.{held_table}
use Rattle.star_parse.specs.Parsed.{Parsed, FourTables, four_tables}
use Rattle.star_read.specs.Read.{ReadOutcome, token_place}
use Rattle.star_read.specs.Answer.{read_answer, sizes, Tables, Leaves}
use Rattle.star_read.specs.declared.Answer.{Answer}
use Rattle.star_read.specs.declared.Layout.{Layout}
use Rattle.star_read.specs.declared.Layout.TheVariants.{Today, Of1991}

abbrev pub layout_number : Layout → ℕ
layout_number Today = 0
layout_number Of1991 = 1

-- the layout with this number, or an error where none has it
abbrev pub DecodesLayout : {E : Type 0} → ℕ → Result Layout E → Type 0
DecodesLayout n r = MatchResult r (λ layout. layout_number layout ≡ n) (λ e. 1 < n)

-- the numbers of refusals that reading gives
abbrev pub Known : ℕ → Type 0
Known n = ((1 ≤ n) × (n ≤ 11)) ⊎ (n ≡ 16)

-- table 1 of a file of so many tokens tells the first byte of each
pub record Places (file words : List ℕ) (count : ℕ) : Type 0 where
  pub small : length file ≤ most_bytes
  pub count_is : count ≡ length (placed (tokens_of file))
  pub firsts : (m : ℕ) → m < count → first_byte words m ≡ token_place (length file) (placed (tokens_of file)) m

-- the words are table 1 of a file of so many tokens, with the kinds that they have in today's layout where it is in this one
pub record HoldsToday (layout : ℕ) (file words : List ℕ) (count : ℕ) : Type 0 where
  pub table : Holds file (held_table file (length words)) count
  pub rows : words ≡ as_today layout count (held_table file (length words))

-- refusal and place, both 0 where there is none
pub record Judged : Type 0 where
  pub refusal : ℕ
  pub place : ℕ

abbrev pub told : {A : Type 0} → Result A Refusal → Judged
told (Ok a) = record { refusal = 0; place = 0 }
told (Err r) = record { refusal = number r.reason; place = r.place }

-- those of what the grammar and the room decide
unfoldable pub judged_of : {A : Type 0} → Outcome A → Judged
judged_of o = record { refusal = refusal_of o; place = place_of o }

-- an answer of the rows' reader to a run over so many tokens: refusal and how many tokens stand before the bad one, or the numbers of rows
abbrev pub Ran : Run → (count : ℕ) → Parsed → Type 0
Ran (bad n i) count r = (r.refusal ≡ n) × (r.tokens ≡ i)
Ran (good rows) count r =
    (r.refusal ≡ 0) × (r.tokens ≡ count) × (r.sets ≡ length rows.sets) × (r.names ≡ length rows.names)
    × (r.packets ≡ length rows.packets) × (r.values ≡ length rows.values)

-- a run that refuses has one of the numbers
abbrev pub Numbered : Run → Type 0
Numbered x = (n i : ℕ) → x ≡ bad n i → Known n

-- tables 2 to 5
abbrev pub later : Tables → FourTables
later t = four_tables t.sets t.names t.packets t.values

-- tables 2 to 5 are 0 behind their rows, and as they were before
pub record ClearedBehind (rows : Parsed) (before after : FourTables) : Type 0 where
  pub sets : after.sets ≡ cleared_from (rows.sets * set_width) before.sets
  pub names : after.names ≡ cleared_from (rows.names * name_width) before.names
  pub packets : after.packets ≡ cleared_from (rows.packets * packet_width) before.packets
  pub values : after.values ≡ cleared_from (rows.values * value_width) before.values

-- the answer is an outcome's, and so are the tables where it is no refusal
pub record Tries (o : ReadOutcome) (before after : Tables) (r : Answer) : Type 0 where
  pub answer : r ≡ read_answer o
  pub leaves : r.refusal ≡ 0 → Leaves o (sizes before) after
