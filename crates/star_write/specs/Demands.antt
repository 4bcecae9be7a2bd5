-- What is demanded of the writer, and of dropping header stops: statements alone. Where the plain form is within the size limit, reading it, with room, is accepted and
-- gives the same kinds, contents and structure, and writing it again gives the same bytes. What is written of an old file is accepted by today's rules, with its tree but for the
-- header stops, and the same contents in the same order. Believed; star's Demands cites it, and that of converting its numbers.
use Rattle.std.specs.Prelude.{◌≡◌, List, ℕ, ◌*◌, ◌≤◌, length, replicate}
use Rattle.star_text.specs.Outcome.{accepted}
use Rattle.star_rows.specs.Widths.{token_width}
use Rattle.star_lex.specs.Rules.{old_headers}
use Rattle.star_lex.specs.Tokens.{Placed}
use Rattle.star_lex.specs.Plain.{plain_of}
use Rattle.star_grammar.specs.Tree.{frame_end, file_yield}
use Rattle.star_grammar.specs.Tables.{Rows, rows_of}
use Rattle.star_grammar.specs.Reading.{ReadingBy, Reading}
use Rattle.star_grammar.specs.Stopless.{stopless, SameContents}
use Rattle.star_read.specs.Read.{Sizes, tokens_only, read_of}
use Rattle.star_read.specs.Answer.{Tables, zero_tables, tables_of, reading_of}
use Rattle.star_read.specs.Demands.{Room, Numbered, HasReadingBy, HasReading}
use Rattle.star_write.specs.Write.{write_of, drop_of, written}
use Rattle.star_write.specs.Answer.{write_answer, output_of}
use Rattle.star_write.specs.declared.Written.{Written}

-- what the plain form is read as: the same kinds and contents, and the same rows of tables 2 to 5
pub record ReadsBack (plain : List ℕ) (words : Sizes) (ps : List Placed) (rows : Rows) : Type 0 where
  pub tokens : List Placed
  pub accepts : read_of plain words ≡ accepted (tokens, rows)
  pub same : tokens_only tokens ≡ tokens_only ps

abbrev pub RoundTrip : Type 0
RoundTrip = (file : List ℕ) (words : Sizes) (room : ℕ) (ps : List Placed) (rows : Rows) (plain : List ℕ)
    → write_of file words room ≡ written ps rows plain
    → (others : Sizes) → length ps * token_width ≤ others.tokens → Room others rows → ReadsBack plain others ps rows

abbrev pub WritesAgain : Type 0
WritesAgain = (file : List ℕ) (words : Sizes) (room : ℕ) (ps : List Placed) (rows : Rows) (plain : List ℕ)
    → write_of file words room ≡ written ps rows plain
    → (others : Sizes) → length ps * token_width ≤ others.tokens → Room others rows → (space : ℕ) → length plain ≤ space
    → (tokens : List Placed) × (write_of plain others space ≡ written tokens rows plain)

-- the numbers that the writer gives, each with its places: reading's, 1 at 0, and 7 at 6
pub data WriteNumbered (size : ℕ) : (number place : ℕ) → Type 0 where
  as_reading : (n place : ℕ) → Numbered size n place → WriteNumbered size n place
  output : WriteNumbered size 7 6

-- the answer of a refusal: no length and no rows
abbrev pub none_written : (n place : ℕ) → Written
none_written n place = record { refusal = n; place = place; length = 0; tokens = 0; sets = 0; names = 0; packets = 0; values = 0 }

-- demand 1, of the writer: its answer is 0 and 0 only with a reading; else one of the numbers with its place, no length and no rows, and every
-- word and every byte 0
pub data WriteAnswer (file : List ℕ) (words : Sizes) (room : ℕ) : Written → Tables → (out : List ℕ) → Type 0 where
  acceptance : (w : Written) (t : Tables) (out : List ℕ) → w.refusal ≡ 0 → w.place ≡ 0 → HasReading file → WriteAnswer file words room w t out
  refusal : (n place : ℕ) → WriteNumbered (length file) n place
      → WriteAnswer file words room (none_written n place) (zero_tables words) (replicate room 0)

abbrev pub WriteAnswers : Type 0
WriteAnswers = (file : List ℕ) (words : Sizes) (room : ℕ)
    → WriteAnswer file words room (write_answer (write_of file words room)) (tables_of (reading_of (write_of file words room)) words)
    (output_of (write_of file words room) room)

-- what is written of an old file is read by today's rules: its tree is the old file's without header stops, its rows are that tree's, with the old file's contents, and it is its own plain form
pub record ReadsDropped (plain : List ℕ) (words : Sizes) (ps : List Placed) (rows : Rows) : Type 0 where
  pub tokens : List Placed
  pub kept : Rows
  pub accepts : read_of plain words ≡ accepted (tokens, kept)
  pub before : ReadingBy old_headers (tokens_only ps)
  pub after : Reading (tokens_only tokens)
  pub tree : after.tree ≡ stopless before.tree
  pub rows_are : rows ≡ rows_of before.tree
  pub kept_are : kept ≡ rows_of after.tree
  pub same : SameContents (tokens_only ps) rows (tokens_only tokens) kept
  pub plain_is : plain ≡ plain_of (file_yield frame_end (stopless before.tree))
  pub again : plain_of (tokens_only tokens) ≡ plain

abbrev pub StopsDropped : Type 0
StopsDropped = (file : List ℕ) (words : Sizes) (room : ℕ) (ps : List Placed) (rows : Rows) (plain : List ℕ)
    → drop_of file words room ≡ written ps rows plain
    → (others : Sizes) → length ps * token_width ≤ others.tokens → Room others rows → ReadsDropped plain others ps rows

-- writing it again gives the same bytes
abbrev pub DroppedWritesAgain : Type 0
DroppedWritesAgain = (file : List ℕ) (words : Sizes) (room : ℕ) (ps : List Placed) (rows : Rows) (plain : List ℕ)
    → drop_of file words room ≡ written ps rows plain
    → (others : Sizes) → length ps * token_width ≤ others.tokens → Room others rows → (space : ℕ) → length plain ≤ space
    → (tokens : List Placed) × (kept : Rows) × (write_of plain others space ≡ written tokens kept plain)

-- demand 1, of dropping header stops: 0 only with a reading by the old rules; else one of the writer's numbers, but never 16, and nothing is left
pub data DropAnswer (file : List ℕ) (words : Sizes) (room : ℕ) : Written → Tables → (out : List ℕ) → Type 0 where
  acceptance : (w : Written) (t : Tables) (out : List ℕ) → w.refusal ≡ 0 → w.place ≡ 0 → HasReadingBy old_headers file → DropAnswer file words room w t out
  refusal : (n place : ℕ) → WriteNumbered (length file) n place → (n ≡ 16 → ⊥)
      → DropAnswer file words room (none_written n place) (zero_tables words) (replicate room 0)

abbrev pub DropAnswers : Type 0
DropAnswers = (file : List ℕ) (words : Sizes) (room : ℕ)
    → DropAnswer file words room (write_answer (drop_of file words room)) (tables_of (reading_of (drop_of file words room)) words)
    (output_of (drop_of file words room) room)
