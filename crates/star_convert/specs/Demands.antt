-- What is demanded of converting: statements alone. What is converted into the other layout is accepted there, with the same tree, and converting it back gives the file's own plain
-- form. Believed; star's Demands cites it.
use Rattle.std.specs.Prelude.{◌≡◌, List, ℕ, ◌-◌, ◌*◌, ◌≤◌, ◌<◌, length, replicate}
use Rattle.star_text.specs.Outcome.{accepted}
use Rattle.star_rows.specs.Widths.{token_width}
use Rattle.star_lex.specs.Rules.{layout_rules}
use Rattle.star_lex.specs.Tokens.{Placed}
use Rattle.star_lex.specs.Plain.{plain_of}
use Rattle.star_grammar.specs.Tree.{frame_close, file_yield}
use Rattle.star_grammar.specs.Tables.{Rows, rows_of}
use Rattle.star_grammar.specs.Reading.{ReadingBy}
use Rattle.star_read.specs.Read.{Sizes, tokens_only, read_in}
use Rattle.star_read.specs.Answer.{Tables, zero_tables, tables_of, reading_of}
use Rattle.star_read.specs.Demands.{Room, HasReadingBy}
use Rattle.star_write.specs.Write.{written}
use Rattle.star_write.specs.Answer.{write_answer, output_of}
use Rattle.star_write.specs.Demands.{WriteNumbered, none_written}
use Rattle.star_write.specs.declared.Written.{Written}
use Rattle.star_convert.specs.Convert.{convert_of}

-- what is converted from a layout, 0 or 1, is read in the other: both have readings of one tree, whose rows are kept, and its plain form there is what was written
pub record ReadsConverted (layout : ℕ) (plain : List ℕ) (words : Sizes) (ps : List Placed) (rows : Rows) : Type 0 where
  pub tokens : List Placed
  pub accepts : read_in (1 - layout) plain words ≡ accepted (tokens, rows)
  pub before : ReadingBy (layout_rules layout) (tokens_only ps)
  pub after : ReadingBy (layout_rules (1 - layout)) (tokens_only tokens)
  pub same : after.tree ≡ before.tree
  pub rows_are : rows ≡ rows_of before.tree
  pub plain_is : plain ≡ plain_of (file_yield (frame_close (layout_rules (1 - layout))) before.tree)

abbrev pub ConvertedReads : Type 0
ConvertedReads = (layout : ℕ) (file : List ℕ) (words : Sizes) (room : ℕ) (ps : List Placed) (rows : Rows) (plain : List ℕ)
    → convert_of layout file words room ≡ written ps rows plain
    → (others : Sizes) → length ps * token_width ≤ others.tokens → Room others rows → ReadsConverted layout plain others ps rows

-- converting over and back gives the plain form of the file as it was read
abbrev pub OverAndBack : Type 0
OverAndBack = (layout : ℕ) (file : List ℕ) (words : Sizes) (room : ℕ) (ps : List Placed) (rows : Rows) (plain : List ℕ)
    → convert_of layout file words room ≡ written ps rows plain
    → (others : Sizes) → length ps * token_width ≤ others.tokens → Room others rows → (space : ℕ) → length plain ≤ space
    → (tokens : List Placed) × (convert_of (1 - layout) plain others space ≡ written tokens rows (plain_of (tokens_only ps)))

-- demand 1, of converting from a layout: 0 only with a reading in it; a number that is no layout's is 14
pub data ConvertAnswer (layout : ℕ) (file : List ℕ) (words : Sizes) (room : ℕ) : Written → Tables → (out : List ℕ) → Type 0 where
  acceptance : (w : Written) (t : Tables) (out : List ℕ) → w.refusal ≡ 0 → w.place ≡ 0 → layout ≤ 1 → HasReadingBy (layout_rules layout) file
      → ConvertAnswer layout file words room w t out
  refusal : (n place : ℕ) → layout ≤ 1 → WriteNumbered (length file) n place
      → ConvertAnswer layout file words room (none_written n place) (zero_tables words) (replicate room 0)
  no_layout : 1 < layout → ConvertAnswer layout file words room (none_written 14 0) (zero_tables words) (replicate room 0)

abbrev pub ConvertAnswers : Type 0
ConvertAnswers = (layout : ℕ) (file : List ℕ) (words : Sizes) (room : ℕ)
    → ConvertAnswer layout file words room (write_answer (convert_of layout file words room)) (tables_of (reading_of (convert_of layout file words room)) words)
    (output_of (convert_of layout file words room) room)
