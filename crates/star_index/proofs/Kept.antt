-- What reading has left in the tables, for the check and the builder: the homes by the tables are those of the reading, no name row is marked, and what the test of the slots decides.
use mathlib.Core.Path.{◌≡◌, sym, ◌∙◌, ap, subst}
use mathlib.Core.Bool.{true, false}
use mathlib.Core.List.{List}
use Prim.Native.Nat.{ℕ, suc, ◌-◌, ◌≤◌, ◌<◌}
use native.Mathlib.Omega.{arith}
use lib.ListN.{length, get_or}
use Rattle.star_text.specs.Outcome.{refused, accepted}
use Rattle.star_text.proofs.Outcome.{need-true, need-false}
use Rattle.star_rows.specs.Rows.{holding}
use Rattle.star_rows.proofs.Held.{holding-room, held_word}
use Rattle.star_rows.proofs.Words.{word_held}
use Rattle.star_lex.specs.Table.{or_empty}
use Rattle.star_lex.specs.Tokens.{Placed, token_row}
use Rattle.star_lex.proofs.Each.{each_at}
use Rattle.star_lex.proofs.Held.{count_small}
use Rattle.star_grammar.specs.Tables.{NameRow, Rows, name_words}
use Rattle.star_grammar.proofs.Widths.{name-wide}
use Rattle.star_grammar.proofs.RowsOf.{IsToken}
use Rattle.star_read.specs.Read.{FileRows, ReadOutcome, Sizes, read_in, in_layout, read_of}
use Rattle.star_read.specs.Answer.{read_answer, Tables, tables_of, Leaves}
use Rattle.star_read.specs.declared.Answer.{Answer}
use Rattle.star_read.proofs.InLayout.{in-today}
use Rattle.star_read.proofs.Accepted.{accepted-holds, answer-refused, answer-accepted}
use Rattle.star_find.proofs.After.{token-content, RowsAfter, reading-in, rows-after}
use Rattle.star_slots.specs.Inner.{table_home}
use Rattle.star_index.specs.Index.{row_home, is_indexed, check_of}
use Rattle.star_index.specs.Inner.{Unmarked}
use Rattle.star_index.proofs.Indexing.{indexed-alike}
use Rattle.star_index.proofs.Exactly.{is_index_of, check-read, check-refused}
use Rattle.star_index.proofs.IndexLookup.{no_name, row-home}

module _ (file : List ℕ) (words : Sizes) (ps : List Placed) (rows : Rows) (e : read_of file words ≡ accepted (ps, rows)) where
  abbrev row : ℕ → NameRow
  row i = get_or rows.names i no_name

  abbrev table : List ℕ
  table = holding name_words rows.names words.names

  in-0 : read_in 0 file words ≡ accepted (ps, rows)
  in-0 = in-today file words ∙ e

  name-token : (i : ℕ) → i < length rows.names → IsToken (length ps) (row i).name
  name-token i h =
      let r = (reading-in (in_layout 0) file words ps rows in-0).0 in
      let k : RowsAfter ps rows r.tree = rows-after (in_layout 0) file words ps rows in-0 r in
      each_at (λ x. IsToken (length ps) x.name) rows.names i no_name h k.inside.name-tokens

  -- a home by the tables is the row's
  table-row-home : (slots i : ℕ) → i < length rows.names → table_home file (holding token_row ps words.tokens) (length ps) table slots (suc i) ≡ row_home ps rows slots (suc i)
  unfolding table_home name_words or_empty
  table-row-home slots i h =
      rw (
        word_held 4 name_words name-wide no_name rows.names words.names i 0 h (omega arith),
        word_held 4 name_words name-wide no_name rows.names words.names i 1 h (omega arith),
        token-content (in_layout 0) file words ps rows in-0 (row i).name (name-token i h),
      )
      (sym (row-home ps rows slots i))

  table-home : (slots number : ℕ) → 1 ≤ number → number ≤ length rows.names
      → table_home file (holding token_row ps words.tokens) (length ps) table slots number ≡ row_home ps rows slots number
  table-home slots number low high =
      let b : number ≡ suc (number - 1) = omega arith in
      rw b (table-row-home slots (number - 1) (omega arith))

  -- token rows are below the mark
  names-unmarked : Unmarked table (length rows.names)
  unfolding name_words
  names-unmarked = record {
    room = holding-room 4 name_words name-wide (omega arith) rows.names words.names;
    low = λ i h.
        rw (held_word 4 name_words name-wide no_name rows.names words.names i 1 h (omega arith))
        (omega (arith, (name-token i h).1, count_small file _ (length ps) (accepted-holds file words ps rows e)));
  }

-- after an answer of reading that is no refusal, with the tables as reading has left them
module _ (file : List ℕ) (words : Sizes) (r : Answer) (e : r ≡ read_answer (read_of file words)) (t : Tables) (l : Leaves (read_of file words) words t) (z : r.refusal ≡ 0) where
  abbrev pub homes : (slots : ℕ) → ℕ → ℕ
  homes slots = table_home file t.tokens r.tokens t.names slots

  pub read : (q : FileRows) × (read_of file words ≡ accepted q)
  read = let a = answer-accepted file words r e z in ((a.0, a.1), a.2)

  count_is : r.tokens ≡ length read.0.0
  unfolding read_answer
  count_is = ap (λ s. s.tokens) (e ∙ ap read_answer read.1)

  pub rows_are : r.names ≡ length read.0.1.names
  unfolding read_answer
  rows_are = ap (λ s. s.names) (e ∙ ap read_answer read.1)

  tokens-are : t.tokens ≡ holding token_row read.0.0 words.tokens
  unfolding tables_of
  tokens-are = l.tokens ∙ ap (λ o. (tables_of o words).tokens) read.1

  names-are : t.names ≡ holding name_words read.0.1.names words.names
  unfolding tables_of
  names-are = l.names ∙ ap (λ o. (tables_of o words).names) read.1

  pub left-unmarked : Unmarked t.names r.names
  left-unmarked =
      subst (Unmarked t.names) (sym rows_are)
      (subst (λ x. Unmarked x (length read.0.1.names)) (sym names-are) (names-unmarked file words read.0.0 read.0.1 read.1))

  pub homes-are : (slots number : ℕ) → 1 ≤ number → number ≤ r.names → homes slots number ≡ row_home read.0.0 read.0.1 slots number
  homes-are slots number low high =
      let q : homes slots number
      ≡ table_home file (holding token_row read.0.0 words.tokens) (length read.0.0) (holding name_words read.0.1.names words.names) slots number
      = λ j. table_home file (tokens-are j) (count_is j) (names-are j) slots number in
      q ∙ table-home file words read.0.0 read.0.1 read.1 slots number low (omega (arith, rows_are))

  test-is : (slots : List ℕ) → is_indexed r.names (homes (length slots)) slots ≡ is_index_of read.0 slots
  test-is slots =
      indexed-alike r.names (homes (length slots)) (row_home read.0.0 read.0.1 (length slots)) slots (homes-are (length slots))
      ∙ ap (λ n. is_indexed n (row_home read.0.0 read.0.1 (length slots)) slots) rows_are

  -- the slots are an index of the names, or are not
  pub check-yes : (slots : List ℕ) → is_indexed r.names (homes (length slots)) slots ≡ true → check_of file words slots ≡ read_of file words
  check-yes slots b = check-read file words slots read.0 read.1 ∙ need-true 15 0 (accepted read.0) (sym (test-is slots) ∙ b) ∙ sym read.1

  pub check-no : (slots : List ℕ) → is_indexed r.names (homes (length slots)) slots ≡ false → check_of file words slots ≡ refused 15 0
  check-no slots b = check-read file words slots read.0 read.1 ∙ need-false 15 0 (accepted read.0) (sym (test-is slots) ∙ b)

-- after a refusal of reading
module _ (file : List ℕ) (words : Sizes) (r : Answer) (e : r ≡ read_answer (read_of file words)) (z : r.refusal ≡ 0 → ⊥) where
  pub none_read : read_of file words ≡ refused r.refusal r.place
  none_read = answer-refused (read_of file words) r e z

  pub check-unread : (slots : List ℕ) → check_of file words slots ≡ read_of file words
  check-unread slots = check-refused file words slots r.refusal r.place none_read ∙ sym none_read

-- tables as an outcome leaves them, at the same outcome and sizes
pub leaves_at : {o p : ReadOutcome} → p ≡ o → {u v : Sizes} → u ≡ v → {t : Tables} → Leaves o u t → Leaves p v t
leaves_at {o} {p} e {u} {v} k {t} l = subst (λ x. Leaves x v t) (sym e) (subst (λ x. Leaves o x t) k l)
