-- What acceptance leaves: every table holds its rows, so every count fits; each token row has its token's content; and the tokens of all rows are
-- rows of table 1, and value rows are linked, as the rows are those of the reading.
use mathlib.Core.Path.{◌≡◌, sym, ◌∙◌, ap}
use mathlib.Core.Bool.{true}
use mathlib.Core.List.{List, [], map, map-map}
use mathlib.Core.Option.{some}
use Prim.Native.Nat.{ℕ, ◌-◌, ◌≤◌}
use native.Mathlib.Omega.{arith}
use borrow.Author.Tests.{le-leb}
use lib.ListN.{length, get_or, length-map, get_or-map}
use Rattle.star_text.specs.Outcome.{accepted}
use Rattle.star_rows.specs.Rows.{holding}
use Rattle.star_rows.proofs.Held.{holding-room}
use Rattle.star_text.specs.Names.{key}
use Rattle.star_lex.specs.Tokens.{Placed, token_row}
use Rattle.star_lex.specs.Split.{placed}
use Rattle.star_lex.proofs.Splitting.{row-wide}
use Rattle.star_grammar.specs.Tables.{Rows, rows_of, set_words, name_words, packet_words, value_words}
use Rattle.star_grammar.specs.Tree.{File, frame_close}
use Rattle.star_grammar.specs.Reading.{ReadingBy}
use Rattle.star_grammar.proofs.Widths.{set-wide, name-wide, packet-wide, value-wide}
use Rattle.star_grammar.proofs.Linked.{Linked, tree-linked}
use Rattle.star_grammar.proofs.RowsOf.{content_in, name_in, set_in, file_names, file_sets, IsToken, Inside, TreeRows, tree-rows}
use Rattle.star_lex.specs.Holds.{token_at}
use Rattle.star_lex.proofs.Held.{Row, held-row, held-some}
use Rattle.star_read.specs.Read.{Sizes, tokens_only, Way, way_rules, read_via}
use Rattle.star_read.proofs.Demand3.{one-reading}
use Rattle.star_read.proofs.Accepted.{split-via, holds-via, rows-via}
use Rattle.star_read.specs.Answer.{read_answer, tables_of}
use Rattle.star_find.specs.Find.{Lent, fits, is_row, content_at, counts_fit}
use Rattle.star_find.specs.Demands.{lent_after, counts_after, content_of}
use Rattle.star_rows.specs.declared.Counts.{Counts}

-- the file and the five tables that hold these rows, and their counts
unfoldable pub left : List ℕ → Sizes → List Placed → Rows → Lent
left file words ps rows = record {
  file = file;
  tokens = holding token_row ps words.tokens;
  sets = holding set_words rows.sets words.sets;
  names = holding name_words rows.names words.names;
  packets = holding packet_words rows.packets words.packets;
  values = holding value_words rows.values words.values;
}

unfoldable pub counted : List Placed → Rows → Counts
counted ps rows = record {
  tokens = length ps;
  sets = length rows.sets;
  names = length rows.names;
  packets = length rows.packets;
  values = length rows.values;
}

-- they are what reading leaves and answers
module _ (way : Way) (file : List ℕ) (words : Sizes) (ps : List Placed) (rows : Rows) (e : read_via way file words ≡ accepted (ps, rows)) where
  pub lent-left : lent_after way file words ≡ left file words ps rows
  unfolding tables_of left
  lent-left = rw e

  pub counts-counted : counts_after way file words ≡ counted ps rows
  unfolding read_answer counted
  counts-counted = rw e

-- the counts fit, and a number from 1 to a count is a row
pub counts-fit : (file : List ℕ) (words : Sizes) (ps : List Placed) (rows : Rows) → counts_fit (left file words ps rows) (counted ps rows) ≡ true
unfolding counts_fit fits left counted
counts-fit file words ps rows =
    rw (
      le-leb _ _ (holding-room 3 token_row row-wide (omega arith) ps words.tokens),
      le-leb _ _ (holding-room 3 set_words set-wide (omega arith) rows.sets words.sets),
      le-leb _ _ (holding-room 4 name_words name-wide (omega arith) rows.names words.names),
      le-leb _ _ (holding-room 3 packet_words packet-wide (omega arith) rows.packets words.packets),
      le-leb _ _ (holding-room 4 value_words value-wide (omega arith) rows.values words.values),
    )

pub row_inside : (count row : ℕ) → 1 ≤ row → row ≤ count → is_row count row ≡ true
unfolding is_row
row_inside count row l h = rw (le-leb 1 row l, le-leb row count h)

-- the content and the kind of a token of a row of tokens
content-at : (ps : List Placed) (row : ℕ)
    → (get_or (tokens_only ps) (row - 1) (record { kind = 0; content = [] })).content ≡ content_of ps row
unfolding content_of
content-at ps row =
    sym (get_or-map (λ t. t.content) (tokens_only ps) (row - 1) (record { kind = 0; content = [] }))
    ∙ ap (λ cs. get_or cs (row - 1) []) (map-map (λ t. t.content) (λ p. p.token) ps)

pub content-in : (ps : List Placed) (row : ℕ) → content_in (tokens_only ps) row ≡ key (content_of ps row)
unfolding content_of key
content-in ps row =
    ap (λ cs. get_or cs (row - 1) []) (map-map (λ t. key t.content) (λ p. p.token) ps ∙ sym (map-map key (λ p. p.token.content) ps))
    ∙ get_or-map key (map (λ p. p.token.content) ps) (row - 1) []

module _ (way : Way) (file : List ℕ) (words : Sizes) (ps : List Placed) (rows : Rows) (e : read_via way file words ≡ accepted (ps, rows)) (row : ℕ) (is : IsToken (length ps) row) where
  pub token-row : Row file (holding token_row ps words.tokens) (row - 1)
  token-row = held-row file (holding token_row ps words.tokens) (length ps) (holds-via file words ps rows way e) (row - 1) (omega (arith, is.0, is.1))

  pub token-at : token_at file (row - 1) ≡ get_or (tokens_only ps) (row - 1) (record { kind = 0; content = [] })
  unfolding placed
  token-at = rw (split-via file words ps rows way e)

  -- a token row has its token's content
  pub token-content : content_at file (holding token_row ps words.tokens) (length ps) row ≡ some (content_of ps row)
  unfolding content_at is_row
  token-content =
      rw (
        le-leb 1 row is.0,
        le-leb row (length ps) is.1,
        held-some file (holding token_row ps words.tokens) (length ps) (holds-via file words ps rows way e) (row - 1) (omega (arith, is.0, is.1)),
        token-at,
        content-at,
      )

-- the rows after acceptance, against the reading's tree
pub record RowsAfter (ps : List Placed) (rows : Rows) (f : File) : Type 0 where
  pub names : map (name_in (tokens_only ps)) rows.names ≡ file_names 0 f
  pub sets : map (set_in (tokens_only ps)) rows.sets ≡ file_sets 0 f
  pub inside : Inside (length ps) rows.sets rows.names rows.values
  pub linked : Linked 1 rows.values

-- what is accepted has a reading
pub reading-in : (way : Way) (file : List ℕ) (words : Sizes) (ps : List Placed) (rows : Rows) → read_via way file words ≡ accepted (ps, rows)
    → (r : ReadingBy (way_rules way) (tokens_only ps)) × (rows ≡ rows_of r.tree)
reading-in way file words ps rows e = rows-via file words ps rows way e

pub rows-after : (way : Way) (file : List ℕ) (words : Sizes) (ps : List Placed) (rows : Rows) → read_via way file words ≡ accepted (ps, rows)
    → (r : ReadingBy (way_rules way) (tokens_only ps)) → RowsAfter ps rows r.tree
rows-after way file words ps rows e r =
    let k : (s : ReadingBy (way_rules way) (tokens_only ps)) × (rows ≡ rows_of s.tree) = reading-in way file words ps rows e in
    let q : rows ≡ rows_of r.tree = k.1 ∙ ap rows_of (one-reading (way_rules way) (tokens_only ps) k.0 r) in
    let t : TreeRows (frame_close (way_rules way)) r.tree = tree-rows (frame_close (way_rules way)) r.tree in
    rw q (record {
      names = rw r.yield at t.names;
      sets = rw r.yield at t.sets;
      inside = rw (r.yield, length-map ps (λ p. p.token)) at t.inside;
      linked = tree-linked r.tree;
    })
