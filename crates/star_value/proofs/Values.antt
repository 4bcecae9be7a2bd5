-- The k-th value of a name row after acceptance is the k-th of the rows of that name, as table 5 holds the rows with their links, and its token is a
-- row of table 1. The links from the first on lead through all of them.
use mathlib.Core.Path.{◌≡◌, ◌∙◌, ap}
use mathlib.Core.List.{List, [], ◌∷◌, ◌++◌}
use mathlib.Core.Logic.{◌⊎◌}
use Prim.Native.Nat.{ℕ, suc, ◌≤◌, ◌<◌}
use native.Mathlib.Nat.{zero-add}
use native.Mathlib.Omega.{arith}
use lib.ListN.{length, get_or}
use Rattle.star_text.specs.Outcome.{accepted}
use Rattle.star_rows.specs.Rows.{word_of, holding}
use Rattle.star_rows.proofs.Words.{word_held}
use Rattle.star_lex.specs.Tokens.{Placed, token_row}
use Rattle.star_lex.specs.Answer.{is_some}
use Rattle.star_lex.specs.Table.{or_empty}
use Rattle.star_grammar.specs.Tables.{ValueRow, Rows, value_words}
use Rattle.star_grammar.proofs.Widths.{value-wide}
use Rattle.star_grammar.proofs.Linked.{Linked}
use Rattle.star_grammar.proofs.Linking.{no_value}
use Rattle.star_grammar.proofs.RowsOf.{IsToken, Inside}
use Rattle.star_lex.proofs.Each.{each_at}
use Rattle.star_read.specs.Read.{Sizes, Way, read_via}
use Rattle.star_find.specs.Find.{is_row, content_at, row_there, found, refused}
use Rattle.star_value.specs.Values.{Located, first_value, value_row, missing, located, locate, value_of, value_at, value_part, span_at, value_span}
use Rattle.star_find.specs.Demands.{content_of}
use Rattle.star_value.specs.Demands.{token_kind, span_of, of_name, numbers_of, Chain}
use Rattle.star_find.specs.declared.Found.{Found}
use Rattle.star_value.proofs.Links.{Links, words-links, first-is, chain-from, value-row-is, value-row-none}
use Rattle.star_find.proofs.After.{left, counted, counts-fit, row_inside, token-content}
use Rattle.star_value.proofs.TokenRows.{token-kind, token-span}

-- a value that is found
abbrev placed : ValueRow → Located
placed v = record { refusal = 0; packet = v.packet; token = v.value }

module _ (file : List ℕ) (words : Sizes) (ps : List Placed) (rows : Rows) (linked : Linked 1 rows.values) where
  -- the rows of table 5
  pub links-left : Links (left file words ps rows).values 1 rows.values
  unfolding left
  links-left =
      words-links (holding value_words rows.values words.values) 0 rows.values
      (λ i n h j. ap (λ m. word_of (holding value_words rows.values words.values) 4 (suc m) n) (zero-add i)
      ∙ word_held 4 value_words value-wide no_value rows.values words.values i n h j) linked

  pub chain_left : (name : ℕ)
      → Chain (left file words ps rows).values (first_value (left file words ps rows).values name (counted ps rows).values 1) (numbers_of name 1 rows.values)
  unfolding counted
  chain_left name = rw (first-is (left file words ps rows).values name 1 rows.values links-left)
      (chain-from (left file words ps rows).values name 1 rows.values (omega arith) links-left)

module _ (way : Way) (file : List ℕ) (words : Sizes) (ps : List Placed) (rows : Rows) (e : read_via way file words ≡ accepted (ps, rows))
    (linked : Linked 1 rows.values) (inside : Inside (length ps) rows.sets rows.names rows.values)
    (name : ℕ) (low : 1 ≤ name) (high : name ≤ length rows.names) where
  locates : (k : ℕ) (f : Found) → value_row (left file words ps rows).values (length rows.values) name k ≡ f
      → locate (left file words ps rows) (counted ps rows) name k ≡ located (left file words ps rows) (counted ps rows) f
  unfolding locate row_there counted
  locates k f q = rw (counts-fit file words ps rows, row_inside (length rows.names) name low high, q)

  -- a value row that is found
  module _ (v : ValueRow) (i : ℕ) (below : i < length rows.values) (is : get_or rows.values i no_value ≡ v) where
    value-token : IsToken (length ps) v.value
    value-token = rw is at (each_at (λ x. IsToken (length ps) x.value) rows.values i no_value below inside.value-tokens)

    value-word : (n : ℕ) → n < 4 → word_of (holding value_words rows.values words.values) 4 (suc i) n ≡ get_or (value_words v) n 0
    value-word n h = rw is at (word_held 4 value_words value-wide no_value rows.values words.values i n below h)

    value-located : located (left file words ps rows) (counted ps rows) (found (suc i)) ≡ placed v
    unfolding located found left counted value_words is_some
    value-located = rw (value-word 2 (omega arith), token-content way file words ps rows e v.value value-token, value-word 1 (omega arith))

    value-is : value_of (left file words ps rows) (placed v) ≡ record { refusal = 0; kind = token_kind ps v.value; packet = v.packet }
    unfolding value_of left
    value-is = rw (token-kind way file words ps rows e v.value value-token)

    part-is : or_empty (content_at file (holding token_row ps words.tokens) (length ps) v.value) ≡ content_of ps v.value
    unfolding or_empty
    part-is = rw (token-content way file words ps rows e v.value value-token)

  pub value_found : (before : List ValueRow) (v : ValueRow) (behind : List ValueRow) → of_name name rows.values ≡ before ++ (v ∷ behind)
      → (value_at (left file words ps rows) (counted ps rows) name (suc (length before)) ≡ record { refusal = 0; kind = token_kind ps v.value; packet = v.packet })
      × (value_part (left file words ps rows) (counted ps rows) name (suc (length before)) ≡ content_of ps v.value)
      × (value_span (left file words ps rows) (counted ps rows) name (suc (length before)) ≡ span_of ps v.value)
  unfolding value_at value_part value_span left counted
  value_found before v behind h =
      let p : (i : ℕ) × (i < length rows.values) × (value_row (left file words ps rows).values (length rows.values) name (suc (length before)) ≡ found (suc i))
      × (get_or rows.values i no_value ≡ v) = value-row-is _ name rows.values (links-left file words ps rows linked) before v behind h in
      let q : locate (left file words ps rows) (counted ps rows) name (suc (length before)) ≡ placed v
      = locates (suc (length before)) _ p.2 ∙ value-located v p.0 p.1 p.3 in (
        ap (value_of (left file words ps rows)) q ∙ value-is v p.0 p.1 p.3,
        rw q (part-is v p.0 p.1 p.3),
        rw q (token-span way file words ps rows e v.value (value-token v p.0 p.1 p.3)),
      )

  pub value_none : (n : ℕ) → (n ≡ 0) ⊎ (length (of_name name rows.values) < n)
      → (value_at (left file words ps rows) (counted ps rows) name n ≡ record { refusal = 13; kind = 0; packet = 0 })
      × (value_part (left file words ps rows) (counted ps rows) name n ≡ [])
      × (value_span (left file words ps rows) (counted ps rows) name n ≡ record { start = 0; end = 0 })
  unfolding value_at value_part value_span value_of span_at located refused missing word_of content_at is_row or_empty
  value_none n h =
      let q : locate (left file words ps rows) (counted ps rows) name n ≡ missing 13
      = locates n (refused 13) (value-row-none _ name rows.values (links-left file words ps rows linked) n h) in
      (ap (value_of (left file words ps rows)) q, rw q, rw q)
