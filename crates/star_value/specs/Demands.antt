-- What is demanded of values in the tables and counts as the reader left them, in either layout or as an old file: statements alone, over the reading. Believed; star's Demands cites it.
use Rattle.std.specs.Prelude.{◌≡◌, cond, ◌⊎◌, List, [], ◌∷◌, ◌++◌, map, ℕ, suc, ◌+◌, ◌-◌, ◌≤◌, ◌<◌, eqb, length, get_or, take, drop}
use Rattle.star_text.specs.Outcome.{accepted}
use Rattle.star_rows.specs.Widths.{value_width}
use Rattle.star_rows.specs.Rows.{word_of}
use Rattle.star_lex.specs.Tokens.{Placed, opening}
use Rattle.star_grammar.specs.Tables.{Rows, ValueRow}
use Rattle.star_read.specs.Read.{Sizes, Way, read_via}
use Rattle.star_find.specs.Find.{Lent}
use Rattle.star_find.specs.Demands.{lent_after, counts_after, content_of}
use Rattle.star_rows.specs.declared.Counts.{Counts}
use Rattle.star_value.specs.Values.{first_value, value_at, value_part, value_span}
use Rattle.star_value.specs.declared.Value.{Value}
use Rattle.star_value.specs.declared.Span.{Span}

-- the value rows of a name row, in file order
unfoldable pub of_name : ℕ → List ValueRow → List ValueRow
of_name name [] = []
of_name name (v ∷ vs) = cond (eqb v.name name) (v ∷ of_name name vs) (of_name name vs)

-- their numbers, where the rows are numbered from this one on
unfoldable pub numbers_of : (name number : ℕ) → List ValueRow → List ℕ
numbers_of name number [] = []
numbers_of name number (v ∷ vs) = cond (eqb v.name name) (number ∷ numbers_of name (suc number) vs) (numbers_of name (suc number) vs)

-- the links of a table of value rows, from a row on, lead through these rows and end there
pub data Chain (values : List ℕ) : (row : ℕ) → List ℕ → Type 0 where
  end : Chain values 0 []
  visit : (row : ℕ) (rows : List ℕ) → 1 ≤ row → Chain values (word_of values value_width row 3) rows → Chain values row (row ∷ rows)

-- in the tables that reading leaves, the links from the first value row of a name row on lead through each of its value rows once, in file order, and
-- through nothing else
abbrev pub Column : Type 0
Column = (way : Way) (file : List ℕ) (words : Sizes) (ps : List Placed) (rows : Rows) → read_via way file words ≡ accepted (ps, rows) → (name : ℕ)
    → Chain (lent_after way file words).values (first_value (lent_after way file words).values name (counts_after way file words).values 1) (numbers_of name 1 rows.values)

unfoldable pub token_kind : List Placed → (row : ℕ) → ℕ
token_kind ps row = get_or (map (λ p. p.token.kind) ps) (row - 1) 0

-- where the content of the token of that row lies in the file
unfoldable pub span_of : List Placed → (row : ℕ) → Span
span_of ps row =
    let start : ℕ = get_or (map (λ p. p.at) ps) (row - 1) 0 + length (opening (token_kind ps row)) in
    record { start = start; end = start + length (content_of ps row) }

-- the values of a name row, k = 1, 2, .., are those of the reading in file order, each with its packet and the content of its token, where that
-- lies; past the last there is none
abbrev pub ValuesInOrder : Type 0
ValuesInOrder = (way : Way) (file : List ℕ) (words : Sizes) (ps : List Placed) (rows : Rows) → read_via way file words ≡ accepted (ps, rows)
    → (name : ℕ) → 1 ≤ name → name ≤ length rows.names
    → ((before : List ValueRow) (v : ValueRow) (behind : List ValueRow) → of_name name rows.values ≡ before ++ (v ∷ behind)
    → (value_at (lent_after way file words) (counts_after way file words) name (suc (length before)) ≡ record { refusal = 0; kind = token_kind ps v.value; packet = v.packet })
    × (value_part (lent_after way file words) (counts_after way file words) name (suc (length before)) ≡ content_of ps v.value)
    × (value_span (lent_after way file words) (counts_after way file words) name (suc (length before)) ≡ span_of ps v.value))
    × ((k : ℕ) → (k ≡ 0) ⊎ (length (of_name name rows.values) < k)
    → (value_at (lent_after way file words) (counts_after way file words) name k ≡ record { refusal = 13; kind = 0; packet = 0 })
    × (value_part (lent_after way file words) (counts_after way file words) name k ≡ [])
    × (value_span (lent_after way file words) (counts_after way file words) name k ≡ record { start = 0; end = 0 }))

-- what lies between the offsets of a value is its part, of any file, tables, counts and numbers
abbrev pub SpanPart : Type 0
SpanPart = (l : Lent) (c : Counts) (name k : ℕ)
    → take ((value_span l c name k).end - (value_span l c name k).start) (drop (value_span l c name k).start l.file) ≡ value_part l c name k

-- demand 1, of a value: its part lies within the file; or the answer is 13 or 14, kind, packet and offsets are 0, and the part is empty
pub data ValueAnswer (file : List ℕ) : Value → Span → (part : List ℕ) → Type 0 where
  at : (kind packet start end : ℕ) → start ≤ end → end ≤ length file
      → ValueAnswer file (record { refusal = 0; kind = kind; packet = packet }) (record { start = start; end = end }) (take (end - start) (drop start file))
  nowhere : ValueAnswer file (record { refusal = 13; kind = 0; packet = 0 }) (record { start = 0; end = 0 }) []
  outside : ValueAnswer file (record { refusal = 14; kind = 0; packet = 0 }) (record { start = 0; end = 0 }) []

abbrev pub ValuesAnswer : Type 0
ValuesAnswer = (l : Lent) (c : Counts) (name k : ℕ) → ValueAnswer l.file (value_at l c name k) (value_span l c name k) (value_part l c name k)
