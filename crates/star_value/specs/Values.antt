-- The k-th value of a name row in tables that are not trusted: specification 11. Believed; the contracts of the value lookups, numbers and the demands cite it.
use Rattle.std.specs.Prelude.{Bool, cond, ◌&&◌, List, ℕ, zero, suc, eqb, leb, ltb}
use Rattle.star_rows.specs.Widths.{token_width, value_width}
use Rattle.star_rows.specs.Rows.{word_of}
use Rattle.star_lex.specs.Answer.{is_some}
use Rattle.star_lex.specs.Table.{or_empty}
use Rattle.star_find.specs.Find.{Lent, content_at, found, refused, row_there}
use Rattle.star_rows.specs.declared.Counts.{Counts}
use Rattle.star_find.specs.declared.Found.{Found}
use Rattle.star_value.specs.declared.Value.{Value}
use Rattle.star_value.specs.declared.Span.{Span}

-- a value that is asked for: refusal, packet and token row
pub record Located : Type 0 where
  pub refusal : ℕ
  pub packet : ℕ
  pub token : ℕ

-- the first value row of a name row among so many rows from this one on; 0 where there is none
unfoldable pub first_value : (values : List ℕ) → (name left row : ℕ) → ℕ
first_value values name zero row = 0
first_value values name (suc left) row = cond (eqb (word_of values value_width row 0) name) row (first_value values name left (suc row))

-- a link other than 0 leads to a later row within the count, of the same name row
unfoldable pub is_link : (values : List ℕ) → (count name row next : ℕ) → Bool
is_link values count name row next = ltb row next && (leb next count && eqb (word_of values value_width next 0) name)

-- so many links are followed from a row on: 13 at a link of 0, 14 at one that leads elsewhere
unfoldable pub follow : (values : List ℕ) → (count name links row : ℕ) → Found
follow values count name zero row = found row
follow values count name (suc links) row =
    let next : ℕ = word_of values value_width row 3 in
    cond (eqb next 0) (refused 13) (cond (is_link values count name row next) (follow values count name links next) (refused 14))

-- the k-th value row of a name row, k from 1: the first, and k - 1 links from there
unfoldable pub value_row : (values : List ℕ) → (count name k : ℕ) → Found
value_row values count name zero = refused 13
value_row values count name (suc links) =
    let first : ℕ = first_value values name count 1 in
    cond (eqb first 0) (refused 13) (follow values count name links first)

-- a value that is refused has packet 0 and token row 0, which has no words and no content
unfoldable pub missing : (number : ℕ) → Located
missing number = record { refusal = number; packet = 0; token = 0 }

-- the packet and the token row of a value row: the refusal where there is none, then 14 for its token row or span
unfoldable pub located : Lent → Counts → Found → Located
located l c f =
    let token : ℕ = word_of l.values value_width f.row 2 in
    cond (eqb f.refusal 0)
    (cond (is_some (content_at l.file l.tokens c.tokens token)) (record { refusal = 0; packet = word_of l.values value_width f.row 1; token = token }) (missing 14))
    (missing f.refusal)

-- the value that is asked for: 14 for counts and name row comes first
unfoldable pub locate : Lent → Counts → (name k : ℕ) → Located
locate l c name k =
    cond (row_there l c c.names name) (located l c (value_row l.values c.values name k)) (missing 14)

-- the kind and the packet of a value, as the tables hold them; a refused value has 0 and 0
unfoldable pub value_of : Lent → Located → Value
value_of l f = record { refusal = f.refusal; kind = word_of l.tokens token_width f.token 0; packet = f.packet }

unfoldable pub value_at : Lent → Counts → (name k : ℕ) → Value
value_at l c name k = value_of l (locate l c name k)

-- the part of the file that a value is; a refused value is an empty part
unfoldable pub value_part : Lent → Counts → (name k : ℕ) → List ℕ
value_part l c name k = or_empty (content_at l.file l.tokens c.tokens (locate l c name k).token)

-- where the part of a value lies in the file; a refused value has 0 and 0
unfoldable pub span_at : (tokens : List ℕ) → (token : ℕ) → Span
span_at tokens token = record { start = word_of tokens token_width token 1; end = word_of tokens token_width token 2 }

unfoldable pub value_span : Lent → Counts → (name k : ℕ) → Span
value_span l c name k = span_at l.tokens (locate l c name k).token
