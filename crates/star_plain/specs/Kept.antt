-- The plain form of the rows of any table 1, with header stops or without. For the contracts of star_plain and of star_write's inner functions.
use Rattle.std.specs.Prelude.{Bool, false, cond, ◌&&◌, List, [], ◌∷◌, ◌++◌, ℕ, zero, suc, ◌-◌, ◌*◌, leb, length, get_or, replicate}
use Rattle.star_text.specs.Bytes.{most_bytes}
use Rattle.star_rows.specs.Widths.{token_width}
use Rattle.star_lex.specs.Rules.{today}
use Rattle.star_lex.specs.Tokens.{Token}
use Rattle.star_lex.specs.Table.{content_in, or_empty}
use Rattle.star_lex.specs.Plain.{plain_token, plain_of}
use Rattle.star_grammar.specs.Stopless.{is_header_stop, headed_after, drop_stops}
use Rattle.star_plain.specs.Put.{token_of}

-- a row of tokens with its header stops or without
abbrev pub kept_row : (without : Bool) → List Token → List Token
kept_row without ts = cond without (drop_stops false ts) ts

-- the token that row n of the words is, counted from 0
abbrev pub token_in : (file words : List ℕ) → (n : ℕ) → Token
token_in file words n = token_of (get_or words (n * token_width) 0) (or_empty (content_in file words n))

-- the tokens of the first rows
unfoldable pub first_tokens : (file words : List ℕ) → (rows : ℕ) → List Token
first_tokens file words zero = []
first_tokens file words (suc n) = first_tokens file words n ++ (token_in file words n ∷ [])

-- how many rows are taken where so many are asked for: none where the words have not so many, or the file or they are over the size limit
unfoldable pub rows_taken : (file words : List ℕ) → (count : ℕ) → ℕ
rows_taken file words count = cond (leb (length file) most_bytes && (leb count most_bytes && leb (count * token_width) (length words))) count 0

-- their plain form, with header stops or without
abbrev pub plain_rows : (without : Bool) → (file words : List ℕ) → (rows : ℕ) → List ℕ
plain_rows without file words rows = plain_of (kept_row without (first_tokens file words rows))

abbrev pub plain_in : (without : Bool) → (file words : List ℕ) → (count : ℕ) → List ℕ
plain_in without file words count = plain_rows without file words (rows_taken file words count)

-- a plain form of this size is within the size limit and a room of so many bytes
abbrev pub has_place : (size room : ℕ) → Bool
has_place size room = leb size most_bytes && leb size room

-- a room of so many bytes with a plain form in it, where that has place; all else is 0
unfoldable pub room_with : (room : ℕ) → (plain : List ℕ) → List ℕ
room_with room plain = cond (has_place (length plain) room) (plain ++ replicate (room - length plain) 0) (replicate room 0)

-- a name or a header stop stands directly before row n, counted from 0
abbrev pub headed_at : (file words : List ℕ) → (n : ℕ) → Bool
headed_at file words n = headed_after false (first_tokens file words n)

-- a row of this kind is a header stop that is dropped
abbrev pub is_dropped : (without : Bool) → (file words : List ℕ) → (n kind : ℕ) → Bool
is_dropped without file words n kind = without && is_header_stop (headed_at file words n) kind

-- the plain form of a token, or nothing where it is dropped
unfoldable pub kept_plain : (dropped : Bool) → (kind : ℕ) → (content : List ℕ) → List ℕ
kept_plain dropped kind content = cond dropped [] (plain_token today (token_of kind content))
