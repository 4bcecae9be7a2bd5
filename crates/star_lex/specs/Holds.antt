-- Table 1 with the tokens of a file: specification 7.2. For contracts of inner functions that are handed it: star_unique, star_read, star_write, star_convert, star_check, star_list.
use Rattle.std.specs.Prelude.{◌≡◌, List, [], map, ℕ, ◌*◌, ◌≤◌, length, get_or}
use Rattle.star_text.specs.Bytes.{most_bytes}
use Rattle.star_rows.specs.Widths.{token_width}
use Rattle.star_rows.specs.Rows.{holding}
use Rattle.star_lex.specs.Tokens.{Token, token_row}
use Rattle.star_lex.specs.Split.{tokens_of, placed}

-- the tokens of a file, without their places
abbrev pub file_tokens : List ℕ → List Token
file_tokens file = map (λ p. p.token) (placed (tokens_of file))

-- the token at a place of the row, counted from 0
abbrev pub token_at : List ℕ → ℕ → Token
token_at file n = get_or (file_tokens file) n (record { kind = 0; content = [] })

-- the words are table 1 of a file with so many tokens, which has room for them
pub record Holds (file words : List ℕ) (count : ℕ) : Type 0 where
  pub small : length file ≤ most_bytes
  pub rows : words ≡ holding token_row (placed (tokens_of file)) (length words)
  pub room : length (placed (tokens_of file)) * token_width ≤ length words
  pub count_is : count ≡ length (placed (tokens_of file))
