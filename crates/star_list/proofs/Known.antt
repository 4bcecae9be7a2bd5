-- What the program prints for known files, by computing the definitions. `/` in a comment stands for byte 10.
use mathlib.Core.Path.{◌≡◌, refl, ap}
use mathlib.Core.List.{[], ◌∷◌, flat_map}
use Rattle.star_text.specs.Outcome.{then, need}
use Rattle.star_text.specs.Bytes.{is_blank, is_terminate, is_white, is_printable, is_allowed, leading, first_refused}
use Rattle.star_lex.specs.Tokens.{data_word, save_word}
use Rattle.star_lex.specs.Split.{after, limited, block_word, either, word_lexeme, word_from, lexeme, more_of, before, enter, split, tokens_by}
use Rattle.star_lex.specs.Answer.{tokens_in_by, tokens_fit}
use Rattle.star_grammar.specs.Tables.{no_rows}
use Rattle.star_read.specs.Read.{read_by}
use Rattle.star_read.specs.Known.{full_case}
use Rattle.star_read.proofs.Known.{full-read, empty-read}
use Rattle.star_list.specs.Decimal.{digits, decimal}
use Rattle.star_list.specs.Listing.{refused_word, line, spaced, block_codes, code_lines, refused_line, counts_line, text_of, listing_of}

-- `a/11 1 2 4 4/`
pub full-listing : listing_of full_case ≡ (97 ∷ 10 ∷ 49 ∷ 49 ∷ 32 ∷ 49 ∷ 32 ∷ 50 ∷ 32 ∷ 52 ∷ 32 ∷ 52 ∷ 10 ∷ [])
unfolding flat_map digits decimal line spaced block_codes code_lines counts_line text_of listing_of
full-listing = ap text_of full-read

-- `data_`: `refused 3 0/`
pub refused-listing : listing_of (100 ∷ 97 ∷ 116 ∷ 97 ∷ 95 ∷ []) ≡ (114 ∷ 101 ∷ 102 ∷ 117 ∷ 115 ∷ 101 ∷ 100 ∷ 32 ∷ 51 ∷ 32 ∷ 48 ∷ 10 ∷ [])
unfolding is_blank is_terminate is_white is_printable is_allowed leading first_refused data_word save_word after limited block_word either word_lexeme word_from lexeme more_of before enter split tokens_by tokens_in_by tokens_fit then need read_by digits decimal refused_word line spaced refused_line text_of listing_of
refused-listing = refl

-- the empty file: `0 0 0 0 0/`
pub empty-listing : listing_of [] ≡ (48 ∷ 32 ∷ 48 ∷ 32 ∷ 48 ∷ 32 ∷ 48 ∷ 32 ∷ 48 ∷ 10 ∷ [])
unfolding flat_map no_rows digits decimal line spaced block_codes code_lines counts_line text_of listing_of
empty-listing = ap text_of empty-read
