-- What the program prints for an input: specification 13. Believed; the contract of `listing` cites it.
use Rattle.std.specs.Prelude.{cond, ℕ, eqb, leb, length}
use mathlib.Core.List.{List, [], ◌∷◌, ◌++◌, map, flat_map}
use Rattle.star_text.specs.Outcome.{refused, accepted}
use Rattle.star_lex.specs.Tokens.{Token}
use Rattle.star_read.specs.Read.{ReadOutcome, tokens_only, read_of}
use Rattle.star_read.specs.Known.{of_words}
use Rattle.star_list.specs.Decimal.{decimal}

-- `refused` and `too long`
unfoldable pub refused_word : List ℕ
refused_word = 114 ∷ 101 ∷ 102 ∷ 117 ∷ 115 ∷ 101 ∷ 100 ∷ []

unfoldable pub too_long : List ℕ
too_long = 116 ∷ 111 ∷ 111 ∷ 32 ∷ 108 ∷ 111 ∷ 110 ∷ 103 ∷ []

-- a line ends with byte 10
unfoldable pub line : List ℕ → List ℕ
line bytes = bytes ++ (10 ∷ [])

-- parts with one blank between them
unfoldable pub spaced : List (List ℕ) → List ℕ
spaced [] = []
spaced (p ∷ []) = p
spaced (p ∷ q ∷ qs) = p ++ (32 ∷ spaced (q ∷ qs))

-- the codes of the data blocks in file order: the contents of the tokens of kind 1
unfoldable pub block_codes : List Token → List (List ℕ)
block_codes [] = []
block_codes (t ∷ ts) = cond (eqb t.kind 1) (t.content ∷ block_codes ts) (block_codes ts)

-- each block code on a line of its own; a global block has none
unfoldable pub code_lines : List Token → List ℕ
code_lines ts = flat_map line (block_codes ts)

-- `refused`, the number and the place, with one blank between
unfoldable pub refused_line : (number place : ℕ) → List ℕ
refused_line n place = line (spaced (refused_word ∷ decimal n ∷ decimal place ∷ []))

-- the five row counts on one line with one blank between them
unfoldable pub counts_line : (tokens sets names packets values : ℕ) → List ℕ
counts_line tokens sets names packets values = line (spaced (map decimal (tokens ∷ sets ∷ names ∷ packets ∷ values ∷ [])))

-- what is printed of a reading
unfoldable pub text_of : ReadOutcome → List ℕ
text_of (refused n place) = refused_line n place
text_of (accepted (ps, rows)) =
    code_lines (tokens_only ps)
    ++ counts_line (length ps) (length rows.sets) (length rows.names) (length rows.packets) (length rows.values)

-- at most 8,192 bytes are read, into tables of 16,384 words each
unfoldable pub listing_of : List ℕ → List ℕ
listing_of input = cond (leb (length input) 8192) (text_of (read_of input (of_words 16384))) (line too_long)
