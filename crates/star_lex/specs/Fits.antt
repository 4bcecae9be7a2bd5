-- Names and codes within a limit: specification 3.12. Believed; the demands on a lower limit and star_check's `fits_of` cite it.
use Rattle.std.specs.Prelude.{Bool, true, not, ◌&&◌, ◌||◌, List, [], ◌∷◌, ℕ, eqb, leb, length}
use Rattle.star_lex.specs.Tokens.{Token}

-- the limit is for codes of blocks and frames and for names
unfoldable pub is_limited : (kind : ℕ) → Bool
is_limited kind = eqb kind 1 || (eqb kind 2 || eqb kind 6)

-- a token that is no name or code, or one of at most so many bytes, as table 1 spans it: a name with its underscore
unfoldable pub fits : (most : ℕ) → Token → Bool
fits most t = not (is_limited t.kind) || leb (length t.content) most

-- every name and code
unfoldable pub all_fit : (most : ℕ) → List Token → Bool
all_fit most [] = true
all_fit most (t ∷ ts) = fits most t && all_fit most ts
