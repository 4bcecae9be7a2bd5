-- The pieces that a number is written with: specification 17.2. Believed; the other definitions of star_number cite it.
use Rattle.std.specs.Prelude.{◌≡◌, Bool, true, ◌&&◌, ◌||◌, List, [], ◌∷◌, ◌++◌, ℕ, eqb, leb, length}
use Rattle.std.proofs.Math.Option.{Option, none, some}
use Rattle.star_text.specs.Bytes.{all}
use Rattle.star_lex.specs.Table.{or_empty}

-- digits: 48 to 57
unfoldable pub is_digit : ℕ → Bool
is_digit b = leb 48 b && leb b 57

-- one digit or more
unfoldable pub some_digits : List ℕ → Bool
some_digits ds = leb 1 (length ds) && all is_digit ds

-- an optional sign
pub data Sign : Type 0 where
  unsigned plus minus : Sign

unfoldable pub sign_bytes : Sign → List ℕ
sign_bytes unsigned = []
sign_bytes plus = 43 ∷ []
sign_bytes minus = 45 ∷ []

-- the letter of an exponent: `e` or `E`
unfoldable pub is_letter : ℕ → Bool
is_letter b = eqb b 101 || eqb b 69

-- an exponent: its letter, an optional sign and digits
pub record Exponent : Type 0 where
  pub letter : ℕ
  pub sign : Sign
  pub digits : List ℕ

-- an optional sign, digits, an optional point with the digits after it, an optional exponent, and optionally digits in round brackets
pub record Pieces : Type 0 where
  pub sign : Sign
  pub whole : List ℕ
  pub fraction : Option (List ℕ)
  pub exponent : Option Exponent
  pub bracket : Option (List ℕ)

-- the bytes of each piece
unfoldable pub fraction_bytes : Option (List ℕ) → List ℕ
fraction_bytes none = []
fraction_bytes (some ds) = 46 ∷ ds

unfoldable pub exponent_bytes : Option Exponent → List ℕ
exponent_bytes none = []
exponent_bytes (some x) = x.letter ∷ sign_bytes x.sign ++ x.digits

unfoldable pub bracket_bytes : Option (List ℕ) → List ℕ
bracket_bytes none = []
bracket_bytes (some ds) = 40 ∷ ds ++ 41 ∷ []

unfoldable pub bytes_of : Pieces → List ℕ
bytes_of p = sign_bytes p.sign ++ (p.whole ++ (fraction_bytes p.fraction ++ (exponent_bytes p.exponent ++ bracket_bytes p.bracket)))

-- the digits, those after the point too
unfoldable pub digits_of : Pieces → List ℕ
digits_of p = p.whole ++ or_empty p.fraction

unfoldable pub exponent_formed : Option Exponent → Bool
exponent_formed none = true
exponent_formed (some x) = is_letter x.letter && some_digits x.digits

unfoldable pub bracket_formed : Option (List ℕ) → Bool
bracket_formed none = true
bracket_formed (some ds) = some_digits ds

-- at least one digit; one digit or more in an exponent and in brackets
unfoldable pub formed : Pieces → Bool
formed p = some_digits (digits_of p) && (exponent_formed p.exponent && bracket_formed p.bracket)

-- the content is such pieces
pub record Written (content : List ℕ) (p : Pieces) : Type 0 where
  pub well_formed : formed p ≡ true
  pub bytes : bytes_of p ≡ content
