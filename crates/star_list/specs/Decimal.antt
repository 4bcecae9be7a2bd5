-- Numbers as the program prints them. Believed; Listing cites it.
use Rattle.std.specs.Prelude.{◌≡◌, cond, List, [], ◌∷◌, ◌++◌, ℕ, zero, suc, ◌+◌, ◌-◌, ◌*◌, ◌/◌, ◌%◌, ◌≤◌, ltb, get_or}
use Rattle.star_lex.specs.Tokens.{Each}

-- the decimal digits of a number, given that they are at most so many
unfoldable pub digits : (most : ℕ) → ℕ → List ℕ
digits zero n = []
digits (suc most) n = cond (ltb n 10) ((48 + n) ∷ []) (digits most (n / 10) ++ ((48 + n % 10) ∷ []))

-- a number has at most one digit more than its value
unfoldable pub decimal : ℕ → List ℕ
decimal n = digits (suc n) n

-- what digits are worth, by Horner's rule, after others that are worth so much
unfoldable pub worth : (so : ℕ) → List ℕ → ℕ
worth so [] = so
worth so (d ∷ ds) = worth (so * 10 + (d - 48)) ds

-- bytes that spell a number: each is a digit, they are worth the number, and the first is `0` for 0 alone
pub record Spells (bytes : List ℕ) (n : ℕ) : Type 0 where
  pub each : Each (λ d. (48 ≤ d) × (d ≤ 57)) bytes
  pub value : worth 0 bytes ≡ n
  pub first : get_or bytes 0 48 ≡ 48 → (n ≡ 0) × (bytes ≡ 48 ∷ [])
