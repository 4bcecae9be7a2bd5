-- A content taken apart from its front, and what a value is by that. Forms, Held, Demands and the contracts of `number_of` and `star_number_of` cite it; `number-exact` says without it what
-- `number_in` gives.
use Rattle.std.specs.Prelude.{Bool, false, cond, ◌&&◌, List, [], ◌∷◌, ℕ, eqb, leb, length, drop}
use Rattle.std.proofs.Math.Option.{Option, none, some}
use Rattle.star_text.specs.Bytes.{leading}
use Rattle.star_lex.specs.Split.{starts}
use Rattle.star_number.specs.Pieces.{Sign, unsigned, plus, minus, sign_bytes, Exponent, Pieces, fraction_bytes, bytes_of, is_digit, is_letter, formed}
use Rattle.star_number.specs.Number.{number_of}
use Rattle.star_number.specs.declared.Number.{Number}
use Rattle.star_number.specs.declared.Number.TheVariants.{Unknown, NotApplicable, Text}

-- each piece by what stands first
unfoldable pub sign_at : List ℕ → Sign
sign_at bs = cond (starts 43 bs) plus (cond (starts 45 bs) minus unsigned)

unfoldable pub after_sign : List ℕ → List ℕ
after_sign bs = drop (length (sign_bytes (sign_at bs))) bs

unfoldable pub fraction_at : List ℕ → Option (List ℕ)
fraction_at bs = cond (starts 46 bs) (some (leading is_digit (drop 1 bs))) none

unfoldable pub exponent_at : List ℕ → Option Exponent
exponent_at [] = none
exponent_at (b ∷ bs) =
    cond (is_letter b) (some (record { letter = b; sign = sign_at bs; digits = leading is_digit (after_sign bs) })) none

-- all pieces but the bracket
unfoldable pub front : List ℕ → Pieces
front content =
    let r : List ℕ = after_sign content in
    let whole : List ℕ = leading is_digit r in
    let behind : List ℕ = drop (length whole) r in
    let fraction : Option (List ℕ) = fraction_at behind in
    record {
      sign = sign_at content;
      whole = whole;
      fraction = fraction;
      exponent = exponent_at (drop (length (fraction_bytes fraction)) behind);
      bracket = none;
    }

-- a list of this one byte
unfoldable pub is_single : ℕ → List ℕ → Bool
is_single b [] = false
is_single b (c ∷ []) = eqb c b
is_single b (c ∷ d ∷ ds) = false

-- what follows them: nothing, or digits in round brackets and nothing more, else it is no number
unfoldable pub bracket_at : List ℕ → Option (Option (List ℕ))
bracket_at [] = some none
bracket_at (b ∷ bs) =
    let ds : List ℕ = leading is_digit bs in
    cond (eqb b 40 && (leb 1 (length ds) && is_single 41 (drop (length ds) bs))) (some (some ds)) none

unfoldable pub with_bracket : Pieces → Option (Option (List ℕ)) → Option Pieces
with_bracket p none = none
with_bracket p (some ds) =
    some (record { sign = p.sign; whole = p.whole; fraction = p.fraction; exponent = p.exponent; bracket = ds })

unfoldable pub taken : List ℕ → Option Pieces
taken content = cond (formed (front content)) (with_bracket (front content) (bracket_at (drop (length (bytes_of (front content))) content))) none

unfoldable pub word_number : Option Pieces → Number
word_number none = Text
word_number (some p) = number_of p

-- what a value of a kind and a content is
unfoldable pub number_in : (kind : ℕ) → (content : List ℕ) → Number
number_in kind content =
    cond (eqb kind 7)
    (cond (is_single 63 content) Unknown (cond (is_single 46 content) NotApplicable (word_number (taken content))))
    Text
