-- What the functions of star_number hold of the pieces of a content, and what they answer of that. The contracts of its inner functions cite it.
use Rattle.std.specs.Prelude.{Option as Answered, Some, None, Bool, true, false, cond, ◌&&◌, List, [], ◌∷◌, ℕ, suc, ◌+◌, ◌^◌, min, ℤ, pos, negsuc, neg_ℤ, nat_abs, Float as F64, length}
use Rattle.std.proofs.Math.Option.{Option, none, some}
use Rattle.std.specs.Float.{binary64}
use Rattle.std.specs.Float.Ieee.{mul, div, neg}
use Rattle.star_text.specs.Bytes.{leading}
use Rattle.star_lex.specs.Table.{or_empty}
use Rattle.star_number.specs.Pieces.{Sign, unsigned, plus, minus, is_letter, Exponent, Pieces, fraction_bytes, exponent_bytes, bytes_of, is_digit, digits_of, exponent_formed, formed}
use Rattle.star_number.specs.Number.{most_power, extended, whole_number, power, exact, in_range}
use Rattle.star_number.specs.Taken.{front}
use Rattle.star_number.specs.declared.Number.{Number}
use Rattle.star_number.specs.declared.Number.TheVariants.{Float, Uncertain, TooWide}
use Rattle.star_number.specs.declared.decimal.Power.{Power}
use Rattle.star_number.specs.declared.decimal.Decimal.{Decimal}
use Rattle.star_number.specs.declared.scan.Run.{Run}
use Rattle.star_number.specs.declared.scan.FractionRun.{FractionRun}
use Rattle.star_number.specs.declared.scan.SignedRun.{SignedRun}

-- whole numbers are counted up to here: above every limit, and more than a content has bytes
abbrev pub most_counted : ℕ
most_counted = 10000000000000000000

unfoldable pub counted : ℕ → ℕ
counted n = min n most_counted

unfoldable pub digits_held : (value from : ℕ) → List ℕ → Run
digits_held value from bs =
    let ds : List ℕ = leading is_digit bs in
    record { end = from + length ds; value = counted (extended value ds) }

unfoldable pub fraction_held : (value at : ℕ) → Option (List ℕ) → FractionRun
fraction_held value at f = record { end = at + length (fraction_bytes f); after = length (or_empty f); value = counted (extended value (or_empty f)) }

unfoldable pub is_minus : Sign → Bool
is_minus unsigned = false
is_minus plus = false
is_minus minus = true

-- the next byte is the letter of an exponent
unfoldable pub letter_next : List ℕ → Bool
letter_next [] = false
letter_next (b ∷ bs) = is_letter b

unfoldable pub exponent_minus : Option Exponent → Bool
exponent_minus none = false
exponent_minus (some x) = is_minus x.sign

unfoldable pub exponent_whole : Option Exponent → ℕ
exponent_whole none = 0
exponent_whole (some x) = whole_number x.digits

-- an optional exponent: whether it is well formed, where it ends, its sign and its whole number
pub record ExponentRun : Type 0 where
  pub ok : Bool
  pub end : ℕ
  pub negative : Bool
  pub value : ℕ

-- as `exponent_at` answers it: none where it is not well formed
abbrev pub exponent_found : ExponentRun → Answered SignedRun
exponent_found x = cond x.ok (Some (record { end = x.end; negative = x.negative; value = x.value })) None

unfoldable pub exponent_held : (at : ℕ) → Option Exponent → ExponentRun
exponent_held at x =
    record { ok = exponent_formed x; end = at + length (exponent_bytes x); negative = exponent_minus x; value = counted (exponent_whole x) }

unfoldable pub signed_by : (negative : Bool) → ℕ → ℤ
signed_by negative n = cond negative (neg_ℤ (pos n)) (pos n)

unfoldable pub is_negative : ℤ → Bool
is_negative (pos k) = false
is_negative (negsuc k) = true

-- powers of ten are counted up to the first that is too great
abbrev pub beyond_power : ℕ
beyond_power = suc most_power

unfoldable pub power_held : ℤ → Power
power_held e = record { over = is_negative e; tens = min (nat_abs e) beyond_power }

-- the pieces before the bracket: whether they are well formed, the sign, the digits as a whole number, the power of ten, and where they end
pub record Front : Type 0 where
  pub ok : Bool
  pub negative : Bool
  pub digits : ℕ
  pub over : Bool
  pub tens : ℕ
  pub end : ℕ

-- as `front_of` answers them: none where they are not well formed
abbrev pub front_found : Front → Answered (Decimal × ℕ)
front_found f = cond f.ok (Some (record { negative = f.negative; digits = f.digits; power = record { over = f.over; tens = f.tens } }, f.end)) None

-- a decimal as such pieces that end at a place
abbrev pub front_with : Decimal → (end : ℕ) → Front
front_with d end = record { ok = true; negative = d.negative; digits = d.digits; over = d.power.over; tens = d.power.tens; end = end }

unfoldable pub front_held : List ℕ → Front
front_held content =
    let p : Pieces = front content in
    record {
      ok = formed p;
      negative = is_minus p.sign;
      digits = counted (whole_number (digits_of p));
      over = (power_held (power p)).over;
      tens = (power_held (power p)).tens;
      end = length (bytes_of p);
    }

-- what follows the other pieces of a number: nothing, digits in round brackets up to the end, or something else
pub data Bracket : Type 0 where
  Absent : Bracket
  Digits : ℕ → Bracket
  Bad : Bracket

-- an answer of `bracket_at` as such
abbrev pub bracket_as : Answered (Answered ℕ) → Bracket
bracket_as None = Bad
bracket_as (Some None) = Absent
bracket_as (Some (Some digits)) = Digits digits

unfoldable pub bracket_held : Option (Option (List ℕ)) → Bracket
bracket_held none = Bad
bracket_held (some none) = Absent
bracket_held (some (some ds)) = Digits (counted (whole_number ds))

unfoldable pub scaled_by : (over : Bool) → (m : ℕ) → (ten : F64) → F64
scaled_by over m ten = cond over (div binary64 (exact m) ten) (mul binary64 (exact m) ten)

-- ten to a power, and to the greatest where it is above
unfoldable pub ten_to : (tens : ℕ) → F64
ten_to tens = exact (10 ^ min tens most_power)

unfoldable pub float_held : Front → F64
float_held f =
    let x : F64 = scaled_by f.over f.digits (ten_to f.tens) in
    cond f.negative (neg x) x

unfoldable pub bare_held : Front → Number
bare_held f = cond (in_range f.digits (pos f.tens)) (Float (float_held f)) TooWide

unfoldable pub uncertain_held : Front → (digits : ℕ) → Number
uncertain_held f digits =
    cond (in_range f.digits (pos f.tens) && in_range digits (pos f.tens))
    (Uncertain (float_held f) (scaled_by f.over digits (ten_to f.tens)))
    TooWide
