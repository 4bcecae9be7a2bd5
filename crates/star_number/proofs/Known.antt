-- The numbers that specification 17 works out, by computation.
use mathlib.Core.Path.{refl}
use lib.Ieee.{of_int, mul, neg}
use Rattle.star_text.specs.Bytes.{all, leading}
use Rattle.star_lex.specs.Split.{starts}
use Rattle.star_lex.specs.Table.{or_empty}
use Rattle.star_number.specs.Pieces.{is_digit, is_letter, some_digits, sign_bytes, fraction_bytes, exponent_bytes, bracket_bytes, bytes_of, digits_of, exponent_formed, bracket_formed, formed}
use Rattle.star_number.specs.Number.{extended, whole_number, written, power, exact, scaled, signed, in_range, number_over, number_of}
use Rattle.star_number.specs.Taken.{sign_at, after_sign, fraction_at, exponent_at, front, is_single, bracket_at, with_bracket, taken, word_number, number_in}
use Rattle.star_number.specs.Demands.{NumbersKnown}

pub numbers-known : NumbersKnown
unfolding all leading starts or_empty is_digit is_letter some_digits sign_bytes fraction_bytes exponent_bytes bracket_bytes bytes_of digits_of exponent_formed bracket_formed formed extended whole_number written power exact scaled signed in_range number_over number_of sign_at after_sign fraction_at exponent_at front is_single bracket_at with_bracket taken word_number number_in of_int mul neg
numbers-known = (refl, refl)
