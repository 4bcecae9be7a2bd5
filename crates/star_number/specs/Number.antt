-- What a value is as a number: specification 17. Believed; the contracts of star_number and the demands cite it.
use Rattle.std.specs.Prelude.{◌≡◌, Bool, cond, ◌&&◌, List, [], ◌∷◌, ℕ, suc, ◌+◌, ◌-◌, ◌*◌, ◌^◌, leb, ℤ, pos, negsuc, neg_ℤ, nat_abs, ◌-ℤ◌, Float as F64, length}
use Rattle.std.proofs.Math.Option.{Option, none, some}
use Rattle.std.specs.Float.{binary64}
use Rattle.std.specs.Float.Ieee.{of_int, mul, div, neg}
use Rattle.star_lex.specs.Table.{or_empty}
use Rattle.star_number.specs.Pieces.{Sign, unsigned, plus, minus, Exponent, Pieces, digits_of, Written}
use Rattle.star_number.specs.declared.Number.{Number}
use Rattle.star_number.specs.declared.Number.TheVariants.{Float, Uncertain, Unknown, NotApplicable, TooWide, Text}

-- the greatest whole number that is taken, 2 to the 53, and the greatest power of ten
abbrev pub most_whole : ℕ
most_whole = 9007199254740992

abbrev pub most_power : ℕ
most_power = 22

-- digits as a whole number, after those that gave n
unfoldable pub extended : (n : ℕ) → List ℕ → ℕ
extended n [] = n
extended n (d ∷ ds) = extended (n * 10 + (d - 48)) ds

unfoldable pub whole_number : List ℕ → ℕ
whole_number ds = extended 0 ds

-- the written exponent; 0 where there is none
unfoldable pub signed_whole : Sign → ℕ → ℤ
signed_whole unsigned n = pos n
signed_whole plus n = pos n
signed_whole minus n = neg_ℤ (pos n)

unfoldable pub written : Option Exponent → ℤ
written none = pos 0
written (some x) = signed_whole x.sign (whole_number x.digits)

-- e: the written exponent less the digits after the point
unfoldable pub power : Pieces → ℤ
power p = written p.exponent -ℤ pos (length (or_empty p.fraction))

-- a whole number as a float: without loss up to 2 to the 53, and for ten to the 0 up to 22 (`whole-exact`, `power-exact`)
unfoldable pub exact : ℕ → F64
exact n = of_int binary64 (pos n)

-- m times ten to the e, or m divided by ten to minus e: one rounded operation on two exact floats
unfoldable pub scaled : (m : ℕ) → (e : ℤ) → F64
scaled m (pos k) = mul binary64 (exact m) (exact (10 ^ k))
scaled m (negsuc k) = div binary64 (exact m) (exact (10 ^ suc k))

-- then the sign
unfoldable pub signed : Sign → F64 → F64
signed unsigned x = x
signed plus x = x
signed minus x = neg x

-- whether m and e are taken; otherwise a well_formed number is too wide
unfoldable pub in_range : (m : ℕ) → (e : ℤ) → Bool
in_range m e = leb m most_whole && leb (nat_abs e) most_power

-- a float, or a float with an uncertainty, which uses its own digits with the same e and limit
unfoldable pub number_over : Sign → (m : ℕ) → (e : ℤ) → (bracket : Option (List ℕ)) → Number
number_over s m e none = cond (in_range m e) (Float (signed s (scaled m e))) TooWide
number_over s m e (some ds) =
    cond (in_range m e && in_range (whole_number ds) e) (Uncertain (signed s (scaled m e)) (scaled (whole_number ds) e)) TooWide

unfoldable pub number_of : Pieces → Number
number_of p = number_over p.sign (whole_number (digits_of p)) (power p) p.bracket

-- what a value of that kind and content is
pub data Says : (kind : ℕ) → (content : List ℕ) → Number → Type 0 where
  number : (content : List ℕ) (p : Pieces) → Written content p → Says 7 content (number_of p)
  unknown : Says 7 (63 ∷ []) Unknown
  not_applicable : Says 7 (46 ∷ []) NotApplicable
  other_word : (content : List ℕ) → ((p : Pieces) → Written content p → ⊥) → (content ≡ 63 ∷ [] → ⊥) → (content ≡ 46 ∷ [] → ⊥) → Says 7 content Text
  other_kind : (kind : ℕ) (content : List ℕ) → (kind ≡ 7 → ⊥) → Says kind content Text
