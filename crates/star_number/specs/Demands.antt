-- What is demanded of numbers: statements alone, over the pieces. Believed; star's Demands cites it.
use Rattle.std.specs.Prelude.{◌≡◌, Bool, true, false, ◌&&◌, ◌↔◌, List, [], ◌∷◌, ℕ, suc, ◌*◌, ◌^◌, ◌≤◌, pos, negsuc, Float as F64, T}
use Rattle.std.specs.Float.{fin, binary64}
use Rattle.std.specs.Float.Ieee.{div, round}
use Rattle.std.specs.Float.Ieee.Exact.{HasValue}
use Rattle.std.specs.Float.Ieee.Scale.{finite}
use Rattle.star_number.specs.Pieces.{Pieces, Written}
use Rattle.star_number.specs.Number.{most_whole, most_power, exact, scaled, number_of, Says}
use Rattle.star_number.specs.Taken.{number_in}
use Rattle.star_number.specs.declared.Number.{Number}
use Rattle.star_number.specs.declared.Number.TheVariants.{Float, Uncertain, Unknown, NotApplicable, TooWide, Text}

-- a float, a float with its uncertainty, or too wide
pub data IsNumber : Number → Type 0 where
  float : (x : F64) → IsNumber (Float x)
  uncertain : (x u : F64) → IsNumber (Uncertain x u)
  too_wide : IsNumber TooWide

-- the answer is a number exactly when the kind is 7 and the content is pieces of one, and then it is theirs; and in every case it is what the
-- specification says of the value, and nothing else is
abbrev pub NumberExact : Type 0
NumberExact = (kind : ℕ) (content : List ℕ)
    → (IsNumber (number_in kind content) ↔ ((kind ≡ 7) × ((p : Pieces) × Written content p)))
    × (((p : Pieces) → kind ≡ 7 → Written content p → number_in kind content ≡ number_of p)
    × ((n : Number) → (number_in kind content ≡ n) ↔ Says kind content n))

-- two ways to take a content as pieces are equal
abbrev pub NumberPieces : Type 0
NumberPieces = (content : List ℕ) (p q : Pieces) → Written content p → Written content q → p ≡ q

-- whole numbers up to 2 to the 53, and ten to the 0 up to 22, are floats without loss
abbrev pub WholeExact : Type 0
WholeExact = (n : ℕ) → n ≤ most_whole → HasValue (exact n) false n 1

abbrev pub PowerExact : Type 0
PowerExact = (k : ℕ) → k ≤ most_power → HasValue (exact (10 ^ k)) false (10 ^ k) 1

-- so m and e in range give the float that is nearest to m times ten to the e, rounded once
abbrev pub RoundedOnce : Type 0
RoundedOnce = (m k : ℕ) → m ≤ most_whole
    → (k ≤ most_power → scaled m (pos k) ≡ round binary64 false (m * 10 ^ k) 1)
    × (suc k ≤ most_power → scaled m (negsuc k) ≡ round binary64 false m (10 ^ suc k))

-- no float that is answered is an infinity or no number
unfoldable pub finite_number : Number → Bool
finite_number (Float x) = finite x
finite_number (Uncertain x u) = finite x && finite u
finite_number Unknown = true
finite_number NotApplicable = true
finite_number TooWide = true
finite_number Text = true

abbrev pub FloatsFinite : Type 0
FloatsFinite = (kind : ℕ) (content : List ℕ) → T (finite_number (number_in kind content))

-- `8.53(1)` is 853 / 100 with the uncertainty 1 / 100, and `-0` is negative zero
abbrev pub NumbersKnown : Type 0
NumbersKnown =
    (number_in 7 (56 ∷ 46 ∷ 53 ∷ 51 ∷ 40 ∷ 49 ∷ 41 ∷ []) ≡ Uncertain (div binary64 (exact 853) (exact 100)) (div binary64 (exact 1) (exact 100)))
    × (number_in 7 (45 ∷ 48 ∷ []) ≡ Float (fin true 0 (pos 0)))
