-- The classes of bytes that a table of 256 holds, and tests by a lent table. For contracts: star_text's, and those of star_scan and star_split that are lent the table.
use Rattle.std.specs.Prelude.{◌≡◌, ℕ, ◌<◌, Bool, cond, List, nat_le, nat_lt, slice_index}
use Rattle.star_text.specs.Bytes.{is_blank, is_terminate, is_printable}

-- the class of a byte: 0 not allowed, 1 printable, 2 blank, 3 terminate
unfoldable pub class_of : ℕ → ℕ
class_of b = cond (is_blank b) 2 (cond (is_terminate b) 3 (cond (is_printable b) 1 0))

-- by a lent table: the class of a byte, and whether that is one of white space, of line ends, or below another
abbrev pub class_in : List ℕ → ℕ → ℕ
class_in table b = slice_index table b

abbrev pub white_in : List ℕ → ℕ → Bool
white_in table b = nat_le 2 (class_in table b)

abbrev pub terminate_in : List ℕ → ℕ → Bool
terminate_in table b = nat_le 3 (class_in table b)

abbrev pub below_in : List ℕ → (class : ℕ) → ℕ → Bool
below_in table class b = nat_lt (class_in table b) class

-- a table that has the class of each byte at its place
pub record Classes (table : List ℕ) : Type 0 where
  pub class : (b : ℕ) → b < 256 → class_in table b ≡ class_of b
