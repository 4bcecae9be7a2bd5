-- How far two contents were compared, and four bytes. For contracts of star_text's inner functions.
use Rattle.std.specs.Prelude.{◌≡◌, ℕ, ◌+◌, ◌≤◌, List, [], ◌∷◌, length, drop, slice_index}
use Rattle.star_text.specs.Names.{key, equal, same}
use Rattle.star_text.specs.Compare.{pairs_of}

-- the pairs before a place are equal: from there on the comparison says what it says from the start
pub record Comparing (x y : List ℕ) (at : ℕ) : Type 0 where
  pub lengths : length x ≡ length y
  pub within : at ≤ length x
  pub says : equal (drop at x) (drop at y) ≡ same x y
  pub counts : at + pairs_of (drop at x) (drop at y) ≡ pairs_of (key x) (key y)

-- four bytes from a place on
abbrev pub four_at : List ℕ → ℕ → List ℕ
four_at bytes at = slice_index bytes at ∷ slice_index bytes (at + 1) ∷ slice_index bytes (at + 2) ∷ slice_index bytes (at + 3) ∷ []

-- four equal pairs of bytes from a place on
abbrev pub SameFour : (x y : List ℕ) (at : ℕ) → Type 0
SameFour x y at =
    (slice_index x at ≡ slice_index y at) × (slice_index x (at + 1) ≡ slice_index y (at + 1)) × (slice_index x (at + 2) ≡ slice_index y (at + 2)) × (slice_index x (at + 3) ≡ slice_index y (at + 3))

-- equal fours are passed: at the place reached there are no four, or four that differ
pub record Skipped (x y : List ℕ) (at : ℕ) : Type 0 where
  pub comparing : Comparing x y at
  pub differs : at + 4 ≤ length x → SameFour x y at → ⊥
